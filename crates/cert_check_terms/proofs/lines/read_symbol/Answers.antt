use Rattle.std.proofs.Common.{sym, subst}
use Rattle.proof_tree.specs.Scope.{setting_of}
use Rattle.cert_check_terms.specs.Reading.{step}
use Rattle.cert_check_terms.specs.Views.{reading_of}
use Rattle.cert_check_terms.specs.Outcomes.{Goes}
use Rattle.cert_check_terms.proofs.Stacks.{unchanged}
use Rattle.cert_check_terms.proofs.lines.read_symbol.Goals as goal

pub returns-in-Inlined-clause-goes : goal.returns-in-Inlined-clause-goes
returns-in-Inlined-clause-goes c =
    subst (λ x. Goes c.args.bank.now (step (setting_of c.args.setting.now) c.args.path.now (reading_of c.args.bank.now c.args.reading.now) x) c.read_call.new.reading c.read_call.result)
    (sym c.in-Inlined.is) (c.read_call.ensures c.args.bank.now c.requires)

pub returns-in-Inlined-clause-extends : goal.returns-in-Inlined-clause-extends
returns-in-Inlined-clause-extends c = unchanged c.args.bank.now
