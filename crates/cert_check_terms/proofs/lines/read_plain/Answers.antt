use Rattle.std.proofs.Common.{sym, subst}
use Rattle.proof_tree.specs.Scope.{setting_of}
use Rattle.cert_check_terms.specs.Reading.{plain}
use Rattle.cert_check_terms.specs.Views.{entries_of}
use Rattle.cert_check_terms.specs.Outcomes.{AreNext}
use Rattle.cert_check_terms.proofs.Stacks.{unchanged}
use Rattle.cert_check_terms.proofs.lines.read_plain.Goals as goal

pub returns-in-Open-clause-next : goal.returns-in-Open-clause-next
returns-in-Open-clause-next c =
    subst (λ x. AreNext c.args.bank.now (plain (setting_of c.args.setting.now) (entries_of c.args.bank.now c.args.entries.now.items) x) c.open_bracket.new.entries.items c.open_bracket.result)
    (sym c.in-Open.is) (c.open_bracket.ensures c.args.bank.now c.requires)

pub returns-in-Open-clause-extends : goal.returns-in-Open-clause-extends
returns-in-Open-clause-extends c = unchanged c.args.bank.now
