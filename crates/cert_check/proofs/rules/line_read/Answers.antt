use Rattle.std.proofs.Common.{◌≡◌, ◌∙◌, ap, refl}
use Rattle.std.proofs.lemmas.Option.{slice_get_within}
use Rattle.cert_check.proofs.InPart.{test_read, no_test}
use Rattle.attempt.specs.declared.refusal.Refusal.TheVariants.{Fault}
use Rattle.cert_check_terms.specs.declared.fault.TermFault.{TermFault}
use Rattle.cert_check_terms.specs.declared.fault.TermFault.TheVariants.{Sort}
use Rattle.cert_check.proofs.rules.line_read.Goals as goal

only_sort : (fault : TermFault) → fault ≡ Sort
only_sort Sort = refl

pub returns-in-Ok-clause-line : goal.returns-in-Ok-clause-line
returns-in-Ok-clause-line c = λ f is. test_read c.args.function.now f is c.args.path.now c.args.symbols.now c.read_line.new.bank c.in-Ok.line c.in-Ok.ensures.read

pub returns-in-Err-Fault-Sort-clause-line : goal.returns-in-Err-Fault-Sort-clause-line
returns-in-Err-Fault-Sort-clause-line c = λ f is. no_test c.args.function.now f is c.args.path.now c.args.symbols.now c.read_line.new.bank (rw (c.in-Err-Fault-Sort.field-0-is ∙ ap Fault (only_sort c.in-Err-Fault-Sort.field-0-0)) at c.in-Err-Fault-Sort.ensures.read)

pub returns-in-Ok-clause-within : goal.returns-in-Ok-clause-within
returns-in-Ok-clause-within c = slice_get_within c.read_line.new.bank c.in-Ok.line c.in-Ok.ensures.read.line c.in-Ok.ensures.read.held
