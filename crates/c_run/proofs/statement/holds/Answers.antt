use Rattle.c_run.proofs.Acting.{truth_not}
use Rattle.c_run.proofs.statement.holds.Goals as goal

pub returns : goal.returns
returns c = truth_not (λ b. b) c.in-Err-attempt.field-0 _ c.in-Err-attempt.ensures
