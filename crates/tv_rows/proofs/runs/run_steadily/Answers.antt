use Rattle.std.proofs.Common.{arith, inl, inr}
use Rattle.tv_rows.proofs.runs.run_steadily.Goals as goal

pub returns : goal.returns
returns c = λ four.
    elim (c.run.ensures.safely.fault four) [
      | inl desk ↦ absurd (omega (arith, desk))
      | inr outputs ↦ elim outputs [ inl report ↦ absurd (omega (arith, report)) | inr store ↦ absurd (omega (arith, store)) ]
    ]
