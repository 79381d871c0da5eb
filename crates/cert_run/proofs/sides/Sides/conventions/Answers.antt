use Rattle.std.proofs.Common.{◌∙◌, List, length, sym, ap, subst}
use Rattle.cert_check_frames.specs.Entries.{AreEntries}
use Rattle.cert_check_frames.specs.declared.entries.Entry.{Entry}
use Rattle.cert_run.proofs.sides.Sides.conventions.Goals as goal

pub returns-2-clause-are : goal.returns-2-clause-are
returns-2-clause-are c = λ q functions are. c.in-Ok-attempt.ensures.are q functions (subst (λ (l : List Entry). AreEntries q functions l) (sym c.as_slice.ensures.value) are)

pub returns-2-clause-count : goal.returns-2-clause-count
returns-2-clause-count c = ap (λ (l : List Entry). length l) (sym c.as_slice.ensures.value) ∙ c.in-Ok-attempt.ensures.count
