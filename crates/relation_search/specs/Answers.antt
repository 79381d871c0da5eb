-- What judges and fits answer.
use Rattle.std.specs.Prelude.{◌≡◌, ◌<◌, ℕ, List, length, All, Contains, Result, Ok, Err}
use Rattle.relation_search.specs.declared.answers.Judged.{Judged}
use Rattle.relation_search.specs.declared.answers.Judged.TheVariants.{Refutes, Holds, Limit}
use Rattle.relation_search.specs.declared.answers.Fit.{Fit}
use Rattle.relation_search.specs.declared.answers.Fit.TheVariants as fitted
use Rattle.relation_search.specs.Greatest.{NoneRefuted, IsGreatest, without}

-- at least one line, and each is one of these lines, and is refuted where they hold
pub record AreRefuted (refutes : List ℕ → ℕ → Type 0) (lines out : List ℕ) : Type 0 where
  pub some : 0 < length out
  pub among : All (Contains lines) out
  pub refuted : All (refutes lines) out

-- what a judge answers of lines is so
abbrev pub IsAnswer : (refutes : List ℕ → ℕ → Type 0) → (lines : List ℕ) → Judged → Type 0
IsAnswer refutes lines (Refutes out) = AreRefuted refutes lines out.items
IsAnswer refutes lines Holds = NoneRefuted refutes lines
IsAnswer refutes lines Limit = Unit {0}

-- the lines that an answer leaves of these
abbrev pub left_by : Judged → List ℕ → List ℕ
left_by (Refutes out) lines = without out.items lines
left_by Holds lines = lines
left_by Limit lines = lines

-- how often a judge gave up that had not before this answer
abbrev pub limits_after : {E : Type 0} → Result Judged E → ℕ
limits_after (Ok (Refutes out)) = 0
limits_after (Ok Holds) = 0
limits_after (Ok Limit) = 1
limits_after (Err e) = 0

-- of so many lines, those that are kept are the greatest set none of which is refuted
abbrev pub IsFit : (refutes : List ℕ → ℕ → Type 0) → (count : ℕ) → Fit → Type 0
IsFit refutes count (fitted.Kept lines) = IsGreatest refutes count lines.items
IsFit refutes count fitted.Limit = Unit {0}

-- the judge's answers have left the lines that are kept
abbrev pub LeavesFit : (left : List ℕ) → Fit → Type 0
LeavesFit left (fitted.Kept lines) = left ≡ lines.items
LeavesFit left fitted.Limit = Unit {0}

-- how often the judge gave up
abbrev pub limits_of : {E : Type 0} → Result Fit E → ℕ
limits_of (Ok (fitted.Kept lines)) = 0
limits_of (Ok fitted.Limit) = 1
limits_of (Err e) = 0
