-- What each step of the analysis gives.
use Rattle.std.specs.Prelude.{◌≡◌, ℕ, ◌+◌, ◌-◌, ◌<◌, ◌≤◌, ◌++◌, ◌∷◌, Bool, List, [], take, reverse, length, slice_get, Some}
use Rattle.clause_check_spec.specs.declared.Literal.{Literal}
use Rattle.clause_check_spec.specs.Clause.{Clause, negation}
use Rattle.clause_check_spec.specs.Log.{Step}
use Rattle.sat_search_spec.specs.declared.Entry.{Entry}
use Rattle.sat_search_spec.specs.Clauses.{Has, AreLive}
use Rattle.sat_search_spec.specs.Chain.{Chain}
use Rattle.sat_search_spec.specs.Trail.{Trailed, IsCut, truths}
use Rattle.sat_search_spec.specs.Analysis.{IsMarked, Explains, IsExplained}
use Rattle.sat_search_analysis.specs.Marks.{AreUnmarked}

-- hints are collected from the conflict on, so backwards
abbrev pub ExplainsBack : List Clause → Trailed → List Bool → List Literal → (collected : List ℕ) → ℕ → Type 0
ExplainsBack clauses trail marks learnt collected end = Explains trail.variables clauses trail.entries marks learnt (reverse collected) end

-- the first unique implication point: no other entry from the last decision on is marked
pub record IsUip (clauses : List Clause) (trail : Trailed) (start : ℕ) (marks : List Bool) (collected : List ℕ) (place : ℕ) : Type 0 where
  pub from : start ≤ place
  pub within : place < length trail.entries
  pub marked : IsMarked marks place
  pub alone : AreUnmarked marks start place
  pub explains : ExplainsBack clauses trail marks [] collected (place + 1)

-- the literal is negated by an entry before a place, after a decision
pub record IsFalseAbove (trail : Trailed) (end : ℕ) (literal : Literal) : Type 0 where
  pub place : ℕ
  pub entry : Entry
  pub earlier : place < end
  pub there : slice_get trail.entries place ≡ Some entry
  pub same : entry.literal ≡ negation literal
  pub positive : 0 < entry.level

-- literals that were learnt below a place
pub record AreLearntBelow (trail : Trailed) (end : ℕ) (before learnt : List Literal) : Type 0 where
  pub more : List Literal
  pub same : learnt ≡ before ++ more
  pub earlier : (literal : Literal) → Has more literal → IsFalseAbove trail end literal

-- the whole trail was gone down
pub record IsDone (clauses : List Clause) (trail : Trailed) (end : ℕ) (before learnt : List Literal) (collected : List ℕ) : Type 0 where
  pub marks : List Bool
  pub explains : ExplainsBack clauses trail marks learnt collected 0
  pub learnt_below : AreLearntBelow trail end before learnt

-- a learnt clause, by the last decision's place
pub record IsAnalysed (clauses : List Clause) (trail : Trailed) (step : Step) : Type 0 where
  pub start : ℕ
  pub cut : IsCut trail.entries (trail.level - 1) start
  pub explained : IsExplained trail.variables clauses trail.entries start step.literals step.hints

-- the empty clause
pub record IsEmptyLearnt (clauses : List Clause) (step : Step) : Type 0 where
  pub nothing : step.literals ≡ []
  pub chain : Chain clauses [] step.hints

-- the marks of a conflict
pub record IsConflictMarked (clauses : List Clause) (trail : Trailed) (number : ℕ) (marks : List Bool) : Type 0 where
  pub count : length marks ≡ length trail.entries
  pub explains : ExplainsBack clauses trail marks [] (number ∷ []) (length trail.entries)
  -- some entry is marked from where the clauses were live
  pub late : (start : ℕ) → AreLive (truths (take start trail.entries)) clauses → AreUnmarked marks start (length trail.entries) → ⊥
