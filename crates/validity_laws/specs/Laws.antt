-- What the laws of trails say.
use Rattle.std.specs.Prelude.{ℕ, Bool, true, false, ◌≡◌, List, map, All}
use Rattle.memory_spec.specs.Runs.{AreBytes}
use Rattle.clause_check_spec.specs.Log.{Step}
use Rattle.agreement_laws.specs.EntryFrame.{Pair}
use Rattle.validity_laws.specs.Derivation.{Function, AreSides}
use Rattle.cert_check_spec.specs.Verdict.{Listed}
use Rattle.validity_laws.specs.CheckStatements.{listed_of, IsFile, AreFunctions}
use Rattle.prove_run_spec.specs.Proofs.{HasProof, HasTruths}
use Rattle.prove_run_spec.specs.Trails.{Trail, Later, Large, Refuted, Spent, IsTrail}

-- the search reached its limit
abbrev pub is_spent : Trail → Bool
is_spent (Later side node) = false
is_spent (Large measure count) = false
is_spent (Refuted obligation assignment) = false
is_spent (Spent obligation log) = true

abbrev pub TrailsExcludeProofs : Type 0
TrailsExcludeProofs = (f : Listed) (trail : Trail) (logs : List (List Step)) → AreBytes f.runs → HasTruths f → IsTrail f trail → is_spent trail ≡ false → HasProof f logs → ⊥

-- ---- the functions of both sides

pub record IsSorted (f : Listed) : Type 0 where
  pub truths : HasTruths f
  pub bytes : AreBytes f.runs

abbrev pub FunctionsHaveTruths : Type 0
FunctionsHaveTruths = (q : Pair) (firsts : List (List (ℕ × ℕ))) (functions : List Function) → AreSides q → IsFile q → AreFunctions q functions
    → All IsSorted (map (listed_of q firsts) functions)
