-- Proofs of a function by a bare Leaf at its entry, and a log for each of its obligations.
use Rattle.std.specs.Prelude.{◌≡◌, ℕ, List, [], ◌∷◌, All, Some}
use Rattle.memory_spec.specs.Runs.{Run}
use Rattle.term_core_spec.specs.declared.Sort.TheVariants as sort
use Rattle.term_core_spec.specs.Term.{Term}
use Rattle.term_core_spec.specs.Sort.{sort_of}
use Rattle.term_norm_spec.specs.Normal.{normal}
use Rattle.sim_rules_spec.specs.Obligations.{AreObligations, IsCyclicRule, IsLargeRule}
use Rattle.sim_rules_spec.specs.Obligations as rule
use Rattle.tv_limits.specs.declared.TheConstants.{MAX_VISITS}
use Rattle.clause_check_spec.specs.Log as clauses
use Rattle.bit_blast_spec.specs.Goal.{cnf_of}
use Rattle.discharge_spec.specs.Closing.{Closes, closing}
use Rattle.sat_search_spec.specs.Logs.{Lean}
use Rattle.cert_check_spec.specs.Verdict.{Listed}
use Rattle.tv_limits.specs.declared.TheConstants.{SEARCH_LIMIT}

-- as many logs as goals, and each closes its goal
unfoldable pub AreClosedBy : List Run → List Term → (logs : List (List clauses.Step)) → Type 0
AreClosedBy runs [] [] = Unit {0}
AreClosedBy runs (goal ∷ terms) (log ∷ logs) = (closing runs goal log ≡ Closes) × AreClosedBy runs terms logs
AreClosedBy runs terms logs = ⊥

-- it is a proof of the function: no walk goes round or has too many visits, and the logs close its obligations
pub record HasProof (f : Listed) (logs : List (List clauses.Step)) : Type 0 where
  pub acyclic : (node : ℕ) → IsCyclicRule f.opening f.frame rule.Leaf node → ⊥
  pub small : (count : ℕ) → IsLargeRule f.opening f.frame MAX_VISITS rule.Leaf count → ⊥
  pub terms : List Term
  pub are : AreObligations f.convention f.opening f.frame rule.Leaf terms
  pub closed : AreClosedBy f.runs terms logs

-- each log has at most as many steps as a search may learn, and each of them is new and used
unfoldable pub AreLean : List Run → List Term → (logs : List (List clauses.Step)) → Type 0
AreLean runs [] logs = Unit {0}
AreLean runs (goal ∷ terms) [] = Unit {0}
AreLean runs (goal ∷ terms) (log ∷ logs) = Lean (cnf_of (normal runs goal)) log SEARCH_LIMIT × AreLean runs terms logs

-- a proof in which nothing is idle
pub record HasLeanProof (f : Listed) (logs : List (List clauses.Step)) : Type 0 where
  pub proof : HasProof f logs
  pub lean : AreLean f.runs proof.terms logs

-- the function's obligations are truth values
abbrev pub HasTruths : Listed → Type 0
HasTruths f = (terms : List Term) → AreObligations f.convention f.opening f.frame rule.Leaf terms → All (λ (t : Term). sort_of t ≡ Some sort.Truth) terms
