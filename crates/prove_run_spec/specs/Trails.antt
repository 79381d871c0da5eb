-- Trails: why the search found no proof of a function by a bare Leaf; and what it finds.
use Rattle.std.specs.Prelude.{◌≡◌, ℕ, false, List, length, Some, slice_get}
use Rattle.term_core_spec.specs.Term.{Term}
use Rattle.term_core_spec.specs.Value.{Truth, Assignment, IsAssignment, value}
use Rattle.term_norm_spec.specs.Normal.{normal}
use Rattle.visit_walk_spec.specs.Visits.{Walk}
use Rattle.visit_walk_spec.specs.Outcomes.{IsAcyclic, IsCyclicAt, AreTooMany}
use Rattle.sim_rules_spec.specs.Sides.{binary_way, source_way}
use Rattle.sim_rules_spec.specs.Obligations.{AreObligations, IsLargeRule}
use Rattle.sim_rules_spec.specs.Obligations as rule
use Rattle.tv_limits.specs.declared.TheConstants.{MAX_VISITS}
use Rattle.clause_check_spec.specs.Log.{Step}
use Rattle.bit_blast_spec.specs.Goal.{cnf_of}
use Rattle.discharge_spec.specs.declared.GoalQuantity.TheVariants.{Terms}
use Rattle.discharge_spec.specs.Closing.{IsWithin, IsSmall, IsFirstAbove}
use Rattle.sat_search_spec.specs.Logs as logs
use Rattle.cert_check_spec.specs.Verdict.{Listed}
use Rattle.tv_limits.specs.declared.TheConstants.{SEARCH_LIMIT}
use Rattle.sim_rules_spec.specs.declared.Side.{Side}
use Rattle.sim_rules_spec.specs.declared.Side.TheVariants.{Binary, Source}
use Rattle.prove_run_spec.specs.declared.Measure.{Measure}
use Rattle.prove_run_spec.specs.declared.Measure.TheVariants.{Visits, Obligation}
use Rattle.prove_run_spec.specs.Proofs.{HasLeanProof}

-- why a function is unproved. Obligations are numbered from 0
pub data Trail : Type 0 where
  -- the walk of a side goes round at a node: a bare Leaf is no proof, and the rules for loops are not tried yet
  Later : (side : Side) → (node : ℕ) → Trail
  -- a quantity is above its maximum, and those that are tried before it aren't; it is at least the count
  Large : (measure : Measure) → (count : ℕ) → Trail
  -- the assignment makes the obligation of a number false
  Refuted : (obligation : ℕ) → Assignment → Trail
  -- the search for a log of the obligation of a number reached its limit
  Spent : (obligation : ℕ) → List Step → Trail

-- ---- walks

-- the walk of a side from the entry
abbrev pub walk_of : Listed → Side → Walk
walk_of f Binary = (binary_way f.frame f.opening.binary).walk
walk_of f Source = (source_way f.frame f.opening.source).walk

-- the walk of the side goes round at the node; that of the source is named where the binary's doesn't go round
abbrev pub GoesRound : Listed → Side → (node : ℕ) → Type 0
GoesRound f Binary node = IsCyclicAt (walk_of f Binary) node
GoesRound f Source node = IsAcyclic (walk_of f Binary) × IsCyclicAt (walk_of f Source) node

-- neither walk goes round, and that of the side has so many visits at least, which are more than the maximum
pub record HasManyVisits (f : Listed) (side : Side) (count : ℕ) : Type 0 where
  pub binary : IsAcyclic (walk_of f Binary)
  pub source : IsAcyclic (walk_of f Source)
  pub many : AreTooMany (walk_of f side) MAX_VISITS count

-- ---- obligations

-- no walk has too many visits, and the obligation of the number is this
pub record IsObligation (f : Listed) (number : ℕ) (goal : Term) : Type 0 where
  pub small : (count : ℕ) → IsLargeRule f.opening f.frame MAX_VISITS rule.Leaf count → ⊥
  pub terms : List Term
  pub are : AreObligations f.convention f.opening f.frame rule.Leaf terms
  pub there : slice_get terms number ≡ Some goal

-- ---- trails

abbrev pub IsTrail : Listed → Trail → Type 0
IsTrail f (Later side node) = GoesRound f side node
IsTrail f (Large (Visits side) count) = HasManyVisits f side count
IsTrail f (Large (Obligation number quantity) count) =
    (goal : Term) × IsObligation f number goal × IsFirstAbove f.runs goal quantity count
IsTrail f (Refuted number a) =
    (goal : Term) × IsObligation f number goal × IsWithin f.runs goal Terms × IsAssignment a × (value a (normal f.runs goal) ≡ Truth false)
IsTrail f (Spent number log) = (goal : Term) × IsObligation f number goal × IsSmall f.runs goal × logs.Spent (cnf_of (normal f.runs goal)) log SEARCH_LIMIT

-- ---- what is found

pub data Found : Type 0 where
  Proved : (logs : List (List Step)) → Found
  Unproved : Trail → Found

abbrev pub IsFound : Listed → Found → Type 0
IsFound f (Proved logs) = HasLeanProof f logs
IsFound f (Unproved trail) = IsTrail f trail

-- one for each function, in their order
pub record AreFound (listed : List Listed) (found : List Found) : Type 0 where
  pub count : length found ≡ length listed
  pub each : (k : ℕ) (f : Listed) (one : Found) → slice_get listed k ≡ Some f → slice_get found k ≡ Some one → IsFound f one
