-- Why there are no lists of visits of both walks, by what a rule needs.
use Rattle.std.specs.Prelude.{◌≡◌, ◌⊎◌, ℕ, Bool, true, if◌then◌else◌, List, Option, Some, None, Result, Ok, Err}
use Rattle.visit_walk_spec.specs.Listing.{Listing, IsListing}
use Rattle.visit_walk_spec.specs.Outcomes.{IsAcyclic, IsCyclicAt, AreTooMany}
use Rattle.visit_walk_spec.specs.Visits.{Visit, Walk}
use Rattle.visit_walk.specs.Found.{IsWalkFault}
use Rattle.attempt.specs.declared.refusal.Refusal.{Refusal}
use Rattle.attempt.specs.declared.refusal.Refusal.TheVariants.{Fault, NoMemory}
use Rattle.visit_walk.specs.declared.found.WalkFault.{WalkFault}
use Rattle.sim_rules.specs.declared.fault.RuleFault.{RuleFault}
use Rattle.sim_rules.specs.declared.fault.RuleFault.TheVariants.{Sort, Cyclic, Large}
use Rattle.visit_walk.specs.declared.found.WalkFault.TheVariants as walk
use Rattle.sim_rules.specs.declared.fault.Needs.{Needs}
use Rattle.sim_rules_spec.specs.Sides.{AreVisitsIf}
use Rattle.sim_rules_spec.specs.declared.Side.{Side}
use Rattle.sim_rules_spec.specs.declared.Side.TheVariants.{Binary, Source}

-- a walk's list of visits, or why it has none
abbrev pub IsOutcome : Walk → (maximum : ℕ) → Result Listing (Refusal WalkFault) → Type 0
IsOutcome w maximum (Ok listing) = IsListing w maximum listing
IsOutcome w maximum (Err fault) = IsWalkFault w maximum fault

abbrev pub fault_in : Result Listing (Refusal WalkFault) → Option (Refusal WalkFault)
fault_in (Ok listing) = None
fault_in (Err fault) = Some fault

-- ---- the first fault of two walks

abbrev pub cyclic_if : Side → (needed : Bool) → Option (Refusal WalkFault) → Option (Refusal RuleFault)
cyclic_if side needed None = None
cyclic_if side needed (Some (Fault (walk.Cyclic n))) = if needed then Some (Fault (Cyclic side n)) else None
cyclic_if side needed (Some (Fault (walk.TooMany n))) = None
cyclic_if side needed (Some NoMemory) = Some NoMemory

abbrev pub large_if : Side → Option (Refusal WalkFault) → Option (Refusal RuleFault)
large_if side None = None
large_if side (Some (Fault (walk.Cyclic n))) = None
large_if side (Some (Fault (walk.TooMany n))) = Some (Fault (Large side n))
large_if side (Some NoMemory) = None

abbrev pub first_of : Option (Refusal RuleFault) → Option (Refusal RuleFault) → Option (Refusal RuleFault)
first_of None other = other
first_of (Some fault) other = Some fault

abbrev pub first_fault : Needs → (binary source : Option (Refusal WalkFault)) → Option (Refusal RuleFault)
first_fault p a d =
    first_of (first_of (cyclic_if Binary p.binary a) (cyclic_if Source p.source d)) (first_of (large_if Binary a) (large_if Source d))

-- a walk that the rule needs acyclic is cyclic, the binary's first; or none of these is, and one of the two walks has too
-- many visits; out of memory may come at any time
abbrev pub IsFaultOf : Needs → (a d : Walk) → (maximum : ℕ) → Refusal RuleFault → Type 0
IsFaultOf p a d maximum (Fault (Sort i)) = ⊥
IsFaultOf p a d maximum (Fault (Cyclic Binary n)) = (p.binary ≡ true) × IsCyclicAt a n
IsFaultOf p a d maximum (Fault (Cyclic Source n)) = (p.binary ≡ true → IsAcyclic a) × (p.source ≡ true) × IsCyclicAt d n
IsFaultOf p a d maximum (Fault (Large Binary n)) =
    (p.binary ≡ true → IsAcyclic a) × (p.source ≡ true → IsAcyclic d) × AreTooMany a maximum n
IsFaultOf p a d maximum (Fault (Large Source n)) =
    (p.binary ≡ true → IsAcyclic a) × (p.source ≡ true → IsAcyclic d) × AreTooMany d maximum n
IsFaultOf p a d maximum NoMemory = Unit {0}

-- ---- what an answer says of both walks

-- neither has more visits than the maximum
abbrev pub AreFew : (a d : Walk) → (maximum : ℕ) → Type 0
AreFew a d maximum = (count : ℕ) → AreTooMany a maximum count ⊎ AreTooMany d maximum count → ⊥

-- the visits, where there is a list of them
abbrev pub visits_in : Result Listing (Refusal WalkFault) → Option (List Visit)
visits_in (Ok listing) = Some listing.visits
visits_in (Err fault) = None

-- a list of visits is that of the walk, and there is one if the walk has to be acyclic
pub record AreKnown (needed : Bool) (w : Walk) (visits : Option (List Visit)) : Type 0 where
  pub are : AreVisitsIf w visits
  pub there : needed ≡ true → (v : List Visit) × (visits ≡ Some v)

-- both walks are as a rule needs them
pub record AreEnough (p : Needs) (a d : Walk) (of_a of_d : Result Listing (Refusal WalkFault)) (maximum : ℕ) : Type 0 where
  pub few : AreFew a d maximum
  pub binary : AreKnown p.binary a (visits_in of_a)
  pub source : AreKnown p.source d (visits_in of_d)

-- of no fault this, and a fault is one of theirs
abbrev pub AnswersWalks : Needs → (a d : Walk) → (of_a of_d : Result Listing (Refusal WalkFault)) → (maximum : ℕ) → Result (Unit {0}) (Refusal RuleFault) → Type 0
AnswersWalks p a d of_a of_d maximum (Ok done) = AreEnough p a d of_a of_d maximum
AnswersWalks p a d of_a of_d maximum (Err fault) = IsFaultOf p a d maximum fault
