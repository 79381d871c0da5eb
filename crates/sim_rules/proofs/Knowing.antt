-- The first fault of two walks; and where there is none, their visits.
use Rattle.std.proofs.Common.{◌≡◌, ◌∙◌, ℕ, Bool, true, false, Option, Some, None, ◌⊎◌, inl, inr, refl, sym, subst}
use Rattle.std.specs.Prelude.{Result, Ok, Err}
use Rattle.std.proofs.lemmas.Option.{same_Some}
use Rattle.visit_walk_spec.proofs.Order.{acyclic}
use Rattle.visit_walk_spec.specs.Listing.{Listing}
use Rattle.visit_walk_spec.specs.Outcomes.{IsAcyclic, IsCyclicAt, AreTooMany}
use Rattle.visit_walk_spec.specs.Visits.{Walk}
use Rattle.attempt.specs.declared.refusal.Refusal.{Refusal}
use Rattle.attempt.specs.declared.refusal.Refusal.TheVariants.{Fault, NoMemory}
use Rattle.visit_walk.specs.declared.found.WalkFault.{WalkFault}
use Rattle.sim_rules.specs.declared.fault.RuleFault.{RuleFault}
use Rattle.sim_rules.specs.declared.fault.RuleFault.TheVariants.{Sort, Cyclic, Large}
use Rattle.visit_walk.specs.declared.found.WalkFault.TheVariants as walk
use Rattle.sim_rules.specs.declared.fault.Needs.{Needs}
use Rattle.sim_rules_spec.specs.declared.Side.{Side}
use Rattle.sim_rules_spec.specs.declared.Side.TheVariants.{Binary, Source}
use Rattle.sim_rules.specs.Faults.{AreEnough, AreFew, AreKnown, IsFaultOf, IsOutcome, cyclic_if, fault_in, first_fault, first_of, large_if, visits_in}
use Rattle.sim_rules.proofs.Counting.{never_too_many}

pub not_true : false ≡ true → ⊥
not_true e = cc

none_some : (f : Refusal RuleFault) → None ≡ Some f → ⊥
none_some f e = cc

some_none : (f : Refusal RuleFault) → Some f ≡ None → ⊥
some_none f e = cc

not_binary : Source ≡ Binary → ⊥
not_binary e = cc

not_source : Binary ≡ Source → ⊥
not_source e = cc

-- ---- one walk

abbrev IsCyclicBy : Side → Bool → Walk → Refusal RuleFault → Type 0
IsCyclicBy side needed w (Fault (Sort i)) = ⊥
IsCyclicBy side needed w (Fault (Cyclic s n)) = (s ≡ side) × (needed ≡ true) × IsCyclicAt w n
IsCyclicBy side needed w (Fault (Large s n)) = ⊥
IsCyclicBy side needed w NoMemory = Unit {0}

abbrev IsLargeBy : Side → Walk → ℕ → Refusal RuleFault → Type 0
IsLargeBy side w maximum (Fault (Sort i)) = ⊥
IsLargeBy side w maximum (Fault (Cyclic s n)) = ⊥
IsLargeBy side w maximum (Fault (Large s n)) = (s ≡ side) × AreTooMany w maximum n
IsLargeBy side w maximum NoMemory = ⊥

module _ (side : Side) (w : Walk) (maximum : ℕ) where
  cyclic_is : (needed : Bool) (x : Result Listing (Refusal WalkFault)) (f : Refusal RuleFault) → IsOutcome w maximum x → cyclic_if side needed (fault_in x) ≡ Some f → IsCyclicBy side needed w f
  cyclic_is needed (Ok l) f is e = absurd (none_some f e)
  cyclic_is true (Err (Fault (walk.Cyclic n))) f is e = subst (IsCyclicBy side true w) (same_Some (Fault (Cyclic side n)) f e) (refl, refl, is)
  cyclic_is false (Err (Fault (walk.Cyclic n))) f is e = absurd (none_some f e)
  cyclic_is needed (Err (Fault (walk.TooMany n))) f is e = absurd (none_some f e)
  cyclic_is needed (Err NoMemory) f is e = subst (IsCyclicBy side needed w) (same_Some NoMemory f e) tt

  not_cyclic : (needed : Bool) (x : Result Listing (Refusal WalkFault)) → IsOutcome w maximum x → cyclic_if side needed (fault_in x) ≡ None → needed ≡ true → IsAcyclic w
  not_cyclic needed (Ok l) is e on = acyclic w l.visits is.visits
  not_cyclic true (Err (Fault (walk.Cyclic n))) is e on = absurd (some_none (Fault (Cyclic side n)) e)
  not_cyclic false (Err (Fault (walk.Cyclic n))) is e on = absurd (not_true on)
  not_cyclic needed (Err (Fault (walk.TooMany n))) is e on = is.acyclic
  not_cyclic needed (Err NoMemory) is e on = absurd (some_none NoMemory e)

  large_is : (x : Result Listing (Refusal WalkFault)) (f : Refusal RuleFault) → IsOutcome w maximum x → large_if side (fault_in x) ≡ Some f → IsLargeBy side w maximum f
  large_is (Ok l) f is e = absurd (none_some f e)
  large_is (Err (Fault (walk.Cyclic n))) f is e = absurd (none_some f e)
  large_is (Err (Fault (walk.TooMany n))) f is e = subst (IsLargeBy side w maximum) (same_Some (Fault (Large side n)) f e) (refl, is)
  large_is (Err NoMemory) f is e = absurd (none_some f e)

  known : (needed : Bool) (x : Result Listing (Refusal WalkFault)) → IsOutcome w maximum x → cyclic_if side needed (fault_in x) ≡ None → large_if side (fault_in x) ≡ None → AreKnown needed w (visits_in x)
  known needed (Ok l) is e g = record { are = is.visits; there = λ on. (l.visits, refl) }
  known true (Err (Fault (walk.Cyclic n))) is e g = absurd (some_none (Fault (Cyclic side n)) e)
  known false (Err (Fault (walk.Cyclic n))) is e g = record { are = (n, is); there = λ on. absurd (not_true on) }
  known needed (Err (Fault (walk.TooMany n))) is e g = absurd (some_none (Fault (Large side n)) g)
  known needed (Err NoMemory) is e g = absurd (some_none NoMemory e)

  few : (needed : Bool) (x : Result Listing (Refusal WalkFault)) → IsOutcome w maximum x → cyclic_if side needed (fault_in x) ≡ None → large_if side (fault_in x) ≡ None → (count : ℕ) → AreTooMany w maximum count → ⊥
  few needed (Ok l) is e g count t = never_too_many w l.visits maximum is.visits is.few count t
  few needed (Err (Fault (walk.Cyclic n))) is e g count t = t.acyclic n is
  few needed (Err (Fault (walk.TooMany n))) is e g count t = some_none (Fault (Large side n)) g
  few needed (Err NoMemory) is e g count t = some_none NoMemory e

-- ---- the first of two

none_of : (x y : Option (Refusal RuleFault)) → first_of x y ≡ None → (x ≡ None) × (y ≡ None)
none_of None y e = (refl, e)
none_of (Some f) y e = absurd (some_none f e)

some_of : (x y : Option (Refusal RuleFault)) (f : Refusal RuleFault) → first_of x y ≡ Some f → (x ≡ Some f) ⊎ ((x ≡ None) × (y ≡ Some f))
some_of None y f e = inr (refl, e)
some_of (Some g) y f e = inl e

-- ---- both walks

module _ (p : Needs) (a d : Walk) (maximum : ℕ) where
  by_binary : (f : Refusal RuleFault) → IsCyclicBy Binary p.binary a f → IsFaultOf p a d maximum f
  by_binary (Fault (Sort i)) h = h
  by_binary (Fault (Cyclic Binary n)) h = (h.1, h.2)
  by_binary (Fault (Cyclic Source n)) h = absurd (not_binary h.0)
  by_binary (Fault (Large side n)) h = absurd h
  by_binary NoMemory h = tt

  by_source : (f : Refusal RuleFault) → (p.binary ≡ true → IsAcyclic a) → IsCyclicBy Source p.source d f → IsFaultOf p a d maximum f
  by_source (Fault (Sort i)) none h = h
  by_source (Fault (Cyclic Binary n)) none h = absurd (not_source h.0)
  by_source (Fault (Cyclic Source n)) none h = (none, h.1, h.2)
  by_source (Fault (Large side n)) none h = absurd h
  by_source NoMemory none h = tt

  by_number : (f : Refusal RuleFault) → (p.binary ≡ true → IsAcyclic a) → (p.source ≡ true → IsAcyclic d) → IsLargeBy Binary a maximum f ⊎ IsLargeBy Source d maximum f → IsFaultOf p a d maximum f
  by_number (Fault (Sort i)) none also h = elim h [ inl x ↦ x | inr x ↦ x ]
  by_number (Fault (Cyclic side n)) none also h = elim h [ inl x ↦ absurd x | inr x ↦ absurd x ]
  by_number (Fault (Large Binary n)) none also h = elim h [ inl x ↦ (none, also, x.1) | inr x ↦ absurd (not_source x.0) ]
  by_number (Fault (Large Source n)) none also h = elim h [ inl x ↦ absurd (not_binary x.0) | inr x ↦ (none, also, x.1) ]
  by_number NoMemory none also h = tt

  module _ (x y : Result Listing (Refusal WalkFault)) (of_a : IsOutcome a maximum x) (of_d : IsOutcome d maximum y) where
    by_cycle : (f : Refusal RuleFault) → first_of (cyclic_if Binary p.binary (fault_in x)) (cyclic_if Source p.source (fault_in y)) ≡ Some f → IsFaultOf p a d maximum f
    by_cycle f e = elim (some_of (cyclic_if Binary p.binary (fault_in x)) (cyclic_if Source p.source (fault_in y)) f e) [
      | inl at ↦ by_binary f (cyclic_is Binary a maximum p.binary x f of_a at)
      | inr at ↦ by_source f (not_cyclic Binary a maximum p.binary x of_a at.0) (cyclic_is Source d maximum p.source y f of_d at.1)
    ]

    by_count : (f : Refusal RuleFault) → first_of (cyclic_if Binary p.binary (fault_in x)) (cyclic_if Source p.source (fault_in y)) ≡ None
        → first_of (large_if Binary (fault_in x)) (large_if Source (fault_in y)) ≡ Some f → IsFaultOf p a d maximum f
    by_count f none e =
        let also = none_of (cyclic_if Binary p.binary (fault_in x)) (cyclic_if Source p.source (fault_in y)) none in
        by_number f (not_cyclic Binary a maximum p.binary x of_a also.0) (not_cyclic Source d maximum p.source y of_d also.1)
        (elim (some_of (large_if Binary (fault_in x)) (large_if Source (fault_in y)) f e) [
          | inl at ↦ inl (large_is Binary a maximum x f of_a at)
          | inr at ↦ inr (large_is Source d maximum y f of_d at.1)
        ])

    pub fault_of : (f : Refusal RuleFault) → first_fault p (fault_in x) (fault_in y) ≡ Some f → IsFaultOf p a d maximum f
    fault_of f e = elim (some_of (first_of (cyclic_if Binary p.binary (fault_in x)) (cyclic_if Source p.source (fault_in y))) (first_of (large_if Binary (fault_in x)) (large_if Source (fault_in y))) f e) [
      | inl at ↦ by_cycle f at
      | inr at ↦ by_count f at.0 at.1
    ]

    both_known : first_fault p (fault_in x) (fault_in y) ≡ None → AreKnown p.binary a (visits_in x) × AreKnown p.source d (visits_in y)
    both_known e =
        let also = none_of (first_of (cyclic_if Binary p.binary (fault_in x)) (cyclic_if Source p.source (fault_in y))) (first_of (large_if Binary (fault_in x)) (large_if Source (fault_in y))) e in
        let cycles = none_of (cyclic_if Binary p.binary (fault_in x)) (cyclic_if Source p.source (fault_in y)) also.0 in
        let numbers = none_of (large_if Binary (fault_in x)) (large_if Source (fault_in y)) also.1 in
        (known Binary a maximum p.binary x of_a cycles.0 numbers.0, known Source d maximum p.source y of_d cycles.1 numbers.1)

    both_few : first_fault p (fault_in x) (fault_in y) ≡ None → AreFew a d maximum
    both_few e = λ count t.
        let also = none_of (first_of (cyclic_if Binary p.binary (fault_in x)) (cyclic_if Source p.source (fault_in y))) (first_of (large_if Binary (fault_in x)) (large_if Source (fault_in y))) e in
        let cycles = none_of (cyclic_if Binary p.binary (fault_in x)) (cyclic_if Source p.source (fault_in y)) also.0 in
        let numbers = none_of (large_if Binary (fault_in x)) (large_if Source (fault_in y)) also.1 in
        elim t [ inl h ↦ few Binary a maximum p.binary x of_a cycles.0 numbers.0 count h | inr h ↦ few Source d maximum p.source y of_d cycles.1 numbers.1 count h ]

    pub enough : first_fault p (fault_in x) (fault_in y) ≡ None → AreEnough p a d x y maximum
    enough e = record { few = both_few e; binary = (both_known e).0; source = (both_known e).1 }

-- as the code has it
pub fault_found : (p : Needs) (x y u v : Option (Refusal WalkFault)) (r s : Option (Refusal RuleFault)) → r ≡ first_fault p x y → x ≡ u → y ≡ v → r ≡ s → first_fault p u v ≡ s
fault_found p x y u v r s is f g h = sym (λ i. first_fault p (f i) (g i)) ∙ sym is ∙ h
