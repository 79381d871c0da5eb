-- A Case: the frame where its term holds and the frame where it doesn't give the frame.
use Rattle.std.proofs.Common.{◌≡◌, ◌∙◌, ◌⊎◌, ℕ, Bool, true, false, if◌then◌else◌, List, [], ◌∷◌, ◌++◌, refl, sym, ap, ap₂, subst, inl, inr}
use Rattle.std.proofs.lemmas.Bool.{and_parts, and_from}
use Rattle.std.proofs.lemmas.List.Elements.{All-push}
use Rattle.term_core_spec.specs.declared.Sort.TheVariants as sort
use Rattle.term_core_spec.specs.declared.Width.TheVariants.{W32}
use Rattle.term_core_spec.specs.declared.Variable.{Variable}
use Rattle.term_core_spec.specs.Same.{same_variable}
use Rattle.term_core_spec.specs.Term.{Term, not_term}
use Rattle.term_core_spec.specs.Value.{Assignment, Value, Truth, Number, IsAssignment, IsOfSort, low_bits, value}
use Rattle.term_core_spec.proofs.Same.{variable-same}
use Rattle.term_core_spec.proofs.Soundness.{value-sort}
use Rattle.term_core_spec.proofs.Sorts.{as_truth}
use Rattle.term_core_spec.proofs.Variables.{value-occurs}
use Rattle.graph_core_spec.specs.declared.Mark.{Mark}
use Rattle.graph_core_spec.specs.Simulation.{Frame, IsStart, Agree, EndsAlike, both_return, both_arrive, IsHeld, held}
use Rattle.graph_core_spec.specs.Run.{Waiting, State, Running, Returned, Failed, is_shared, is_truth, unset}
use Rattle.graph_core_spec.specs.Sorts.{AreWaiting, IsState}
use Rattle.path_cond_spec.specs.Passages.{holds}
use Rattle.proof_tree_spec.specs.Frames as frames
use Rattle.proof_tree_spec.specs.Frames.{with_premise}
use Rattle.proof_tree_spec.specs.Cuts.{both}
use Rattle.proof_tree_spec.specs.Scope.{Setting, IsInScope, IsLine}
use Rattle.sim_rules_spec.specs.Points.{Convention, values_in, values_at, outermost_values, all_hold, address, zone_memory, other_values, binary_memory}
use Rattle.sim_rules_spec.specs.Systems.{Relation, frame_over, IsBinaryFine, IsSourceFine, IsSimulated}
use Rattle.sim_rules_spec.proofs.Truths.{all_pass, pass_all, not_false}
use Rattle.sim_rules_spec.proofs.Sides.{joined-sort, unset-sort, by_sides, sides-binary, sides-source, sides-others}

-- ---- frames that differ in their premise and their bounds

module _ {A C : Type 0} (f : Frame A C) (premise : ℕ → A → C → Bool) (binary_bounds source_bounds : List Mark) where
  abbrev pub other : Frame A C
  other = record f { premise = premise; binary_bounds = binary_bounds; source_bounds = source_bounds }

  pub ends_as_other : (x : A) (y : C) → EndsAlike other x y → EndsAlike f x y
  ends_as_other x y (both_return p q r) = both_return p q r
  ends_as_other x y (both_arrive g inside p q r) = both_arrive g inside p q r

  pub agrees_as_other : (n : ℕ) (x : A) (y : C) → Agree other n x y → Agree f n x y
  agrees_as_other n x y ag = record {
    safe = ag.safe;
    forth = λ t within stop. let r = ag.forth t within stop in (r.0, r.1, ends_as_other _ _ r.2);
    back = λ u within stop. let r = ag.back u within stop in (r.0, r.1, ends_as_other _ _ r.2);
  }

  pub held_as_other : (x : A) (y : C) → IsHeld other x y → IsHeld f x y
  held_as_other x y (held h inside t u some runs_x runs_y at_x at_y related) = held h inside t u some runs_x runs_y at_x at_y related

  pub as_other : (n : ℕ) (x : A) (y : C) → Agree other n x y ⊎ IsHeld other x y → Agree f n x y ⊎ IsHeld f x y
  as_other n x y (inl ag) = inl (agrees_as_other n x y ag)
  as_other n x y (inr met) = inr (held_as_other x y met)

-- ---- values of states are sorted

shared_sort : (b : Bool) (v : Variable) (x y : Value) → IsOfSort v.sort x → IsOfSort v.sort y → IsOfSort v.sort (if b then x else y)
shared_sort true v x y p q = p
shared_sort false v x y p q = q

outermost-sort : (values : Assignment) (below : List Waiting) → IsAssignment values → AreWaiting below → IsAssignment (outermost_values values below)
outermost-sort values [] sorted waiting = sorted
outermost-sort values (f ∷ below) sorted waiting =
    λ v. shared_sort (is_shared v) v (values v) (outermost_values f.values below v) (sorted v) (outermost-sort f.values below waiting.0 waiting.2 v)

pub values-sort : (s : State) → IsState s → IsAssignment (values_in s)
values-sort (Running g n values below) sorted = outermost-sort values below sorted.0 sorted.1
values-sort (Returned values) sorted = sorted
values-sort Failed sorted = λ v. unset-sort v.sort

-- ---- lines don't speak of the address

module _ (setting : Setting) (path : List ℕ) where
  no_address : (v : Variable) → v ≡ address → IsInScope setting path v → ⊥
  no_address v is scope = subst (IsInScope setting path) is scope

  module _ (at : ℕ) (zone : Value) (v : Variable) (scope : IsInScope setting path v) where
    same_other : (p q : Bool) → same_variable v zone_memory ≡ p → same_variable v address ≡ q → other_values at zone v ≡ other_values 0 zone v
    same_other true q e h =
        ap (λ (b : Bool). if b then zone else (if same_variable v address then Number W32 (low_bits 32 at) else unset v.sort)) e
        ∙ sym (ap (λ (b : Bool). if b then zone else (if same_variable v address then Number W32 (low_bits 32 0) else unset v.sort)) e)
    same_other false true e h = absurd (no_address v (variable-same v address h) scope)
    same_other false false e h =
        ap₂ (λ (b d : Bool). if b then zone else (if d then Number W32 (low_bits 32 at) else unset v.sort)) e h
        ∙ sym (ap₂ (λ (b d : Bool). if b then zone else (if d then Number W32 (low_bits 32 0) else unset v.sort)) e h)

  same_value : (at : ℕ) (x y : State) (v : Variable) → IsInScope setting path v → values_at at x y v ≡ values_at 0 x y v
  same_value at x y v scope =
      let zone = values_in x binary_memory in
      by_sides (λ w. w ≡ v → values_at at x y w ≡ values_at 0 x y w) v
      (λ h is. sides-binary (values_in x) (values_in y) (other_values at zone) v h ∙ sym (sides-binary (values_in x) (values_in y) (other_values 0 zone) v h))
      (λ h is. sides-source (values_in x) (values_in y) (other_values at zone) v h ∙ sym (sides-source (values_in x) (values_in y) (other_values 0 zone) v h))
      (λ h k is. sides-others (values_in x) (values_in y) (other_values at zone) v h k
      ∙ same_other at zone v scope (same_variable v zone_memory) (same_variable v address) refl refl
      ∙ sym (sides-others (values_in x) (values_in y) (other_values 0 zone) v h k)) refl

  pub same_elsewhere : (line : Term) → IsLine setting path line → (at : ℕ) (x y : State) → value (values_at at x y) line ≡ value (values_at 0 x y) line
  same_elsewhere line is at x y = value-occurs (values_at at x y) (values_at 0 x y) line (λ v o. same_value at x y v (is.visible v o))

-- ---- Case

one_more : (lines : List Term) (line : Term) (at : ℕ) (x y : State) → all_hold lines at x y ≡ true → holds (values_at at x y) line ≡ true
    → all_hold (lines ++ line ∷ []) at x y ≡ true
one_more lines line at x y h k =
    pass_all (λ (l : Term). holds (values_at at x y) l) (lines ++ line ∷ [])
    (All-push (λ (l : Term). holds (values_at at x y) l ≡ true) lines line (all_pass (λ (l : Term). holds (values_at at x y) l) lines h) k)

module _ (c : Convention) (f : frames.Frame) (known : Relation) where
  -- the frame with a further premise
  abbrev pub with : Term → frames.Frame
  with line = record f { start = with_premise f.start line }

  under_line : (line : Term) → IsSimulated c known (with line) → (x y : State) → IsStart (frame_over c known f) (IsBinaryFine c f) (IsSourceFine c f) x y
      → ((at : ℕ) → holds (values_at at x y) line ≡ true) → (n : ℕ) → Agree (frame_over c known f) n x y ⊎ IsHeld (frame_over c known f) x y
  under_line line simulated x y start h n =
      as_other (frame_over c known f) (both known (all_hold (f.start.premises ++ line ∷ []))) f.start.binary_bounds f.start.source_bounds n x y
      (simulated x y (record {
        binary_at = start.binary_at;
        source_at = start.source_at;
        premise = λ at.
            let parts = and_parts (known at x y) (all_hold f.start.premises at x y) (start.premise at) in
            and_from (known at x y) (all_hold (f.start.premises ++ line ∷ []) at x y) parts.0 (one_more f.start.premises line at x y parts.1 (h at));
        binary_fine = start.binary_fine;
        source_fine = start.source_fine;
        binary_kept = start.binary_kept;
        source_kept = start.source_kept;
        source_safe = start.source_safe;
      }) n)

  pub case_is_sound : (test : Term) → IsLine f.setting f.start.path test → IsSimulated c known (with test) → IsSimulated c known (with (not_term test)) → IsSimulated c known f
  case_is_sound test line holding failing x y start n =
      let sorted : IsAssignment (values_at 0 x y) =
      joined-sort 0 (values_in x) (values_in y) (values-sort x start.binary_fine.kept.sorted) (values-sort y start.source_fine.kept.sorted) in
      let truth = as_truth (value (values_at 0 x y) test) (value-sort (values_at 0 x y) sorted test sort.Truth line.truth) in
      by truth.0 truth.1
    where
      by : (b : Bool) → value (values_at 0 x y) test ≡ Truth b → Agree (frame_over c known f) n x y ⊎ IsHeld (frame_over c known f) x y
      by true e = under_line test holding x y start (λ at. ap is_truth (same_elsewhere f.setting f.start.path test line at x y ∙ e)) n
      by false e = under_line (not_term test) failing x y start
          (λ at. not_false (values_at at x y) test (same_elsewhere f.setting f.start.path test line at x y ∙ e)) n
