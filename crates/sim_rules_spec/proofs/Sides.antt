-- The value of a variable at two states, by the side to which it belongs.
use Rattle.std.proofs.Common.{◌≡◌, ◌∙◌, ℕ, Bool, true, false, if◌then◌else◌, refl, sym, ap, subst, inl, inr, lit<}
use Rattle.std.proofs.lemmas.Bool.{cases_Bool, false≢true}
use Rattle.term_core_spec.specs.declared.Width.TheVariants.{W8, W16, W32, W64}
use Rattle.term_core_spec.specs.declared.Sort.{Sort}
use Rattle.term_core_spec.specs.declared.Sort.TheVariants as sort
use Rattle.term_core_spec.specs.declared.Family.{Family}
use Rattle.term_core_spec.specs.declared.Family.TheVariants as family
use Rattle.term_core_spec.specs.declared.Variable.{Variable}
use Rattle.term_core_spec.specs.Same.{same_variable}
use Rattle.term_core_spec.specs.Term.{Term, open_term}
use Rattle.term_core_spec.specs.Substitution.{State as Terms, values_of}
use Rattle.term_core_spec.specs.Value.{Assignment, Value, Number, IsAssignment, IsOfSort, low_bits, value}
use Rattle.term_core_spec.proofs.Same.{variable-same}
use Rattle.term_core_spec.proofs.Words.{low_bits-below}
use Rattle.graph_core_spec.specs.Run.{unset}
use Rattle.sim_rules_spec.specs.Points.{binary_memory, zone_memory, address, is_binary, is_source, of_sides, other_values}
use Rattle.sim_rules_spec.specs.Rules.{Opening, terms_at_start, terms_at}

pub source_alone : (f : Family) → is_source f ≡ true → is_binary f ≡ false
source_alone family.Register h = absurd (false≢true h)
source_alone family.Entry h = absurd (false≢true h)
source_alone family.Parameter h = refl
source_alone family.Local h = refl
source_alone family.IsSet h = refl
source_alone family.SourceMemory h = refl
source_alone family.BinaryMemory h = absurd (false≢true h)
source_alone family.ZoneMemory h = absurd (false≢true h)
source_alone family.Address h = absurd (false≢true h)
source_alone family.LoadedByte h = absurd (false≢true h)
source_alone family.Further h = refl

module _ {T : Type 0} (binary source others : Variable → T) (v : Variable) where
  pub sides-binary : is_binary v.family ≡ true → of_sides binary source others v ≡ binary v
  sides-binary h = ap (λ (p : Bool). if p then binary v else (if is_source v.family then source v else others v)) h

  pub sides-source : is_source v.family ≡ true → of_sides binary source others v ≡ source v
  sides-source h =
      ap (λ (p : Bool). if p then binary v else (if is_source v.family then source v else others v)) (source_alone v.family h)
      ∙ ap (λ (p : Bool). if p then source v else others v) h

  pub sides-others : is_binary v.family ≡ false → is_source v.family ≡ false → of_sides binary source others v ≡ others v
  sides-others h k =
      ap (λ (p : Bool). if p then binary v else (if is_source v.family then source v else others v)) h
      ∙ ap (λ (p : Bool). if p then source v else others v) k

-- what holds by each side holds of every variable
pub by_sides : (P : Variable → Type 0) (v : Variable) → (is_binary v.family ≡ true → P v) → (is_source v.family ≡ true → P v)
    → (is_binary v.family ≡ false → is_source v.family ≡ false → P v) → P v
by_sides P v b s others = elim (cases_Bool (is_binary v.family)) [
  | inl h ↦ b h
  | inr h ↦ elim (cases_Bool (is_source v.family)) [
    | inl k ↦ s k
    | inr k ↦ others h k
  ]
]

-- ---- sorts

pub unset-sort : (s : Sort) → IsOfSort s (unset s)
unset-sort sort.Truth = tt
unset-sort (sort.Word W8) = (refl, lit< tt)
unset-sort (sort.Word W16) = (refl, lit< tt)
unset-sort (sort.Word W32) = (refl, lit< tt)
unset-sort (sort.Word W64) = (refl, lit< tt)
unset-sort sort.Memory = λ at. lit< tt

other_values-sort : (at : ℕ) (zone : Value) → IsOfSort sort.Memory zone → IsAssignment (other_values at zone)
other_values-sort at zone memory v = elim (cases_Bool (same_variable v zone_memory)) [
  | inl same ↦
      let is : v ≡ zone_memory = variable-same v zone_memory same in
      subst (IsOfSort v.sort) (sym (ap (λ (p : Bool). if p then zone else (if same_variable v address then Number W32 (low_bits 32 at) else unset v.sort)) same))
      (subst (λ (w : Variable). IsOfSort w.sort zone) (sym is) memory)
  | inr apart ↦
      subst (IsOfSort v.sort) (sym (ap (λ (p : Bool). if p then zone else (if same_variable v address then Number W32 (low_bits 32 at) else unset v.sort)) apart))
      (elim (cases_Bool (same_variable v address)) [
        | inl same ↦
            let is : v ≡ address = variable-same v address same in
            subst (IsOfSort v.sort) (sym (ap (λ (p : Bool). if p then Number W32 (low_bits 32 at) else unset v.sort) same))
            (subst (λ (w : Variable). IsOfSort w.sort (Number W32 (low_bits 32 at))) (sym is) (refl, low_bits-below 32 at))
        | inr other ↦
            subst (IsOfSort v.sort) (sym (ap (λ (p : Bool). if p then Number W32 (low_bits 32 at) else unset v.sort) other)) (unset-sort v.sort)
      ])
]

module _ (at : ℕ) (x y : Assignment) where
  abbrev pub joined : Assignment
  joined = of_sides x y (other_values at (x binary_memory))

  pub joined-sort : IsAssignment x → IsAssignment y → IsAssignment joined
  joined-sort sorted_x sorted_y v = by_sides (λ w. IsOfSort w.sort (joined w)) v
      (λ h. subst (IsOfSort v.sort) (sym (sides-binary x y (other_values at (x binary_memory)) v h)) (sorted_x v))
      (λ h. subst (IsOfSort v.sort) (sym (sides-source x y (other_values at (x binary_memory)) v h)) (sorted_y v))
      (λ h k. subst (IsOfSort v.sort) (sym (sides-others x y (other_values at (x binary_memory)) v h k)) (other_values-sort at (x binary_memory) (sorted_x binary_memory) v))

  open-value : (v : Variable) → value joined (open_term v) ≡ joined v
  unfolding value
  open-value v = refl

  -- the terms of a start have the values there
  pub start_values : (o : Opening) → ((v : Variable) → is_binary v.family ≡ true → values_of joined o.binary v ≡ x v)
      → ((v : Variable) → is_source v.family ≡ true → values_of joined o.source v ≡ y v) → values_of joined (terms_at_start o) ≡ joined
  start_values o binary source = λ i v. by v i
    where
      by : (v : Variable) → value joined (terms_at_start o v) ≡ joined v
      by v = by_sides (λ w. value joined (terms_at_start o w) ≡ joined w) v
          (λ h. ap (value joined) (sides-binary o.binary o.source open_term v h) ∙ binary v h ∙ sym (sides-binary x y (other_values at (x binary_memory)) v h))
          (λ h. ap (value joined) (sides-source o.binary o.source open_term v h) ∙ source v h ∙ sym (sides-source x y (other_values at (x binary_memory)) v h))
          (λ h k. ap (value joined) (sides-others o.binary o.source open_term v h k) ∙ open-value v)

  -- the terms of a later point have the values there
  module _ (s t : Terms) (later_x later_y : Assignment) (binary : (v : Variable) → is_binary v.family ≡ true → values_of joined s v ≡ later_x v)
      (source : (v : Variable) → is_source v.family ≡ true → values_of joined t v ≡ later_y v) where
    abbrev rest : Variable → Term
    rest v = if same_variable v zone_memory then s binary_memory else open_term v

    other_point : (v : Variable) → is_binary v.family ≡ false → is_source v.family ≡ false → value joined (rest v) ≡ other_values at (later_x binary_memory) v
    other_point v h k = elim (cases_Bool (same_variable v zone_memory)) [
      | inl same ↦
          ap (λ (p : Bool). value joined (if p then s binary_memory else open_term v)) same ∙ binary binary_memory refl
          ∙ sym (ap (λ (p : Bool). if p then later_x binary_memory else (if same_variable v address then Number W32 (low_bits 32 at) else unset v.sort)) same)
      | inr apart ↦
          ap (λ (p : Bool). value joined (if p then s binary_memory else open_term v)) apart ∙ open-value v
          ∙ sides-others x y (other_values at (x binary_memory)) v h k
          ∙ ap (λ (p : Bool). if p then x binary_memory else (if same_variable v address then Number W32 (low_bits 32 at) else unset v.sort)) apart
          ∙ sym (ap (λ (p : Bool). if p then later_x binary_memory else (if same_variable v address then Number W32 (low_bits 32 at) else unset v.sort)) apart)
    ]

    point_value : (v : Variable) → value joined (terms_at s t v) ≡ of_sides later_x later_y (other_values at (later_x binary_memory)) v
    point_value v = by_sides (λ w. value joined (terms_at s t w) ≡ of_sides later_x later_y (other_values at (later_x binary_memory)) w) v
        (λ h. ap (value joined) (sides-binary s t rest v h) ∙ binary v h ∙ sym (sides-binary later_x later_y (other_values at (later_x binary_memory)) v h))
        (λ h. ap (value joined) (sides-source s t rest v h) ∙ source v h ∙ sym (sides-source later_x later_y (other_values at (later_x binary_memory)) v h))
        (λ h k. ap (value joined) (sides-others s t rest v h k) ∙ other_point v h k ∙ sym (sides-others later_x later_y (other_values at (later_x binary_memory)) v h k))

    pub point_values : values_of joined (terms_at s t) ≡ of_sides later_x later_y (other_values at (later_x binary_memory))
    point_values = λ i v. point_value v i
