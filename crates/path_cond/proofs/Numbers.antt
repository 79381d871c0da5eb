-- The numbers of variables: their places in a list in which each occurs once.
use Rattle.std.proofs.Common.{◌≡◌, ◌∙◌, ℕ, ◌+◌, ◌<◌, ◌==◌, zero, suc, Bool, true, false, cond, List, [], ◌∷◌, ◌++◌, get_or, Option, Some, refl, sym, ap, subst, inl, inr, arith}
use Rattle.std.specs.Prelude.{slice_get, if◌then◌else◌}
use Rattle.std.specs.List.{IsDistinct, AllByRecursion, position}
use Rattle.std.proofs.lemmas.Bool.{cases_eq, cases_Bool, eq-eqb, ne_eqb, false_from_ne_true, false≢true, or_left, or_right}
use Rattle.std.proofs.lemmas.Option.{same_Some, slice_get_within, slice_get-get_or, get_or_from_slice_get}
use Rattle.std.proofs.lemmas.List.Folds.{list_any_at, list_any-append}
use Rattle.std.proofs.lemmas.List.Quantifiers.{position-Some}
use Rattle.term_core_spec.specs.declared.Variable.{Variable}
use Rattle.term_core_spec.specs.contracts.VariableEq.TheImpl.Laws as variable_laws
use Rattle.term_core_spec.specs.Same.{same_variable}
use Rattle.term_core_spec.proofs.Same.{variable-same}
use Rattle.path_cond.specs.Bound.{has}
use Rattle.path_cond.specs.States.{IsPut}

pub same_self : (v : Variable) → same_variable v v ≡ true
same_self v = variable_laws.lawful.laws.refl v

pub has_at : (variables : List Variable) (k : ℕ) (v : Variable) → slice_get variables k ≡ Some v → has variables v ≡ true
has_at variables k v there =
    list_any_at (same_variable v) variables k v (slice_get_within variables k v there)
    (ap (same_variable v) (get_or_from_slice_get variables k v v there) ∙ same_self v)

not_again : (v : Variable) (variables : List Variable) (j : ℕ) → AllByRecursion (λ w. same_variable v w ≡ false) variables → slice_get variables j ≡ Some v → ⊥
not_again v [] j h e = cc
not_again v (first ∷ rest) zero h e =
    let is_first : first ≡ v = same_Some first v e in
    let different : same_variable v v ≡ false = subst (λ w. same_variable v w ≡ false) is_first h.0 in
    false≢true (sym different ∙ same_self v)
not_again v (first ∷ rest) (suc j) h e = not_again v rest j h.1 e

pub one_number : (variables : List Variable) (i j : ℕ) (v : Variable) → IsDistinct same_variable variables → slice_get variables i ≡ Some v → slice_get variables j ≡ Some v → i ≡ j
unfolding IsDistinct
one_number [] i j v h at_i at_j = absurd (cc)
one_number (first ∷ rest) zero zero v h at_i at_j = refl
one_number (first ∷ rest) zero (suc j) v h at_i at_j =
    let is_first : first ≡ v = same_Some first v at_i in
    absurd (not_again first rest j h.0 (at_j ∙ ap Some (sym is_first)))
one_number (first ∷ rest) (suc i) zero v h at_i at_j =
    let is_first : first ≡ v = same_Some first v at_j in
    absurd (not_again first rest i h.0 (at_i ∙ ap Some (sym is_first)))
one_number (first ∷ rest) (suc i) (suc j) v h at_i at_j = ap suc (one_number rest i j v h.1 at_i at_j)

-- the number that is found is the variable's
pub found_number : (variables : List Variable) (v : Variable) (number : ℕ) → position (same_variable v) variables ≡ Some number → slice_get variables number ≡ Some v
found_number variables v number e =
    let parts = position-Some (same_variable v) variables number v e in
    slice_get-get_or variables number v parts.0 ∙ ap Some (sym (variable-same v (get_or variables number v) parts.1))

module _ (variables : List Variable) (distinct : IsDistinct same_variable variables) where
  -- a number is that of a variable exactly where the variables are the same
  pub number_tests : (v : Variable) (number : ℕ) → slice_get variables number ≡ Some v → (k : ℕ) (w : Variable) → slice_get variables k ≡ Some w → (k == number) ≡ same_variable w v
  number_tests v number at k w there = elim (cases_eq k number) [
    | inl same ↦
        let is : w ≡ v = same_Some w v (sym there ∙ ap (slice_get variables) same ∙ at) in
        eq-eqb k number same ∙ sym (ap (λ x. same_variable x v) is ∙ same_self v)
    | inr apart ↦
        ne_eqb k number apart
        ∙ sym (false_from_ne_true (same_variable w v) (λ h. apart (one_number variables k number v distinct (there ∙ ap Some (variable-same w v h)) at)))
  ]

  pub is_put : (old new : ℕ → Option ℕ) (v : Variable) (number id : ℕ) → slice_get variables number ≡ Some v
      → ((n : ℕ) → new n ≡ (if n == number then Some id else old n)) → IsPut variables old v id new
  is_put old new v number id at h k w there = h k ∙ ap (λ (b : Bool). if b then Some id else old k) (number_tests v number at k w there)

  -- one more variable of a map is set
  pub set_bound : (ids : ℕ → Option ℕ) (old new : Variable → Option ℕ) (n id : ℕ) (x : Variable) → slice_get variables n ≡ Some x → ids n ≡ Some id
      → ((q : Variable) → new q ≡ cond (same_variable x q) (Some id) (old q))
      → ((k : ℕ) (v : Variable) → k < n → slice_get variables k ≡ Some v → old v ≡ ids k)
      → (k : ℕ) (v : Variable) → k < n + 1 → slice_get variables k ≡ Some v → new v ≡ ids k
  set_bound ids old new n id x at is updates before k v less there = elim (cases_Bool (same_variable x v)) [
    | inl same ↦
        let one : k ≡ n = one_number variables k n v distinct there (at ∙ ap Some (variable-same x v same)) in
        updates v ∙ ap (λ (b : Bool). cond b (Some id) (old v)) same ∙ sym is ∙ ap ids (sym one)
    | inr other ↦
        let apart : k ≡ n → ⊥ = λ e.
        let same : v ≡ x = same_Some v x (sym there ∙ ap (slice_get variables) e ∙ at) in
        false≢true (sym other ∙ ap (same_variable x) same ∙ same_self x) in
        updates v ∙ ap (λ (b : Bool). cond b (Some id) (old v)) other ∙ before k v (omega arith) there
  ]

  pub set_others : (old new : Variable → Option ℕ) (n id : ℕ) (x : Variable) → slice_get variables n ≡ Some x
      → ((q : Variable) → new q ≡ cond (same_variable x q) (Some id) (old q)) → (v : Variable) → has variables v ≡ false → new v ≡ old v
  set_others old new n id x at updates v out =
      let other : same_variable x v ≡ false = false_from_ne_true (same_variable x v) (λ h.
      false≢true (sym out ∙ has_at variables n v (at ∙ ap Some (variable-same x v h)))) in
      updates v ∙ ap (λ (b : Bool). cond b (Some id) (old v)) other

-- ---- lists that grow

pub has_more : (variables : List Variable) (x v : Variable) → has variables v ≡ true → has (cond (has variables x) variables (variables ++ x ∷ [])) v ≡ true
has_more variables x v h = by (has variables x)
  where
    by : (b : Bool) → has (cond b variables (variables ++ x ∷ [])) v ≡ true
    by true = h
    by false = list_any-append (same_variable v) variables (x ∷ []) ∙ or_left (has variables v) (has (x ∷ []) v) h

pub has_new : (variables : List Variable) (x : Variable) → has (cond (has variables x) variables (variables ++ x ∷ [])) x ≡ true
has_new variables x = by (has variables x) refl
  where
    by : (b : Bool) → has variables x ≡ b → has (cond b variables (variables ++ x ∷ [])) x ≡ true
    by true e = e
    by false e = list_any-append (same_variable x) variables (x ∷ []) ∙ or_right (has variables x) (has (x ∷ []) x) (or_left (same_variable x x) false (same_self x))
