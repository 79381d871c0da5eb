-- Laws of terms that are put in for variables.
use Rattle.std.proofs.Common.{◌≡◌, ℕ, Option, Some, None, refl, sym, ap, ◌∙◌, inl, inr, ◌⊎◌}
use Rattle.term_core_spec.specs.declared.Sort.{Sort}
use Rattle.term_core_spec.specs.declared.Variable.{Variable}
use Rattle.term_core_spec.specs.declared.Atom.{Atom}
use Rattle.term_core_spec.specs.declared.Atom.TheVariants as atom
use Rattle.term_core_spec.specs.Term.{Term, Leaf, Unary, Binary, Ternary, Quaternary, Octonary, open_term, Occurs, OccursInAtom}
use Rattle.term_core_spec.specs.Sort.{sort_of, sort_of_atom}
use Rattle.term_core_spec.specs.Value.{Assignment, IsAssignment, value, value_of_atom}
use Rattle.term_core_spec.specs.Substitution.{State, substituted, substituted_atom, renamed, renamed_atom, at_instance, values_of}
use Rattle.term_core_spec.proofs.Soundness.{value-sort}
use Rattle.term_core_spec.proofs.Variables.{Each, each-from_occurs, occurs-each}

module _ (assignment : Assignment) (state : State) where
  atom-value : (leaf : Atom) → value assignment (substituted_atom state leaf) ≡ value_of_atom (values_of assignment state) leaf
  unfolding value
  atom-value (atom.Truth known) = refl
  atom-value (atom.Constant width number) = refl
  atom-value (atom.Open variable) = refl

  -- the value of the term where each variable has the value of its term
  pub value-substituted : (t : Term) → value assignment (substituted state t) ≡ value (values_of assignment state) t
  unfolding value substituted
  value-substituted (Leaf leaf) = atom-value leaf
  value-substituted (Unary operator x) = let e = value-substituted x in cc
  value-substituted (Binary operator x y) = let e = value-substituted x in let f = value-substituted y in cc
  value-substituted (Ternary operator x y z) =
      let e = value-substituted x in let f = value-substituted y in let g = value-substituted z in cc
  value-substituted (Quaternary operator w x y z) =
      let d = value-substituted w in let e = value-substituted x in let f = value-substituted y in let g = value-substituted z in cc
  value-substituted (Octonary s t u w x y z q) =
      rw (value-substituted s, value-substituted t, value-substituted u, value-substituted w, value-substituted x, value-substituted y, value-substituted z, value-substituted q) refl

-- ---- sorts

module _ (state : State) where
  -- each variable of a term has a term of its sort
  abbrev IsSorted : Term → Type 0
  IsSorted t = (v : Variable) → Occurs v t → sort_of (state v) ≡ Some v.sort

  atom-sort : (leaf : Atom) → ((v : Variable) → OccursInAtom v leaf → sort_of (state v) ≡ Some v.sort) → sort_of (substituted_atom state leaf) ≡ sort_of_atom leaf
  unfolding sort_of sort_of_atom
  atom-sort (atom.Truth known) h = refl
  atom-sort (atom.Constant width number) h = refl
  atom-sort (atom.Open variable) h = h variable refl

  -- the sort of the term
  pub sort-substituted : (t : Term) → IsSorted t → sort_of (substituted state t) ≡ sort_of t
  unfolding sort_of substituted Occurs
  sort-substituted (Leaf leaf) h = atom-sort leaf h
  sort-substituted (Unary operator x) h = let e = sort-substituted x h in cc
  sort-substituted (Binary operator x y) h =
      let e = sort-substituted x (λ v o. h v (inl o)) in
      let f = sort-substituted y (λ v o. h v (inr o)) in
      cc
  sort-substituted (Ternary operator x y z) h =
      let e = sort-substituted x (λ v o. h v (inl o)) in
      let f = sort-substituted y (λ v o. h v (inr (inl o))) in
      let g = sort-substituted z (λ v o. h v (inr (inr o))) in
      cc
  sort-substituted (Quaternary operator w x y z) h =
      let d = sort-substituted w (λ v o. h v (inl o)) in
      let e = sort-substituted x (λ v o. h v (inr (inl o))) in
      let f = sort-substituted y (λ v o. h v (inr (inr (inl o)))) in
      let g = sort-substituted z (λ v o. h v (inr (inr (inr o)))) in
      cc
  sort-substituted (Octonary s t u w x y z q) h =
      rw (
        sort-substituted s (λ v o. h v (inl o)),
        sort-substituted t (λ v o. h v (inr (inl o))),
        sort-substituted u (λ v o. h v (inr (inr (inl o)))),
        sort-substituted w (λ v o. h v (inr (inr (inr (inl o))))),
        sort-substituted x (λ v o. h v (inr (inr (inr (inr (inl o)))))),
        sort-substituted y (λ v o. h v (inr (inr (inr (inr (inr (inl o))))))),
        sort-substituted z (λ v o. h v (inr (inr (inr (inr (inr (inr (inl o)))))))),
        sort-substituted q (λ v o. h v (inr (inr (inr (inr (inr (inr (inr o)))))))),
      ) refl

pub values-sort : (assignment : Assignment) (state : State) → IsAssignment assignment → ((v : Variable) → sort_of (state v) ≡ Some v.sort) → IsAssignment (values_of assignment state)
values-sort assignment state h sorted v = value-sort assignment h (state v) v.sort (sorted v)

-- ---- variables

module _ (state : State) (P : Variable → Type 0) where
  atom-each : (leaf : Atom) → ((v : Variable) → OccursInAtom v leaf → Each P (state v)) → Each P (substituted_atom state leaf)
  unfolding Each
  atom-each (atom.Truth known) h = tt
  atom-each (atom.Constant width number) h = tt
  atom-each (atom.Open variable) h = h variable refl

  each-substituted : (t : Term) → ((v : Variable) → Occurs v t → Each P (state v)) → Each P (substituted state t)
  unfolding substituted Occurs Each
  each-substituted (Leaf leaf) h = atom-each leaf h
  each-substituted (Unary operator x) h = each-substituted x h
  each-substituted (Binary operator x y) h = (each-substituted x (λ v o. h v (inl o)), each-substituted y (λ v o. h v (inr o)))
  each-substituted (Ternary operator x y z) h =
      (each-substituted x (λ v o. h v (inl o)), each-substituted y (λ v o. h v (inr (inl o))), each-substituted z (λ v o. h v (inr (inr o))))
  each-substituted (Quaternary operator w x y z) h = (
    each-substituted w (λ v o. h v (inl o)),
    each-substituted x (λ v o. h v (inr (inl o))),
    each-substituted y (λ v o. h v (inr (inr (inl o)))),
    each-substituted z (λ v o. h v (inr (inr (inr o)))),
  )
  each-substituted (Octonary s t u w x y z q) h = (
    each-substituted s (λ v o. h v (inl o)),
    each-substituted t (λ v o. h v (inr (inl o))),
    each-substituted u (λ v o. h v (inr (inr (inl o)))),
    each-substituted w (λ v o. h v (inr (inr (inr (inl o))))),
    each-substituted x (λ v o. h v (inr (inr (inr (inr (inl o)))))),
    each-substituted y (λ v o. h v (inr (inr (inr (inr (inr (inl o))))))),
    each-substituted z (λ v o. h v (inr (inr (inr (inr (inr (inr (inl o)))))))),
    each-substituted q (λ v o. h v (inr (inr (inr (inr (inr (inr (inr o)))))))),
  )

-- a variable of the result is one of the term of some variable
pub occurs-substituted : (state : State) (t : Term) (w : Variable) → Occurs w (substituted state t) → (v : Variable) × Occurs v t × Occurs w (state v)
occurs-substituted state t w o =
    let P : Variable → Type 0 = λ u. (v : Variable) × Occurs v t × Occurs u (state v) in
    occurs-each P (substituted state t) (each-substituted state P t (λ v here. each-from_occurs P (state v) (λ u there. (v, here, there)))) w o

-- ---- renaming

-- renaming puts variables in
pub renamed-is : (name : Variable → Variable) (t : Term) → renamed name t ≡ substituted (λ v. open_term (name v)) t
unfolding renamed substituted
renamed-is name (Leaf (atom.Truth known)) = refl
renamed-is name (Leaf (atom.Constant width number)) = refl
renamed-is name (Leaf (atom.Open variable)) = refl
renamed-is name (Unary operator x) = let e = renamed-is name x in cc
renamed-is name (Binary operator x y) = let e = renamed-is name x in let f = renamed-is name y in cc
renamed-is name (Ternary operator x y z) = let e = renamed-is name x in let f = renamed-is name y in let g = renamed-is name z in cc
renamed-is name (Quaternary operator w x y z) =
    let d = renamed-is name w in let e = renamed-is name x in let f = renamed-is name y in let g = renamed-is name z in cc
renamed-is name (Octonary s t u w x y z q) =
    rw (renamed-is name s, renamed-is name t, renamed-is name u, renamed-is name w, renamed-is name x, renamed-is name y, renamed-is name z, renamed-is name q) refl

open-value : (assignment : Assignment) (v : Variable) → value assignment (open_term v) ≡ assignment v
unfolding value
open-value assignment v = refl

open-sort : (v : Variable) → sort_of (open_term v) ≡ Some v.sort
unfolding sort_of sort_of_atom
open-sort v = refl

pub value-renamed : (assignment : Assignment) (name : Variable → Variable) (t : Term) → value assignment (renamed name t) ≡ value (λ v. assignment (name v)) t
unfolding value
value-renamed assignment name t = ap (value assignment) (renamed-is name t) ∙ value-substituted assignment (λ v. open_term (name v)) t

pub sort-instance : (instance : ℕ) (t : Term) → sort_of (renamed (at_instance instance) t) ≡ sort_of t
sort-instance instance t =
    ap sort_of (renamed-is (at_instance instance) t)
    ∙ sort-substituted (λ v. open_term (at_instance instance v)) t (λ v o. open-sort (at_instance instance v))

pub occurs-instance : (instance : ℕ) (t : Term) (w : Variable) → Occurs w (renamed (at_instance instance) t) → w.instance ≡ instance
unfolding Occurs
occurs-instance instance t w o =
    let at : Occurs w (substituted (λ v. open_term (at_instance instance v)) t) = rw (← renamed-is (at_instance instance) t) o in
    let from = occurs-substituted (λ v. open_term (at_instance instance v)) t w at in
    ap (λ (v : Variable). v.instance) from.2
