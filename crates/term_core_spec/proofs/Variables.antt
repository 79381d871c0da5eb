-- The value of a term depends only on the variables that occur in it.
use Rattle.std.proofs.Common.{◌≡◌, inl, inr, refl, sym, subst}
use Rattle.term_core_spec.specs.declared.Variable.{Variable}
use Rattle.term_core_spec.specs.declared.Atom.{Atom}
use Rattle.term_core_spec.specs.declared.Atom.TheVariants as atom
use Rattle.term_core_spec.specs.Term.{Term, Leaf, Unary, Binary, Ternary, Quaternary, Octonary, Occurs, OccursInAtom}
use Rattle.term_core_spec.specs.Value.{Assignment, value, value_of_atom}

module _ (a b : Assignment) where
  value_of_atom-occurs : (leaf : Atom) → ((v : Variable) → OccursInAtom v leaf → a v ≡ b v) → value_of_atom a leaf ≡ value_of_atom b leaf
  value_of_atom-occurs (atom.Truth known) h = refl
  value_of_atom-occurs (atom.Constant width number) h = refl
  value_of_atom-occurs (atom.Open variable) h = h variable refl

  pub value-occurs : (t : Term) → ((v : Variable) → Occurs v t → a v ≡ b v) → value a t ≡ value b t
  unfolding value Occurs
  value-occurs (Leaf leaf) h = value_of_atom-occurs leaf h
  value-occurs (Unary operator x) h = let e = value-occurs x h in cc
  value-occurs (Binary operator x y) h =
      let e = value-occurs x (λ v o. h v (inl o)) in
      let f = value-occurs y (λ v o. h v (inr o)) in
      cc
  value-occurs (Ternary operator x y z) h =
      let e = value-occurs x (λ v o. h v (inl o)) in
      let f = value-occurs y (λ v o. h v (inr (inl o))) in
      let g = value-occurs z (λ v o. h v (inr (inr o))) in
      cc
  value-occurs (Quaternary operator w x y z) h =
      let d = value-occurs w (λ v o. h v (inl o)) in
      let e = value-occurs x (λ v o. h v (inr (inl o))) in
      let f = value-occurs y (λ v o. h v (inr (inr (inl o)))) in
      let g = value-occurs z (λ v o. h v (inr (inr (inr o)))) in
      cc
  value-occurs (Octonary s t u w x y z q) h =
      let e1 = value-occurs s (λ v o. h v (inl o)) in
      let e2 = value-occurs t (λ v o. h v (inr (inl o))) in
      let e3 = value-occurs u (λ v o. h v (inr (inr (inl o)))) in
      let e4 = value-occurs w (λ v o. h v (inr (inr (inr (inl o))))) in
      let e5 = value-occurs x (λ v o. h v (inr (inr (inr (inr (inl o)))))) in
      let e6 = value-occurs y (λ v o. h v (inr (inr (inr (inr (inr (inl o))))))) in
      let e7 = value-occurs z (λ v o. h v (inr (inr (inr (inr (inr (inr (inl o)))))))) in
      let e8 = value-occurs q (λ v o. h v (inr (inr (inr (inr (inr (inr (inr o)))))))) in
      cc

-- ---- what holds of each variable of a term

module _ (P : Variable → Type 0) where
  abbrev pub EachInAtom : Atom → Type 0
  EachInAtom (atom.Truth known) = Unit {0}
  EachInAtom (atom.Constant width number) = Unit {0}
  EachInAtom (atom.Open variable) = P variable

  unfoldable pub Each : Term → Type 0
  Each (Leaf leaf) = EachInAtom leaf
  Each (Unary operator x) = Each x
  Each (Binary operator x y) = Each x × Each y
  Each (Ternary operator x y z) = Each x × Each y × Each z
  Each (Quaternary operator w x y z) = Each w × Each x × Each y × Each z
  Each (Octonary s t u w x y z q) = Each s × Each t × Each u × Each w × Each x × Each y × Each z × Each q

  atom-from_occurs : (leaf : Atom) → ((v : Variable) → OccursInAtom v leaf → P v) → EachInAtom leaf
  atom-from_occurs (atom.Truth known) h = tt
  atom-from_occurs (atom.Constant width number) h = tt
  atom-from_occurs (atom.Open variable) h = h variable refl

  pub each-from_occurs : (t : Term) → ((v : Variable) → Occurs v t → P v) → Each t
  unfolding Each Occurs
  each-from_occurs (Leaf leaf) h = atom-from_occurs leaf h
  each-from_occurs (Unary operator x) h = each-from_occurs x h
  each-from_occurs (Binary operator x y) h = (each-from_occurs x (λ v o. h v (inl o)), each-from_occurs y (λ v o. h v (inr o)))
  each-from_occurs (Ternary operator x y z) h =
      (each-from_occurs x (λ v o. h v (inl o)), each-from_occurs y (λ v o. h v (inr (inl o))), each-from_occurs z (λ v o. h v (inr (inr o))))
  each-from_occurs (Quaternary operator w x y z) h = (
    each-from_occurs w (λ v o. h v (inl o)),
    each-from_occurs x (λ v o. h v (inr (inl o))),
    each-from_occurs y (λ v o. h v (inr (inr (inl o)))),
    each-from_occurs z (λ v o. h v (inr (inr (inr o)))),
  )
  each-from_occurs (Octonary s t u w x y z q) h = (
    each-from_occurs s (λ v o. h v (inl o)),
    each-from_occurs t (λ v o. h v (inr (inl o))),
    each-from_occurs u (λ v o. h v (inr (inr (inl o)))),
    each-from_occurs w (λ v o. h v (inr (inr (inr (inl o))))),
    each-from_occurs x (λ v o. h v (inr (inr (inr (inr (inl o)))))),
    each-from_occurs y (λ v o. h v (inr (inr (inr (inr (inr (inl o))))))),
    each-from_occurs z (λ v o. h v (inr (inr (inr (inr (inr (inr (inl o)))))))),
    each-from_occurs q (λ v o. h v (inr (inr (inr (inr (inr (inr (inr o)))))))),
  )

  occurs-atom : (leaf : Atom) → EachInAtom leaf → (v : Variable) → OccursInAtom v leaf → P v
  occurs-atom (atom.Truth known) h v o = absurd o
  occurs-atom (atom.Constant width number) h v o = absurd o
  occurs-atom (atom.Open variable) h v o = subst P (sym o) h

  pub occurs-each : (t : Term) → Each t → (v : Variable) → Occurs v t → P v
  unfolding Each Occurs
  occurs-each (Leaf leaf) h v o = occurs-atom leaf h v o
  occurs-each (Unary operator x) h v o = occurs-each x h v o
  occurs-each (Binary operator x y) h v (inl o) = occurs-each x h.0 v o
  occurs-each (Binary operator x y) h v (inr o) = occurs-each y h.1 v o
  occurs-each (Ternary operator x y z) h v (inl o) = occurs-each x h.0 v o
  occurs-each (Ternary operator x y z) h v (inr (inl o)) = occurs-each y h.1 v o
  occurs-each (Ternary operator x y z) h v (inr (inr o)) = occurs-each z h.2 v o
  occurs-each (Quaternary operator w x y z) h v (inl o) = occurs-each w h.0 v o
  occurs-each (Quaternary operator w x y z) h v (inr (inl o)) = occurs-each x h.1 v o
  occurs-each (Quaternary operator w x y z) h v (inr (inr (inl o))) = occurs-each y h.2 v o
  occurs-each (Quaternary operator w x y z) h v (inr (inr (inr o))) = occurs-each z h.3 v o
  occurs-each (Octonary s t u w x y z q) h v (inl o) = occurs-each s h.0 v o
  occurs-each (Octonary s t u w x y z q) h v (inr (inl o)) = occurs-each t h.1 v o
  occurs-each (Octonary s t u w x y z q) h v (inr (inr (inl o))) = occurs-each u h.2 v o
  occurs-each (Octonary s t u w x y z q) h v (inr (inr (inr (inl o)))) = occurs-each w h.3 v o
  occurs-each (Octonary s t u w x y z q) h v (inr (inr (inr (inr (inl o))))) = occurs-each x h.4 v o
  occurs-each (Octonary s t u w x y z q) h v (inr (inr (inr (inr (inr (inl o)))))) = occurs-each y h.5 v o
  occurs-each (Octonary s t u w x y z q) h v (inr (inr (inr (inr (inr (inr (inl o))))))) = occurs-each z h.6 v o
  occurs-each (Octonary s t u w x y z q) h v (inr (inr (inr (inr (inr (inr (inr o))))))) = occurs-each q h.7 v o
