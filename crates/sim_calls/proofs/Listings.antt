-- Lists of variables that grow.
use Rattle.std.proofs.Common.{◌≡◌, ◌∙◌, ℕ, ◌<◌, zero, suc, true, List, [], ◌∷◌, length, map, get_or, Some, refl, sym, ap, subst, inl, inr}
use Rattle.std.specs.Prelude.{slice_get, All}
use Rattle.std.proofs.lemmas.Option.{same_Some, slice_get_within, get_or_from_slice_get}
use Rattle.term_core_spec.specs.declared.Atom.TheVariants as atom
use Rattle.term_core_spec.specs.declared.Variable.{Variable}
use Rattle.term_core_spec.specs.Term.{Term, Occurs}
use Rattle.term_bank.specs.declared.node.TermNode.{TermNode}
use Rattle.term_bank.specs.declared.node.TermNode.TheVariants.{Leaf, Unary, Binary, Ternary, Quaternary, Octonary}
use Rattle.term_bank.specs.Nodes.{IsNode, build, tree_at}
use Rattle.graph_core_spec.specs.Graph.{Binding}
use Rattle.graph_core_spec.specs.Variables.{with_variables}
use Rattle.graph_core.specs.declared.shared.SharedBinding.{SharedBinding}
use Rattle.graph_core.specs.Seen.{own_variables, HasAll}
use Rattle.graph_core.specs.Shared.{shared_binding_of, AreSharedBindings}
use Rattle.path_cond.specs.Bound.{has, KeepsListed}
use Rattle.path_cond.proofs.Numbers.{has_more}
use Rattle.sim_calls.specs.Listed.{Lists, ListsBank}

pub lists_later : (old new : List Variable) → KeepsListed old new → (t : Term) → Lists old t → Lists new t
lists_later old new kept t lists v o = kept v (lists v o)

-- the variable of a node is added
pub kept_own : (n : TermNode) (old new : List Variable) → new ≡ with_variables old (own_variables n) → KeepsListed old new
kept_own (Leaf (atom.Truth value)) old new e v h = subst (λ (l : List Variable). has l v ≡ true) (sym e) h
kept_own (Leaf (atom.Constant width number)) old new e v h = subst (λ (l : List Variable). has l v ≡ true) (sym e) h
kept_own (Leaf (atom.Open x)) old new e v h = subst (λ (l : List Variable). has l v ≡ true) (sym e) (has_more old x v h)
kept_own (Unary operator a) old new e v h = subst (λ (l : List Variable). has l v ≡ true) (sym e) h
kept_own (Binary operator a b) old new e v h = subst (λ (l : List Variable). has l v ≡ true) (sym e) h
kept_own (Ternary operator a b c) old new e v h = subst (λ (l : List Variable). has l v ≡ true) (sym e) h
kept_own (Quaternary operator a b c d) old new e v h = subst (λ (l : List Variable). has l v ≡ true) (sym e) h
kept_own (Octonary a b c d i j k l) old new e v h = subst (λ (vs : List Variable). has vs v ≡ true) (sym e) h

-- the variables of a node's term are those of its arguments, and the one that it is
module _ (trees : List Term) (variables : List Variable) (id : ℕ) (before : (j : ℕ) → j < id → Lists variables (tree_at trees j)) where
  pub lists_build : (n : TermNode) → IsNode id n → HasAll variables (own_variables n) → Lists variables (build trees n)
  unfolding Occurs
  lists_build (Leaf (atom.Truth value)) is own v o = absurd o
  lists_build (Leaf (atom.Constant width number)) is own v o = absurd o
  lists_build (Leaf (atom.Open x)) is own v o = subst (λ (w : Variable). has variables w ≡ true) (sym o) own.0
  lists_build (Unary operator a) is own v o = before a is v o
  lists_build (Binary operator a b) is own v o = elim o [
    | inl h ↦ before a is.0 v h
    | inr h ↦ before b is.1 v h
  ]
  lists_build (Ternary operator a b c) is own v o = elim o [
    | inl h ↦ before a is.0 v h
    | inr p ↦ elim p [ inl h ↦ before b is.1 v h | inr h ↦ before c is.2 v h ]
  ]
  lists_build (Quaternary operator a b c d) is own v o = elim o [
    | inl h ↦ before a is.0 v h
    | inr p ↦ elim p [ inl h ↦ before b is.1 v h | inr q ↦ elim q [ inl h ↦ before c is.2 v h | inr h ↦ before d is.3 v h ] ]
  ]
  lists_build (Octonary a b c d i j k l) is own v o = elim o [
    | inl h ↦ before a is.0 v h
    | inr p ↦ elim p [
      | inl h ↦ before b is.1 v h
      | inr q ↦ elim q [
        | inl h ↦ before c is.2 v h
        | inr r ↦ elim r [
          | inl h ↦ before d is.3 v h
          | inr s ↦ elim s [
            | inl h ↦ before i is.4 v h
            | inr t ↦ elim t [
              | inl h ↦ before j is.5 v h
              | inr u ↦ elim u [ inl h ↦ before k is.6 v h | inr h ↦ before l is.7 v h ]
            ]
          ]
        ]
      ]
    ]
  ]

-- the terms of bindings are in the bank
module _ (trees : List Term) (variables : List Variable) (all : ListsBank variables trees) where
  found : (shared : List SharedBinding) (i : ℕ) (b : Binding) → slice_get (map (shared_binding_of trees) shared) i ≡ Some b
      → (x : SharedBinding) × (slice_get shared i ≡ Some x) × (shared_binding_of trees x ≡ b)
  found [] i b e = absurd (cc)
  found (x ∷ shared) zero b e = (x, refl, same_Some (shared_binding_of trees x) b e)
  found (x ∷ shared) (suc i) b e = found shared i b e

  pub binding_listed : (shared : List SharedBinding) → AreSharedBindings (length trees) shared
      → (i : ℕ) (b : Binding) → slice_get (map (shared_binding_of trees) shared) i ≡ Some b → Lists variables b.term
  binding_listed shared within i b e =
      let at = found shared i b e in
      let x : SharedBinding = at.0 in
      let less : x.term < length trees =
      subst (λ (y : SharedBinding). y.term < length trees) (get_or_from_slice_get shared i x x at.1) (within i x (slice_get_within shared i x at.1)) in
      subst (λ (c : Binding). Lists variables c.term) at.2 (all x.term less)
