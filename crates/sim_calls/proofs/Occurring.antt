-- Only the variables that occur in a term are put in.
use Rattle.std.proofs.Common.{◌≡◌, ◌∙◌, ℕ, zero, suc, true, List, [], ◌∷◌, ◌++◌, map, Some, refl, sym, ap, ap₂, inl, inr}
use Rattle.std.specs.Prelude.{slice_get, if◌then◌else◌}
use Rattle.term_core_spec.specs.declared.Atom.TheVariants as atom
use Rattle.term_core_spec.specs.declared.Variable.{Variable}
use Rattle.term_core_spec.specs.Same.{same_variable}
use Rattle.term_core_spec.specs.Term.{Term, Leaf, Unary, Binary, Ternary, Quaternary, Octonary, Occurs}
use Rattle.term_core_spec.specs.Substitution.{State, substituted}
use Rattle.graph_core_spec.specs.Graph.{Binding}
use Rattle.path_cond_spec.specs.Conditions.{assigned}
use Rattle.path_cond.specs.Bound.{has}
use Rattle.sim_calls.specs.Listed.{Lists, ListsLines}

module _ (s u : State) where
  pub substituted_same : (t : Term) → ((v : Variable) → Occurs v t → s v ≡ u v) → substituted s t ≡ substituted u t
  unfolding substituted Occurs
  substituted_same (Leaf (atom.Truth known)) h = refl
  substituted_same (Leaf (atom.Constant width number)) h = refl
  substituted_same (Leaf (atom.Open variable)) h = h variable refl
  substituted_same (Unary operator x) h = let e = substituted_same x h in cc
  substituted_same (Binary operator x y) h =
      let e = substituted_same x (λ v o. h v (inl o)) in let f = substituted_same y (λ v o. h v (inr o)) in cc
  substituted_same (Ternary operator x y z) h =
      let e = substituted_same x (λ v o. h v (inl o)) in
      let f = substituted_same y (λ v o. h v (inr (inl o))) in
      let g = substituted_same z (λ v o. h v (inr (inr o))) in cc
  substituted_same (Quaternary operator w x y z) h =
      let d = substituted_same w (λ v o. h v (inl o)) in
      let e = substituted_same x (λ v o. h v (inr (inl o))) in
      let f = substituted_same y (λ v o. h v (inr (inr (inl o)))) in
      let g = substituted_same z (λ v o. h v (inr (inr (inr o)))) in cc
  substituted_same (Octonary a b c d e f g k) h =
      rw (
        substituted_same a (λ v o. h v (inl o)),
        substituted_same b (λ v o. h v (inr (inl o))),
        substituted_same c (λ v o. h v (inr (inr (inl o)))),
        substituted_same d (λ v o. h v (inr (inr (inr (inl o))))),
        substituted_same e (λ v o. h v (inr (inr (inr (inr (inl o)))))),
        substituted_same f (λ v o. h v (inr (inr (inr (inr (inr (inl o))))))),
        substituted_same g (λ v o. h v (inr (inr (inr (inr (inr (inr (inl o)))))))),
        substituted_same k (λ v o. h v (inr (inr (inr (inr (inr (inr (inr o)))))))),
      ) refl

  -- what bindings give over two states
  pub assigned_same : (bindings : List Binding) (rest : State) (v : Variable)
      → ((i : ℕ) (b : Binding) → slice_get bindings i ≡ Some b → (w : Variable) → Occurs w b.term → s w ≡ u w)
      → assigned bindings s rest v ≡ assigned bindings u rest v
  unfolding assigned
  assigned_same [] rest v h = refl
  assigned_same (b ∷ bindings) rest v h =
      ap₂ (λ (x y : Term). if same_variable v b.variable then x else y) (substituted_same b.term (h 0 b refl))
      (assigned_same bindings rest v (λ i c there. h (suc i) c there))

  -- lines and a last one, whose variables are listed
  module _ (variables : List Variable) (same : (v : Variable) → has variables v ≡ true → s v ≡ u v) where
    pub listed_same : (t : Term) → Lists variables t → substituted s t ≡ substituted u t
    listed_same t lists = substituted_same t (λ v o. same v (lists v o))

    pub lines_same : (lines : List Term) (last : Term) → ListsLines variables lines → Lists variables last
        → map (substituted s) (lines ++ last ∷ []) ≡ map (substituted u) (lines ++ last ∷ [])
    lines_same [] last all one = ap (λ (t : Term). t ∷ []) (listed_same last one)
    lines_same (line ∷ lines) last all one =
        ap₂ (λ (t : Term) (ts : List Term). t ∷ ts) (listed_same line (all 0 line refl)) (lines_same lines last (λ i t there. all (suc i) t there) one)
