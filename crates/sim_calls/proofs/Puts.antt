-- Maps with one id more.
use Rattle.std.proofs.Common.{◌≡◌, ◌∙◌, ℕ, ◌<◌, Bool, true, false, cond, List, [], ◌∷◌, length, Option, Some, None, refl, sym, ap, ap₂, subst, inl, inr}
use Rattle.std.specs.Prelude.{if◌then◌else◌}
use Rattle.std.proofs.lemmas.Bool.{cases_Bool, false_from_ne_true, false≢true}
use Rattle.std.proofs.lemmas.Option.{same_Some, slice_get_within}
use Rattle.term_core_spec.specs.declared.Family.{Family}
use Rattle.term_core_spec.specs.declared.Variable.{Variable}
use Rattle.term_core_spec.specs.Same.{same_variable}
use Rattle.term_core_spec.proofs.Same.{variable-same}
use Rattle.term_core_spec.specs.Term.{Term, open_term}
use Rattle.term_core_spec.specs.Substitution.{State, substituted}
use Rattle.term_bank.specs.Nodes.{Holds}
use Rattle.term_bank.proofs.Substitution.{is_at}
use Rattle.term_substitution.specs.States.{tree_or, AreBelow}
use Rattle.graph_core_spec.specs.Graph.{Binding}
use Rattle.path_cond_spec.specs.Conditions.{assigned}
use Rattle.path_cond.specs.States.{IsMapOf}
use Rattle.path_cond.proofs.Numbers.{same_self}
use Rattle.sim_calls.specs.Bound.{AreBound}
use Rattle.sim_calls.specs.Cuts.{IsPut}
use Rattle.sim_calls.specs.Left.{IsEmpty}

pub same_turned : (x y : Variable) → same_variable x y ≡ same_variable y x
same_turned x y = elim (cases_Bool (same_variable x y)) [
  | inl same ↦ let e : x ≡ y = variable-same x y same in ap₂ same_variable e (sym e)
  | inr other ↦
      other ∙ sym (false_from_ne_true (same_variable y x) (λ h. false≢true (sym other ∙ ap (same_variable x) (variable-same y x h) ∙ same_self x)))
]

-- variables of different families are different
pub other_family : (v w : Variable) (f : Family) → v.family ≡ f → (f ≡ w.family → ⊥) → same_variable v w ≡ false
other_family v w f e apart = false_from_ne_true (same_variable v w) (λ h. apart (sym e ∙ ap (λ (u : Variable). u.family) (variable-same v w h)))

module _ (trees : List Term) where
  empty_below : (ids : Variable → Option ℕ) → IsEmpty ids → AreBelow (length trees) ids
  empty_below ids empty v i is = let bad : None ≡ Some i = sym (empty v) ∙ is in absurd (cc)

  pub empty_map : (ids : Variable → Option ℕ) → IsEmpty ids → IsMapOf trees ids open_term
  empty_map ids empty = record {
    current = λ v. ap (λ (o : Option ℕ). tree_or trees o (open_term v)) (empty v);
    below = empty_below ids empty;
  }

  pub empty_bound : (s : State) (ids : Variable → Option ℕ) → IsEmpty ids → AreBound trees [] s ids
  unfolding assigned
  empty_bound s ids empty = record {
    given = λ rest v. ap (λ (o : Option ℕ). tree_or trees o (rest v)) (empty v);
    below = empty_below ids empty;
  }

  module _ (x : Variable) (id : ℕ) (t : Term) (holds : Holds trees id t) (old new : Variable → Option ℕ) (put : IsPut x id old new) where
    put_by : (v : Variable) (otherwise : Term) (b : Bool) → tree_or trees (cond b (Some id) (old v)) otherwise ≡ (if b then t else tree_or trees (old v) otherwise)
    put_by v otherwise true = is_at trees id t holds
    put_by v otherwise false = refl

    pub put_or : (v : Variable) (otherwise : Term) → tree_or trees (new v) otherwise ≡ (if same_variable v x then t else tree_or trees (old v) otherwise)
    put_or v otherwise =
        ap (λ (o : Option ℕ). tree_or trees o otherwise) (put v ∙ ap (λ (b : Bool). cond b (Some id) (old v)) (same_turned x v)) ∙ put_by v otherwise (same_variable v x)

    below_by : (v : Variable) (i : ℕ) → AreBelow (length trees) old → (b : Bool) → cond b (Some id) (old v) ≡ Some i → i < length trees
    below_by v i below true is = subst (λ (k : ℕ). k < length trees) (same_Some id i is) (slice_get_within trees id t holds)
    below_by v i below false is = below v i is

    pub put_below : AreBelow (length trees) old → AreBelow (length trees) new
    put_below below v i is = below_by v i below (same_variable x v) (sym (put v) ∙ is)

    pub put_map : (s : State) → IsMapOf trees old s → IsMapOf trees new (λ v. if same_variable v x then t else s v)
    put_map s is = record {
      current = λ v. put_or v (open_term v) ∙ ap (λ (u : Term). if same_variable v x then t else u) (is.current v);
      below = put_below is.below;
    }

  pub put_bound : (s : State) (b : Binding) (rest : List Binding) (id : ℕ) (old new : Variable → Option ℕ) → Holds trees id (substituted s b.term)
      → IsPut b.variable id old new → AreBound trees rest s old → AreBound trees (b ∷ rest) s new
  unfolding assigned
  put_bound s b rest id old new holds put are = record {
    given = λ others v.
        put_or b.variable id (substituted s b.term) holds old new put v (others v)
        ∙ ap (λ (u : Term). if same_variable v b.variable then substituted s b.term else u) (are.given others v);
    below = put_below b.variable id (substituted s b.term) holds old new put are.below;
  }
