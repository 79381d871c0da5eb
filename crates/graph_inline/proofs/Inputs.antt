-- The inputs of a call, by variable.
use Rattle.std.proofs.Common.{◌≡◌, ◌∙◌, ℕ, zero, suc, ◌+◌, ◌<◌, ◌≤◌, Bool, true, false, if◌then◌else◌, List, [], ◌∷◌, length, map, drop, get_or, Option, Some, None, refl, sym, ap, subst, arith}
use Rattle.std.proofs.lemmas.List.{drop_more, drop_all}
use Rattle.std.proofs.lemmas.List.Elements.{All-head, All-tail}
use Rattle.std.proofs.lemmas.Option.{same_Some}
use Rattle.term_core_spec.specs.declared.Variable.{Variable}
use Rattle.term_core_spec.specs.Same.{same_variable}
use Rattle.term_core_spec.specs.Term.{Term}
use Rattle.term_bank.specs.Nodes.{tree_at}
use Rattle.graph_core.specs.declared.shared.SharedBinding.{SharedBinding}
use Rattle.graph_core.specs.Shared.{shared_binding_of, AreSharedBindings}
use Rattle.graph_inline_spec.specs.Inlined.{unset_term, start_term}
use Rattle.graph_inline.specs.Taken.{IsTaken}
use Rattle.graph_inline.specs.Moved.{input_of, BindingsTaken}

-- from one input on
pub input_step : (bs : List SharedBinding) (i : ℕ) (d : SharedBinding) (v : Variable) (same : Bool) → i < length bs → same_variable v (get_or bs i d).variable ≡ same
    → input_of (drop i bs) v ≡ (if same then Some (get_or bs i d).term else input_of (drop (i + 1) bs) v)
unfolding input_of
input_step bs i d v same less e =
    ap (λ (l : List SharedBinding). input_of l v) (drop_more bs i d less)
    ∙ ap (λ (c : Bool). if c then Some (get_or bs i d).term else input_of (drop (i + 1) bs) v) e

-- past the last one there is none
pub input_end : (bs : List SharedBinding) (i : ℕ) (v : Variable) → length bs ≤ i → input_of (drop i bs) v ≡ None
unfolding input_of
input_end bs i v past = ap (λ (l : List SharedBinding). input_of l v) (drop_all i bs past)

module _ (v : Variable) where
  pub input_within : (n : ℕ) (bs : List SharedBinding) (id : ℕ) → AreSharedBindings n bs → input_of bs v ≡ Some id → id < n
  unfolding input_of
  input_within n [] id within e = absurd (cc)
  input_within n (b ∷ bs) id within e =
      by (same_variable v b.variable) e (within zero b (omega arith)) (λ rest. input_within n bs id (All-tail (λ (x : SharedBinding). x.term < n) b bs within) rest)
    where
      by : (c : Bool) → (if c then Some b.term else input_of bs v) ≡ Some id → b.term < n → (input_of bs v ≡ Some id → id < n) → id < n
      by true e less later = omega (arith, less, same_Some b.term id e)
      by false e less later = later e

  pub input_taken : (from trees : List Term) (table : List ℕ) (bs : List SharedBinding) (id : ℕ) → BindingsTaken None from trees table bs → input_of bs v ≡ Some id → IsTaken None from trees table id
  unfolding input_of
  input_taken from trees table [] id taken e = absurd (cc)
  input_taken from trees table (b ∷ bs) id taken e =
      by (same_variable v b.variable) e (taken zero b (omega arith))
      (λ rest. input_taken from trees table bs id (All-tail (λ (x : SharedBinding). IsTaken None from trees table x.term) b bs taken) rest)
    where
      by : (c : Bool) → (if c then Some b.term else input_of bs v) ≡ Some id → IsTaken None from trees table b.term → (input_of bs v ≡ Some id → IsTaken None from trees table id)
          → IsTaken None from trees table id
      by true e here later = subst (IsTaken None from trees table) (same_Some b.term id e) here
      by false e here later = later e

  -- the term with which the variable starts
  pub found_is : (from : List Term) (bs : List SharedBinding) (id : ℕ) → input_of bs v ≡ Some id → start_term (map (shared_binding_of from) bs) v ≡ tree_at from id
  unfolding input_of start_term
  found_is from [] id e = absurd (cc)
  found_is from (b ∷ bs) id e = by (same_variable v b.variable) e (λ rest. found_is from bs id rest)
    where
      by : (c : Bool) → (if c then Some b.term else input_of bs v) ≡ Some id → (input_of bs v ≡ Some id → start_term (map (shared_binding_of from) bs) v ≡ tree_at from id)
          → (if c then tree_at from b.term else start_term (map (shared_binding_of from) bs) v) ≡ tree_at from id
      by true e later = ap (tree_at from) (same_Some b.term id e)
      by false e later = later e

  pub unset_is : (from : List Term) (bs : List SharedBinding) → input_of bs v ≡ None → start_term (map (shared_binding_of from) bs) v ≡ unset_term v v.sort
  unfolding input_of start_term
  unset_is from [] e = refl
  unset_is from (b ∷ bs) e = by (same_variable v b.variable) e (λ rest. unset_is from bs rest)
    where
      by : (c : Bool) → (if c then Some b.term else input_of bs v) ≡ None → (input_of bs v ≡ None → start_term (map (shared_binding_of from) bs) v ≡ unset_term v v.sort)
          → (if c then tree_at from b.term else start_term (map (shared_binding_of from) bs) v) ≡ unset_term v v.sort
      by true e later = absurd (cc)
      by false e later = later e
