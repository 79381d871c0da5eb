-- The map of the terms that are substituted, as it is set to a state.
use Rattle.std.proofs.Common.{◌≡◌, ◌∙◌, ℕ, ◌<◌, zero, suc, true, false, List, [], ◌∷◌, length, Option, Some, None, refl, sym, ap, subst, inl, inr, arith}
use Rattle.std.specs.Prelude.{slice_get}
use Rattle.std.proofs.lemmas.Bool.{cases_Bool, or_cases, false≢true}
use Rattle.std.proofs.lemmas.Option.{same_Some, slice_get_within}
use Rattle.term_core_spec.specs.declared.Variable.{Variable}
use Rattle.term_core_spec.specs.Same.{same_variable}
use Rattle.term_core_spec.specs.Term.{Term, open_term}
use Rattle.term_core_spec.specs.Substitution.{State}
use Rattle.term_core_spec.proofs.Same.{variable-same}
use Rattle.term_bank.specs.Nodes.{Extends}
use Rattle.term_substitution.specs.States.{tree_or, state_of, AreBelow}
use Rattle.path_cond.specs.Bound.{has}
use Rattle.path_cond.specs.States.{HasState, IsCurrent, IsFull, IsSet, IsOutside, Stays}
use Rattle.path_cond.proofs.Banks.{tree_is, kept_tree, within_longer}

-- a variable of the list has a number
pub number_of : (variables : List Variable) (v : Variable) → has variables v ≡ true → (k : ℕ) × (slice_get variables k ≡ Some v)
number_of [] v h = absurd (false≢true h)
number_of (x ∷ rest) v h = elim (or_cases (same_variable v x) (has rest v) h) [
  | inl here ↦ (0, ap Some (sym (variable-same v x here)))
  | inr later ↦ let found = number_of rest v later in (suc found.0, found.1)
]

module _ (variables : List Variable) where
  -- the state's ids are of the bank
  pub full_state : (trees : List Term) (start : State) (ids : ℕ → Option ℕ) (state : State) → HasState trees variables start ids state → IsFull (length trees) (length variables) ids
  full_state trees start ids state holds k less =
      let v = at variables k less in
      let found = holds.bound k v.0 v.1 in
      (found.0, found.1, slice_get_within trees found.0 (state v.0) found.2)
    where
      at : (vs : List Variable) (k : ℕ) → k < length vs → (v : Variable) × (slice_get vs k ≡ Some v)
      at [] k less = absurd (omega arith)
      at (x ∷ vs) zero less = (x, refl)
      at (x ∷ vs) (suc k) less = at vs k (omega arith)

  module _ (ids : ℕ → Option ℕ) (old new : Variable → Option ℕ) (set : IsSet variables ids old new) where
    pub below_set : (n : ℕ) → IsFull n (length variables) ids → AreBelow n old → AreBelow n new
    below_set n full below v i e = elim (cases_Bool (has variables v)) [
      | inl here ↦
          let number = number_of variables v here in
          let id = full number.0 (slice_get_within variables number.0 v number.1) in
          let same : id.0 ≡ i = same_Some id.0 i (sym id.1 ∙ sym (set.bound number.0 v number.1) ∙ e) in
          subst (λ (j : ℕ). j < n) same id.2
      | inr out ↦ below v i (sym (set.others v out) ∙ e)
    ]

    pub current_set : (trees : List Term) (start state : State) → HasState trees variables start ids state → IsOutside trees variables start old → IsCurrent trees new state
    current_set trees start state holds outside v = elim (cases_Bool (has variables v)) [
      | inl here ↦
          let number = number_of variables v here in
          let id = holds.bound number.0 v number.1 in
          ap (λ (o : Option ℕ). tree_or trees o (open_term v)) (set.bound number.0 v number.1 ∙ id.1) ∙ tree_is trees id.0 (state v) id.2
      | inr out ↦ ap (λ (o : Option ℕ). tree_or trees o (open_term v)) (set.others v out) ∙ outside v out ∙ sym (holds.others v out)
    ]

-- as the bank grows
module _ (before now : List Term) (e : Extends before now) (ids : Variable → Option ℕ) (below : AreBelow (length before) ids) where
  pub same_terms : (v : Variable) → state_of now ids v ≡ state_of before ids v
  same_terms v = by (ids v) refl
    where
      by : (o : Option ℕ) → ids v ≡ o → tree_or now o (open_term v) ≡ tree_or before o (open_term v)
      by None is = refl
      by (Some i) is = kept_tree before now i e (below v i is)

  pub current_later : (state : State) → IsCurrent before ids state → IsCurrent now ids state
  current_later state current v = same_terms v ∙ current v

  pub below_later : AreBelow (length now) ids
  below_later v i is = within_longer before now i e (below v i is)

  module _ (variables : List Variable) where
    pub outside_later : (start : State) → IsOutside before variables start ids → IsOutside now variables start ids
    outside_later start outside v out = same_terms v ∙ outside v out

    pub stays_same : Stays before now variables ids ids
    stays_same = record { below = below_later; outside = outside_later }

    pub stays_set : (state : ℕ → Option ℕ) (new : Variable → Option ℕ) → IsFull (length before) (length variables) state → IsSet variables state ids new → Stays before now variables ids new
    stays_set state new full set = record {
      below = λ v i is. within_longer before now i e (below_set variables state ids new set (length before) full below v i is);
      outside = λ start outside v out. ap (λ (o : Option ℕ). tree_or now o (open_term v)) (set.others v out) ∙ same_terms v ∙ outside v out;
    }
