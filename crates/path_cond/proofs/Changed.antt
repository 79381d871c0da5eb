-- States as the bank grows and variables change.
use Rattle.std.proofs.Common.{◌≡◌, ◌∙◌, ℕ, Bool, true, false, List, [], ◌∷◌, Option, Some, sym, ap, ap₂}
use Rattle.std.specs.Prelude.{slice_get, if◌then◌else◌, is_some}
use Rattle.std.proofs.lemmas.Bool.{false_from_ne_true, false≢true}
use Rattle.term_core_spec.specs.declared.Variable.{Variable}
use Rattle.term_core_spec.specs.Same.{same_variable}
use Rattle.term_core_spec.specs.Term.{Term, and_term}
use Rattle.term_core_spec.specs.Substitution.{State, substituted}
use Rattle.term_core_spec.proofs.Same.{variable-same}
use Rattle.term_bank.specs.Nodes.{tree_at, Holds, Extends}
use Rattle.term_bank.proofs.Substitution.{kept}
use Rattle.graph_core_spec.specs.Graph.{Binding}
use Rattle.path_cond_spec.specs.Conditions.{assigned}
use Rattle.path_cond.specs.Bound.{has}
use Rattle.path_cond.specs.States.{HasState, IsPut, IsFull, IsNumbered}

module _ (variables : List Variable) (start : State) where
  pub state_later : (before now : List Term) (ids : ℕ → Option ℕ) (state : State) → Extends before now → HasState before variables start ids state → HasState now variables start ids state
  state_later before now ids state e h = record {
    bound = λ k v there. let at = h.bound k v there in (at.0, at.1, kept before now at.0 (state v) e at.2);
    others = h.others;
  }

  pub state_same : (trees : List Term) (old new : ℕ → Option ℕ) (state : State) → ((n : ℕ) → new n ≡ old n) → HasState trees variables start old state → HasState trees variables start new state
  state_same trees old new state same h = record {
    bound = λ k v there. let at = h.bound k v there in (at.0, same k ∙ at.1, at.2);
    others = h.others;
  }

  -- one binding more, before the others
  module _ (now : List Term) (old new : ℕ → Option ℕ) (state : State) (b : Binding) (rest : List Binding) (id : ℕ) (h : HasState now variables start old (assigned rest state state))
      (holds : Holds now id (substituted state b.term)) (put : IsPut variables old b.variable id new) (listed : has variables b.variable ≡ true) where
    bound_by : (test : Bool) (k : ℕ) (v : Variable) → slice_get variables k ≡ Some v → new k ≡ (if test then Some id else old k)
        → (i : ℕ) × (new k ≡ Some i) × Holds now i (if test then substituted state b.term else assigned rest state state v)
    bound_by true k v there is = (id, is, holds)
    bound_by false k v there is = let at = h.bound k v there in (at.0, is ∙ at.1, at.2)

    pub assigned_more : HasState now variables start new (assigned (b ∷ rest) state state)
    unfolding assigned
    assigned_more = record {
      bound = λ k v there. bound_by (same_variable v b.variable) k v there (put k v there);
      others = λ v out.
          let other : same_variable v b.variable ≡ false = false_from_ne_true (same_variable v b.variable) (λ same.
          false≢true (sym out ∙ ap (has variables) (variable-same v b.variable same) ∙ listed)) in
          ap (λ (t : Bool). if t then substituted state b.term else assigned rest state state v) other ∙ h.others v out;
    }

  pub assigned_none : (trees : List Term) (ids : ℕ → Option ℕ) (state : State) → HasState trees variables start ids state → HasState trees variables start ids (assigned [] state state)
  unfolding assigned
  assigned_none trees ids state h = h

pub numbered : (terms count : ℕ) (ids : ℕ → Option ℕ) → IsFull terms count ids → IsNumbered count ids
numbered terms count ids full = λ k less. ap is_some (full k less).1

pub both_hold : (before now : List Term) (i x y : ℕ) (s t : Term) → Holds now i (and_term (tree_at before x) (tree_at before y)) → tree_at before x ≡ s → tree_at before y ≡ t → Holds now i (and_term s t)
both_hold before now i x y s t h e f = h ∙ ap Some (ap₂ (λ (u w : Term). and_term u w) e f)
