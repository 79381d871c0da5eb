-- What is known of visits, as the bank and the list of visits grow.
use Rattle.std.proofs.Common.{◌≡◌, ◌∙◌, ℕ, ◌+◌, ◌<◌, zero, suc, List, [], ◌∷◌, ◌++◌, length, Option, Some, None, refl, sym, ap, subst, inl, inr, arith, length-append}
use Rattle.std.specs.Prelude.{slice_get}
use Rattle.std.proofs.lemmas.Bool.{cases_lt}
use Rattle.std.proofs.lemmas.Option.{same_Some, slice_get_within}
use Rattle.term_core_spec.specs.declared.Variable.{Variable}
use Rattle.term_core_spec.specs.Term.{Term}
use Rattle.term_core_spec.specs.Substitution.{State}
use Rattle.term_bank.specs.Nodes.{Extends}
use Rattle.term_bank.proofs.Substitution.{kept}
use Rattle.graph_core_spec.specs.Graph.{Graph, Node}
use Rattle.path_cond_spec.specs.Junctions.{Junction}
use Rattle.path_cond_spec.specs.Conditions.{Conditional, node_of_junction, state_after, condition_after}
use Rattle.path_cond.specs.declared.ids.Ids.{Ids}
use Rattle.path_cond.specs.declared.leave.Leaving.{Leaving}
use Rattle.path_cond.specs.declared.known.Known.{Known}
use Rattle.path_cond.specs.Ids.{id_at}
use Rattle.path_cond.specs.Branches.{IsLeft, id_by}
use Rattle.path_cond.specs.Known.{HasConditional}
use Rattle.path_cond.specs.Table.{IsKnownAt, AreKnown, IsPushed}
use Rattle.path_cond.proofs.Changed.{state_later}

module _ {X : Type 0} where
  pub at_front : (xs ys : List X) (i : ℕ) (x : X) → slice_get xs i ≡ Some x → slice_get (xs ++ ys) i ≡ Some x
  at_front [] ys i x e = let bad : None ≡ Some x = e in absurd (cc)
  at_front (y ∷ xs) ys zero x e = e
  at_front (y ∷ xs) ys (suc i) x e = at_front xs ys i x e

  pub front_at : (xs ys : List X) (i : ℕ) (x : X) → i < length xs → slice_get (xs ++ ys) i ≡ Some x → slice_get xs i ≡ Some x
  front_at [] ys i x less e = absurd (omega arith)
  front_at (y ∷ xs) ys zero x less e = e
  front_at (y ∷ xs) ys (suc i) x less e = front_at xs ys i x (omega arith) e

  pub at_seam : (xs : List X) (y : X) → slice_get (xs ++ y ∷ []) (length xs) ≡ Some y
  at_seam [] y = refl
  at_seam (x ∷ xs) y = at_seam xs y

  pub length_more : (xs : List X) (y : X) (all : List X) → all ≡ xs ++ y ∷ [] → length all ≡ length xs + 1
  length_more xs y all e = ap length e ∙ length-append xs (y ∷ [])

module _ (variables : List Variable) (start : State) where
  pub left_later : (before now : List Term) (node : Option Node) (c : Conditional) (l : Leaving × Ids) → Extends before now → IsLeft before variables start node c l → IsLeft now variables start node c l
  left_later before now node c l e h = record {
    branch = λ b. kept before now (id_by l.0 b) (condition_after node b c) e (h.branch b);
    state = state_later variables start before now (id_at l.1) (state_after node c.state) e h.state;
  }

  pub conditional_later : (before now : List Term) (c : Conditional) (ids : ℕ × Ids) → Extends before now → HasConditional before variables start c ids → HasConditional now variables start c ids
  conditional_later before now c ids e h = record {
    condition = kept before now ids.0 c.condition e h.condition;
    state = state_later variables start before now (id_at ids.1) c.state e h.state;
  }

  module _ (g : Graph) (js : List Junction) where
    pub known_later : (before now : List Term) (known : Known) (cs : List Conditional) → Extends before now → AreKnown before variables start g js known cs → AreKnown now variables start g js known cs
    known_later before now known cs e are = record {
      conditions = are.conditions;
      states = are.states;
      leaving = are.leaving;
      after = are.after;
      each = λ i c there.
          let at = are.each i c there in
          record {
            condition = at.condition;
            state = at.state;
            leaving = at.leaving;
            after = at.after;
            condition_is = at.condition_is;
            state_is = at.state_is;
            leaving_is = at.leaving_is;
            after_is = at.after_is;
            holds = kept before now at.condition c.condition e at.holds;
            has = state_later variables start before now (id_at at.state) c.state e at.has;
            left = left_later before now (node_of_junction g js i) c (at.leaving, at.after) e at.left;
          };
    }

    module _ (trees : List Term) (old new : Known) (cs : List Conditional) (c : Conditional) (condition : ℕ) (state : Ids) (leaving : Leaving) (after : Ids)
        (are : AreKnown trees variables start g js old cs) (pushed : IsPushed old new condition state leaving after) (has : HasConditional trees variables start c (condition, state))
        (left : IsLeft trees variables start (node_of_junction g js (length cs)) c (leaving, after)) where
      old_at : (i : ℕ) (d : Conditional) → slice_get cs i ≡ Some d → IsKnownAt trees variables start g js new i d
      old_at i d there =
          let at = are.each i d there in
          record {
            condition = at.condition;
            state = at.state;
            leaving = at.leaving;
            after = at.after;
            condition_is = ap (λ (l : List ℕ). slice_get l i) pushed.all_conditions ∙ at_front old.conditions.items (condition ∷ []) i at.condition at.condition_is;
            state_is = ap (λ (l : List Ids). slice_get l i) pushed.all_states ∙ at_front old.states.items (state ∷ []) i at.state at.state_is;
            leaving_is = ap (λ (l : List Leaving). slice_get l i) pushed.all_leaving ∙ at_front old.leaving.items (leaving ∷ []) i at.leaving at.leaving_is;
            after_is = ap (λ (l : List Ids). slice_get l i) pushed.all_after ∙ at_front old.after.items (after ∷ []) i at.after at.after_is;
            holds = at.holds;
            has = at.has;
            left = at.left;
          }

      new_at : IsKnownAt trees variables start g js new (length cs) c
      new_at = record {
        condition = condition;
        state = state;
        leaving = leaving;
        after = after;
        condition_is = subst (λ (n : ℕ). slice_get new.conditions.items n ≡ Some condition) are.conditions (ap (λ (l : List ℕ). slice_get l (length old.conditions.items)) pushed.all_conditions ∙ at_seam old.conditions.items condition);
        state_is = subst (λ (n : ℕ). slice_get new.states.items n ≡ Some state) are.states (ap (λ (l : List Ids). slice_get l (length old.states.items)) pushed.all_states ∙ at_seam old.states.items state);
        leaving_is = subst (λ (n : ℕ). slice_get new.leaving.items n ≡ Some leaving) are.leaving (ap (λ (l : List Leaving). slice_get l (length old.leaving.items)) pushed.all_leaving ∙ at_seam old.leaving.items leaving);
        after_is = subst (λ (n : ℕ). slice_get new.after.items n ≡ Some after) are.after (ap (λ (l : List Ids). slice_get l (length old.after.items)) pushed.all_after ∙ at_seam old.after.items after);
        holds = has.condition;
        has = has.state;
        left = left;
      }

      each_pushed : (i : ℕ) (d : Conditional) → slice_get (cs ++ c ∷ []) i ≡ Some d → IsKnownAt trees variables start g js new i d
      each_pushed i d there = elim (cases_lt i (length cs)) [
        | inl earlier ↦ old_at i d (front_at cs (c ∷ []) i d earlier there)
        | inr past ↦
            let long : length (cs ++ c ∷ []) ≡ length cs + 1 = length-append cs (c ∷ []) in
            let within : i < length (cs ++ c ∷ []) = slice_get_within (cs ++ c ∷ []) i d there in
            let at : length cs ≡ i = omega arith in
            let same : c ≡ d = same_Some c d (sym (at_seam cs c) ∙ ap (slice_get (cs ++ c ∷ [])) at ∙ there) in
            subst (λ (n : ℕ). IsKnownAt trees variables start g js new n d) at (subst (λ (x : Conditional). IsKnownAt trees variables start g js new (length cs) x) same new_at)
      ]

      pub known_pushed : AreKnown trees variables start g js new (cs ++ c ∷ [])
      known_pushed =
          let long : length (cs ++ c ∷ []) ≡ length cs + 1 = length-append cs (c ∷ []) in
          record {
            conditions = length_more old.conditions.items condition new.conditions.items pushed.all_conditions ∙ ap (λ (n : ℕ). n + 1) are.conditions ∙ sym long;
            states = length_more old.states.items state new.states.items pushed.all_states ∙ ap (λ (n : ℕ). n + 1) are.states ∙ sym long;
            leaving = length_more old.leaving.items leaving new.leaving.items pushed.all_leaving ∙ ap (λ (n : ℕ). n + 1) are.leaving ∙ sym long;
            after = length_more old.after.items after new.after.items pushed.all_after ∙ ap (λ (n : ℕ). n + 1) are.after ∙ sym long;
            each = each_pushed;
          }
