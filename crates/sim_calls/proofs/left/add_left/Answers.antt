use Rattle.std.proofs.Common.{◌≡◌, ◌∙◌, ℕ, ◌+◌, ◌<◌, Bool, true, false, cond, List, [], ◌∷◌, ◌++◌, length, Option, Some, None, take, refl, sym, ap, subst, inl, inr, arith}
use Rattle.std.specs.Prelude.{is_some, slice_get}
use Rattle.std.specs.HashMap.{get}
use Rattle.std.proofs.lemmas.Bool.{cases_Bool, or_cases, false≢true}
use Rattle.std.proofs.lemmas.List.{take_more, take_all}
use Rattle.std.proofs.lemmas.List.Folds.{list_any-append}
use Rattle.std.proofs.lemmas.Option.{same_Some, slice_get_within, get_or_from_slice_get}
use Rattle.term_core_spec.specs.declared.Variable.{Variable}
use Rattle.term_core_spec.specs.Same.{same_variable}
use Rattle.term_core_spec.proofs.Same.{variable-same}
use Rattle.term_core_spec.specs.Term.{Term}
use Rattle.term_bank.specs.Nodes.{Holds}
use Rattle.term_bank.proofs.Substitution.{kept, extends_through}
use Rattle.path_cond.specs.Bound.{has}
use Rattle.sim_rules_spec.specs.Calls.{left}
use Rattle.sim_rules_terms.proofs.Later.{itself}
use Rattle.sim_calls.proofs.Puts.{same_turned}
use Rattle.sim_calls.proofs.left.add_left.Goals as goal

pub loop-number-init : goal.loop-number-init
loop-number-init c = record {
  extends = itself c.args.bank.now;
  longer = omega arith;
  each = λ v id is. let bad : None ≡ Some id = sym (c.requires v) ∙ is in absurd (cc);
  listed = λ v h. absurd (false≢true h);
}

pub loop-number-preserved : goal.loop-number-preserved
loop-number-preserved c =
    let V : List Variable = c.args.variables.now.keys in
    let n : ℕ = c.loop-number.number in
    let x : Variable = c.index.result.now in
    let y : Variable = c.index-in-loop-number.result.now in
    let id : ℕ = c.in_ok-id.id in
    let b1 : List Term = c.loop-number.bank in
    let b2 : List Term = c.left_term.new.bank in
    let old : Variable → Option ℕ = get same_variable c.loop-number.terms in
    let new : Variable → Option ℕ = get same_variable c.insert.new.self in
    let at : slice_get V n ≡ Some x = c.index.ensures in
    let same : x ≡ y = same_Some x y (sym at ∙ c.index-in-loop-number.ensures) in
    let updates : (q : Variable) → new q ≡ cond (same_variable y q) (Some id) (old q) = c.in_ok-insert.ensures.updates.0 in
    let here : Holds b2 id (left y) = subst (λ (v : Variable). Holds b2 id (left v)) same c.in_ok-id.ensures.tree in
    let grown : take (n + 1) V ≡ take n V ++ y ∷ [] =
    take_more V n y (slice_get_within V n x at) ∙ ap (λ (v : Variable). take n V ++ v ∷ []) (get_or_from_slice_get V n x y at ∙ same) in
    record {
      extends = extends_through c.args.bank.now b1 b2 c.loop-number.invariant.extends c.left_term.ensures.extends;
      longer = omega arith;
      each = λ v i is. each_by b1 b2 old y id here (λ w j e. kept b1 b2 j (left w) c.left_term.ensures.extends (c.loop-number.invariant.each w j e)) v i (same_variable y v) refl (sym (updates v) ∙ is);
      listed = λ v h. ap is_some (updates v) ∙ listed_by V n old y id c.loop-number.invariant.listed v (same_variable y v) refl (ap (λ (l : List Variable). has l v) (sym grown) ∙ h);
    }
  where
    each_by : (b1 b2 : List Term) (old : Variable → Option ℕ) (y : Variable) (id : ℕ) → Holds b2 id (left y)
        → ((w : Variable) (j : ℕ) → old w ≡ Some j → Holds b2 j (left w))
        → (v : Variable) (i : ℕ) (b : Bool) → same_variable y v ≡ b → cond b (Some id) (old v) ≡ Some i → Holds b2 i (left v)
    each_by b1 b2 old y id here before v i true e is =
        subst (λ (k : ℕ). Holds b2 k (left v)) (same_Some id i is) (subst (λ (w : Variable). Holds b2 id (left w)) (variable-same y v e) here)
    each_by b1 b2 old y id here before v i false e is = before v i is

    listed_by : (V : List Variable) (n : ℕ) (old : Variable → Option ℕ) (y : Variable) (id : ℕ)
        → ((w : Variable) → has (take n V) w ≡ true → is_some (old w) ≡ true)
        → (v : Variable) (b : Bool) → same_variable y v ≡ b → has (take n V ++ y ∷ []) v ≡ true → is_some (cond b (Some id) (old v)) ≡ true
    listed_by V n old y id before v true e h = refl
    listed_by V n old y id before v false e h = elim (or_cases (has (take n V) v) (has (y ∷ []) v) (sym (list_any-append (same_variable v) (take n V) (y ∷ [])) ∙ h)) [
      | inl earlier ↦ before v earlier
      | inr here ↦ elim (or_cases (same_variable v y) false here) [
        | inl one ↦ absurd (false≢true (sym e ∙ same_turned y v ∙ one))
        | inr bad ↦ absurd (false≢true bad)
      ]
    ]

pub returns-clause-left : goal.returns-clause-left
returns-clause-left c = record {
  each = c.loop-number.invariant.each;
  listed = λ v h. c.loop-number.invariant.listed v (ap (λ (l : List Variable). has l v) (take_all c.loop-number.number c.args.variables.now.keys (omega arith)) ∙ h);
}
