use Rattle.std.proofs.Common.{◌≡◌, ◌∙◌, ℕ, ◌+◌, ◌-◌, ◌<◌, List, [], ◌∷◌, length, map, drop, get_or, sym, ap, subst, arith}
use Rattle.std.specs.HashMap.{get}
use Rattle.std.proofs.lemmas.List.{drop_all, drop_more}
use Rattle.term_core_spec.specs.Same.{same_variable}
use Rattle.term_core_spec.specs.Substitution.{State}
use Rattle.term_core_spec.specs.Term.{Term}
use Rattle.term_bank.proofs.Substitution.{extends_through}
use Rattle.term_substitution.specs.States.{state_of}
use Rattle.graph_core.specs.declared.shared.SharedBinding.{SharedBinding}
use Rattle.graph_core.specs.Shared.{shared_binding_of}
use Rattle.graph_core_spec.specs.Graph.{Binding}
use Rattle.path_cond.proofs.Current.{same_terms}
use Rattle.path_cond.proofs.Unbound.{unbound}
use Rattle.sim_rules_terms.proofs.Later.{below_later, itself}
use Rattle.sim_calls.specs.Bound.{AreBound}
use Rattle.sim_calls.proofs.Puts.{empty_bound}
use Rattle.sim_calls.proofs.bound.add_bound.Goals as goal

pub loop-i-init : goal.loop-i-init
loop-i-init c =
    let s = state_of c.args.bank.now (get same_variable c.args.state.now) in
    record {
      within = omega arith;
      extends = itself c.args.bank.now;
      longer = omega arith;
      bound = subst (λ (l : List SharedBinding). AreBound c.args.bank.now (map (shared_binding_of c.args.from.now) l) s (get same_variable c.args.terms.now))
          (sym (drop_all (length c.args.bindings.now) c.args.bindings.now (omega arith))) (empty_bound c.args.bank.now s (get same_variable c.args.terms.now) c.requires.empty);
    }

pub add_one-requires-clause-state : goal.add_one-requires-clause-state
add_one-requires-clause-state c = below_later c.args.bank.now c.loop-i.bank c.loop-i.invariant.extends (get same_variable c.args.state.now) c.requires.state

pub loop-i-preserved : goal.loop-i-preserved
loop-i-preserved c =
    let b0 : List Term = c.args.bank.now in
    let b1 : List Term = c.loop-i.bank in
    let b2 : List Term = c.add_one.new.bank in
    let bs : List SharedBinding = c.args.bindings.now in
    let f : SharedBinding → Binding = shared_binding_of c.args.from.now in
    let i : ℕ = c.loop-i.i - 1 in
    let r : SharedBinding = get_or bs i unbound in
    let inside = c.loop-i.invariant.within in
    let less : i < length bs = omega arith in
    let next : i + 1 ≡ c.loop-i.i = omega arith in
    let ids = get same_variable c.args.state.now in
    let new = get same_variable c.add_one.new.terms in
    let split : drop i bs ≡ r ∷ drop c.loop-i.i bs =
    drop_more bs i unbound less ∙ ap (λ (n : ℕ). r ∷ drop n bs) next in
    let state : state_of b1 ids ≡ state_of b0 ids = λ k v. same_terms b0 b1 c.loop-i.invariant.extends ids c.requires.state v k in
    let before = subst (λ (s : State). AreBound b1 (map f (drop c.loop-i.i bs)) s (get same_variable c.loop-i.terms)) (sym state) c.loop-i.invariant.bound in
    let after : AreBound b2 (f r ∷ map f (drop c.loop-i.i bs)) (state_of b1 ids) new = c.in_ok-add_one.ensures.bound (map f (drop c.loop-i.i bs)) before in
    record {
      within = omega arith;
      extends = extends_through b0 b1 b2 c.loop-i.invariant.extends c.add_one.ensures.extends;
      longer = omega arith;
      bound = subst (λ (l : List SharedBinding). AreBound b2 (map f l) (state_of b0 ids) new) (sym split) (subst (λ (s : State). AreBound b2 (f r ∷ map f (drop c.loop-i.i bs)) s new) state after);
    }
