use Rattle.std.proofs.Common.{◌≡◌, ◌∙◌, ℕ, ◌+◌, ◌-◌, ◌<◌, true, List, ◌∷◌, length, get_or, map, drop, sym, ap, ap₂, subst, arith}
use Rattle.std.specs.Prelude.{nat_eq}
use Rattle.std.specs.HashMap.{get}
use Rattle.std.proofs.lemmas.List.{drop_all, drop_more, length-map}
use Rattle.std.proofs.Math.ListN.{get_or-map}
use Rattle.term_core_spec.specs.Same.{same_variable}
use Rattle.term_substitution.proofs.Taking.{takes_none, takes_then}
use Rattle.graph_core_spec.specs.Graph as spec
use Rattle.graph_core.specs.declared.shared.SharedBinding.{SharedBinding}
use Rattle.graph_core.specs.Shared.{shared_binding_of}
use Rattle.path_cond_spec.specs.Conditions.{assigned}
use Rattle.path_cond.specs.Bound.{has}
use Rattle.path_cond.specs.Ids.{id_at}
use Rattle.path_cond.specs.States.{HasState}
use Rattle.path_cond.proofs.Banks.{extends_itself, extends_then}
use Rattle.path_cond.proofs.Changed.{state_same, assigned_none}
use Rattle.path_cond.proofs.Current.{current_later}
use Rattle.path_cond.proofs.Unbound.{unbound}
use Rattle.path_cond.proofs.Untaken.{untaken_within, untaken_taken}
use Rattle.path_cond.proofs.states.assign.Goals as goal

pub loop-i-init : goal.loop-i-init
loop-i-init c = record {
  within = omega arith;
  extends = extends_itself c.args.bank.now;
  state = λ start state holds current.
      subst (λ (l : List SharedBinding). HasState c.args.bank.now c.args.variables.now.keys start (id_at c.in_ok-made.made) (assigned (map (shared_binding_of c.args.from.now) l) state state))
      (sym (drop_all (length c.args.bindings.now) c.args.bindings.now (omega arith)))
      (assigned_none c.args.variables.now.keys start c.args.bank.now (id_at c.in_ok-made.made) state
      (state_same c.args.variables.now.keys start c.args.bank.now (id_at c.args.ids.now) (id_at c.in_ok-made.made) state c.in_ok-made.ensures holds));
  more = takes_none c.args.from.now c.args.bank.now (get same_variable c.args.current.now) (get nat_eq c.args.done.now) (untaken_within (length c.args.bank.now) (get nat_eq c.args.done.now) c.requires.done);
}

pub assign_one-requires-clause-listed : goal.assign_one-requires-clause-listed
assign_one-requires-clause-listed c =
    let bs : List SharedBinding = c.args.bindings.now in
    let f : SharedBinding → spec.Binding = shared_binding_of c.args.from.now in
    let i : ℕ = c.loop-i.i - 1 in
    let inside = c.loop-i.invariant.within in
    let long : length (map f bs) ≡ length bs = length-map bs f in
    let less : i < length (map f bs) = omega arith in
    subst (λ (b : spec.Binding). has c.args.variables.now.keys b.variable ≡ true) (get_or-map f bs i unbound) (c.requires.listed i (f unbound) less)

pub loop-i-preserved : goal.loop-i-preserved
loop-i-preserved c =
    let bs : List SharedBinding = c.args.bindings.now in
    let f : SharedBinding → spec.Binding = shared_binding_of c.args.from.now in
    let i : ℕ = c.loop-i.i - 1 in
    let r : SharedBinding = get_or bs i unbound in
    let inside = c.loop-i.invariant.within in
    let less : i < length bs = omega arith in
    let next : i + 1 ≡ c.loop-i.i = omega arith in
    let split : drop i bs ≡ r ∷ drop c.loop-i.i bs = drop_more bs i unbound less ∙ ap (λ (n : ℕ). r ∷ drop n bs) next in
    let ids = get same_variable c.args.current.now in
    record {
      within = omega arith;
      extends = extends_then c.args.bank.now c.loop-i.bank c.assign_one.new.bank c.loop-i.invariant.extends c.assign_one.ensures.extends;
      state = λ start state holds current.
          subst (λ (l : List SharedBinding). HasState c.assign_one.new.bank c.args.variables.now.keys start (id_at c.in_ok-made-2.made) (assigned (map f l) state state)) (sym split)
          (c.in_ok-made-2.ensures.state start state (map f (drop c.loop-i.i bs)) (c.loop-i.invariant.state start state holds current)
          (current_later c.args.bank.now c.loop-i.bank c.loop-i.invariant.extends ids c.requires.current state current)
          (c.loop-i.invariant.more.taken state current (untaken_taken state c.args.from.now c.args.bank.now (get nat_eq c.args.done.now) c.requires.done)));
      more = takes_then c.args.from.now c.args.bank.now c.loop-i.bank c.assign_one.new.bank ids (get nat_eq c.args.done.now) (get nat_eq c.loop-i.done) (get nat_eq c.assign_one.new.done)
          c.loop-i.invariant.extends c.requires.current c.loop-i.invariant.more c.in_ok-made-2.ensures.more;
    }
