use Rattle.std.proofs.Common.{◌≡◌, List, map, subst}
use Rattle.std.specs.HashMap.{get}
use Rattle.term_core_spec.specs.Same.{same_variable}
use Rattle.term_core_spec.specs.Substitution.{State}
use Rattle.term_core_spec.specs.Term.{Term}
use Rattle.term_bank.proofs.Substitution.{extends_through}
use Rattle.term_substitution.specs.States.{state_of}
use Rattle.graph_core.specs.Shared.{shared_binding_of}
use Rattle.sim_rules_spec.specs.Rules.{at_cut}
use Rattle.sim_rules_terms.proofs.Later.{below_later}
use Rattle.sim_rules_terms.proofs.Parts.{start_is}
use Rattle.sim_calls.specs.Bound.{AreBound}
use Rattle.sim_calls.specs.Sites.{inputs_of, pair_by}
use Rattle.sim_calls.proofs.Banks.{bound_later, cut_later}
use Rattle.sim_calls.proofs.begun.begins.Goals as goal

pub bound_terms-requires-clause-state : goal.bound_terms-requires-clause-state
bound_terms-requires-clause-state c = c.requires.cut.1.of_binary.below

pub bound_terms-requires-2-clause-state : goal.bound_terms-requires-2-clause-state
bound_terms-requires-2-clause-state c =
    below_later c.args.bank.now c.bound_terms.new.bank c.bound_terms.ensures.extends (get same_variable c.args.cut.now.source) c.requires.cut.1.of_source.below

pub begins_over-requires-clause-cut : goal.begins_over-requires-clause-cut
begins_over-requires-clause-cut c =
    let b0 = c.args.bank.now in
    let b2 = c.bound_terms-2.new.bank in (
      c.requires.cut.0,
      cut_later b0 b2 (extends_through b0 c.bound_terms.new.bank b2 c.bound_terms.ensures.extends c.bound_terms-2.ensures.extends) c.requires.cut.0 c.args.cut.now c.requires.cut.1,
    )

pub begins_over-requires-clause-binary : goal.begins_over-requires-clause-binary
begins_over-requires-clause-binary c =
    below_later c.bound_terms.new.bank c.bound_terms-2.new.bank c.bound_terms-2.ensures.extends (get same_variable c.in_ok-binary.binary) c.in_ok-binary.ensures.bound.below

pub begins_over-requires-clause-source : goal.begins_over-requires-clause-source
begins_over-requires-clause-source c = c.in_ok-source.ensures.bound.below

pub returns-clause-tree : goal.returns-clause-tree
returns-clause-tree c = λ k is.
    let b0 : List Term = c.args.bank.now in
    let b1 : List Term = c.bound_terms.new.bank in
    let b2 : List Term = c.bound_terms-2.new.bank in
    let e1 = c.bound_terms.ensures.extends in
    let e2 = c.bound_terms-2.ensures.extends in
    let is1 = cut_later b0 b1 e1 k c.args.cut.now is in
    let site = c.args.calls.now in
    let ids = get same_variable c.in_ok-binary.binary in
    let others = get same_variable c.in_ok-source.source in
    let first = state_of b0 (get same_variable c.args.cut.now.binary) in
    let second = state_of b1 (get same_variable c.args.cut.now.source) in
    let binary = bound_later b1 b2 e2 (inputs_of site.binary) (at_cut k).binary ids
    (subst (λ (s : State). AreBound b1 (inputs_of site.binary) s ids) (start_is b0 (get same_variable c.args.cut.now.binary) (at_cut k).binary is.of_binary)
    (subst (λ (trees : List Term). AreBound b1 (map (shared_binding_of trees) site.binary.inputs.now) first ids) c.bank-from.ensures c.in_ok-binary.ensures.bound)) in
    let source = subst (λ (s : State). AreBound b2 (inputs_of site.source) s others) (start_is b1 (get same_variable c.args.cut.now.source) (at_cut k).source is1.of_source)
    (subst (λ (trees : List Term). AreBound b2 (map (shared_binding_of trees) site.source.inputs.now) second others) c.bank-from-2.ensures c.in_ok-source.ensures.bound) in
    c.begins_over.ensures.tree k (pair_by c.args.calls.now) (cut_later b1 b2 e2 k c.args.cut.now is1) binary source
