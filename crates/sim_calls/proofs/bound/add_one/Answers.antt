use Rattle.std.proofs.Common.{◌≡◌, List}
use Rattle.std.specs.HashMap.{get}
use Rattle.term_core_spec.specs.Term.{Term}
use Rattle.term_core_spec.specs.Same.{same_variable}
use Rattle.term_bank.proofs.Growth.{length-Extends}
use Rattle.term_substitution.specs.States.{state_of}
use Rattle.graph_core.specs.Shared.{shared_binding_of}
use Rattle.sim_calls.proofs.Banks.{bound_later}
use Rattle.sim_calls.proofs.Puts.{put_bound}
use Rattle.sim_calls.proofs.bound.add_one.Goals as goal

pub returns-clause-bound : goal.returns-clause-bound
returns-clause-bound c = λ rest are.
    let b0 : List Term = c.args.bank.now in
    let b1 : List Term = c.transfer_one.new.bank in
    let s = state_of b0 (get same_variable c.args.state.now) in
    let old = get same_variable c.args.terms.now in
    put_bound b1 s (shared_binding_of c.args.from.now c.args.binding) rest c.in_ok-id.id old (get same_variable c.insert.new.self) c.in_ok-id.ensures.tree c.in_ok-insert.ensures.updates.0
    (bound_later b0 b1 c.transfer_one.ensures.extends rest s old are)

pub returns-clause-longer : goal.returns-clause-longer
returns-clause-longer c = length-Extends c.args.bank.now c.transfer_one.new.bank c.transfer_one.ensures.extends
