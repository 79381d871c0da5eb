use Rattle.std.proofs.Common.{List, Some, sym, subst}
use Rattle.std.specs.HashMap.{get}
use Rattle.term_core_spec.specs.Same.{same_variable}
use Rattle.term_core_spec.specs.Term.{Term}
use Rattle.term_core_spec.specs.Substitution.{substituted}
use Rattle.term_bank.specs.Nodes.{tree_at}
use Rattle.graph_core.specs.declared.shared.SharedNode.{SharedNode}
use Rattle.graph_core.specs.Shared.{shared_node_of}
use Rattle.path_cond.specs.Ids.{id_at}
use Rattle.path_cond.specs.Branches.{HasBranches, IsLeft}
use Rattle.path_cond.proofs.Changed.{state_later, state_same}
use Rattle.path_cond.proofs.Current.{stays_set}
use Rattle.path_cond.proofs.Left.{left_test}
use Rattle.path_cond.proofs.leave.leave_node.Goals as goal

pub returns-in_ok-after-in-Basic-clause-current : goal.returns-in_ok-after-in-Basic-clause-current
returns-in_ok-after-in-Basic-clause-current c =
    stays_set c.args.bank.now c.bind.new.bank c.bind.ensures.extends (get same_variable c.args.current.now) c.requires.current c.args.variables.now.keys (id_at c.args.state.now)
    (get same_variable c.bind.new.current) c.requires.full c.in_ok-after-in-Basic.ensures.current

pub returns-in_ok-leaving-in-Cond-clause-current : goal.returns-in_ok-leaving-in-Cond-clause-current
returns-in_ok-leaving-in-Cond-clause-current c =
    stays_set c.args.bank.now c.divide.new.bank c.divide.ensures.extends (get same_variable c.args.current.now) c.requires.current c.args.variables.now.keys (id_at c.args.state.now)
    (get same_variable c.divide.new.current) c.requires.full c.in_ok-leaving-in-Cond.ensures.current

pub returns-in_ok-leaving-in-Cond-clause-left : goal.returns-in_ok-leaving-in-Cond-clause-left
returns-in_ok-leaving-in-Cond-clause-left c = λ start d holds has outside.
    let V = c.args.variables.now.keys in
    let from : List Term = c.args.from.now in
    let b0 : List Term = c.args.bank.now in
    let b1 : List Term = c.divide.new.bank in
    let branches : HasBranches b1 d.condition (substituted d.state (tree_at from c.in-Cond.test)) c.in_ok-leaving-in-Cond.leaving =
    c.in_ok-leaving-in-Cond.ensures.branches start d.state d.condition has outside holds in
    let state = state_later V start b0 b1 (id_at c.in_ok-after-in-Cond.after) d.state c.divide.ensures.extends
    (state_same V start b0 (id_at c.args.state.now) (id_at c.in_ok-after-in-Cond.after) d.state c.in_ok-after-in-Cond.ensures has) in
    subst (λ (n : SharedNode). IsLeft b1 V start (Some (shared_node_of from n)) d (c.in_ok-leaving-in-Cond.leaving, c.in_ok-after-in-Cond.after)) (sym c.in-Cond.is)
    (left_test b1 V start (tree_at from c.in-Cond.test) c.in-Cond.on_true c.in-Cond.on_false d c.in_ok-leaving-in-Cond.leaving c.in_ok-after-in-Cond.after branches state)
