use Rattle.std.proofs.Common.{List, length, sym, subst, ap, ◌∙◌, Some}
use Rattle.std.proofs.lemmas.Result.{IfOk-weaker}
use Rattle.std.specs.Prelude.{Option}
use Rattle.term_core_spec.specs.Term.{Term}
use Rattle.graph_core_spec.specs.Graph.{Node}
use Rattle.graph_core.specs.Graphs.{graph_of}
use Rattle.graph_core.specs.Shared.{shared_node_of, IsSharedNode}
use Rattle.path_cond.specs.Branches.{IsLeft}
use Rattle.path_cond.specs.Bound.{IsListedNode}
use Rattle.path_cond.proofs.Left.{listed_place}
use Rattle.path_cond.proofs.leave.leave.Goals as goal

pub leave_node-requires-clause-within : goal.leave_node-requires-clause-within
leave_node-requires-clause-within c =
    subst (λ (trees : List Term). IsSharedNode (length trees) c.in-Some.node.now) (sym c.bank.ensures) c.in-Some.ensures.within

pub leave_node-requires-clause-listed : goal.leave_node-requires-clause-listed
leave_node-requires-clause-listed c =
    subst (λ (trees : List Term). IsListedNode c.args.variables.now.keys (shared_node_of trees c.in-Some.node.now)) (sym c.bank.ensures)
    (listed_place c.args.variables.now.keys (graph_of c.args.graph.now) c.args.place (shared_node_of c.args.graph.now.trees c.in-Some.node.now) c.requires.listed (sym c.in-Some.ensures.node))

pub returns-in-Some-clause-left : goal.returns-in-Some-clause-left
returns-in-Some-clause-left c = λ start d holds has outside.
    IfOk-weaker c.leave_node.result _ _
    (λ l left. subst (λ (o : Option Node). IsLeft c.leave_node.new.bank c.args.variables.now.keys start o d l)
    (ap (λ (trees : List Term). Some (shared_node_of trees c.in-Some.node.now)) c.bank.ensures ∙ c.in-Some.ensures.node) left)
    (c.leave_node.ensures.left start d holds has outside)

pub returns-in-None-clause-left : goal.returns-in-None-clause-left
returns-in-None-clause-left c = λ start d holds has outside.
    IfOk-weaker c.unchanged.result _ _
    (λ l left. subst (λ (o : Option Node). IsLeft c.args.bank.now c.args.variables.now.keys start o d l) c.in-None.ensures.node left)
    (c.unchanged.ensures c.args.bank.now c.args.variables.now.keys start d holds has)
