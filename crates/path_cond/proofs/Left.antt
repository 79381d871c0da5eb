-- What leaves a node.
use Rattle.std.proofs.Common.{◌≡◌, List, Some, subst}
use Rattle.std.proofs.lemmas.Option.{slice_get_within, get_or_from_slice_get}
use Rattle.term_core_spec.specs.declared.Variable.{Variable}
use Rattle.term_core_spec.specs.Term.{Term}
use Rattle.term_core_spec.specs.Substitution.{State, substituted}
use Rattle.term_bank.specs.Nodes.{Holds}
use Rattle.graph_core_spec.specs.declared.Next.{Next}
use Rattle.graph_core_spec.specs.declared.Next.TheVariants as next
use Rattle.graph_core_spec.specs.Graph.{Node, Cond, Graph}
use Rattle.visit_walk_spec.specs.declared.Branch.{Branch}
use Rattle.visit_walk_spec.specs.declared.Branch.TheVariants.{Only, IfTrue, IfFalse}
use Rattle.path_cond_spec.specs.Conditions.{Conditional, with_test, node_of_place}
use Rattle.path_cond.specs.declared.ids.Ids.{Ids}
use Rattle.path_cond.specs.declared.leave.Leaving.{Leaving}
use Rattle.path_cond.specs.Bound.{IsListedNode, ListsAll}
use Rattle.path_cond.specs.Ids.{id_at}
use Rattle.path_cond.specs.Branches.{HasBranches, IsLeft, id_by}
use Rattle.path_cond.specs.States.{HasState}

pub left_test : (trees : List Term) (variables : List Variable) (start : State) (test : Term) (on_true on_false : Next) (c : Conditional) (leaving : Leaving) (after : Ids)
    → HasBranches trees c.condition (substituted c.state test) leaving → HasState trees variables start (id_at after) c.state
    → IsLeft trees variables start (Some (Cond test on_true on_false)) c (leaving, after)
left_test trees variables start test on_true on_false c leaving after branches state = record { branch = by; state = state }
  where
    by : (b : Branch) → Holds trees (id_by leaving b) (with_test b c.condition (substituted c.state test))
    by Only = branches.only
    by IfTrue = branches.if_true
    by IfFalse = branches.if_false

-- a node of a place is one of the graph
pub listed_place : (variables : List Variable) (g : Graph) (p : Next) (node : Node) → ListsAll variables g.nodes → node_of_place g p ≡ Some node → IsListedNode variables node
listed_place variables g (next.At n) node all e =
    subst (IsListedNode variables) (get_or_from_slice_get g.nodes n node node e) (all n node (slice_get_within g.nodes n node e))
listed_place variables g next.Ret node all e = absurd (cc)
listed_place variables g next.Err node all e = absurd (cc)
