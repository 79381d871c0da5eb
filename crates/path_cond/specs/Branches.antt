-- The conditions of the branches of a node.
use Rattle.std.specs.Prelude.{ℕ, List, Option}
use Rattle.term_core_spec.specs.declared.Variable.{Variable}
use Rattle.term_core_spec.specs.Term.{Term}
use Rattle.term_core_spec.specs.Substitution.{State}
use Rattle.graph_core_spec.specs.Graph.{Node}
use Rattle.term_bank.specs.Nodes.{Holds}
use Rattle.visit_walk_spec.specs.declared.Branch.{Branch}
use Rattle.visit_walk_spec.specs.declared.Branch.TheVariants.{Only, IfTrue, IfFalse}
use Rattle.path_cond_spec.specs.Conditions.{Conditional, with_test, condition_after, state_after}
use Rattle.path_cond.specs.declared.ids.Ids.{Ids}
use Rattle.path_cond.specs.declared.leave.Leaving.{Leaving}
use Rattle.path_cond.specs.Ids.{id_at}
use Rattle.path_cond.specs.States.{HasState}

abbrev pub id_by : Leaving → Branch → ℕ
id_by l Only = l.only
id_by l IfTrue = l.if_true
id_by l IfFalse = l.if_false

-- of a node with this condition and this test
pub record HasBranches (trees : List Term) (condition test : Term) (l : Leaving) : Type 0 where
  pub only : Holds trees l.only (with_test Only condition test)
  pub if_true : Holds trees l.if_true (with_test IfTrue condition test)
  pub if_false : Holds trees l.if_false (with_test IfFalse condition test)

-- what leaves a node, from the conditional there: the condition of each branch, and the state after it
pub record IsLeft (trees : List Term) (variables : List Variable) (start : State) (node : Option Node) (c : Conditional) (left : Leaving × Ids) : Type 0 where
  pub branch : (b : Branch) → Holds trees (id_by left.0 b) (condition_after node b c)
  pub state : HasState trees variables start (id_at left.1) (state_after node c.state)
