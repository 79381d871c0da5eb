use Rattle.std.proofs.Common.{length, take}
use Rattle.std.specs.HashMap.{get}
use Rattle.term_core_spec.specs.Same.{same_variable}
use Rattle.term_core_spec.specs.Substitution.{State}
use Rattle.term_bank.specs.Nodes.{Extends}
use Rattle.term_substitution.specs.States.{AreBelow}
use Rattle.graph_core.specs.Graphs.{graph_of}
use Rattle.path_cond_spec.specs.Conditions.{conditionals}
use Rattle.path_cond.specs.Ids.{id_at}
use Rattle.path_cond.specs.Listed.{junctions_of}
use Rattle.path_cond.specs.States.{IsOutside, IsStart}
use Rattle.path_cond.specs.Table.{AreKnown}
use Rattle.path_cond.proofs.walk.add_visits.Given as goal

abbrev pub invariant-loop-position : goal.invariant-loop-position
invariant-loop-position l = record {
  extends : Extends l.fn.bank l.bank;
  below : AreBelow (length l.bank) (get same_variable l.current);
  outside : (start : State) → IsStart l.fn.bank l.variables.keys start (id_at l.first) (get same_variable l.fn.current)
      → IsOutside l.bank l.variables.keys start (get same_variable l.current);
  visits : (start : State) → IsStart l.fn.bank l.variables.keys start (id_at l.first) (get same_variable l.fn.current)
      → AreKnown l.bank l.variables.keys start (graph_of l.graph) (junctions_of l.visits) l.known
      (take l.position (conditionals (graph_of l.graph) (junctions_of l.visits) start));
}
