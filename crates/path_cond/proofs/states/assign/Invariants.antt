use Rattle.std.proofs.Common.{◌≤◌, length, map, drop}
use Rattle.std.specs.Prelude.{nat_eq}
use Rattle.std.specs.HashMap.{get}
use Rattle.term_core_spec.specs.Same.{same_variable}
use Rattle.term_core_spec.specs.Substitution.{State}
use Rattle.term_bank.specs.Nodes.{Extends}
use Rattle.term_substitution.specs.Transfers.{TakesMore}
use Rattle.graph_core.specs.Shared.{shared_binding_of}
use Rattle.path_cond_spec.specs.Conditions.{assigned}
use Rattle.path_cond.specs.Ids.{id_at}
use Rattle.path_cond.specs.States.{HasState, IsCurrent}
use Rattle.path_cond.proofs.states.assign.Given as goal

abbrev pub invariant-loop-i : goal.invariant-loop-i
invariant-loop-i l = record {
  within : l.i ≤ length l.bindings;
  extends : Extends l.fn.bank l.bank;
  state : (start state : State) → HasState l.fn.bank l.variables.keys start (id_at l.fn.ids) state → IsCurrent l.fn.bank (get same_variable l.current) state
      → HasState l.bank l.variables.keys start (id_at l.made) (assigned (map (shared_binding_of l.from) (drop l.i l.bindings)) state state);
  more : TakesMore l.from (get same_variable l.current) l.fn.bank l.bank (get nat_eq l.fn.done) (get nat_eq l.done);
}

abbrev pub decreases-loop-i : goal.decreases-loop-i
decreases-loop-i l = l.i
