use Rattle.std.proofs.Common.{◌≤◌, length, map, drop}
use Rattle.std.specs.HashMap.{get}
use Rattle.term_core_spec.specs.Same.{same_variable}
use Rattle.term_bank.specs.Nodes.{Extends}
use Rattle.term_substitution.specs.States.{state_of}
use Rattle.graph_core.specs.Shared.{shared_binding_of}
use Rattle.sim_calls.specs.Bound.{AreBound}
use Rattle.sim_calls.proofs.bound.add_bound.Given as goal

-- the bindings from here on
abbrev pub invariant-loop-i : goal.invariant-loop-i
invariant-loop-i l = record {
  within : l.i ≤ length l.bindings;
  extends : Extends l.fn.bank l.bank;
  longer : length l.fn.bank ≤ length l.bank;
  bound : AreBound l.bank (map (shared_binding_of l.from) (drop l.i l.bindings)) (state_of l.fn.bank (get same_variable l.state)) (get same_variable l.terms);
}

abbrev pub decreases-loop-i : goal.decreases-loop-i
decreases-loop-i l = l.i
