use Rattle.std.proofs.Common.{◌≡◌, map, drop}
use Rattle.graph_core_spec.specs.Variables.{with_variables, occurrences_in_bindings}
use Rattle.graph_core.specs.Seen.{AreSeen}
use Rattle.graph_core.specs.Shared.{shared_binding_of}
use Rattle.graph_core.proofs.variables.add_bindings.Given as goal

-- what is left to add completes the whole
abbrev pub invariant-loop-binding : goal.invariant-loop-binding
invariant-loop-binding l = record {
  added : with_variables l.variables.keys (occurrences_in_bindings (map (shared_binding_of l.bank) (drop l.binding-index l.bindings)))
      ≡ with_variables l.initial.variables.keys (occurrences_in_bindings (map (shared_binding_of l.bank) l.bindings));
  seen : AreSeen l.bank l.variables.keys l.seen.keys;
}
