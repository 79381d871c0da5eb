-- What the graphs of C keep: the bytes that no store may change, at every step, and the ends of the zone.
use Rattle.std.specs.Prelude.{◌≡◌, ℕ, ◌^◌, ◌<◌, true, false, List, [], All, Option, Some, is_some}
use Rattle.memory_spec.specs.Runs.{fixed_byte}
use Rattle.term_core_spec.specs.Value.{Assignment, IsAssignment}
use Rattle.graph_core_spec.specs.Graph.{Binding, Node, node_at}
use Rattle.graph_core_spec.specs.Variables.{all_bindings}
use Rattle.graph_core_spec.specs.Run.{Running, is_zone_end}
use Rattle.graph_core_spec.specs.Fixed.{has_byte, AlwaysHoldsFixed}
use Rattle.c_types_spec.specs.Core.{Typed}
use Rattle.c_types_spec.specs.HasType.{IsTypedUnit}
use Rattle.c_graph_spec.specs.State.{memory}
use Rattle.c_graph_spec.specs.Guards.{Place}
use Rattle.c_graph_spec.specs.Sizes.{UnitSizes}
use Rattle.c_graph_spec.specs.SourceGraph.{body_number, graphs_of}
use Rattle.c_graph_laws.specs.Together.{IsPlace}

-- bytes that no store may change: below 2 ^ 32 only fixed ones are among them
abbrev pub AreKept : Place → (kept : ℕ → Option ℕ) → Type 0
AreKept where_it_is kept =
    (address : ℕ) → address < 2 ^ 32 → is_some (kept address) ≡ true → is_some (fixed_byte where_it_is.runs address) ≡ true

-- from the entry of a function on, its runs and those of its callees have them at every step
abbrev pub RunsKeepBytes : Type 0
RunsKeepBytes = (unit : Typed) (where_it_is : Place) (name : List ℕ) (kept : ℕ → Option ℕ) (values : Assignment) → IsTypedUnit unit → UnitSizes unit
    → IsPlace where_it_is → AreKept where_it_is kept → IsAssignment values → ((address : ℕ) → has_byte (values memory) address (kept address) ≡ true)
    → AlwaysHoldsFixed (graphs_of unit where_it_is) (body_number name unit.bodies) kept memory (Running (body_number name unit.bodies) 0 values [])

-- no node binds the words that are the zone's ends, and no call passes them
abbrev pub NodesBindNoZone : Type 0
NodesBindNoZone = (unit : Typed) (where_it_is : Place) (g n : ℕ) (node : Node) → node_at (graphs_of unit where_it_is) g n ≡ Some node
    → All (λ (b : Binding). is_zone_end b.variable ≡ false) (all_bindings node)
