-- No node of a unit's graphs binds an end of the zone.
use Rattle.std.proofs.Common.{◌≡◌, ◌≢◌, ◌∙◌, ℕ, true, false, ◌<◌, length, get_or, slice_get, option_and_then, Some, sym, ap}
use Rattle.std.proofs.lemmas.List.Elements.{All-weaker}
use Rattle.std.proofs.lemmas.Option.{slice_get-get_or}
use Rattle.term_core_spec.specs.declared.Variable.{Variable}
use Rattle.graph_core_spec.specs.Graph.{Binding, Node, Graph, Graphs, node_at}
use Rattle.graph_core_spec.specs.Run.{is_shared, is_zone_end}
use Rattle.graph_core_spec.specs.Variables.{all_bindings}
use Rattle.c_types_spec.specs.Core.{Typed}
use Rattle.c_graph_spec.specs.Guards.{Place}
use Rattle.c_graph_spec.specs.SourceGraph.{graphs_of}
use Rattle.c_graph_laws.proofs.OwnBindings.{no_zone}
use Rattle.sim_inline_laws.specs.Frames.{IsNeverBound}

node_of : (graphs : Graphs) (k m : ℕ) (d : Graph) (e : Node) → k < length graphs → m < length (get_or graphs k d).nodes → node_at graphs k m ≡ Some (get_or (get_or graphs k d).nodes m e)
node_of graphs k m d e less within =
    ap (option_and_then (λ (graph : Graph). slice_get graph.nodes m)) (slice_get-get_or graphs k d less) ∙ slice_get-get_or (get_or graphs k d).nodes m e within

other : (v : Variable) → is_zone_end v ≡ true → (b : Binding) → is_zone_end b.variable ≡ false → b.variable ≢ v
other v end b apart e = let bad : true ≡ false = sym end ∙ (ap is_zone_end (sym e) ∙ apart) in absurd (cc)

pub never_bound : (unit : Typed) (place : Place) (v : Variable) → is_zone_end v ≡ true → is_shared v ≡ true → IsNeverBound (graphs_of unit place) v
never_bound unit place v end shared = record {
  shared = shared;
  unbound = λ k d less. λ m e within.
      All-weaker (λ (b : Binding). is_zone_end b.variable ≡ false) (λ (b : Binding). b.variable ≢ v) (other v end) (all_bindings (get_or (get_or (graphs_of unit place) k d).nodes m e))
      (no_zone unit place k m (get_or (get_or (graphs_of unit place) k d).nodes m e) (node_of (graphs_of unit place) k m d e less within));
}
