use Rattle.std.proofs.Common.{◌≡◌, ◌∙◌, ◌<◌, List, ◌++◌, None, map, filter, length, sym, ap, subst}
use Rattle.std.specs.List.{All}
use Rattle.std.proofs.lemmas.List.Elements.{All-filter}
use Rattle.graph_core_spec.specs.Graph.{Binding}
use Rattle.graph_core_spec.specs.Run.{is_shared}
use Rattle.graph_core.specs.declared.shared.SharedBinding.{SharedBinding}
use Rattle.graph_core.specs.Graphs.{AreShared}
use Rattle.graph_core.specs.Shared.{shared_binding_of, AreSharedBindings}
use Rattle.graph_inline.specs.Taken.{IsTaken}
use Rattle.graph_inline.specs.Moved.{shared_inputs, moved_shared}
use Rattle.graph_inline.proofs.Moving.{bindings_moved}
use Rattle.graph_inline.proofs.Placing.{shared_filtered}
use Rattle.graph_inline.proofs.start.start_bindings.Goals as goal

pub move_bindings-requires : goal.move_bindings-requires
move_bindings-requires c =
    subst (AreSharedBindings (length c.args.table.now)) (sym (c.as_slice.ensures.value ∙ c.in_ok-shared.ensures))
    (All-filter (λ (b : SharedBinding). is_shared b.variable) (λ (b : SharedBinding). b.term < length c.args.table.now) c.args.inputs.now c.requires)

pub returns-clause-found : goal.returns-clause-found
returns-clause-found c = λ from taken.
    let trees = c.args.graph.now.trees in
    let table = c.args.table.now in
    let inputs = c.args.inputs.now in
    let some = All-filter (λ (b : SharedBinding). is_shared b.variable) (λ (b : SharedBinding). IsTaken None from trees table b.term) inputs taken in
    let e = c.in_ok-found.ensures ∙ ap (map (moved_shared None table)) (c.as_slice.ensures.value ∙ c.in_ok-shared.ensures) in
    let first = bindings_moved None None from trees table (shared_inputs inputs) c.in_ok-found.found.items some e in
    c.in_ok-add_own.ensures.found from (filter (λ (b : Binding). is_shared b.variable) (map (shared_binding_of from) inputs)) taken
    (subst (λ (l : List Binding). AreShared trees l c.in_ok-found.found.items) (shared_filtered from inputs) first)
