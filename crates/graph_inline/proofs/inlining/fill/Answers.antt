use Rattle.std.proofs.Common.{◌≡◌, ◌∙◌, ℕ, ◌+◌, ◌<◌, List, None, Some, length, map, sym, ap, ap₂, subst, arith}
use Rattle.std.proofs.lemmas.List.{length-map}
use Rattle.std.proofs.lemmas.Option.{slice_get_within}
use Rattle.term_core_spec.specs.Term.{Term}
use Rattle.term_bank.proofs.Substitution.{extends_through}
use Rattle.graph_core_spec.specs.declared.Next.TheVariants as next
use Rattle.graph_core_spec.specs.Graph as spec
use Rattle.graph_core.specs.declared.shared.SharedNode.TheVariants as shared
use Rattle.graph_core.specs.Graphs.{graph_of, AreShared}
use Rattle.graph_core.specs.Shared.{shared_node_of, shared_binding_of}
use Rattle.graph_core.proofs.Growing.{shared_later}
use Rattle.graph_inline_spec.specs.Inlined.{start_bindings}
use Rattle.graph_inline_spec.specs.Naming.{with_inlined_term}
use Rattle.graph_inline.specs.Taken.{AllTaken}
use Rattle.graph_inline.specs.Moved.{NodesTaken}
use Rattle.graph_inline.specs.Filled.{trees_of}
use Rattle.graph_inline.proofs.Moving.{all_later, bindings_taken}
use Rattle.graph_inline.proofs.Filling.{nodes_later, filled_graph}
use Rattle.graph_inline.proofs.inlining.fill.Goals as goal

pub overflow_add-next : goal.overflow_add-next
overflow_add-next c = omega (arith, c.len-count.ensures.small, c.len-size.ensures.small, c.len-size.ensures.count, c.entry-entry.ensures, c.requires.valid.entry)

pub add_caller-requires-clause-node : goal.add_caller-requires-clause-node
add_caller-requires-clause-node c =
    omega (arith, slice_get_within (graph_of c.args.caller.now).nodes c.args.node _ c.requires.call.here, length-map c.args.caller.now.nodes (shared_node_of c.args.caller.now.trees))

pub add_caller-requires-clause-table : goal.add_caller-requires-clause-table
add_caller-requires-clause-table c =
    let from = c.args.caller.now.trees in
    let g1 = c.take_tables.new.graph.trees in
    let g2 = c.start_bindings.new.graph.trees in
    let g3 = c.end_bindings.new.graph.trees in
    let grows = extends_through g1 g2 g3 c.start_bindings.ensures.grows.extends c.end_bindings.ensures.grows.extends in
    subst (AllTaken None from g3) (sym c.as_slice-table.ensures.value) (all_later None from g1 g3 grows c.in_ok-tables.tables.caller.items c.in_ok-tables.ensures.tables.of_caller)

pub add_caller-requires-clause-start : goal.add_caller-requires-clause-start
add_caller-requires-clause-start c =
    let from = c.args.caller.now.trees in
    let g1 = c.take_tables.new.graph.trees in
    let g2 = c.start_bindings.new.graph.trees in
    let g3 = c.end_bindings.new.graph.trees in
    let table = c.as_slice-table.result.now in
    let all = subst (AllTaken None from g1) (sym c.as_slice-table.ensures.value) c.in_ok-tables.ensures.tables.of_caller in
    let taken = bindings_taken None from g1 table all c.args.call.inputs.now c.requires.call.inputs_within in
    let found = c.in_ok-started.ensures.found from taken in
    (shared_later g2 g3 c.end_bindings.ensures.grows.extends (start_bindings c.args.own.now c.args.instance (trees_of c.args.caller.now c.args.call.inputs.now)) c.in_ok-started.started.items found).within

pub add_callee-requires-clause-taken : goal.add_callee-requires-clause-taken
add_callee-requires-clause-taken c =
    let from = c.args.callee.now.trees in
    let g1 = c.take_tables.new.graph.trees in
    let g2 = c.start_bindings.new.graph.trees in
    let g3 = c.end_bindings.new.graph.trees in
    let tables = c.in_ok-tables.tables in
    let grows = extends_through g1 g2 g3 c.start_bindings.ensures.grows.extends c.end_bindings.ensures.grows.extends in
    subst (λ (trees : List Term). NodesTaken (Some c.args.instance) from trees tables.renamed.items tables.kept.items c.args.callee.now.nodes) (sym c.add_caller.ensures.trees)
    (nodes_later (Some c.args.instance) from g1 g3 grows tables.renamed.items tables.kept.items c.args.callee.now.nodes c.in_ok-tables.ensures.tables.of_callee)

pub returns : goal.returns
returns c =
    let caller = c.args.caller.now in
    let callee = c.args.callee.now in
    let from = caller.trees in
    let g1 = c.take_tables.new.graph.trees in
    let g2 = c.start_bindings.new.graph.trees in
    let g3 = c.end_bindings.new.graph.trees in
    let g4 = c.add_caller.new.graph.trees in
    let table = c.as_slice-table.result.now in
    let all = subst (AllTaken None from g1) (sym c.as_slice-table.ensures.value) c.in_ok-tables.ensures.tables.of_caller in
    let taken = bindings_taken None from g1 table all c.args.call.inputs.now c.requires.call.inputs_within in
    let started = shared_later g2 g3 c.end_bindings.ensures.grows.extends (start_bindings c.args.own.now c.args.instance (trees_of caller c.args.call.inputs.now)) c.in_ok-started.started.items
    (c.in_ok-started.ensures.found from taken) in
    let ended = subst (λ (trees : List Term). AreShared trees (map (with_inlined_term c.args.instance) (map (shared_binding_of from) c.args.call.outputs.now)) c.in_ok-ended.ended.items)
    (sym c.add_caller.ensures.trees)
    (subst (λ (trees : List Term). AreShared g3 (map (with_inlined_term c.args.instance) (map (shared_binding_of trees) c.args.call.outputs.now)) c.in_ok-ended.ended.items) c.bank.ensures c.in_ok-ended.ensures.found) in
    filled_graph caller callee c.args.node c.args.call c.args.own.now c.args.instance
    (graph_of c.end_bindings.new.graph) (graph_of c.add_caller.new.graph) (graph_of c.add_callee.new.graph) (graph_of c.set_entry.new.self)
    (shared_node_of g3 (shared.Basic c.in_ok-started.started (next.At (c.len-count.result + c.entry-entry.result))))
    (shared_node_of g4 (shared.Basic c.in_ok-ended.ended (next.At c.args.call.landing)))
    c.len-count.result (c.len-count.result + c.len-size.result) c.entry.result
    (c.end_bindings.ensures.grows.graph ∙ c.start_bindings.ensures.grows.graph ∙ c.take_tables.ensures.grows.graph ∙ c.requires.empty)
    c.in_ok-add_caller.ensures.added c.in_ok-add_callee.ensures.added c.set_entry.ensures.graph
    (ap₂ (λ (bs : List spec.Binding) (k : ℕ). spec.Basic bs (next.At k)) started.are (ap₂ (λ (i k : ℕ). i + k) c.len-count.ensures.count c.entry-entry.ensures))
    (ap (λ (bs : List spec.Binding). spec.Basic bs (next.At c.args.call.landing)) ended.are)
    c.len-count.ensures.count (ap₂ (λ (i k : ℕ). i + k) c.len-count.ensures.count c.len-size.ensures.count) c.entry.ensures
