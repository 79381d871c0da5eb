use Rattle.std.proofs.Common.{◌≡◌, ◌∙◌, List, ◌++◌, length, map, sym, ap, subst}
use Rattle.std.proofs.lemmas.Result.{on_ok_weaker}
use Rattle.std.proofs.lemmas.List.{length-map}
use Rattle.term_bank.specs.Nodes.{tree_at}
use Rattle.graph_core.specs.Graphs.{graph_of}
use Rattle.c_graph_spec.specs.Layout.{chain}
use Rattle.c_graph_terms.specs.Tables.{AreWithin, id_at}
use Rattle.c_graph.proofs.Emitting.{slice_trees}
use Rattle.c_graph.proofs.WithNodes.{added_as, added_then}
use Rattle.c_graph.proofs.Ids.{mapped_within}
use Rattle.c_graph.proofs.selection.select_under.Goals as goal

pub chain-requires : goal.chain-requires
chain-requires c =
    let n = length c.args.graph.now.trees in
    subst (AreWithin n) (sym (c.as_slice.ensures.value ∙ c.in-Ok-attempt.ensures)) (mapped_within n c.args.ids.now c.args.tests.now c.requires.ids c.requires.tests)

pub choices-requires-clause-many : goal.choices-requires-clause-many
choices-requires-clause-many c = ap length (c.as_slice-2.ensures.value ∙ c.in-Ok-attempt-found.ensures) ∙ length-map c.args.found.now (id_at c.args.ids.now) ∙ c.requires.many

pub choices-requires-clause-within : goal.choices-requires-clause-within
choices-requires-clause-within c =
    let n = length c.args.graph.now.trees in
    subst (λ l. AreWithin (length l) c.as_slice-2.result.now) (sym c.chain.ensures.trees)
    (subst (AreWithin n) (sym (c.as_slice-2.ensures.value ∙ c.in-Ok-attempt-found.ensures)) (mapped_within n c.args.ids.now c.args.found.now c.requires.ids c.requires.found))

pub returns-4 : goal.returns-4
returns-4 c = λ type x e.
    let trees = c.args.graph.now.trees in
    let ids = c.args.ids.now in
    let first = slice_trees trees ids c.args.tests.now c.as_slice.result.now c.requires.tests (c.as_slice.ensures.value ∙ c.in-Ok-attempt.ensures) in
    let second = slice_trees trees ids c.args.found.now c.as_slice-2.result.now c.requires.found (c.as_slice-2.ensures.value ∙ c.in-Ok-attempt-found.ensures) in
    on_ok_weaker c.choices.result
    (λ h.
    added_then (graph_of c.args.graph.now) (graph_of c.chain.new.graph) (graph_of c.choices.new.graph) _ _
    (added_as (graph_of c.args.graph.now) (graph_of c.chain.new.graph) _ _ (ap (λ l. chain l c.args.at c.args.places.selection) first) c.in-Ok-attempt-2.ensures.nodes) h)
    (c.choices.ensures type x (ap (λ l. map (tree_at l) c.as_slice-2.result.now) c.chain.ensures.trees ∙ second ∙ e))
