use Rattle.std.proofs.Common.{◌≡◌, ◌∙◌, List, ◌++◌, length, map, sym, ap, subst}
use Rattle.std.proofs.lemmas.Result.{on_ok_weaker}
use Rattle.std.proofs.lemmas.List.{length-map}
use Rattle.term_core_spec.specs.Term.{Term}
use Rattle.term_bank.specs.Nodes.{tree_at}
use Rattle.graph_core.specs.Graphs.{graph_of}
use Rattle.c_types_spec.specs.Core.{type_of}
use Rattle.c_types_core.specs.Expressions.{core_of}
use Rattle.c_graph_spec.specs.Layout.{chain, selection, tests_in, value_in}
use Rattle.c_graph_terms.specs.Tables.{AreWithin}
use Rattle.c_graph.specs.Frames.{setting_in}
use Rattle.c_graph.specs.Seen.{cases_in, case_tests}
use Rattle.c_graph.proofs.Chains.{tests_many}
use Rattle.c_graph.proofs.Drafted.{fresh_trees, fresh_within}
use Rattle.c_graph.proofs.Emitting.{within_ids}
use Rattle.c_graph.proofs.WithNodes.{added_as, added_to}
use Rattle.c_graph.proofs.selection.select.Goals as goal

pub select_under-requires-clause-many : goal.select_under-requires-clause-many
select_under-requires-clause-many c =
    let f = setting_in c.args.frame.now in
    let x = core_of c.args.x.now in
    let bank = c.compare_all.new.bank in
    let slice = c.as_slice-3.result.now in
    let are : map (tree_at bank) slice ≡ case_tests (type_of x) (value_in f x) (cases_in c.args.cases.now) =
    fresh_trees c.new-bank.result bank c.new-found.result.items c.compare_all.new.found.items slice _ c.new-found.ensures.items c.as_slice-3.ensures.value c.in-Ok-attempt.ensures.compared in
    sym (length-map slice (tree_at bank)) ∙ ap length are ∙ tests_many (type_of x) (value_in f x) c.args.cases.now

pub select_under-requires-clause-ids : goal.select_under-requires-clause-ids
select_under-requires-clause-ids c = subst (AreWithin (length c.import.new.graph.trees)) (sym c.as_slice.ensures.value) c.in-Ok-attempt-ids.ensures.within

pub select_under-requires-clause-tests : goal.select_under-requires-clause-tests
select_under-requires-clause-tests c =
    let bank = c.compare_all.new.bank in
    within_ids c.args.graph.now c.import.new.graph bank c.in-Ok-attempt-ids.field-0.items c.as_slice.result.now c.as_slice-2.result.now c.in-Ok-attempt-ids.ensures c.as_slice.ensures.value
    (fresh_within c.new-bank.result bank c.new-tests.result.items c.compare_all.new.tests.items c.as_slice-2.result.now _ c.new-tests.ensures.items c.as_slice-2.ensures.value c.in-Ok-attempt.ensures.tested)

pub select_under-requires-clause-found : goal.select_under-requires-clause-found
select_under-requires-clause-found c =
    let bank = c.compare_all.new.bank in
    within_ids c.args.graph.now c.import.new.graph bank c.in-Ok-attempt-ids.field-0.items c.as_slice.result.now c.as_slice-3.result.now c.in-Ok-attempt-ids.ensures c.as_slice.ensures.value
    (fresh_within c.new-bank.result bank c.new-found.result.items c.compare_all.new.found.items c.as_slice-3.result.now _ c.new-found.ensures.items c.as_slice-3.ensures.value c.in-Ok-attempt.ensures.compared)

pub returns-3 : goal.returns-3
returns-3 c =
    let f = setting_in c.args.frame.now in
    let x = core_of c.args.x.now in
    let bank = c.compare_all.new.bank in
    let b = c.import.new.graph in
    let g0 = graph_of c.args.graph.now in
    let g1 = graph_of b in
    let g2 = graph_of c.select_under.new.graph in
    let over : map (tree_at b.trees) c.as_slice.result.now ≡ bank = ap (map (tree_at b.trees)) c.as_slice.ensures.value ∙ c.in-Ok-attempt-ids.ensures.are in
    let first = ap (λ l. map (tree_at l) c.as_slice-2.result.now) over
    ∙ fresh_trees c.new-bank.result bank c.new-tests.result.items c.compare_all.new.tests.items c.as_slice-2.result.now _ c.new-tests.ensures.items c.as_slice-2.ensures.value c.in-Ok-attempt.ensures.tested in
    let second = ap (λ l. map (tree_at l) c.as_slice-3.result.now) over
    ∙ fresh_trees c.new-bank.result bank c.new-found.result.items c.compare_all.new.found.items c.as_slice-3.result.now _ c.new-found.ensures.items c.as_slice-3.ensures.value c.in-Ok-attempt.ensures.compared in
    let cases = selection (type_of x) (value_in f x) (cases_in c.args.cases.now) c.args.places.tests c.args.places.otherwise in
    on_ok_weaker c.select_under.result
    (λ h.
    added_to g0 g1 g2 (chain (tests_in f x) c.args.at c.args.places.selection ++ cases) c.in-Ok-attempt-ids.ensures.same
    (added_as g1 g2 _ _ (ap (λ l. chain l c.args.at c.args.places.selection ++ cases) first) h))
    (c.select_under.ensures (type_of x) (value_in f x) second)
