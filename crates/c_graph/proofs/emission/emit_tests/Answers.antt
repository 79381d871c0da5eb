use Rattle.std.proofs.Common.{◌≡◌, ◌∙◌, map, length, sym, ap, subst}
use Rattle.std.proofs.lemmas.Result.{on_ok_weaker}
use Rattle.c_graph_terms.specs.Tables.{AreWithin, id_at}
use Rattle.c_graph.proofs.Emitting.{tests_over, within_ids}
use Rattle.c_graph.proofs.Ids.{mapped_within}
use Rattle.c_graph.proofs.emission.emit_tests.Goals as goal

pub mapped-requires : goal.mapped-requires
mapped-requires c =
    within_ids c.args.graph.now c.import.new.graph c.args.bank.now c.in-Ok-attempt.field-0.items c.as_slice.result.now c.args.tests.now c.in-Ok-attempt.ensures c.as_slice.ensures.value c.requires

pub chain-requires : goal.chain-requires
chain-requires c =
    let n = length c.import.new.graph.trees in
    let ids = c.as_slice.result.now in
    let inside : AreWithin n ids = subst (AreWithin n) (sym c.as_slice.ensures.value) c.in-Ok-attempt.ensures.within in
    let given = within_ids c.args.graph.now c.import.new.graph c.args.bank.now c.in-Ok-attempt.field-0.items ids c.args.tests.now c.in-Ok-attempt.ensures c.as_slice.ensures.value c.requires in
    subst (AreWithin n) (sym (c.as_slice-2.ensures.value ∙ c.in-Ok-attempt-tests.ensures)) (mapped_within n ids c.args.tests.now inside given)

pub returns-3 : goal.returns-3
returns-3 c =
    on_ok_weaker c.chain.result
    (tests_over c.args.graph.now c.import.new.graph c.chain.new.graph c.args.bank.now c.in-Ok-attempt.field-0.items c.as_slice.result.now c.args.tests.now c.as_slice-2.result.now c.args.at c.args.to
    c.in-Ok-attempt.ensures c.as_slice.ensures.value c.requires (c.as_slice-2.ensures.value ∙ c.in-Ok-attempt-tests.ensures))
    c.chain.ensures.nodes
