use Rattle.std.proofs.Common.{◌≡◌, ◌∙◌, ℕ, ◌+◌, List, length, map, sym, ap, subst, arith}
use Rattle.std.proofs.lemmas.Result.{on_ok_weaker}
use Rattle.term_bank.specs.Nodes.{tree_at}
use Rattle.c_graph_terms.specs.Tables.{AreWithin, id_at}
use Rattle.c_graph.proofs.Emitting.{emitted_under}
use Rattle.c_graph.proofs.Ids.{mapped_within}
use Rattle.c_graph.proofs.emission.emit_under.Goals as goal

pub chain-requires : goal.chain-requires
chain-requires c =
    let slice : c.as_slice.result.now ≡ map (id_at c.args.ids.now) c.args.tests.now = c.as_slice.ensures.value ∙ c.in-Ok-attempt.ensures in
    subst (AreWithin (length c.args.graph.now.trees)) (sym slice) (mapped_within (length c.args.graph.now.trees) c.args.ids.now c.args.tests.now c.requires.ids c.requires.tests)

pub add_mapped-requires-clause-ids : goal.add_mapped-requires-clause-ids
add_mapped-requires-clause-ids c = subst (λ l. AreWithin (length l) c.args.ids.now) (sym c.chain.ensures.trees) c.requires.ids

pub returns-4 : goal.returns-4
returns-4 c =
    let slice : c.as_slice.result.now ≡ map (id_at c.args.ids.now) c.args.tests.now = c.as_slice.ensures.value ∙ c.in-Ok-attempt.ensures in
    let long = ap length c.as_slice.ensures.value in
    on_ok_weaker c.add_mapped.result
    (emitted_under c.args.graph.now c.chain.new.graph c.add_mapped.new.graph c.args.ids.now c.args.tests.now c.as_slice.result.now c.args.node.now c.args.at c.in-Ok-attempt-end.field-0
    c.requires.tests slice (omega arith) c.in-Ok-attempt-2.ensures.nodes c.chain.ensures.trees)
    c.add_mapped.ensures
