use Rattle.std.proofs.Common.{sym, ap, subst, length}
use Rattle.std.proofs.lemmas.Result.{on_ok_weaker}
use Rattle.c_graph_terms.specs.Tables.{AreWithin}
use Rattle.c_graph.proofs.Emitting.{emitted_over, node_within_ids, within_ids}
use Rattle.c_graph.proofs.emission.emit.Goals as goal

pub emit_under-requires-clause-ids : goal.emit_under-requires-clause-ids
emit_under-requires-clause-ids c = subst (AreWithin (length c.import.new.graph.trees)) (sym c.as_slice.ensures.value) c.in-Ok-attempt.ensures.within

pub emit_under-requires-clause-tests : goal.emit_under-requires-clause-tests
emit_under-requires-clause-tests c =
    within_ids c.args.graph.now c.import.new.graph c.args.bank.now c.in-Ok-attempt.field-0.items c.as_slice.result.now c.args.tests.now c.in-Ok-attempt.ensures c.as_slice.ensures.value c.requires.tests

pub emit_under-requires-clause-node : goal.emit_under-requires-clause-node
emit_under-requires-clause-node c =
    node_within_ids c.args.graph.now c.import.new.graph c.args.bank.now c.in-Ok-attempt.field-0.items c.as_slice.result.now c.args.node.now c.in-Ok-attempt.ensures c.as_slice.ensures.value c.requires.node

pub returns-2 : goal.returns-2
returns-2 c =
    on_ok_weaker c.emit_under.result
    (emitted_over c.args.graph.now c.import.new.graph c.emit_under.new.graph c.args.bank.now c.in-Ok-attempt.field-0.items c.as_slice.result.now c.args.tests.now c.args.node.now c.args.at c.in-Ok-attempt.ensures c.as_slice.ensures.value)
    c.emit_under.ensures
