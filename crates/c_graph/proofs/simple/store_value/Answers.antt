use Rattle.std.proofs.lemmas.Result.{on_ok_weaker}
use Rattle.graph_core.specs.Graphs.{graph_of}
use Rattle.c_graph.proofs.Drafted.{emitted, fresh_within}
use Rattle.c_graph.proofs.simple.store_value.Goals as goal

pub emit-requires-clause-tests : goal.emit-requires-clause-tests
emit-requires-clause-tests c =
    fresh_within c.new-bank.result c.store_node.new.bank c.new-tests.result.items c.store_node.new.tests.items c.as_slice.result.now _ c.new-tests.ensures.items c.as_slice.ensures.value c.in-Ok-attempt.ensures.tested

pub emit-requires-clause-node : goal.emit-requires-clause-node
emit-requires-clause-node c = c.in-Ok-attempt.ensures.within

pub returns-2 : goal.returns-2
returns-2 c =
    on_ok_weaker c.emit.result
    (emitted (graph_of c.args.graph.now) (graph_of c.emit.new.graph) c.new-bank.result c.store_node.new.bank c.new-tests.result.items c.store_node.new.tests.items c.as_slice.result.now c.in-Ok-attempt.field-0 _ _ c.args.at
    c.new-tests.ensures.items c.as_slice.ensures.value c.in-Ok-attempt.ensures)
    c.emit.ensures
