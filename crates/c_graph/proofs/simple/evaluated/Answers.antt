use Rattle.std.proofs.lemmas.Result.{on_ok_weaker}
use Rattle.graph_core.specs.Graphs.{graph_of}
use Rattle.c_types_core.specs.Expressions.{core_of}
use Rattle.c_graph_spec.specs.Layout.{tests_in}
use Rattle.c_graph.specs.Frames.{setting_in}
use Rattle.c_graph.proofs.Drafted.{emitted_tests, fresh_within}
use Rattle.c_graph.proofs.simple.evaluated.Goals as goal

pub emit_tests-requires : goal.emit_tests-requires
emit_tests-requires c =
    fresh_within c.new-bank.result c.value.new.bank c.new-tests.result.items c.value.new.tests.items c.as_slice.result.now (tests_in (setting_in c.args.frame.now) (core_of c.args.x.now)) c.new-tests.ensures.items c.as_slice.ensures.value
    c.in-Ok-attempt.ensures.tested

pub returns-2 : goal.returns-2
returns-2 c =
    on_ok_weaker c.emit_tests.result
    (emitted_tests (graph_of c.args.graph.now) (graph_of c.emit_tests.new.graph) c.new-bank.result c.value.new.bank c.new-tests.result.items c.value.new.tests.items c.as_slice.result.now
    (tests_in (setting_in c.args.frame.now) (core_of c.args.x.now)) c.args.at c.args.to c.new-tests.ensures.items c.as_slice.ensures.value c.in-Ok-attempt.ensures.tested)
    c.emit_tests.ensures
