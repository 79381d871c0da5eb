use Rattle.std.proofs.Common.{map}
use Rattle.graph_core.specs.Graphs.{graph_of, bindings_of, boxed_term}
use Rattle.decompile.specs.Settings.{setting_of}
use Rattle.decompile.proofs.Added.{step_added}
use Rattle.decompile.proofs.function.Function.add_step.Goals as goal

pub returns : goal.returns
returns c =
    step_added (setting_of c.args.self.now) c.args.item.now.address c.args.item.now.keeps c.args.item.now.instruction (graph_of c.add.new.self) (graph_of c.args.graph.now)
    (graph_of c.add_tests.new.graph) (map boxed_term c.in_ok-tests.tests.items) (bindings_of c.in_ok-bindings.bindings) c.onward-next.result
    c.in_ok-add_tests.ensures c.in_ok-tests.ensures c.in_ok-add.ensures.added c.in_ok-bindings.ensures c.onward-next.ensures
