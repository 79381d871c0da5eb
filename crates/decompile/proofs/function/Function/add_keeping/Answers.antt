use Rattle.graph_core.specs.Graphs.{graph_of, bindings_of, boxed_term}
use Rattle.decompile.specs.Settings.{setting_of}
use Rattle.decompile.proofs.Added.{keeping_added}
use Rattle.decompile.proofs.function.Function.add_keeping.Goals as goal

pub returns : goal.returns
returns c =
    keeping_added (setting_of c.args.self.now) c.args.item.now.address c.args.item.now.keeps c.args.item.now.instruction (graph_of c.add-2.new.self) (graph_of c.args.graph.now)
    c.args.target c.in_ok-index.index (graph_of c.add.new.self) (boxed_term c.in_ok-test.test) c.toward-on_true.result c.onward-next.result
    (bindings_of c.in_ok-bindings.bindings) c.requires c.in_ok-test.ensures c.toward-on_true.ensures c.in_ok-index.ensures c.in_ok-bindings.ensures c.onward-next.ensures
    c.in_ok-add.ensures.added c.in_ok-add-2.ensures.added
