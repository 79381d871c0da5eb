use Rattle.graph_core.specs.Graphs.{graph_of, boxed_term}
use Rattle.decompile.specs.Settings.{setting_of}
use Rattle.decompile.proofs.Added.{branch_added}
use Rattle.decompile.proofs.function.Function.add_branch.Goals as goal

pub returns : goal.returns
returns c =
    branch_added (setting_of c.args.self.now) c.args.item.now.address c.args.item.now.keeps c.args.item.now.instruction (graph_of c.add.new.self) (graph_of c.args.graph.now)
    c.args.target (boxed_term c.in_ok-test.test) c.toward-on_true.result c.onward-on_false.result c.if-item.false c.in_ok-test.ensures c.toward-on_true.ensures c.onward-on_false.ensures
    c.in_ok-add.ensures.added
