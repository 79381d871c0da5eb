use Rattle.graph_core.specs.Graphs.{graph_of}
use Rattle.decompile.specs.Settings.{setting_of}
use Rattle.decompile.proofs.Added.{return_added}
use Rattle.decompile.proofs.function.Function.add_return.Goals as goal

pub returns : goal.returns
returns c =
    return_added (setting_of c.args.self.now) c.args.item.now.address c.args.item.now.keeps c.args.item.now.instruction (graph_of c.add_home.new.graph) (graph_of c.args.graph.now)
    c.in_ok-add_home.ensures
