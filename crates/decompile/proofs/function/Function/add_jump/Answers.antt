use Rattle.std.proofs.Common.{sym, ◌∙◌}
use Rattle.graph_core.specs.Graphs.{graph_of}
use Rattle.decompile.specs.Settings.{setting_of}
use Rattle.decompile.proofs.Added.{jump_added}
use Rattle.decompile.proofs.function.Function.add_jump.Goals as goal

pub returns : goal.returns
returns c =
    jump_added (setting_of c.args.self.now) c.args.item.now.address c.args.item.now.keeps c.args.item.now.instruction (graph_of c.add_plain.new.graph) (graph_of c.args.graph.now)
    c.args.target c.toward.result (sym c.leaves.ensures ∙ c.if-leaves.false) c.toward.ensures c.in_ok-add_plain.ensures
