use Rattle.graph_core.specs.Graphs.{graph_of}
use Rattle.decompile.specs.Settings.{setting_of}
use Rattle.decompile.proofs.Added.{lead_added, stop_added}
use Rattle.decompile.proofs.function.Function.add_error.Goals as goal

pub returns-clause-links : goal.returns-clause-links
returns-clause-links c =
    λ target.
    lead_added (setting_of c.args.self.now) c.args.item.now.address c.args.item.now.keeps c.args.item.now.instruction (graph_of c.add_plain.new.graph) (graph_of c.args.graph.now)
    target c.in_ok-add_plain.ensures

pub returns-clause-stops : goal.returns-clause-stops
returns-clause-stops c =
    stop_added (setting_of c.args.self.now) c.args.item.now.address c.args.item.now.keeps c.args.item.now.instruction (graph_of c.add_plain.new.graph) (graph_of c.args.graph.now)
    c.in_ok-add_plain.ensures
