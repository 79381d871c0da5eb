use Rattle.graph_core.specs.Graphs.{graph_of, boxed_term}
use Rattle.decompile.proofs.Added.{home_added}
use Rattle.decompile.proofs.blocks.add_home.Goals as goal

pub returns : goal.returns
returns c =
    home_added (graph_of c.add.new.self) (graph_of c.args.graph.now) (boxed_term c.in_ok-test.test) c.args.on_true c.in_ok-test.ensures c.in_ok-add.ensures.added
