use Rattle.std.proofs.Common.{◌≡◌}
use Rattle.std.specs.List.{list_any}
use Rattle.code_reach_tables.proofs.Growth.{given}
use Rattle.code_reach_tables.proofs.Same.{itself, node-same}
use Rattle.code_reach_tables.specs.contracts.nodes.NodePartialEq.TheImpl as node_test
use Rattle.code_reach_tables.proofs.nodes.add.Goals as goal

pub returns : goal.returns
returns c =
    let stored = c.in_ok-id.ensures.stored in
    given node_test.ghosts.eq itself (list_any (node_test.ghosts.eq c.args.node) c.args.nodes.now.keys) c.args.nodes.now.keys c.insert_full.new.self.keys c.args.node stored.0
    c.in_ok-id.id c.requires.shared c.requires.fits c.in_ok-id.ensures.keys c.insert_full.ensures.unique stored.1 (node-same c.args.node stored.0 stored.2)
