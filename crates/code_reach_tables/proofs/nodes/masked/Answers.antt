use Rattle.code_reach_tables.proofs.Trees.{as-it-is, masked-all}
use Rattle.code_reach_tables.proofs.nodes.masked.Goals as goal

pub returns-in-4294967295 : goal.returns-in-4294967295
returns-in-4294967295 c =
    as-it-is c.args.nodes.now.keys c.args.a _ c.requires.shared c.requires.below (masked-all _ c.args.mask c.in_default.ensures c.in-4294967295.is)
