use Rattle.std.specs.Prelude.{nat_eq}
use Rattle.indexmap.specs.IndexMap.{get}
use Rattle.pair_setup.proofs.Totals.{no-stacks}
use Rattle.pair_setup.proofs.stacks.add_stacks.Goals as goal

pub settle_all-requires : goal.settle_all-requires
settle_all-requires c = no-stacks c.args.image.now (get nat_eq c.args.known.now) c.requires
