use Rattle.pair_setup.proofs.Entries.{adds-known}
use Rattle.pair_setup.proofs.code.add_reached.Goals as goal

pub returns-then-is_known-clause-added : goal.returns-then-is_known-clause-added
returns-then-is_known-clause-added c =
    adds-known c.args.image.now c.args.entry c.args.entries.now.keys c.requires.sound (c.is_known.ensures.0 c.if-is_known.true)
