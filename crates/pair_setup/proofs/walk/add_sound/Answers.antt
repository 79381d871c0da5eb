use Rattle.std.proofs.Common.{sym, subst}
use Rattle.pair_setup_calls.specs.Names.{texts_of}
use Rattle.pair_setup.specs.Walks.{AreSoundOf}
use Rattle.pair_setup.proofs.Entries.{none-sound-of}
use Rattle.pair_setup.proofs.walk.add_sound.Goals as goal

pub returns-then-sound : goal.returns-then-sound
returns-then-sound c = c.in-Ok-attempt.ensures c.if-sound.true

pub returns-2 : goal.returns-2
returns-2 c =
    subst (AreSoundOf c.args.image.now (texts_of c.args.list.now)) (sym c.clear.ensures.empty) (none-sound-of c.args.image.now (texts_of c.args.list.now))
