use Rattle.term_core.proofs.Bits.{no_byte}
use Rattle.term_core.proofs.words.byte_at.Goals as goal

pub returns-else-place-lt8 : goal.returns-else-place-lt8
returns-else-place-lt8 c = no_byte c.args.number c.args.place c.ranges.number.fits c.if-place-lt8.false
