use Rattle.pair_setup.proofs.Symbols.{negated}
use Rattle.pair_setup.proofs.globals.lacks_place.Goals as goal

pub returns-2 : goal.returns-2
returns-2 c = negated c.in-Ok-attempt.field-0 c.in-Ok-attempt.ensures
