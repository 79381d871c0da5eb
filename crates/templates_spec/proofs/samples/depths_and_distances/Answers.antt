use Rattle.std.proofs.Common.{refl}
use Rattle.templates_spec.specs.Facts.{sums_from}
use Rattle.templates_spec.proofs.samples.depths_and_distances.Goals as goal

pub returns-clause-depths : goal.returns-clause-depths
unfolding sums_from
returns-clause-depths c = refl

pub returns-clause-above : goal.returns-clause-above
unfolding sums_from
returns-clause-above c = refl

pub returns-clause-below : goal.returns-clause-below
unfolding sums_from
returns-clause-below c = refl
