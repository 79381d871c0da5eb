use Rattle.std.proofs.Common.{refl}
use Rattle.templates_spec.specs.Facts.{local_of, compared_in, tests_of, tests_in, pairs_once}
use Rattle.templates_spec.proofs.samples.locals_that_tests_compare.Goals as goal

pub returns : goal.returns
unfolding local_of compared_in tests_of tests_in pairs_once
returns c = refl
