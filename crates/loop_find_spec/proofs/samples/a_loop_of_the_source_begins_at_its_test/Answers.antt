use Rattle.std.proofs.Common.{[], ◌∷◌, refl, arith}
use Rattle.loop_find_spec.specs.Loops.{nodes_from}
use Rattle.loop_find_spec.specs.Samples.{summing_source}
use Rattle.loop_find_spec.proofs.Walked.{walks}
use Rattle.loop_find_spec.proofs.samples.a_loop_of_the_source_begins_at_its_test.Goals as goal

pub returns : goal.returns
returns c = record {
  left = 0 ∷ 1 ∷ 2 ∷ 3 ∷ 7 ∷ 4 ∷ 5 ∷ 6 ∷ [];
  heads = 2 ∷ [];
  walk = walks (nodes_from summing_source) 20 [] [] (0 ∷ []) (0 ∷ 1 ∷ 2 ∷ 3 ∷ 7 ∷ 4 ∷ 5 ∷ 6 ∷ []) (2 ∷ []) refl;
  ascending = λ k less. omega (arith, less);
  are = λ n. (λ here. here, λ here. here);
}
