use Rattle.std.proofs.Common.{[], ◌∷◌, refl, arith}
use Rattle.loop_find_spec.specs.Loops.{nodes_from}
use Rattle.loop_find_spec.specs.Samples.{summing_code}
use Rattle.loop_find_spec.proofs.Walked.{walks}
use Rattle.loop_find_spec.proofs.samples.a_turned_loop_begins_at_its_body.Goals as goal

pub returns : goal.returns
returns c = record {
  left = 0 ∷ 1 ∷ 2 ∷ 3 ∷ 4 ∷ 5 ∷ 6 ∷ 7 ∷ [];
  heads = 3 ∷ [];
  walk = walks (nodes_from summing_code) 20 [] [] (0 ∷ []) (0 ∷ 1 ∷ 2 ∷ 3 ∷ 4 ∷ 5 ∷ 6 ∷ 7 ∷ []) (3 ∷ []) refl;
  ascending = λ k less. omega (arith, less);
  are = λ n. (λ here. here, λ here. here);
}
