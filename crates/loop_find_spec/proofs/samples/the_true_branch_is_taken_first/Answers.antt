use Rattle.std.proofs.Common.{[], ◌∷◌, refl, arith}
use Rattle.loop_find_spec.specs.Loops.{nodes_from}
use Rattle.loop_find_spec.specs.Samples.{two_entries}
use Rattle.loop_find_spec.proofs.Walked.{walks}
use Rattle.loop_find_spec.proofs.samples.the_true_branch_is_taken_first.Goals as goal

pub returns : goal.returns
returns c = record {
  left = 0 ∷ 1 ∷ 2 ∷ [];
  heads = 1 ∷ [];
  walk = walks (nodes_from two_entries) 20 [] [] (0 ∷ []) (0 ∷ 1 ∷ 2 ∷ []) (1 ∷ []) refl;
  ascending = λ k less. omega (arith, less);
  are = λ n. (λ here. here, λ here. here);
}
