use Rattle.std.proofs.Common.{[], ◌∷◌, refl, arith}
use Rattle.loop_find_spec.specs.Loops.{nodes_from}
use Rattle.loop_find_spec.specs.Samples.{returning}
use Rattle.loop_find_spec.proofs.Walked.{walks}
use Rattle.loop_find_spec.proofs.samples.straight_code_has_no_loop.Goals as goal

pub returns : goal.returns
returns c = record {
  left = 0 ∷ [];
  heads = [];
  walk = walks (nodes_from returning) 20 [] [] (0 ∷ []) (0 ∷ []) ([]) refl;
  ascending = λ k less. omega (arith, less);
  are = λ n. (λ here. here, λ here. here);
}
