-- A proof has a node at least.
use Rattle.std.proofs.Common.{◌≤◌, arith}
use Rattle.proof_tree_spec.specs.Proofs.{Proof, Leaf, Case, Restrict, Split, Call, Hold, Wait, nesting}

pub some_nesting : (proof : Proof) → 1 ≤ nesting proof
unfolding nesting
some_nesting (Leaf logs) = omega arith
some_nesting (Case test holds fails) = omega arith
some_nesting (Restrict point count rest) = omega arith
some_nesting (Split points enter step relation enters steps) = omega arith
some_nesting (Call points counts before after enters continues) = omega arith
some_nesting (Hold points step relation starts steps) = omega arith
some_nesting (Wait points) = omega arith
