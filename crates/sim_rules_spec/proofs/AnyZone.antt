-- The obligations don't depend on where the zone is in some runs.
use Rattle.std.proofs.Common.{ℕ, List}
use Rattle.term_core_spec.specs.Term.{Term}
use Rattle.proof_tree_spec.specs.Frames.{Frame, Hold}
use Rattle.sim_rules_spec.specs.Points.{Convention}
use Rattle.sim_rules_spec.specs.Rules.{Opening, AreOfLeaf, AreOfWait, AreTrueWith}

module _ (c : Convention) (bottom top : ℕ) where
  abbrev pub elsewhere : Convention
  elsewhere = record c { bottom = bottom; top = top }

  pub leaf_elsewhere : (o : Opening) (f : Frame) (terms : List Term) → AreOfLeaf c o f terms → AreOfLeaf elsewhere o f terms
  leaf_elsewhere o f terms are = record {
    binary = are.binary;
    source = are.source;
    binary_are = are.binary_are;
    source_are = are.source_are;
    terms_are = are.terms_are;
  }

  pub wait_elsewhere : (o : Opening) (f : Frame) (hold : Hold) (terms : List Term) → AreOfWait c o f hold terms → AreOfWait elsewhere o f hold terms
  wait_elsewhere o f hold terms are = record {
    binary = are.binary;
    source = are.source;
    binary_are = are.binary_are;
    source_are = are.source_are;
    terms_are = are.terms_are;
  }

  pub true_elsewhere : (terms : List Term) → AreTrueWith c terms → AreTrueWith elsewhere terms
  true_elsewhere terms valid = valid
