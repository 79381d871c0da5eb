-- An opening of the code as the definitions have it, in a bank.
use Rattle.std.specs.Prelude.{ℕ, List}
use Rattle.std.specs.HashMap.{get}
use Rattle.term_core_spec.specs.Same.{same_variable}
use Rattle.term_core_spec.specs.Term.{Term}
use Rattle.term_substitution.specs.States.{AreBelow}
use Rattle.path_cond.specs.States.{IsMapOf}
use Rattle.sim_rules_spec.specs.Rules as spec
use Rattle.sim_rules_terms.specs.declared.points.Opening.{Opening}

-- the maps have the terms of each side's variables
pub record IsOpening (trees : List Term) (o : spec.Opening) (code : Opening) : Type 0 where
  pub of_binary : IsMapOf trees (get same_variable code.binary.now) o.binary
  pub of_source : IsMapOf trees (get same_variable code.source.now) o.source

-- their ids are of a bank of so many terms
pub record IsOpeningIn (n : ℕ) (code : Opening) : Type 0 where
  pub binary_below : AreBelow n (get same_variable code.binary.now)
  pub source_below : AreBelow n (get same_variable code.source.now)
