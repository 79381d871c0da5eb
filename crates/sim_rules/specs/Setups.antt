-- What the rules are applied to, of the code as the definitions have it, in a bank.
use Rattle.std.specs.Prelude.{List}
use Rattle.term_core_spec.specs.Term.{Term}
use Rattle.sim_rules_spec.specs.Points as points
use Rattle.sim_rules_spec.specs.Rules as spec
use Rattle.sim_rules_terms.specs.Conventions.{IsConventionOf}
use Rattle.sim_rules_terms.specs.Openings.{IsOpening}
use Rattle.sim_rules.specs.declared.setup.Setup.{Setup}
use Rattle.sim_rules.specs.Compared.{AreCompared, Compared}

pub record IsSetup (trees : List Term) (c : points.Convention) (o : spec.Opening) (s : Setup) : Type 0 where
  pub convention_is : IsConventionOf s.convention.now c
  pub opening_is : IsOpening trees o s.opening

-- the same, by the terms that are compared
pub record IsSetupOver (trees : List Term) (c : Compared) (o : spec.Opening) (s : Setup) : Type 0 where
  pub compared_are : AreCompared s.convention.now c
  pub opening_is : IsOpening trees o s.opening
