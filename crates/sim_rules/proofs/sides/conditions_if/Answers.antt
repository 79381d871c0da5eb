use Rattle.std.proofs.Common.{Some, sym, subst}
use Rattle.std.specs.Prelude.{Result}
use Rattle.visit_walk_spec.specs.Listing.{Listing}
use Rattle.attempt.specs.declared.refusal.Refusal.{Refusal}
use Rattle.visit_walk.specs.declared.found.WalkFault.{WalkFault}
use Rattle.sim_rules.specs.Faults.{IsOutcome}
use Rattle.sim_rules.specs.Walks.{AreFoundIf}
use Rattle.sim_rules.proofs.sides.conditions_if.Goals as goal

pub conditions_of-requires-clause-listing : goal.conditions_of-requires-clause-listing
conditions_of-requires-clause-listing c = (c.requires.0.walk, c.requires.1.maximum, subst (IsOutcome c.requires.0.walk c.requires.1.maximum) c.in-Ok.is c.requires.1.outcome)

pub conditions_of-requires-clause-below : goal.conditions_of-requires-clause-below
conditions_of-requires-clause-below c = c.requires.1.is_way.terms.below

pub returns-in-Ok-attempt-clause-found : goal.returns-in-Ok-attempt-clause-found
returns-in-Ok-attempt-clause-found c = λ w is.
    subst (λ (r : Result Listing (Refusal WalkFault)). AreFoundIf c.conditions_of.new.bank w r (Some c.in-Ok-attempt.field-0)) (sym c.in-Ok.is)
    (c.in-Ok-attempt.ensures.conditions w is.maximum is.is_way (subst (IsOutcome w.walk is.maximum) c.in-Ok.is is.outcome))
