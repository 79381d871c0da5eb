use Rattle.sim_rules_terms.specs.Ways.{walk_on}
use Rattle.sim_rules.proofs.Made.{outcome}
use Rattle.sim_rules.proofs.sides.Sides.of.Goals as goal

pub returns-3 : goal.returns-3
returns-3 c =
    let max = c.args.setup.now.maximum in
    let a = c.in-Ok-attempt.field-0 in
    let d = c.in-Ok-attempt-source.field-0 in
    record {
      of_binary = c.in-Ok-attempt.ensures;
      of_source = c.in-Ok-attempt-source.ensures;
      binary_outcome = outcome (walk_on a) max c.visits-visits.result c.visits-visits.ensures.listing c.visits-visits.ensures.fault;
      source_outcome = outcome (walk_on d) max c.visits-others.result c.visits-others.ensures.listing c.visits-others.ensures.fault;
    }
