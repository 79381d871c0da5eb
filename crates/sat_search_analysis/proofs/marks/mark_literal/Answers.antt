use Rattle.std.proofs.Common.{subst}
use Rattle.sat_search_spec.specs.Trail.{IsAt}
use Rattle.sat_search_analysis.proofs.Markings.{marking_more}
use Rattle.sat_search_analysis.proofs.marks.mark_literal.Goals as goal

pub returns-in-Some : goal.returns-in-Some
returns-in-Some c = record {
  marking = λ clause excepted first marking before.
      marking_more c.args.trail.now.entries clause excepted c.args.literal first c.args.marks.now c.in-Some.place c.requires.count
      (subst (λ l. IsAt c.args.trail.now.entries c.in-Some.place l) c.negation.ensures c.in-Some.ensures.there) marking;
}
