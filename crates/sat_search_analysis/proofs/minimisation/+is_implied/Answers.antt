use Rattle.std.proofs.Common.{◌≡◌, ◌<◌, ◌-◌, length, refl, arith}
use Rattle.std.proofs.lemmas.Option.{slice_get_read}
use Rattle.sat_search_spec.proofs.Members.{has_at}
use Rattle.sat_search_analysis.proofs.Markings.{clause_of, literal_of}
use Rattle.sat_search_analysis.proofs.Explanations.{reason_within}
use Rattle.sat_search_analysis.proofs.minimisation.+is_implied.Goals as goal

pub clause-literal-items-requires : goal.clause-literal-items-requires
clause-literal-items-requires t c =
    let positive : 0 < c.entry-entry.result.reason = omega arith in
    reason_within c.args.clauses.now.clauses c.args.trail.now c.args.place c.entry-entry.result c.requires.sound c.entry-entry.ensures positive

pub doubtful-requires-clause-of_variables : goal.doubtful-requires-clause-of_variables
doubtful-requires-clause-of_variables t c =
    literal_of c.args.trail.now.variables c.clause-literal-items.result.now c.literal-item.result
    (clause_of c.args.trail.now.variables c.args.clauses.now.clauses (c.entry-entry.result.reason - 1) c.clause-literal-items.result.now c.requires.sound.of_variables
    c.clause-literal-items.ensures)
    (has_at c.clause-literal-items.result.now c.loop-literal.literal-index c.literal-item.result
    (slice_get_read c.clause-literal-items.result.now (length c.clause-literal-items.result.now) c.loop-literal.literal-index c.literal-item.result refl
    c.loop-literal-test.true c.literal-item.is))
