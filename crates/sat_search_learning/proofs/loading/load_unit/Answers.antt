use Rattle.std.proofs.Common.{◌≡◌, true, subst, sym}
use Rattle.clause_check_spec.specs.Clause.{is_of}
use Rattle.sat_search_spec.specs.Trail.{IsAt, IsAbsent}
use Rattle.sat_search_learning.proofs.Values.{literal_of}
use Rattle.sat_search_learning.proofs.Loaded.{unit_false}
use Rattle.sat_search_learning.proofs.loading.load_unit.Goals as goal

pub place-requires : goal.place-requires
place-requires c =
    subst (λ l. is_of c.args.trail.now.variables l ≡ true) (sym c.negation.ensures)
    (literal_of c.args.trail.now.variables c.requires.clause c.args.literal c.requires.of_variables c.requires.has)

pub returns-in-Some-clause-loaded : goal.returns-in-Some-clause-loaded
returns-in-Some-clause-loaded c =
    unit_false c.args.clauses.now.clauses c.args.trail.now c.args.watches.now c.args.literal c.in-Some._place c.len.result c.requires c.len.ensures
    (subst (λ l. IsAt c.args.trail.now.entries c.in-Some._place l) c.negation.ensures c.in-Some.ensures.there)
