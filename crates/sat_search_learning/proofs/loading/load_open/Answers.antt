use Rattle.std.proofs.Common.{subst, sym}
use Rattle.sat_search_learning.specs.Search.{IsTrueUnit}
use Rattle.sat_search_learning.proofs.Values.{literal_of}
use Rattle.sat_search_learning.proofs.Loaded.{unit_true, unit_forced}
use Rattle.sat_search_learning.proofs.loading.load_open.Goals as goal

pub place-requires : goal.place-requires
place-requires c = literal_of c.args.trail.now.variables c.requires.unit.clause c.args.literal c.requires.unit.of_variables c.requires.unit.has

pub push-requires-clause-of_variables : goal.push-requires-clause-of_variables
push-requires-clause-of_variables c = literal_of c.args.trail.now.variables c.requires.unit.clause c.args.literal c.requires.unit.of_variables c.requires.unit.has

pub attach_unit-requires : goal.attach_unit-requires
attach_unit-requires c =
    unit_true c.args.clauses.now.clauses c.args.trail.now c.args.watches.now c.args.literal c.in-Some._place c.requires.unit c.in-Some.ensures.there

pub attach_unit-requires-in-None : goal.attach_unit-requires-in-None
attach_unit-requires-in-None c =
    subst (λ t. IsTrueUnit c.args.clauses.now.clauses t c.args.watches.now c.args.literal) (sym c.in_ok-push-in-None.ensures.added)
    (unit_forced c.args.clauses.now.clauses c.args.trail.now c.args.watches.now c.args.literal c.len.result c.requires.unit c.len.ensures
    (literal_of c.args.trail.now.variables c.requires.unit.clause c.args.literal c.requires.unit.of_variables c.requires.unit.has)
    c.in-None.ensures.nowhere c.requires.not_false)
