use Rattle.std.proofs.Common.{◌≡◌, Some, sym, subst, ◌∙◌}
use Rattle.sat_search_state.specs.Visits.{IsOpen, AreFalse}
use Rattle.sat_search_state.proofs.Turns.{clause_of, clause_below}
use Rattle.sat_search_state.proofs.propagation.visit_clause.Goals as goal

pub clause-requires : goal.clause-requires
clause-requires c =
    clause_below c.args.clauses.now.clauses c.args.trail.now c.args.watches.now c.args.falsified c.args.next c.args.watcher.now
    c.requires.beside.turning c.requires.beside.there

pub find_open-requires : goal.find_open-requires
find_open-requires c =
    clause_of c.args.trail.now.variables c.args.clauses.now.clauses c.args.watcher.now.clause c.clause.result.now c.requires.beside.turning.running.sound.of_variables c.clause.ensures

pub move_watch-requires-clause-not_false : goal.move_watch-requires-clause-not_false
move_watch-requires-clause-not_false c = λ clause here.
    let same_some : Some c.clause.result.now ≡ Some clause = sym c.clause.ensures ∙ here in
    let same : c.clause.result.now ≡ clause = cc in
    subst (λ x. IsOpen x c.args.trail.now c.args.other c.in-Some.literal) same c.in-Some.ensures.found

pub force_other-requires-clause-all_false : goal.force_other-requires-clause-all_false
force_other-requires-clause-all_false c = λ clause here.
    let same_some : Some c.clause.result.now ≡ Some clause = sym c.clause.ensures ∙ here in
    let same : c.clause.result.now ≡ clause = cc in
    subst (λ x. AreFalse x c.args.trail.now c.args.other) same c.in-None.ensures.nowhere
