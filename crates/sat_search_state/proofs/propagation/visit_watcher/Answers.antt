use Rattle.sat_search_state.proofs.Turns.{blocker_named, turn_blocked}
use Rattle.sat_search_state.proofs.propagation.visit_watcher.Goals as goal

pub place-requires : goal.place-requires
place-requires c =
    blocker_named c.args.clauses.now.clauses c.args.trail.now c.args.watches.now c.args.falsified c.args.next c.args.watcher.now c.requires.turning c.requires.there

pub returns-in-Some-clause-visited : goal.returns-in-Some-clause-visited
returns-in-Some-clause-visited c =
    (turn_blocked c.args.clauses.now.clauses c.args.trail.now c.args.watches.now c.args.falsified c.args.next c.args.watcher.now c.in-Some._place
    c.requires.turning c.requires.there c.in-Some.ensures.there)
