use Rattle.std.proofs.Common.{rules, ◌≡◌, inl}
use Rattle.sat_search_state.proofs.Turns.{other_of_variables, beside_stays}
use Rattle.sat_search_state.proofs.propagation.visit_other.Goals as goal

pub place-requires : goal.place-requires
place-requires c =
    other_of_variables c.args.clauses.now.clauses c.args.trail.now c.args.watches.now c.args.falsified c.args.next c.args.watcher.now c.args.other c.requires

pub returns-then-is_same-clause-visited : goal.returns-then-is_same-clause-visited
returns-then-is_same-clause-visited c =
    let same : c.args.other ≡ c.args.falsified = search rules in
    (beside_stays c.args.clauses.now.clauses c.args.trail.now c.args.watches.now c.args.falsified c.args.next c.args.watcher.now c.args.other c.requires (inl same))

pub block_by-requires-clause-settled : goal.block_by-requires-clause-settled
block_by-requires-clause-settled c = (c.in-Some._place, c.in-Some.ensures.there)
