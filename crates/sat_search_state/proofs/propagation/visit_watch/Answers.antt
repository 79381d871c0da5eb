use Rattle.std.proofs.Common.{rules, ◌≡◌}
use Rattle.sat_search_spec.specs.Watches.{IsElsewhere}
use Rattle.sat_search_state.proofs.Turns.{watch_below, turn_elsewhere}
use Rattle.sat_search_state.proofs.propagation.visit_watch.Goals as goal

pub watch-watch-requires : goal.watch-watch-requires
watch-watch-requires c =
    watch_below c.args.clauses.now.clauses c.args.trail.now c.args.watches.now c.args.falsified c.args.next c.args.watcher.now c.requires.turning c.requires.there

pub returns-clause-visited : goal.returns-clause-visited
returns-clause-visited c =
    let first : c.watch-watch.result.first ≡ c.args.falsified → ⊥ = search rules in
    let second : c.watch-watch.result.second ≡ c.args.falsified → ⊥ = search rules in
    let elsewhere : IsElsewhere c.args.watches.now c.args.watcher.now.clause c.args.falsified =
    record { watch = c.watch-watch.result; there = c.watch-watch.ensures; first = first; second = second }
    in (
      turn_elsewhere c.args.clauses.now.clauses c.args.trail.now c.args.watches.now c.args.falsified c.args.next c.args.watcher.now c.requires.turning c.requires.there elsewhere,
      elsewhere,
      c.requires.there,
    )
