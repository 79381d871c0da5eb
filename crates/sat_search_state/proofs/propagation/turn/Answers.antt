use Rattle.std.proofs.Common.{◌≤◌, ◌∙◌, length, ap, sym, subst, arith}
use Rattle.std.proofs.lemmas.Option.{slice_get_past}
use Rattle.sat_search_spec.specs.Trail.{IsConflict}
use Rattle.sat_search_spec.specs.Watches.{list_of}
use Rattle.sat_search_state.specs.Visits.{IsVisited}
use Rattle.sat_search_state.proofs.Turns.{falsified_code, clause_below, turn_end, turn_removed}
use Rattle.sat_search_state.proofs.propagation.turn.Goals as goal

pub count-requires : goal.count-requires
count-requires c = falsified_code c.args.clauses.now.clauses c.loop-next.trail c.loop-next.watches c.args.falsified c.loop-next.next c.loop-next.invariant.turning

pub number_of-number-requires : goal.number_of-number-requires
number_of-number-requires c =
    clause_below c.args.clauses.now.clauses c.loop-next.trail c.loop-next.watches c.args.falsified c.loop-next.next c.watcher-watcher.result
    c.loop-next.invariant.turning c.watcher-watcher.ensures

pub loop-next-preserved-in-Stays : goal.loop-next-preserved-in-Stays
loop-next-preserved-in-Stays c =
    let kept = c.in_ok-visit_watcher.ensures.kept in
    let visited =
    subst (λ v. IsVisited c.args.clauses.now.clauses c.visit_watcher.new.trail c.visit_watcher.new.watches c.args.falsified c.loop-next.next c.watcher-watcher.result v)
    c.in-Stays.is c.in_ok-visit_watcher.ensures.visited
    in
    let grown = kept.grown in
    let before = c.loop-next.invariant.grown in
    record {
      turning = visited;
      variables = kept.variables ∙ c.loop-next.invariant.variables;
      level = kept.level ∙ c.loop-next.invariant.level;
      grown = omega (arith, grown, before);
      head = kept.head ∙ c.loop-next.invariant.head;
    }

pub loop-next-preserved : goal.loop-next-preserved
loop-next-preserved c =
    let kept = c.in_ok-visit_watcher.ensures.kept in
    let visited =
    subst (λ v. IsVisited c.args.clauses.now.clauses c.visit_watcher.new.trail c.visit_watcher.new.watches c.args.falsified c.loop-next.next c.watcher-watcher.result v)
    c.in-Leaves.is c.in_ok-visit_watcher.ensures.visited
    in
    let grown = kept.grown in
    let before = c.loop-next.invariant.grown in
    record {
      turning =
          turn_removed c.args.clauses.now.clauses c.visit_watcher.new.trail c.visit_watcher.new.watches c.remove.new.self c.args.falsified c.loop-next.next c.watcher-watcher.result
          visited.0 visited.1 visited.2
          (ap (λ w. w.watches) c.remove.ensures.same) (ap (λ w. w.head) c.remove.ensures.same) c.remove.ensures.room c.remove.ensures.removed;
      variables = kept.variables ∙ c.loop-next.invariant.variables;
      level = kept.level ∙ c.loop-next.invariant.level;
      grown = omega (arith, grown, before);
      head = ap (λ w. w.head) c.remove.ensures.same ∙ kept.head ∙ c.loop-next.invariant.head;
    }

pub returns-in-Fails-clause-turned : goal.returns-in-Fails-clause-turned
returns-in-Fails-clause-turned c =
    let visited =
    subst (λ v. IsVisited c.args.clauses.now.clauses c.visit_watcher.new.trail c.visit_watcher.new.watches c.args.falsified c.loop-next.next c.watcher-watcher.result v)
    c.in-Fails.is c.in_ok-visit_watcher.ensures.visited
    in (
      visited.0.running,
      subst (λ n. IsConflict c.args.clauses.now.clauses c.visit_watcher.new.trail.entries n) (sym c.number_of-number.ensures) visited.1,
    )

pub returns-clause-turned : goal.returns-clause-turned
returns-clause-turned c =
    let past : length (list_of c.loop-next.watches.lists c.args.falsified) ≤ c.loop-next.next =
    subst (λ n. n ≤ c.loop-next.next) c.count.ensures c.loop-next-test.false
    in (
      turn_end c.args.clauses.now.clauses c.loop-next.trail c.loop-next.watches c.args.falsified c.loop-next.next c.loop-next.invariant.turning
          (slice_get_past (list_of c.loop-next.watches.lists c.args.falsified) c.loop-next.next past),
      c.loop-next.invariant.head,
    )
