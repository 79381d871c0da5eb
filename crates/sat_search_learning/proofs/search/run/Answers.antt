use Rattle.std.proofs.Common.{◌≡◌, ◌+◌, ◌-◌, ◌<◌, ◌∙◌, length, ap, sym, subst, arith}
use Rattle.std.proofs.lemmas.List.{length_push}
use Rattle.sat_search_spec.proofs.Trails.{trail_short}
use Rattle.sat_search_state.specs.Visits.{IsPropagated}
use Rattle.sat_search_learning.proofs.Levels.{decided, decided_length}
use Rattle.sat_search_learning.proofs.search.run.Goals as goal

pub deciding-smaller : goal.deciding-smaller
deciding-smaller c =
    let propagated =
    subst (λ r. IsPropagated c.deciding.search.clauses.clauses c.propagate.new.trail c.propagate.new.watches r) c.in_default.is c.in_ok-conflict.ensures.propagated
    in
    let by = c.in_ok-decide-in-Some-pick.ensures in
    let running =
    decided c.deciding.search.clauses.clauses c.propagate.new.trail c.decide.new.trail c.propagate.new.watches c.in-Some-pick.literal propagated.0 propagated.1
    c.in-Some-pick.ensures.found by
    in
    let bound = trail_short c.decide.new.trail.variables c.deciding.search.clauses.clauses c.decide.new.trail.entries running.sound.is_trail in
    let one = decided_length c.propagate.new.trail c.decide.new.trail c.in-Some-pick.literal by in
    let grown = c.in_ok-conflict.ensures.level.grown in
    let same = ap (λ t. t.variables) by.same in
    let variables = c.in_ok-conflict.ensures.level.variables in
    let less : c.decide.new.trail.variables - length c.decide.new.trail.entries < c.deciding.search.trail.variables - length c.deciding.search.trail.entries =
    omega (arith, bound, one, grown, same, variables)
    in
    less

pub deciding-preserved : goal.deciding-preserved
deciding-preserved c =
    let propagated =
    subst (λ r. IsPropagated c.deciding.search.clauses.clauses c.propagate.new.trail c.propagate.new.watches r) c.in_default.is c.in_ok-conflict.ensures.propagated
    in
    let by = c.in_ok-decide-in-Some-pick.ensures in
    record {
      searching = record {
        running =
            decided c.deciding.search.clauses.clauses c.propagate.new.trail c.decide.new.trail c.propagate.new.watches c.in-Some-pick.literal propagated.0 propagated.1
            c.in-Some-pick.ensures.found by;
        is_log = c.deciding.invariant.searching.is_log;
        variables = ap (λ t. t.variables) by.same ∙ c.in_ok-conflict.ensures.level.variables ∙ c.deciding.invariant.searching.variables;
      };
      count = c.deciding.invariant.count;
    }
