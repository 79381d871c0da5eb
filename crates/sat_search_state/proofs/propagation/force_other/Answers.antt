use Rattle.std.proofs.Common.{◌≡◌, ◌+◌, ◌∷◌, ◌++◌, ◌∙◌, [], true, ap, sym, subst}
use Rattle.clause_check_spec.specs.Clause.{is_of}
use Rattle.sat_search_spec.specs.Trail.{IsAt, IsAbsent}
use Rattle.sat_search_spec.specs.Watches.{IsTurning}
use Rattle.sat_search_state.proofs.Turns.{seen, other_of_variables, clause_below, turn_fails, turn_forced}
use Rattle.sat_search_state.proofs.propagation.force_other.Goals as goal

pub place-requires : goal.place-requires
place-requires c =
    subst (λ l. is_of c.args.trail.now.variables l ≡ true) (sym c.negation.ensures)
    (other_of_variables c.args.clauses.now.clauses c.args.trail.now c.args.watches.now c.args.falsified c.args.next c.args.watcher.now c.args.other c.requires.looking.beside)

pub push-requires-clause-of_variables : goal.push-requires-clause-of_variables
push-requires-clause-of_variables c =
    other_of_variables c.args.clauses.now.clauses c.args.trail.now c.args.watches.now c.args.falsified c.args.next c.args.watcher.now c.args.other c.requires.looking.beside

pub number_of-requires : goal.number_of-requires
number_of-requires c =
    clause_below c.args.clauses.now.clauses c.args.trail.now c.args.watches.now c.args.falsified c.args.next c.args.watcher.now
    c.requires.looking.beside.turning c.requires.looking.beside.there

pub returns-in-Some-clause-visited : goal.returns-in-Some-clause-visited
returns-in-Some-clause-visited c =
    let see = seen c.args.clauses.now.clauses c.args.trail.now c.args.watches.now c.args.falsified c.args.next c.args.watcher.now c.args.other c.requires.looking.beside in (
      c.requires.looking.beside.turning,
      turn_fails c.args.clauses.now.clauses c.args.trail.now c.args.watches.now c.args.falsified c.args.next c.args.watcher.now c.args.other see.clause c.in-Some._place
          c.requires.looking see.there (c.requires.all_false see.clause see.there)
          (subst (λ l. IsAt c.args.trail.now.entries c.in-Some._place l) c.negation.ensures c.in-Some.ensures.there),
    )

pub returns-in_ok-push-in-None-clause-visited : goal.returns-in_ok-push-in-None-clause-visited
returns-in_ok-push-in-None-clause-visited c =
    let see = seen c.args.clauses.now.clauses c.args.trail.now c.args.watches.now c.args.falsified c.args.next c.args.watcher.now c.args.other c.requires.looking.beside in
    let added = c.in_ok-push-in-None.ensures.added ∙ ap (λ n. record c.args.trail.now { entries = c.args.trail.now.entries ++ (record { literal = c.args.other; reason = n; level = c.args.trail.now.level }) ∷ [] }) c.number_of.ensures in
    subst (λ t. IsTurning c.args.clauses.now.clauses t c.args.watches.now c.args.falsified (c.args.next + 1)) (sym added)
    (turn_forced c.args.clauses.now.clauses c.args.trail.now c.args.watches.now c.args.falsified c.args.next c.args.watcher.now c.args.other see.clause
    c.requires.looking see.there (c.requires.all_false see.clause see.there)
    (subst (λ l. IsAbsent c.args.trail.now.entries l) c.negation.ensures c.in-None.ensures.nowhere))
