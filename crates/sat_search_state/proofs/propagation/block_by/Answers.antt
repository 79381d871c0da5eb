use Rattle.std.proofs.Common.{inr, length, ap, refl, ◌∙◌, arith}
use Rattle.std.proofs.lemmas.List.{length-set}
use Rattle.std.proofs.lemmas.Option.{slice_get_within}
use Rattle.sat_search_spec.specs.declared.Watcher.{Watcher}
use Rattle.sat_search_spec.specs.Watches.{list_of, IsBlocker}
use Rattle.sat_search_state.proofs.Turns.{seen, falsified_code, beside_stays, turn_replaced}
use Rattle.sat_search_state.proofs.propagation.block_by.Goals as goal

pub replace-requires-clause-code : goal.replace-requires-clause-code
replace-requires-clause-code c =
    falsified_code c.args.clauses.now.clauses c.args.trail.now c.args.watches.now c.args.falsified c.args.next c.requires.beside.turning

pub replace-requires-clause-place : goal.replace-requires-clause-place
replace-requires-clause-place c =
    slice_get_within (list_of c.args.watches.now.lists c.args.falsified) c.args.next c.args.watcher.now c.requires.beside.there

pub returns-clause-visited : goal.returns-clause-visited
returns-clause-visited c =
    let blocked : Watcher = record { clause = c.args.watcher.now.clause; blocker = c.args.other } in
    let see = seen c.args.clauses.now.clauses c.args.trail.now c.args.watches.now c.args.falsified c.args.next c.args.watcher.now c.args.other c.requires.beside in
    let is_blocker : IsBlocker c.args.clauses.now.clauses blocked = record { clause = see.clause; there = see.there; has = see.has } in
    turn_replaced c.args.clauses.now.clauses c.args.trail.now c.args.watches.now c.replace.new.self c.args.falsified c.args.next c.args.watcher.now blocked
    (beside_stays c.args.clauses.now.clauses c.args.trail.now c.args.watches.now c.args.falsified c.args.next c.args.watcher.now c.args.other c.requires.beside
    (inr c.requires.settled))
    c.requires.beside.there refl is_blocker (ap (λ w. w.watches) c.replace.ensures.same) (ap (λ w. w.head) c.replace.ensures.same) c.replace.ensures.room
    c.replace.ensures.replaced

pub returns-clause-kept : goal.returns-clause-kept
returns-clause-kept c =
    let blocked : Watcher = record { clause = c.args.watcher.now.clause; blocker = c.args.other } in
    record {
      variables = refl;
      level = refl;
      grown = omega arith;
      head = ap (λ w. w.head) c.replace.ensures.same;
      count = ap length c.replace.ensures.replaced.here ∙ length-set (list_of c.args.watches.now.lists c.args.falsified) c.args.next blocked;
    }
