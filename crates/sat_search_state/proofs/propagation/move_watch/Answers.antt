use Rattle.std.proofs.Common.{◌<◌, ◌∙◌, length, ap, sym, subst, refl, arith}
use Rattle.std.specs.Prelude.{slice_get}
use Rattle.cnf_core.specs.Codes.{code_of}
use Rattle.sat_search_spec.specs.declared.Watch.{Watch}
use Rattle.sat_search_spec.specs.declared.Watcher.{Watcher}
use Rattle.sat_search_state.specs.Lists.{IsAdded}
use Rattle.sat_search_state.proofs.Turns.{turn_moved, open_code}
use Rattle.sat_search_state.proofs.propagation.move_watch.Goals as goal

pub listen-requires : goal.listen-requires
listen-requires c =
    subst (λ w. code_of c.args.first < length w.lists) (sym c.set_watch.ensures)
    (open_code c.args.clauses.now.clauses c.args.trail.now c.args.watches.now c.args.falsified c.args.next c.args.watcher.now c.args.second c.args.first
    c.requires.looking c.requires.not_false)

pub returns-clause-visited : goal.returns-clause-visited
returns-clause-visited c =
    let watch : Watch = record { first = c.args.first; second = c.args.second } in
    let moved : Watcher = record { clause = c.args.watcher.now.clause; blocker = c.args.second } in
    let lists = ap (λ w. w.lists) c.set_watch.ensures in
    let all =
    turn_moved c.args.clauses.now.clauses c.args.trail.now c.args.watches.now c.listen.new.self c.args.falsified c.args.next c.args.watcher.now moved watch
    c.requires.looking c.requires.not_false
    (ap (λ w. w.watches) c.listen.ensures.same ∙ ap (λ w. w.watches) c.set_watch.ensures)
    (ap (λ w. w.head) c.listen.ensures.same ∙ ap (λ w. w.head) c.set_watch.ensures)
    (c.listen.ensures.room ∙ ap length lists) refl refl
    (subst (λ ls. IsAdded ls c.listen.new.self.lists c.args.first moved) lists c.in_ok-listen.ensures.added)
    in
    (all.0, all.1, ap (λ xs. slice_get xs c.args.next) all.2 ∙ c.requires.looking.beside.there)

pub returns-clause-kept : goal.returns-clause-kept
returns-clause-kept c =
    let watch : Watch = record { first = c.args.first; second = c.args.second } in
    let moved : Watcher = record { clause = c.args.watcher.now.clause; blocker = c.args.second } in
    let lists = ap (λ w. w.lists) c.set_watch.ensures in
    let all =
    turn_moved c.args.clauses.now.clauses c.args.trail.now c.args.watches.now c.listen.new.self c.args.falsified c.args.next c.args.watcher.now moved watch
    c.requires.looking c.requires.not_false
    (ap (λ w. w.watches) c.listen.ensures.same ∙ ap (λ w. w.watches) c.set_watch.ensures)
    (ap (λ w. w.head) c.listen.ensures.same ∙ ap (λ w. w.head) c.set_watch.ensures)
    (c.listen.ensures.room ∙ ap length lists) refl refl
    (subst (λ ls. IsAdded ls c.listen.new.self.lists c.args.first moved) lists c.in_ok-listen.ensures.added)
    in
    record {
      variables = refl;
      level = refl;
      grown = omega arith;
      head = ap (λ w. w.head) c.listen.ensures.same ∙ ap (λ w. w.head) c.set_watch.ensures;
      count = ap length all.2;
    }
