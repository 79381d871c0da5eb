use Rattle.std.proofs.Common.{◌≡◌, ◌-◌, ◌<◌, ◌∙◌, Some, ap, sym, subst, arith}
use Rattle.std.specs.Prelude.{slice_get}
use Rattle.sat_search_spec.proofs.Trails.{trail_short}
use Rattle.sat_search_state.specs.Visits.{IsTurned}
use Rattle.sat_search_state.proofs.Turns.{turn_start}
use Rattle.sat_search_state.proofs.propagation.propagate.Goals as goal

pub turn-requires : goal.turn-requires
turn-requires c =
    let here : slice_get c.loop-trail.trail.entries c.loop-trail.watches.head ≡ Some c.entry-entry.result =
    ap (slice_get c.loop-trail.trail.entries) (sym c.head-in-loop-trail.ensures) ∙ c.entry-entry.ensures
    in
    turn_start c.args.clauses.now.clauses c.loop-trail.trail c.loop-trail.watches c.entry-entry.result c.negation.result c.loop-trail.invariant.running here c.negation.ensures

pub loop-trail-smaller : goal.loop-trail-smaller
loop-trail-smaller c =
    let turned =
    subst (λ r. IsTurned c.args.clauses.now.clauses c.turn.new.trail c.loop-trail.watches c.turn.new.watches r) c.in_default.is c.in_ok-number.ensures.turned
    in
    let within = turned.0.within in
    let same = turned.1 in
    let bound = trail_short c.turn.new.trail.variables c.args.clauses.now.clauses c.turn.new.trail.entries turned.0.sound.is_trail in
    let variables = c.in_ok-number.ensures.level.variables in
    let head = ap (λ w. w.head) c.set_head.ensures in
    let read = c.head-in-loop-trail-2.ensures in
    let less : c.turn.new.trail.variables - c.set_head.new.self.head < c.loop-trail.trail.variables - c.loop-trail.watches.head =
    omega (arith, within, same, bound, variables, head, read)
    in
    less
