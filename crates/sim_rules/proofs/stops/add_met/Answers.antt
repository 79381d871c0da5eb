use Rattle.std.proofs.lemmas.Result.{on_ok_weaker}
use Rattle.proof_tree.specs.Frames.{frame_of}
use Rattle.sim_rules.specs.Compared.{stops}
use Rattle.sim_rules.specs.Stops.{binary_visits, source_visits}
use Rattle.sim_rules.proofs.AtStops.{can_meet_later, meeting_later}
use Rattle.sim_rules.proofs.Stopping.{both_claims}
use Rattle.sim_rules.proofs.stops.add_met.Goals as goal

pub add_stops-requires-2 : goal.add_stops-requires-2
add_stops-requires-2 c = can_meet_later c.args.bank.now c.add_stops.new.bank c.add_stops.ensures.extends c.args.meeting.now c.requires

pub returns-2-clause-added : goal.returns-2-clause-added
returns-2-clause-added c = λ t k a d is convention.
    let b0 = c.args.bank.now in
    let b1 = c.add_stops.new.bank in
    let b2 = c.add_stops-2.new.bank in
    let m = c.args.meeting.now in
    on_ok_weaker c.add_stops-2.result
    (both_claims t k a d (binary_visits m) (source_visits m) (stops k (frame_of c.args.setup.now.frame.now)) b0 b1 b2 c.args.ids.now.items c.add_stops.new.ids.items c.add_stops-2.new.ids.items (c.in-Ok-attempt.ensures.added t k a d is convention))
    (c.add_stops-2.ensures.added t k a d (meeting_later b0 b1 c.add_stops.ensures.extends t k a d m is) convention)
