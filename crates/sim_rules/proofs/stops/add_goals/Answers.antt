use Rattle.std.proofs.Common.{List, map, subst}
use Rattle.std.proofs.lemmas.List.{take_all}
use Rattle.term_bank.proofs.Substitution.{extends_through}
use Rattle.proof_tree.specs.declared.frame.Goal.{Goal}
use Rattle.proof_tree.specs.Frames.{goal_of}
use Rattle.sim_rules_spec.specs.Rules.{goal_stops}
use Rattle.sim_rules_terms.proofs.Later.{itself}
use Rattle.sim_rules.specs.Held.{HasAdded}
use Rattle.sim_rules.specs.Stops.{binary_visits, shown_terms, source_visits, stop_at}
use Rattle.sim_rules.proofs.AtStops.{can_meet_later, meeting_later}
use Rattle.sim_rules.proofs.Held.{added_none}
use Rattle.sim_rules.proofs.Stopping.{shown_more}
use Rattle.sim_rules.proofs.stops.add_goals.Goals as goal

pub loop-index-init : goal.loop-index-init
loop-index-init c = record {
  extends = itself c.args.bank.now;
  added = λ t k a d is. added_none c.args.bank.now c.args.bank.now (itself c.args.bank.now) c.args.ids.now.items;
}

pub add_shown-requires : goal.add_shown-requires
add_shown-requires c = can_meet_later c.args.bank.now c.loop-index.bank c.loop-index.invariant.extends c.args.meeting.now c.requires

pub loop-index-preserved : goal.loop-index-preserved
loop-index-preserved c =
    let b0 = c.args.bank.now in
    let b1 = c.loop-index.bank in
    let b2 = c.add_shown.new.bank in
    let m = c.args.meeting.now in
    record {
      extends = extends_through b0 b1 b2 c.loop-index.invariant.extends c.add_shown.ensures.extends;
      added = λ t k a d is.
          shown_more c.args.claim t k a d (binary_visits m) (source_visits m) b0 b1 b2 c.args.goals.now c.loop-index.index c.index-goals-index.result (stop_at a d c.goal_point-point.result)
          c.args.ids.now.items c.loop-index.ids.items c.add_shown.new.ids.items c.loop-index-test.true c.index-goals-index.is (c.goal_point-point.ensures a d)
          (c.loop-index.invariant.added t k a d is) (c.in-Ok-attempt.ensures.added t k a d (meeting_later b0 b1 c.loop-index.invariant.extends t k a d m is));
    }

pub returns-clause-added : goal.returns-clause-added
returns-clause-added c = λ t k a d is.
    let m = c.args.meeting.now in
    subst (λ (l : List Goal). HasAdded c.args.bank.now c.loop-index.bank (shown_terms c.args.claim t k a d (binary_visits m) (source_visits m) (goal_stops 0 (map goal_of l))) c.args.ids.now.items c.loop-index.ids.items)
    (take_all c.loop-index.index c.args.goals.now c.loop-index-test.false) (c.loop-index.invariant.added t k a d is)
