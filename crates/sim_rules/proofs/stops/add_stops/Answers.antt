use Rattle.std.proofs.Common.{List, [], ◌∷◌, map, sym, subst}
use Rattle.std.proofs.lemmas.Result.{on_ok_weaker}
use Rattle.term_core_spec.specs.Term.{Term}
use Rattle.proof_tree.specs.declared.frame.Goal.{Goal}
use Rattle.proof_tree.specs.Frames.{goal_of}
use Rattle.sim_rules_spec.specs.Rules.{Stop, goal_stops}
use Rattle.sim_rules_spec.specs.Sides.{returns}
use Rattle.sim_rules.specs.Held.{HasAdded}
use Rattle.sim_rules.specs.Stops.{binary_visits, shown_terms, source_visits}
use Rattle.sim_rules.proofs.AtStops.{can_meet_later, meeting_later}
use Rattle.sim_rules.proofs.Held.{added_then}
use Rattle.sim_rules.proofs.stops.add_stops.Goals as goal

pub add_goals-requires : goal.add_goals-requires
add_goals-requires c = can_meet_later c.args.bank.now c.add_shown.new.bank c.add_shown.ensures.extends c.args.meeting.now c.requires

pub returns-2-clause-added : goal.returns-2-clause-added
returns-2-clause-added c = λ t k a d is convention.
    let b0 = c.args.bank.now in
    let b1 = c.add_shown.new.bank in
    let b2 = c.add_goals.new.bank in
    let m = c.args.meeting.now in
    let goals = c.args.setup.now.frame.now.goals.items in
    let show : List Stop → List Term = λ all. shown_terms c.args.claim t k a d (binary_visits m) (source_visits m) all in
    let at : List Term → Stop = λ lines. record { binary = returns; source = returns; lines = lines } in
    let first = subst (λ (lines : List Term). HasAdded b0 b1 (show (at lines ∷ [])) c.args.ids.now.items c.add_shown.new.ids.items) (sym convention.returns_are) (c.in-Ok-attempt.ensures.added t k a d is) in
    on_ok_weaker c.add_goals.result
    (λ rest. added_then b0 b1 b2 (show (at k.returns ∷ [])) (show (goal_stops 0 (map goal_of goals))) c.args.ids.now.items c.add_shown.new.ids.items c.add_goals.new.ids.items first
    (subst (λ (l : List Goal). HasAdded b1 b2 (show (goal_stops 0 (map goal_of l))) c.add_shown.new.ids.items c.add_goals.new.ids.items) c.as_slice.ensures.value rest))
    (c.add_goals.ensures.added t k a d (meeting_later b0 b1 c.add_shown.ensures.extends t k a d m is))
