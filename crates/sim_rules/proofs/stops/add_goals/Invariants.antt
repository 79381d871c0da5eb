use Rattle.std.proofs.Common.{map, take}
use Rattle.term_core_spec.specs.Term.{Term}
use Rattle.term_bank.specs.Nodes.{Extends}
use Rattle.proof_tree.specs.Frames.{goal_of}
use Rattle.sim_rules_spec.specs.Rules.{goal_stops}
use Rattle.sim_rules_spec.specs.Sides.{Way}
use Rattle.sim_rules.specs.Compared.{Compared}
use Rattle.sim_rules.specs.Held.{HasAdded}
use Rattle.sim_rules.specs.Stops.{IsMeeting, binary_visits, shown_terms, source_visits}
use Rattle.sim_rules.proofs.stops.add_goals.Given as goal

-- the goals so far
abbrev pub invariant-loop-index : goal.invariant-loop-index
invariant-loop-index l = record {
  extends : Extends l.fn.bank l.bank;
  added : (t : Term) (c : Compared) (a d : Way) → IsMeeting l.fn.bank t c a d l.meeting
      → HasAdded l.fn.bank l.bank (shown_terms l.claim t c a d (binary_visits l.meeting) (source_visits l.meeting) (goal_stops 0 (map goal_of (take l.index l.goals)))) l.fn.ids.items l.ids.items;
}
