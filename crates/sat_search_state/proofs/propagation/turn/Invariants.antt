use Rattle.std.proofs.Common.{◌≡◌, ◌≤◌, ◌-◌, length}
use Rattle.sat_search_spec.specs.Watches.{list_of, IsTurning}
use Rattle.sat_search_state.proofs.propagation.turn.Given as goal

abbrev pub invariant-loop-next : goal.invariant-loop-next
invariant-loop-next l = record {
  turning : IsTurning l.clauses.clauses l.trail l.watches l.falsified l.next;
  variables : l.trail.variables ≡ l.initial.trail.variables;
  level : l.trail.level ≡ l.initial.trail.level;
  grown : length l.initial.trail.entries ≤ length l.trail.entries;
  head : l.watches.head ≡ l.initial.watches.head;
}

abbrev pub decreases-loop-next : goal.decreases-loop-next
decreases-loop-next l = length (list_of l.watches.lists l.falsified) - l.next
