use Rattle.std.proofs.Common.{◌≡◌, length}
use Rattle.std.specs.Prelude.{reverse}
use Rattle.c_types_scope.specs.Entries.{AreTied, until}
use Rattle.c_types_scope.proofs.entries.unwind.Given as goal

abbrev pub invariant-loop-entries : goal.invariant-loop-entries
invariant-loop-entries g l = record {
  rest : until l.start (reverse l.entries.items) ≡ until l.start (reverse l.fn.entries.items);
  tied : AreTied (reverse l.fn.entries.items) l.fn.newest.entries → AreTied (reverse l.entries.items) l.newest.entries;
}

abbrev pub decreases-loop-entries : goal.decreases-loop-entries
decreases-loop-entries g l = length l.entries.items
