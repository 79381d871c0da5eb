use Rattle.std.proofs.Common.{◌≡◌, ◌++◌, drop}
use Rattle.c_types_scope.proofs.Ranges.{front_of}
use Rattle.c_types_scope.proofs.entries.hide.Given as goal

-- those before the place are hidden
abbrev pub invariant-loop-i : goal.invariant-loop-i
invariant-loop-i g l = l.entries ≡ front_of l.start l.i l.fn.entries ++ drop l.i l.fn.entries
