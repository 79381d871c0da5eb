use Rattle.std.proofs.Common.{◌≡◌, replicate, None}
use Rattle.mem_terms.proofs.walk.nothing_done.Given as goal

abbrev pub invariant-loop-i : goal.invariant-loop-i
invariant-loop-i l = l.done.items ≡ replicate l._i None
