use Rattle.std.proofs.Common.{◌≡◌, ◌++◌, take}
use Rattle.prove_run.proofs.writing.add_hints.Given as goal

-- the hints so far are added
abbrev pub invariant-loop-hint : goal.invariant-loop-hint
invariant-loop-hint l = l.written.items ≡ l.fn.written.items ++ take l.hint-index l.hints
