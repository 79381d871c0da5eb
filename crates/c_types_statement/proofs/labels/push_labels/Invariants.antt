use Rattle.std.proofs.Common.{◌≡◌, ◌++◌, drop}
use Rattle.c_types_statement.proofs.labels.push_labels.Given as goal

-- what is left comes after those so far
abbrev pub invariant-loop-label : goal.invariant-loop-label
invariant-loop-label l = l.found.items ++ drop l.label-index l.more ≡ l.fn.found.items ++ l.more
