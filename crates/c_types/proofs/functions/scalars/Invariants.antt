use Rattle.std.proofs.Common.{◌≡◌, ◌++◌, drop, map}
use Rattle.c_types_layout.specs.Types.{type_of}
use Rattle.c_types_spec.specs.Units as rule
use Rattle.c_types.proofs.functions.scalars.Given as goal

-- what is left comes after those so far
abbrev pub invariant-loop-of : goal.invariant-loop-of
invariant-loop-of l = l.found.items ++ rule.scalars_of (map type_of (drop l.of-index l.types)) ≡ l.fn.found.items ++ rule.scalars_of (map type_of l.types)
