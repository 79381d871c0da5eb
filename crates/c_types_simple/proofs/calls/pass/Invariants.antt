use Rattle.std.proofs.Common.{◌≡◌, ◌≤◌, length, map, drop}
use Rattle.std.specs.Vec.Iter.{into_iter_items, into_iter_len}
use Rattle.c_types_spec.specs.Statements as rule
use Rattle.c_types_layout.specs.Types.{type_of}
use Rattle.c_types_simple.specs.Contexts.{cores_in, values_in}
use Rattle.c_types_simple.specs.Calls.{after}
use Rattle.c_types_simple.proofs.calls.pass.Given as goal

-- what is left gives what all give
abbrev pub invariant-loop-v : goal.invariant-loop-v
invariant-loop-v l =
    (into_iter_len l.v-iterator ≡ length (into_iter_items l.v-iterator))
    × (l.place ≤ length l.types)
    × (after (cores_in l.cores) (rule.passed (map type_of (drop l.place l.types)) (values_in (into_iter_items l.v-iterator)))
    ≡ after (cores_in l.fn.cores) (rule.passed (map type_of l.types) (values_in l.fn.values.items)))
