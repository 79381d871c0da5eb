-- How much fuel an expression needs: each construct that it opens and each operator takes some of it.
use Rattle.std.specs.Prelude.{ℕ, suc, ◌+◌, ◌-◌, ◌*◌}
use Rattle.c_parse_spec.specs.Limits.{nesting_limit, operator_limit}

-- by how many constructs may still open, and how many operators may still come
abbrev pub needs : (depth count : ℕ) → ℕ
needs depth count = 8 * ((suc nesting_limit - depth) + (suc operator_limit - count))
