use Rattle.std.proofs.Common.{◌+◌, ◌*◌, ◌<◌, ◌≤◌, arith}
use Rattle.std.specs.Prelude.{◌^◌}
use Rattle.c_run_value.proofs.Steps.{more_bytes, bytes_fit}
use Rattle.c_run_value.proofs.access.+bytes_at.Goals as goal

pub returns-clause-below : goal.returns-clause-below
returns-clause-below t c = more_bytes c.args.size c.byte-low.result c.bytes_at-high.result (omega arith) (omega arith) c.bytes_at-high.ensures.below

pub overflow_mul-result : goal.overflow_mul-result
overflow_mul-result t c =
    let whole : c.byte-low.result + 256 * c.bytes_at-high.result < 2 ^ (8 * c.args.size) = more_bytes c.args.size c.byte-low.result c.bytes_at-high.result (omega arith) (omega arith) c.bytes_at-high.ensures.below in
    let power : 2 ^ (8 * c.args.size) ≤ 2 ^ 64 = bytes_fit c.args.size (omega arith) in omega arith

pub overflow_add-result : goal.overflow_add-result
overflow_add-result t c =
    let whole : c.byte-low.result + 256 * c.bytes_at-high.result < 2 ^ (8 * c.args.size) = more_bytes c.args.size c.byte-low.result c.bytes_at-high.result (omega arith) (omega arith) c.bytes_at-high.ensures.below in
    let power : 2 ^ (8 * c.args.size) ≤ 2 ^ 64 = bytes_fit c.args.size (omega arith) in omega arith
