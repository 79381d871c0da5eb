use Rattle.std.proofs.Common.{◌<◌, ◌*◌, ◌+◌, arith, get_or}
use Rattle.c_token_spec.specs.Numbers.{digit_value}
use Rattle.c_token.proofs.Digits.{product_fits}
use Rattle.c_token.proofs.number.digits_value.Goals as goal

pub returns-in_err-checked_mul : goal.returns-in_err-checked_mul
returns-in_err-checked_mul c =
    rw c.from_residual.ensures (λ small.
    let fits : c.loop-digit.value * c.args.base + digit_value (get_or c.args.digits.now c.loop-digit.digit-index 0) < 18446744073709551616 =
    product_fits c.args.base c.loop-digit.value c.loop-digit.digit-index _ c.args.digits.now c.requires c.loop-digit-test.true c.loop-digit.invariant.0 small in
    c.in_err-checked_mul.ensures (omega arith))

pub returns-in_err-value : goal.returns-in_err-value
returns-in_err-value c =
    rw c.from_residual-in_err-value.ensures (λ small.
    let fits : c.loop-digit.value * c.args.base + digit_value (get_or c.args.digits.now c.loop-digit.digit-index 0) < 18446744073709551616 =
    product_fits c.args.base c.loop-digit.value c.loop-digit.digit-index _ c.args.digits.now c.requires c.loop-digit-test.true c.loop-digit.invariant.0 small in
    c.in_err-value.ensures (rw (c.in_ok-checked_mul.ensures.1, c.digit_value.ensures) fits))
