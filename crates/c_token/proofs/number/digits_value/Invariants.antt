use Rattle.std.proofs.Common.{◌≡◌, ◌<◌, ◌^◌, drop}
use Rattle.c_token_spec.specs.Numbers.{digits_value}
use Rattle.c_token.proofs.Digits.{value_after}
use Rattle.c_token.proofs.number.digits_value.Given as goal

abbrev pub invariant-loop-digit : goal.invariant-loop-digit
invariant-loop-digit l = (value_after l.base l.value (drop l.digit-index l.digits) ≡ digits_value l.base l.digits) × (l.value < 2 ^ 64)
