use Rattle.std.proofs.Common.{◌≡◌, ◌+◌, drop}
use Rattle.c_token_spec.specs.Numbers.{number_len}
use Rattle.c_token.proofs.number.number_len.Given as goal

abbrev pub invariant-loop-count : goal.invariant-loop-count
invariant-loop-count l = l.count + number_len l.last (drop l.count l.text) ≡ number_len l.before l.text
