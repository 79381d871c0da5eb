use Rattle.std.proofs.Common.{◌≡◌, ◌+◌, drop, option_map}
use Rattle.c_token_spec.specs.Blanks.{close_len}
use Rattle.c_token.proofs.blank.close_len.Given as goal

abbrev pub invariant-loop-start : goal.invariant-loop-start
invariant-loop-start l = option_map (λ count. l.start + count) (close_len (drop l.start l.text)) ≡ close_len l.text
