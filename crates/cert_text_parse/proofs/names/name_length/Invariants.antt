use Rattle.std.proofs.Common.{length, ◌-◌, ◌≤◌}
use Rattle.cert_text_parse.proofs.Digits.{Through}
use Rattle.cert_text_parse.proofs.names.name_length.Given as goal

abbrev pub invariant-loop-n : goal.invariant-loop-n
invariant-loop-n l = record {
  within : l.n ≤ length l.text;
  through : Through l.text l.n;
}

abbrev pub decreases-loop-n : goal.decreases-loop-n
decreases-loop-n l = length l.text - l.n
