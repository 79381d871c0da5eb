use Rattle.std.proofs.Common.{length, ◌-◌, ◌≡◌, ◌≤◌, ◌+◌, drop}
use Rattle.cert_text_laws.specs.Readers.{common}
use Rattle.cert_text_parse.proofs.words.common.Given as goal

abbrev pub invariant-loop-n : goal.invariant-loop-n
invariant-loop-n l = record {
  within : l.n ≤ length l.word;
  text : l.n ≤ length l.text;
  same : l.n + common (drop l.n l.word) (drop l.n l.text) ≡ common l.word l.text;
}

abbrev pub decreases-loop-n : goal.decreases-loop-n
decreases-loop-n l = length l.word - l.n
