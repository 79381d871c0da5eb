use Rattle.std.proofs.Common.{◌≡◌, ◌++◌, replicate}
use Rattle.bit_blast_circuits.proofs.words.padded.Given as goal

abbrev pub invariant-loop : goal.invariant-loop
invariant-loop l = l.out.items ≡ l.xs ++ replicate l.counter l.fill
