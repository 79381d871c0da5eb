use Rattle.std.proofs.Common.{◌≡◌, drop}
use Rattle.std.specs.Prelude.{map}
use Rattle.c_parse_token.specs.Words.{type_among, entry_of}
use Rattle.c_parse_token.proofs.integer.type_in.Given as goal

abbrev pub invariant-loop-entry : goal.invariant-loop-entry
invariant-loop-entry l = type_among l.words (map entry_of (drop l.entry-index l.table)) ≡ type_among l.words (map entry_of l.table)
