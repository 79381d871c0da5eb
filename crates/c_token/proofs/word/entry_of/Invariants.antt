use Rattle.std.proofs.Common.{◌≡◌, drop}
use Rattle.std.specs.Prelude.{map}
use Rattle.c_token_spec.specs.Words.{entry_of}
use Rattle.c_token.specs.Tables.{spelled}
use Rattle.c_token.proofs.word.entry_of.Given as goal

abbrev pub invariant-loop-entry : goal.invariant-loop-entry
invariant-loop-entry g l = entry_of (map spelled (drop l.entry-index l.table)) l.word ≡ entry_of (map spelled l.table) l.word
