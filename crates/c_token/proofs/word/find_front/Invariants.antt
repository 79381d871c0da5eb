use Rattle.std.proofs.Common.{◌≡◌, drop}
use Rattle.std.specs.Prelude.{map}
use Rattle.c_token_spec.specs.Punctuators.{prefix_entry}
use Rattle.c_token.specs.Tables.{spelled}
use Rattle.c_token.proofs.word.find_front.Given as goal

abbrev pub invariant-loop-entry : goal.invariant-loop-entry
invariant-loop-entry l = prefix_entry (map spelled (drop l.entry-index l.table)) l.text ≡ prefix_entry (map spelled l.table) l.text
