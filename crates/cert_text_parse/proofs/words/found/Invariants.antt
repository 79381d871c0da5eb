use Rattle.std.proofs.Common.{◌≡◌, drop}
use Rattle.std.specs.Prelude.{map}
use Rattle.cert_text_laws.specs.Readers.{found_in}
use Rattle.cert_text_parse.specs.Outcomes.{entry_of}
use Rattle.cert_text_parse.proofs.words.found.Given as goal

abbrev pub invariant-loop-entry : goal.invariant-loop-entry
invariant-loop-entry g l = found_in (map entry_of (drop l.entry-index l.table)) l.text ≡ found_in (map entry_of l.table) l.text
