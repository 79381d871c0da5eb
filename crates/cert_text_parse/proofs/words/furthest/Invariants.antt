use Rattle.std.proofs.Common.{◌≡◌, ◌≤◌, drop, length}
use Rattle.std.specs.Prelude.{map, max}
use Rattle.cert_text_laws.specs.Readers.{furthest}
use Rattle.cert_text_parse.specs.Outcomes.{entry_of}
use Rattle.cert_text_parse.proofs.words.furthest.Given as goal

abbrev pub invariant-loop-entry : goal.invariant-loop-entry
invariant-loop-entry g l = record {
  far : max l.far (furthest (map entry_of (drop l.entry-index l.table)) l.text) ≡ furthest (map entry_of l.table) l.text;
  within : l.far ≤ length l.text;
}
