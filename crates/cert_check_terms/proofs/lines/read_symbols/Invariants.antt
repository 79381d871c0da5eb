use Rattle.std.proofs.Common.{length}
use Rattle.term_bank.specs.Nodes.{Extends}
use Rattle.proof_tree.specs.Scope.{setting_of}
use Rattle.cert_check_terms.specs.Views.{AreInside, reading_of}
use Rattle.cert_check_terms.proofs.Remaining.{IsLeft}
use Rattle.cert_check_terms.proofs.lines.read_symbols.Given as goal

-- what is left comes to the same
abbrev pub invariant-loop-symbol : goal.invariant-loop-symbol
invariant-loop-symbol l = record {
  extends : Extends l.fn.bank l.bank;
  inside : AreInside (length l.bank) l.reading.entries.items;
  left : IsLeft (setting_of l.setting) l.path (reading_of l.fn.bank l.fn.reading) l.symbols (reading_of l.bank l.reading) l.symbol-index;
}
