use Rattle.std.proofs.Common.{◌++◌, ◌≤◌, drop}
use Rattle.cert_text_spec.specs.Terms.{term_text}
use Rattle.cert_text.proofs.Spellings.{TermLeft}
use Rattle.cert_text.proofs.terms.push_term.Given as goal

abbrev pub invariant-loop-symbol : goal.invariant-loop-symbol
invariant-loop-symbol l = record {
  left : TermLeft (l.initial.out.items ++ term_text l.symbols) (drop l.symbol-index l.symbols) l.out.items l.going;
  depth : l.going.depth ≤ l.symbol-index;
}
