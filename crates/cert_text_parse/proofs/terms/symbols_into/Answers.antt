use Rattle.std.proofs.Common.{subst, sym}
use Rattle.cert_text_laws.proofs.Symbols.{symbol_shorter}
use Rattle.cert_text_parse.specs.Terms.{expected_of, next}
use Rattle.cert_text_parse.proofs.Goings.{TermLeft, term_starts, term_next}
use Rattle.cert_text_parse.proofs.terms.symbols_into.Goals as goal

pub loop-expected-init : goal.loop-expected-init
loop-expected-init c = term_starts c.args.cursor.now.rest.now c.args.symbols.now.items c.requires

pub loop-expected-smaller : goal.loop-expected-smaller
loop-expected-smaller c = symbol_shorter (expected_of c.in-Some.expected) c.loop-expected.cursor.rest.now c.symbol.new.cursor.rest.now c.in-Ok.symbol c.in-Ok.ensures

pub loop-expected-preserved : goal.loop-expected-preserved
loop-expected-preserved c =
    let old = c.args.cursor.now.rest.now in
    let rest = c.symbol.new.cursor.rest.now in
    subst (λ g. TermLeft old c.push.new.self.items g rest) (sym c.after-going.ensures)
    (subst (λ q. TermLeft old q (next c.loop-expected.going c.in-Ok.symbol) rest) (sym c.in_ok-push.ensures.items)
    (term_next old c.loop-expected.symbols.items c.loop-expected.going c.loop-expected.cursor.rest.now c.loop-expected.invariant c.in-Some.expected c.in-Some.ensures rest c.in-Ok.symbol c.in-Ok.ensures))
