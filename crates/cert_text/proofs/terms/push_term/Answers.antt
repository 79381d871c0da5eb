use Rattle.std.proofs.Common.{◌++◌, ◌∙◌, sym, drop, get_or, false, arith}
use Rattle.cert_text_spec.specs.declared.Symbol.{Symbol}
use Rattle.cert_text_spec.specs.declared.Symbol.TheVariants.{Truth}
use Rattle.std.proofs.lemmas.List.{drop_all}
use Rattle.cert_text_spec.specs.Terms.{term_text}
use Rattle.cert_text.proofs.Spellings.{term_starts, term_over, term_ends, term_more, depth_more}
use Rattle.cert_text.proofs.terms.push_term.Goals as goal

pub loop-symbol-init : goal.loop-symbol-init
loop-symbol-init c = record { left = term_starts c.args.out.now.items c.args.symbols.now; depth = omega arith }

pub returns-then-is_over : goal.returns-then-is_over
returns-then-is_over c =
    term_over (c.args.out.now.items ++ term_text c.args.symbols.now) (drop c.loop-symbol.symbol-index c.args.symbols.now) c.loop-symbol.out.items c.loop-symbol.going c.loop-symbol.invariant.left
    (sym c.is_over.ensures ∙ c.if-is_over.true)

pub loop-symbol-preserved : goal.loop-symbol-preserved
loop-symbol-preserved c =
    let first : Symbol = Truth false in
    record {
      left = term_more (c.args.out.now.items ++ term_text c.args.symbols.now) c.args.symbols.now c.loop-symbol.symbol-index first c.loop-symbol.out.items c.push_at.new.out.items c.loop-symbol.going c.after-going.result
          c.loop-symbol-test.true c.loop-symbol.invariant.left (sym c.is_over.ensures ∙ c.if-is_over.false) c.in-Ok.ensures c.after-going.ensures;
      depth = depth_more c.loop-symbol.going c.after-going.result (get_or c.args.symbols.now c.loop-symbol.symbol-index first) c.loop-symbol.symbol-index c.after-going.ensures c.loop-symbol.invariant.depth;
    }

pub returns : goal.returns
returns c =
    term_ends (c.args.out.now.items ++ term_text c.args.symbols.now) (drop c.loop-symbol.symbol-index c.args.symbols.now) c.loop-symbol.out.items c.loop-symbol.going c.loop-symbol.invariant.left
    (drop_all c.loop-symbol.symbol-index c.args.symbols.now c.loop-symbol-test.false)
