use Rattle.std.proofs.Common.{◌≡◌, ap, sym, ◌∙◌, not, arith}
use Rattle.c_syntax.specs.Expressions.{dimensions_of, expressions_in}
use Rattle.c_syntax.proofs.Views.{Dimensions-struct-view}
use Rattle.c_parse_declaration.specs.Parts.{has_none}
use Rattle.c_parse_declaration.proofs.Ends.{no-lengths}
use Rattle.c_parse_declaration.proofs.item.is_none.Goals as goal

pub returns-then-not-dimensions : goal.returns-then-not-dimensions
returns-then-not-dimensions c =
    let x = c.args.dimensions.now in
    let view : dimensions_of x ≡ (x.is_open, expressions_in x.lengths) = Dimensions-struct-view x.is_open x.lengths in
    c.is_empty.ensures ∙ no-lengths x.lengths.items _ (omega (arith, x.lengths.ok.0)) ∙ sym (ap has_none (view ∙ ap (λ b. (b, expressions_in x.lengths)) c.if-not-dimensions.true))

pub returns-else-not-dimensions : goal.returns-else-not-dimensions
returns-else-not-dimensions c =
    let x = c.args.dimensions.now in
    let view : dimensions_of x ≡ (x.is_open, expressions_in x.lengths) = Dimensions-struct-view x.is_open x.lengths in
    ap not c.if-not-dimensions.false ∙ sym (ap has_none (view ∙ ap (λ b. (b, expressions_in x.lengths)) c.if-not-dimensions.false))
