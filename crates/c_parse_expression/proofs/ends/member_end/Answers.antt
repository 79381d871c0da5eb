use Rattle.std.proofs.Common.{◌≡◌, ap, sym, ◌∙◌, arith}
use Rattle.std.specs.Vec.{vec_len}
use Rattle.std.proofs.lemmas.Bool.{eqb-true, eqb-false}
use Rattle.c_parse_expression.proofs.Parts.{end-open, end-simple, end-array}
use Rattle.c_parse_expression.proofs.ends.member_end.Goals as goal

pub returns-then-deref : goal.returns-then-deref
returns-then-deref c = end-open c.args.declarator.now c.deref.result.now c.deref.ensures c.if-deref.true

pub returns-then-is_empty : goal.returns-then-is_empty
returns-then-is_empty c =
    let lengths = c.deref-2.result.now.lengths in
    let none : vec_len lengths ≡ 0 = eqb-true (vec_len lengths) 0 (sym c.is_empty.ensures ∙ c.if-is_empty.true) in
    end-simple c.args.declarator.now c.deref-2.result.now c.deref-2.ensures (ap (λ d. d.is_open) (c.deref-2.ensures ∙ sym c.deref.ensures) ∙ c.if-deref.false) (omega (arith, none, lengths.ok.0))

pub returns-else-is_empty : goal.returns-else-is_empty
returns-else-is_empty c =
    let lengths = c.deref-2.result.now.lengths in
    let some = eqb-false (vec_len lengths) 0 (sym c.is_empty.ensures ∙ c.if-is_empty.false) in
    end-array c.args.declarator.now c.deref-2.result.now c.deref-2.ensures (ap (λ d. d.is_open) (c.deref-2.ensures ∙ sym c.deref.ensures) ∙ c.if-deref.false) (λ none. some (omega (arith, none, lengths.ok.0)))
