use Rattle.std.proofs.Common.{◌≡◌, length, ap, sym, ◌∙◌, arith}
use Rattle.std.proofs.lemmas.Bool.{eqb-true, eqb-false}
use Rattle.bit_blast_circuits.specs.Kinds.{add_row}
use Rattle.bit_blast_circuits.proofs.Built.{same_gives}
use Rattle.bit_blast_circuits.proofs.Stages.{product_start, product_none, rows_at, rows_end}
use Rattle.bit_blast_circuits.proofs.gates.Gates.product_bits.Goals as goal

pub returns : goal.returns
returns c = rows_end c.args.xs.now c.args.ys.now c.loop-index.sum.items c.loop-index.index c.loop-index.index (omega arith) c.loop-index.invariant

pub returns-then-is_empty : goal.returns-then-is_empty
returns-then-is_empty c =
    let none : length c.args.ys.now ≡ 0 = eqb-true _ _ (sym c.is_empty.ensures ∙ c.if-is_empty.true) in
    product_none c.args.xs.now c.args.ys.now c.new.result.items c.args.self.now (omega (arith, none)) c.new.ensures.items

pub loop-index-init : goal.loop-index-init
loop-index-init c =
    let some : length c.args.ys.now ≡ 0 → ⊥ = eqb-false _ _ (sym c.is_empty.ensures ∙ c.if-is_empty.false) in
    product_start c.args.xs.now c.args.ys.now c.in_ok-sum.sum.items c.index-ys-0.result (omega (arith, some)) c.index-ys-0.is c.in_ok-sum.ensures

pub loop-index-preserved : goal.loop-index-preserved
loop-index-preserved c =
    rows_at c.args.xs.now c.args.ys.now c.loop-index.sum.items c.in_ok-sum-2.sum.items c.index-ys-index.result c.loop-index.index (omega arith) c.index-ys-index.is c.loop-index.invariant
    (same_gives (add_row c.args.xs.now c.loop-index.index c.index-ys-index.result c.deref.result.now)
    (add_row c.args.xs.now c.loop-index.index c.index-ys-index.result c.loop-index.sum.items)
    (ap (add_row c.args.xs.now c.loop-index.index c.index-ys-index.result) c.deref.ensures.value) c.in_ok-sum-2.ensures)
