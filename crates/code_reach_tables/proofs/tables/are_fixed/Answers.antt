use Rattle.std.proofs.Common.{◌≡◌, ◌+◌, ◌*◌, None, sym, arith, rules}
use Rattle.code_reach_spec.specs.Code.{word_at}
use Rattle.code_reach_tables.proofs.Tabled.{words-fixed, words-open}
use Rattle.code_reach_tables.proofs.tables.are_fixed.Goals as goal

pub returns-then-is_none : goal.returns-then-is_none
returns-then-is_none c =
    let none : word_at c.args.image.now (c.args.address + 4 * c.loop-k.k) ≡ None = search rules in
    sym (words-open c.args.image.now c.args.address c.args.count c.loop-k.k (search rules) none)

pub returns : goal.returns
returns c = sym (words-fixed c.args.image.now c.args.address c.args.count (λ j below. c.loop-k.invariant j (omega (arith, below, c.loop-k-test.false))))
