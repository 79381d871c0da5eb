use Rattle.std.proofs.Common.{Bool, true, false, cond, length, sym, ap, ◌∙◌, ◌≡◌, subst}
use Rattle.word_steps_spec.specs.Bitwise.{are_apart}
use Rattle.word_steps_rules.specs.declared.plan.Gate.TheVariants.{Or}
use Rattle.word_steps_rules.specs.declared.plan.Plan.TheVariants.{Own, Both}
use Rattle.word_steps_rules.specs.Bits.{bits_in, row_in, rows_of}
use Rattle.word_steps_rules.proofs.planning.sum_plan.Goals as goal

pub returns-then-are_apart : goal.returns-then-are_apart
returns-then-are_apart c =
    λ trees.
    let others = c.row_at-others.result.now in
    let first = row_in (rows_of c.args.rows.now) c.args.first in
    let e = sym (c.are_apart.ensures trees) ∙ c.if-are_apart.true in
    let f = subst (λ l. are_apart (length l) (bits_in trees l) (bits_in trees others) ≡ true) c.row_at-some.ensures e in
    let g = subst (λ l. are_apart (length first) (bits_in trees first) (bits_in trees l) ≡ true) c.row_at-others.ensures f in
    sym (ap (λ (test : Bool). cond test (Both Or c.args.first c.args.second) Own) g)

pub returns-else-are_apart : goal.returns-else-are_apart
returns-else-are_apart c =
    λ trees.
    let others = c.row_at-others.result.now in
    let first = row_in (rows_of c.args.rows.now) c.args.first in
    let e = sym (c.are_apart.ensures trees) ∙ c.if-are_apart.false in
    let f = subst (λ l. are_apart (length l) (bits_in trees l) (bits_in trees others) ≡ false) c.row_at-some.ensures e in
    let g = subst (λ l. are_apart (length first) (bits_in trees first) (bits_in trees l) ≡ false) c.row_at-others.ensures f in
    sym (ap (λ (test : Bool). cond test (Both Or c.args.first c.args.second) Own) g)
