use Rattle.std.proofs.Common.{◌≡◌, ◌+◌, ◌*◌, true, false, sym, arith, rules}
use Rattle.code_reach_tables.specs.Tables.{target_at}
use Rattle.code_reach.specs.Flows.{is_inside}
use Rattle.code_reach.proofs.Switches.{all-pass, one-fails, each-more}
use Rattle.code_reach.proofs.faults.all_inside.Goals as goal

pub returns-then-not-is_table_target : goal.returns-then-not-is_table_target
returns-then-not-is_table_target c =
    let no : is_inside c.args.entry c.args.size (target_at c.args.image.now (c.args.jump.first + 4 * c.loop-index.index)) ≡ false = search rules in
    sym (one-fails (is_inside c.args.entry c.args.size) c.args.image.now c.args.jump.first c.args.jump.count c.loop-index.index c.loop-index-test.true no)

pub loop-index-preserved : goal.loop-index-preserved
loop-index-preserved c =
    let is : is_inside c.args.entry c.args.size (target_at c.args.image.now (c.args.jump.first + 4 * c.loop-index.index)) ≡ true = search rules in
    each-more (λ j. is_inside c.args.entry c.args.size (target_at c.args.image.now (c.args.jump.first + 4 * j))) c.loop-index.index c.loop-index.invariant is

pub returns : goal.returns
returns c = sym (all-pass (is_inside c.args.entry c.args.size) c.args.image.now c.args.jump.first c.args.jump.count
    (λ j below. c.loop-index.invariant j (omega (arith, below, c.loop-index-test.false))))
