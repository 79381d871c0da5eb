use Rattle.std.proofs.Common.{◌≡◌, ◌-◌, ◌*◌, true, false, sym, arith, rules}
use Rattle.code_reach.specs.Flows.{is_among}
use Rattle.code_reach.proofs.Switches.{none-target, none-more, is-target}
use Rattle.code_reach.proofs.faults.some_target.Goals as goal

pub returns-then-contains : goal.returns-then-contains
returns-then-contains c =
    let is : is_among c.args.targets.now.keys (c.args.address - 4 * c.loop-back.back) ≡ true = search rules in
    sym (is-target (is_among c.args.targets.now.keys) c.args.address c.args.count c.loop-back.back c.loop-back-test.true is)

pub loop-back-preserved : goal.loop-back-preserved
loop-back-preserved c =
    let no : is_among c.args.targets.now.keys (c.args.address - 4 * c.loop-back.back) ≡ false = search rules in
    none-more (is_among c.args.targets.now.keys) c.args.address c.loop-back.back c.loop-back.invariant no

pub returns : goal.returns
returns c = sym (none-target (is_among c.args.targets.now.keys) c.args.address c.args.count (λ j below. c.loop-back.invariant j (omega (arith, below, c.loop-back-test.false))))
