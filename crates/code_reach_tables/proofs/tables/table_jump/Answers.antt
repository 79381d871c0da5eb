use Rattle.std.proofs.Common.{◌≡◌, ◌∙◌, ◌+◌, ◌-◌, ◌*◌, ◌≤◌, Some, None, true, false, is_some, sym, ap, subst, arith, rules}
use Rattle.std.specs.Option.{option_map}
use Rattle.code_reach_spec.specs.Code.{table_jump}
use Rattle.code_reach_tables.specs.Tables.{jump_seen, is_before_jump}
use Rattle.code_reach_tables.proofs.Searched.{none-yet, none-still, found-shortest, none-found, none-further}
use Rattle.code_reach_tables.proofs.tables.table_jump.Goals as goal

pub loop-before-init : goal.loop-before-init
loop-before-init c = record { within = omega arith; none = none-yet c.args.image.now c.args.r c.args.address }

pub returns-then-not-may_be_before : goal.returns-then-not-may_be_before
returns-then-not-may_be_before c =
    let crooked : is_before_jump c.args.image.now (c.args.address - 4 * (c.loop-before.before + 1)) ≡ false = search rules in
    sym (none-further c.args.image.now c.args.r c.args.address (c.loop-before.before + 1) c.args.most c.requires.before (omega arith) (omega (arith, c.loop-before-test.true))
    (ap (λ n. table_jump c.args.image.now c.args.r c.args.address n) {x = c.loop-before.before + 1 - 1} {y = c.loop-before.before} (omega arith) ∙ c.loop-before.invariant.none) crooked)

pub returns-then-is_some : goal.returns-then-is_some
returns-then-is_some c =
    let some : is_some c.in_ok-found.found ≡ true = search rules in
    found-shortest c.args.image.now c.args.r c.args.address c.loop-before.before c.args.most c.in_ok-found.found some c.loop-before-test.true c.loop-before.invariant.none c.in_ok-found.ensures

pub loop-before-preserved : goal.loop-before-preserved
loop-before-preserved c =
    let none : is_some c.in_ok-found.found ≡ false = search rules in
    record {
      within = omega (arith, c.loop-before-test.true);
      none = none-still c.args.image.now c.args.r c.args.address c.loop-before.before c.loop-before.invariant.none
          (none-found c.args.image.now c.args.r c.args.address (c.loop-before.before + 1) c.in_ok-found.found none c.in_ok-found.ensures);
    }

pub returns : goal.returns
returns c =
    let all : c.loop-before.before ≡ c.args.most = omega (arith, c.loop-before-test.false, c.loop-before.invariant.within) in
    sym (ap (λ n. table_jump c.args.image.now c.args.r c.args.address n) (sym all) ∙ c.loop-before.invariant.none)
