use Rattle.std.proofs.Common.{◌≡◌, ◌∙◌, ◌+◌, ◌*◌, Some, None, true, false, sym, ap, subst, arith, rules}
use Rattle.code_reach_spec.specs.RunUp.{is_straight, followed, before_all}
use Rattle.code_reach_spec.specs.Code.{instr_at}
use Rattle.code_reach_tables.specs.Tables.{IsRunOr, IsRun, is_straight_or}
use Rattle.code_reach_tables.proofs.Searched.{run-begun, run-more, straight-stops}
use Rattle.code_reach_tables.proofs.tables.follow_words.Goals as goal

pub loop-k-init : goal.loop-k-init
loop-k-init c = run-begun c.args.image.now c.args.r c.args.start c.args.straight.now c.requires.begun

pub returns-in_default : goal.returns-in_default
returns-in_default c =
    let none : instr_at c.args.image.now (c.args.start + 4 * c.loop-k.k) ≡ None = search rules in
    straight-stops c.args.image.now c.args.start c.args.count c.loop-k.k c.loop-k-test.true (ap (λ o. is_straight_or o) none)

pub returns-then-not-is_straight : goal.returns-then-not-is_straight
returns-then-not-is_straight c =
    let there : instr_at c.args.image.now (c.args.start + 4 * c.loop-k.k) ≡ Some c.in-Some.instruction = search rules in
    let crooked : is_straight c.in-Some.instruction ≡ false = search rules in
    straight-stops c.args.image.now c.args.start c.args.count c.loop-k.k c.loop-k-test.true (ap (λ o. is_straight_or o) there ∙ crooked)

pub follow-requires : goal.follow-requires
follow-requires c = (followed c.args.r c.args.start c.loop-k.invariant.words before_all, c.loop-k.invariant.is)

pub loop-k-preserved : goal.loop-k-preserved
loop-k-preserved c =
    let there : instr_at c.args.image.now (c.args.start + 4 * c.loop-k.k) ≡ Some c.in-Some.instruction = search rules in
    let is : is_straight c.in-Some.instruction ≡ true = search rules in
    run-more c.args.image.now c.args.r c.args.start c.loop-k.k c.loop-k.straight c.follow.new.self c.in-Some.instruction c.loop-k.invariant there is c.in_ok-follow.ensures

pub returns : goal.returns
returns c = subst (λ n. IsRun c.args.image.now c.args.r c.args.start n c.loop-k.straight) {x = c.loop-k.k} {y = c.args.count} (omega arith) c.loop-k.invariant
