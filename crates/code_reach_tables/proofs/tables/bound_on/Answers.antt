use Rattle.std.proofs.Common.{◌≡◌, ◌≢◌, ◌+◌, ◌-◌, ◌<◌, length, sym, subst, arith, rules}
use Rattle.code_reach_tables.specs.Nodes.{trees_of}
use Rattle.code_reach_tables.proofs.Tabled.{IsLeft, all-left, one-less, found-last, none-left}
use Rattle.code_reach_tables.proofs.tables.bound_on.Goals as goal

pub loop-left-init : goal.loop-left-init
loop-left-init c = all-left (trees_of c.args.straight.now.nodes.keys) c.args.straight.now.bounds.items c.args.index c.len-left.result (omega (arith, c.len-left.ensures, c.args.straight.now.bounds.ok))

pub loop-left-preserved : goal.loop-left-preserved
loop-left-preserved c =
    let one : c.loop-left.left ≡ c.loop-left.left - 1 + 1 = omega (arith, c.loop-left-test.true) in
    one-less c.args.straight.now.nodes.keys c.requires.1.shared c.args.straight.now.bounds.items c.args.index (c.loop-left.left - 1) c.index-bound.result.now (sym c.index-bound.ensures)
    (omega (arith, c.loop-left.invariant.within, c.loop-left-test.true))
    (subst (λ n. IsLeft (trees_of c.args.straight.now.nodes.keys) c.args.straight.now.bounds.items c.args.index n) one c.loop-left.invariant) c.if-bound-index.false

pub returns-then-bound-index : goal.returns-then-bound-index
returns-then-bound-index c = λ f t is holds.
    let one : c.loop-left.left ≡ c.loop-left.left - 1 + 1 = omega (arith, c.loop-left-test.true) in
    found-last c.args.straight.now.nodes.keys c.requires.1.shared c.args.straight.now.bounds.items c.args.index (c.loop-left.left - 1) c.index-bound.result.now (sym c.index-bound.ensures)
    (omega (arith, c.loop-left.invariant.within, c.loop-left-test.true))
    (subst (λ n. IsLeft (trees_of c.args.straight.now.nodes.keys) c.args.straight.now.bounds.items c.args.index n) one c.loop-left.invariant) c.if-bound-index.true
    f.bounds t holds is.bounds

pub returns : goal.returns
returns c = λ f t is holds.
    let none : c.loop-left.left ≡ 0 = omega (arith, c.loop-left-test.false) in
    none-left (trees_of c.args.straight.now.nodes.keys) c.args.straight.now.bounds.items c.args.index
    (subst (λ n. IsLeft (trees_of c.args.straight.now.nodes.keys) c.args.straight.now.bounds.items c.args.index n) none c.loop-left.invariant) f.bounds t holds is.bounds
