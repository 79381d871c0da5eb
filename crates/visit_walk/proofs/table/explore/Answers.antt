use Rattle.std.proofs.Common.{◌+◌, sym, ◌∙◌, subst, arith}
use Rattle.std.proofs.lemmas.List.{length-map}
use Rattle.visit_walk.specs.Tables.{seen, vectors_of}
use Rattle.visit_walk.proofs.Exploring.{IsExploring, explore_begin, explore_next, explore_all, explore_more, explored_last}
use Rattle.visit_walk.proofs.table.explore.Goals as goal

pub loop-i-init : goal.loop-i-init
loop-i-init c = explore_begin c.args.shape.now c.args.marks.now c.args.start c.begin.new.table c.args.targets.now.items c.in_ok-begin.ensures c.requires.targets

pub returns-then-i-len : goal.returns-then-i-len
returns-then-i-len c =
    explore_all c.args.shape.now c.args.marks.now c.args.start c.loop-i.i c.args.maximum c.loop-i.table c.loop-i.targets.items c.loop-i.invariant
    (sym c.len.ensures.len ∙ sym c.if-i-len.true) (omega (arith, c.loop-i-test.true))

pub returns-then-len-maximum : goal.returns-then-len-maximum
returns-then-len-maximum c =
    let within = c.loop-i.invariant.within in
    let below = length-map c.loop-i.table.keys.keys (seen (vectors_of c.loop-i.table)) in
    explore_more c.args.shape.now c.args.marks.now c.args.start (c.loop-i.i + 1) c.args.maximum c.follow.new.table c.push.new.self.items
    (subst (IsExploring c.args.shape.now c.args.marks.now c.args.start (c.loop-i.i + 1) c.follow.new.table) (sym c.in_ok-push.ensures.items)
    (explore_next c.args.shape.now c.args.marks.now c.args.start c.loop-i.i c.loop-i.table c.follow.new.table c.loop-i.targets.items c.in_ok-found.found c.loop-i.invariant
    (omega (arith, within, below, c.len.ensures.len, c.if-i-len.false)) c.in_ok-found.ensures))
    (omega (arith, c.len-in-loop-i.ensures.len, c.if-len-maximum.true))

pub loop-i-preserved : goal.loop-i-preserved
loop-i-preserved c =
    let within = c.loop-i.invariant.within in
    let below = length-map c.loop-i.table.keys.keys (seen (vectors_of c.loop-i.table)) in
    subst (IsExploring c.args.shape.now c.args.marks.now c.args.start (c.loop-i.i + 1) c.follow.new.table) (sym c.in_ok-push.ensures.items)
    (explore_next c.args.shape.now c.args.marks.now c.args.start c.loop-i.i c.loop-i.table c.follow.new.table c.loop-i.targets.items c.in_ok-found.found c.loop-i.invariant
    (omega (arith, within, below, c.len.ensures.len, c.if-i-len.false)) c.in_ok-found.ensures)

pub returns : goal.returns
returns c =
    explored_last c.args.shape.now c.args.marks.now c.args.start c.loop-i.i c.args.maximum c.len-2.result c.loop-i.table c.loop-i.targets.items c.loop-i.invariant
    (omega (arith, c.loop-i-test.false, c.loop-i.auto.i-end)) c.len-2.ensures.len
