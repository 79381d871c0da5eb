use Rattle.std.proofs.Common.{◌∙◌}
use Rattle.c_types_layout.specs.Comparison.{inside}
use Rattle.c_types_layout.proofs.Pointed.{same-within, smaller-within}
use Rattle.c_types_layout.proofs.types.same_inner.Goals as goal

pub loop-s-smaller-in-Pointer-this : goal.loop-s-smaller-in-Pointer-this
loop-s-smaller-in-Pointer-this c =
    let pair = c.in-Pointer-Pointer in
    smaller-within c.min-common.result (inside c.within-left.result) (inside pair.s) (inside c.loop-s.left) c.within-left.ensures pair.ensures

pub loop-s-preserved-in-Pointer-this : goal.loop-s-preserved-in-Pointer-this
loop-s-preserved-in-Pointer-this c =
    let pair = c.in-Pointer-Pointer in
    same-within c.min-common.result (inside c.within-left.result) (inside c.within-right.result) (inside pair.s) (inside pair.t) (inside c.loop-s.left) (inside c.loop-s.right) c.within-left.ensures c.within-right.ensures pair.ensures pair.ensures'
    ∙ c.loop-s.invariant
