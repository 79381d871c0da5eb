use Rattle.std.proofs.Common.{◌∙◌, arith}
use Rattle.tv_base.proofs.Grown.{grows_on}
use Rattle.tv_base.proofs.writing.write_all.Goals as goal

pub pieces-preserved : goal.pieces-preserved
pieces-preserved g c =
    let before = c.pieces.invariant in
    let one = c.in_ok-at.ensures in
    (grows_on _ _ _ _ _ _ _ _ before.0 before.2 one.grows, omega arith, one.same_name ∙ before.2, one.unfailing ∙ before.3)
