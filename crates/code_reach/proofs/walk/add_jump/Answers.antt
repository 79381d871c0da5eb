use Rattle.std.proofs.Common.{subst, arith}
use Rattle.std.specs.List.{flat_map}
use Rattle.code_reach_spec.specs.Code.{aligned}
use Rattle.code_reach_tables.specs.Tables.{targets_from}
use Rattle.code_reach.specs.Growth.{Grows, IsInside}
use Rattle.code_reach.proofs.Switches.{inside-begun, inside-more}
use Rattle.code_reach.proofs.walk.add_jump.Goals as goal

pub loop-index-init : goal.loop-index-init
loop-index-init c = inside-begun c.args.image.now c.args.entry c.args.size c.args.jump.first c.args.reached.now.keys

pub loop-index-preserved : goal.loop-index-preserved
loop-index-preserved c =
    inside-more c.args.image.now c.args.entry c.args.size c.args.jump.first c.loop-index.index c.args.reached.now.keys c.loop-index.reached.keys c.add_target.new.reached.keys
    c.loop-index.invariant
    (subst (λ t. Grows (IsInside c.args.entry c.args.size (aligned t)) c.loop-index.reached.keys c.add_target.new.reached.keys) c.target.ensures c.in_ok-add_target.ensures)

pub returns : goal.returns
returns c =
    subst (λ n. Grows (IsInside c.args.entry c.args.size (flat_map aligned (targets_from c.args.image.now c.args.jump.first n))) c.args.reached.now.keys c.loop-index.reached.keys)
    {x = c.loop-index.index} {y = c.args.jump.count} (omega arith) c.loop-index.invariant
