use Rattle.std.proofs.Common.{◌≡◌, subst, arith}
use Rattle.std.specs.Prelude.{Contains}
use Rattle.code_reach_tables.specs.Tables.{targets_from}
use Rattle.code_reach.specs.Growth.{Grows}
use Rattle.code_reach.proofs.Switches.{targets-begun, targets-more}
use Rattle.code_reach.proofs.walk.add_words.Goals as goal

pub loop-index-init : goal.loop-index-init
loop-index-init c = targets-begun c.args.image.now c.args.jump.first c.args.targets.now.keys

pub loop-index-preserved : goal.loop-index-preserved
loop-index-preserved c =
    targets-more c.args.image.now c.args.jump.first c.loop-index.index c.args.targets.now.keys c.loop-index.targets.keys c.add.new.items.keys c.loop-index.invariant
    (subst (λ z. Grows (λ t. t ≡ z) c.loop-index.targets.keys c.add.new.items.keys) c.target.ensures c.in_ok-add.ensures)

pub returns : goal.returns
returns c =
    subst (λ n. Grows (Contains (targets_from c.args.image.now c.args.jump.first n)) c.args.targets.now.keys c.loop-index.targets.keys)
    {x = c.loop-index.index} {y = c.args.jump.count} (omega arith) c.loop-index.invariant
