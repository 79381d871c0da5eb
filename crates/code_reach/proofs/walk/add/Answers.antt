use Rattle.std.proofs.Common.{◌≡◌, sym, subst}
use Rattle.code_reach.specs.Growth.{Grows}
use Rattle.code_reach.proofs.Growing.{grows-insert}
use Rattle.code_reach.proofs.walk.add.Goals as goal

pub returns : goal.returns
returns c =
    subst (λ z. Grows (λ t. t ≡ c.args.item) c.args.items.now.keys z) (sym c.in_ok-insert.ensures.keys) (grows-insert c.args.items.now.keys c.args.item)
