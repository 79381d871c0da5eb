use Rattle.std.proofs.Common.{◌≡◌, sym, subst}
use Rattle.pair_setup_calls.specs.Graph.{Grows}
use Rattle.pair_setup_calls.proofs.Growing.{grows-insert}
use Rattle.pair_setup_calls.proofs.reaching.add.Goals as goal

pub returns : goal.returns
returns c =
    subst (λ z. Grows (λ t. t ≡ c.args.node) c.args.nodes.now.keys z) (sym c.in_ok-insert.ensures.keys) (grows-insert c.args.nodes.now.keys c.args.node)
