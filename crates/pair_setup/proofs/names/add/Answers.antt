use Rattle.std.proofs.Common.{◌≡◌, sym, subst}
use Rattle.pair_setup_calls.specs.Graph.{Grows}
use Rattle.pair_setup_calls.proofs.Growing.{grows-push}
use Rattle.pair_setup.proofs.names.add.Goals as goal

pub returns : goal.returns
returns c =
    subst (λ z. Grows (λ t. t ≡ c.args.number) c.args.found.now.items z) (sym c.in_ok-push.ensures.items) (grows-push c.args.found.now.items c.args.number)
