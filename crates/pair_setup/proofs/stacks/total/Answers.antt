use Rattle.std.proofs.Common.{◌≡◌, ◌+◌}
use Rattle.std.specs.Prelude.{nat_eq}
use Rattle.indexmap.specs.IndexMap.{get}
use Rattle.pair_setup.specs.Stacks.{IsTotal}
use Rattle.pair_setup.proofs.Totals.{if-some}
use Rattle.pair_setup.proofs.stacks.total.Goals as goal

pub returns : goal.returns
returns c =
    if-some c.sum.result (λ n. n ≡ c.in_ok-tally.tally.own + c.in_ok-tally.tally.deepest) (IsTotal (get nat_eq c.args.known.now) c.args.steps.now)
    (λ n e. (c.in_ok-tally.tally, c.in_ok-tally.ensures, e)) c.sum.ensures
