use Rattle.std.proofs.Common.{rules, sym, subst}
use Rattle.pair_setup_calls.specs.Graph.{graph_of, AreSettled}
use Rattle.pair_setup_calls.proofs.Complete.{written-back}
use Rattle.pair_setup_calls.proofs.settling.known_depths.Goals as goal

pub returns-clause-settled : goal.returns-clause-settled
returns-clause-settled c =
    subst (AreSettled (graph_of c.args.graph.now) c.args.own.now)
    (sym (written-back c.in_ok-known.known.len c.settle_all.new.depths c.in_ok-known.known.items (search rules))) c.settle_all.ensures.settled
