use Rattle.std.proofs.Common.{◌≡◌, true, false, sym, subst, arith}
use Rattle.std.specs.Prelude.{Contains}
use Rattle.pair_setup_calls.specs.Graph.{graph_of, IsOnCycle}
use Rattle.pair_setup_calls.proofs.Cycles.{none-all}
use Rattle.pair_setup_calls.proofs.cycle.is_cyclic.Goals as goal

pub returns : goal.returns
returns c = (
  λ no. let bad : false ≡ true = no in cc,
  λ cyclic. absurd (none-all (IsOnCycle (graph_of c.args.graph.now)) c.as_slice-others.result.now c.loop-node.node-index (omega arith) c.loop-node.invariant cyclic.other
      (subst (λ l. Contains l cyclic.other) (sym c.as_slice-others.ensures.keys) ((c.in_ok-nodes.ensures cyclic.other).1 cyclic.reached)) cyclic.on_cycle),
)
