use Rattle.loop_find_spec.specs.Loops.{nodes_from}
use Rattle.loop_find_spec.proofs.Turning.{cycle_has_head}
use Rattle.loop_find_spec.proofs.laws.each_cycle_has_a_head.Goals as goal

pub returns : goal.returns
returns c = λ g heads over x a path cycle.
    cycle_has_head (nodes_from g) g.entry a.left a.heads heads over x a.walk (λ n of. (a.are n).1 of) (λ n of. (a.are n).0 of) path cycle
