use Rattle.loop_find_spec.specs.Loops.{nodes_from}
use Rattle.loop_find_spec.proofs.Turning.{turn}
use Rattle.loop_find_spec.proofs.laws.each_head_is_on_a_cycle.Goals as goal

pub returns-clause-reached : goal.returns-clause-reached
returns-clause-reached c = λ g heads x a of. (turn (nodes_from g) g.entry a.left a.heads a.walk x ((a.are x).0 of)).0

pub returns-clause-cyclic : goal.returns-clause-cyclic
returns-clause-cyclic c = λ g heads x a of. (turn (nodes_from g) g.entry a.left a.heads a.walk x ((a.are x).0 of)).1
