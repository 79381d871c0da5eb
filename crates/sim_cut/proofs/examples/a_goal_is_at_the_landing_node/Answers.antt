use Rattle.sim_cut.proofs.PassedOver.{calls, not_called, not_clear}
use Rattle.sim_cut.proofs.examples.a_goal_is_at_the_landing_node.Goals as goal

pub returns-clause-holds : goal.returns-clause-holds
returns-clause-holds c = calls

pub returns-clause-fails : goal.returns-clause-fails
returns-clause-fails c = not_called

pub returns-clause-refused : goal.returns-clause-refused
returns-clause-refused c = not_clear
