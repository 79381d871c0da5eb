use Rattle.sim_cut.proofs.PassedOver.{splits, not_split, passed_over}
use Rattle.sim_cut.proofs.examples.a_goal_counts_arrivals_before_the_cut.Goals as goal

pub returns-clause-holds : goal.returns-clause-holds
returns-clause-holds c = splits

pub returns-clause-fails : goal.returns-clause-fails
returns-clause-fails c = not_split

pub returns-clause-refused : goal.returns-clause-refused
returns-clause-refused c = passed_over
