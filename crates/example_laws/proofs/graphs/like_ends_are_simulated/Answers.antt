use Rattle.example_laws.proofs.GraphLoops.{countdowns_agree, endless_agree}
use Rattle.example_laws.proofs.graphs.like_ends_are_simulated.Goals as goal

pub returns : goal.returns
returns c = record { both_return = countdowns_agree; both_endless = endless_agree }
