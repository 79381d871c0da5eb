use Rattle.std.specs.Prelude.{[]}
use Rattle.sim_rules_spec.proofs.CutFrames.{enters_is, steps_is, later_is}
use Rattle.sim_rules_spec.proofs.laws.frames_of_cuts.Goals as goal

pub returns-clause-enters : goal.returns-clause-enters
returns-clause-enters c = λ convention f known cut counts simulated. enters_is convention f known cut [] counts simulated

pub returns-clause-steps : goal.returns-clause-steps
returns-clause-steps c = λ convention f known cut path counts simulated. steps_is convention f known cut path counts simulated

pub returns-clause-later : goal.returns-clause-later
returns-clause-later c = λ convention f known cut path simulated. later_is convention f known cut path simulated
