use Rattle.sim_calls.proofs.cut.put.Goals as goal

pub returns : goal.returns
returns c = c.in_ok-insert.ensures.updates.0
