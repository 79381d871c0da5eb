use Rattle.sim_rules.proofs.Held.{added_one}
use Rattle.sim_rules.proofs.stops.add_shown.Goals as goal

pub returns-3-clause-added : goal.returns-3-clause-added
returns-3-clause-added c = λ t k a d is.
    added_one c.args.bank.now c.shown.new.bank c.shown.ensures.extends c.args.ids.now.items c.push.new.self.items c.in-Ok-attempt.field-0 _ c.in-Ok-attempt-2.ensures.items (c.in-Ok-attempt.ensures.tree t k a d is)
