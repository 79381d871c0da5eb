use Rattle.sim_rules.proofs.Made.{walked_later}
use Rattle.sim_rules.proofs.Seen.{found_later}
use Rattle.sim_rules.proofs.sides.Sides.conditions.Goals as goal

pub conditions_if-requires : goal.conditions_if-requires
conditions_if-requires c = (c.requires.0, c.requires.2.binary)

pub conditions_if-requires-2 : goal.conditions_if-requires-2
conditions_if-requires-2 c = (c.requires.1, walked_later c.args.bank.now c.conditions_if.new.bank c.conditions_if.ensures.extends c.requires.1 c.args.self.now.source c.requires.2.source)

pub returns-3-clause-found : goal.returns-3-clause-found
returns-3-clause-found c = λ a d are.
    let b0 = c.args.bank.now in
    let b1 = c.conditions_if.new.bank in
    let b2 = c.conditions_if-2.new.bank in
    record {
      binary = found_later b1 b2 c.conditions_if-2.ensures.extends a c.args.self.now.binary.visits c.in-Ok-attempt.field-0 (c.in-Ok-attempt.ensures.found a are.binary);
      source = c.in-Ok-attempt-source.ensures.found d (walked_later b0 b1 c.conditions_if.ensures.extends d c.args.self.now.source are.source);
    }
