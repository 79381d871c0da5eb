use Rattle.std.proofs.Common.{length}
use Rattle.term_norm_rules.proofs.choice.arm.Goals as goal

pub returns-clause-within : goal.returns-clause-within
returns-clause-within c =
    c.applied.ensures.within (length c.args.bank.now)
    (c.requires.x_within, (c.requires.y_within, (c.requires.x_within, (c.requires.test_within, tt))))
