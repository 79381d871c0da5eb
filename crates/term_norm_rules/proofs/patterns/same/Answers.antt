use Rattle.term_norm_rules.proofs.Sameness.{same_ids}
use Rattle.term_norm_rules.proofs.patterns.same.Goals as goal

pub returns : goal.returns
returns c = same_ids c.args.bank.now c.args.x c.args.y c.are_distinct.ensures c.requires.x_within c.requires.y_within
