use Rattle.path_cond_spec.specs.Junctions.{junctions}
use Rattle.sim_rules_terms.proofs.Parts.{are_members}
use Rattle.sim_rules_terms.proofs.sight.Sight.condition_at.Goals as goal

pub several-requires : goal.several-requires
several-requires c = record { members = are_members c.args.bank.now c.requires.sight.0 c.args.self.now c.args.members.now c.requires.sight.1 c.requires.members }

pub returns-clause-tree : goal.returns-clause-tree
returns-clause-tree c = λ w is.
    (c.in_ok-condition.ensures.one w.start w.graph (junctions w.walk c.args.self.now.visits.now.visits) is.conditions).condition
