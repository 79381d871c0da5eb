use Rattle.bit_blast_laws.proofs.TermsWhole.{goal_is_false}
use Rattle.bit_blast_laws.proofs.terms.models_falsify_the_goal.Goals as goal

pub returns : goal.returns
returns c = goal_is_false
