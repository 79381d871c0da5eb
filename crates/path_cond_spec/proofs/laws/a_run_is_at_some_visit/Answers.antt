use Rattle.path_cond_spec.proofs.Visiting.{listed}
use Rattle.path_cond_spec.proofs.laws.a_run_is_at_some_visit.Goals as goal

pub returns : goal.returns
returns c = λ graphs outermost g w visits start a over sorted k on. listed graphs outermost g w visits start a over sorted k on
