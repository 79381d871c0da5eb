use Rattle.path_cond_spec.proofs.Visiting.{visited_where}
use Rattle.path_cond_spec.proofs.laws.a_run_visits_where_the_condition_is_true.Goals as goal

pub returns : goal.returns
returns c = λ graphs outermost g w visits start a over sorted j v there. visited_where graphs outermost g w visits start a over sorted j v there
