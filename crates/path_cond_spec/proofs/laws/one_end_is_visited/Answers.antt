use Rattle.path_cond_spec.proofs.Visiting.{one_end}
use Rattle.path_cond_spec.proofs.laws.one_end_is_visited.Goals as goal

pub returns : goal.returns
returns c = λ g w visits start a graphs outermost over sorted i j u v at_i at_j end_u end_v holds_i holds_j.
    one_end graphs outermost g w visits start a over sorted i j u v at_i at_j end_u end_v holds_i holds_j
