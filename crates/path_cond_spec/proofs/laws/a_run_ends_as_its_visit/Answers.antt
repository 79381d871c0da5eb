use Rattle.path_cond_spec.proofs.Stops.{ends_as}
use Rattle.path_cond_spec.proofs.laws.a_run_ends_as_its_visit.Goals as goal

pub returns : goal.returns
returns c = λ graphs outermost g w visits first over counted k v values visit. ends_as graphs outermost g w visits over first counted k v values visit
