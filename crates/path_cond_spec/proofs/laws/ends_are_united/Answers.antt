use Rattle.path_cond_spec.proofs.Ends.{one_of}
use Rattle.path_cond_spec.proofs.laws.ends_are_united.Goals as goal

pub returns : goal.returns
returns c = λ graphs outermost g w visits start a over sorted members ends. one_of graphs outermost g w visits start a over sorted members ends
