use Rattle.std.proofs.Common.{refl}
use Rattle.example_laws.proofs.CodeWorked.{code_computes}
use Rattle.example_laws.proofs.code.an_index_may_be_a_sum.Goals as goal

pub returns : goal.returns
unfolding code_computes
returns c = refl
