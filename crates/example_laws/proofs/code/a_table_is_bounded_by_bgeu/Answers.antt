use Rattle.std.proofs.Common.{refl}
use Rattle.example_laws.proofs.CodeWorked.{code_computes}
use Rattle.example_laws.proofs.code.a_table_is_bounded_by_bgeu.Goals as goal

pub returns : goal.returns
unfolding code_computes
returns c = refl
