use Rattle.decompile_laws.proofs.Sized.{one_size}
use Rattle.decompile_laws.proofs.validity.code_graphs_have_one_size.Goals as goal

pub returns : goal.returns
returns c = λ image entry size runs number other_number at other_at graph other is is_too. one_size image entry size runs number other_number at other_at graph other is is_too
