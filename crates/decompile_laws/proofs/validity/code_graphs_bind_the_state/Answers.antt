use Rattle.decompile_laws.proofs.Binding.{never_binds}
use Rattle.decompile_laws.proofs.validity.code_graphs_bind_the_state.Goals as goal

pub returns : goal.returns
returns c = λ image f graph is family other_than_register other_than_memory. never_binds family other_than_register other_than_memory image f graph is
