use Rattle.validity_laws.proofs.CodeSpeaks.{code_is_own}
use Rattle.validity_laws.proofs.simulations.graphs_of_code_speak_of_the_binary.Goals as goal

pub returns : goal.returns
returns c = λ image f graph is. code_is_own image f graph is
