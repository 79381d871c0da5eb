use Rattle.decompile_laws.proofs.InstructionTerms.{computed_evaluates}
use Rattle.decompile_laws.proofs.instruction_terms.operations_compute.Goals as goal

pub returns : goal.returns
returns c = λ s operation x y a b first second ex ey. computed_evaluates s operation x y a b first second ex ey
