use Rattle.decompile_laws.proofs.InstructionTerms.{taken_evaluates}
use Rattle.decompile_laws.proofs.instruction_terms.branches_test.Goals as goal

pub returns : goal.returns
returns c = λ s test x y a b first second ex ey. taken_evaluates s test x y a b first second ex ey
