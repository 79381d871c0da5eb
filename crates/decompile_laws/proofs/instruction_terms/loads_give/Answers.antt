use Rattle.decompile_laws.proofs.Access.{loaded_evaluates}
use Rattle.decompile_laws.proofs.instruction_terms.loads_give.Goals as goal

pub returns : goal.returns
returns c = λ s bytes small is kind a n below ea h. loaded_evaluates s bytes small is a n below ea kind h
