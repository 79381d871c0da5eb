use Rattle.pair_setup_spec.proofs.Stacks.{one_stack}
use Rattle.agreement_laws.proofs.laws.a_function_has_one_stack.Goals as goal

pub returns : goal.returns
returns c = λ image entry one two is other. one_stack image entry one two is other
