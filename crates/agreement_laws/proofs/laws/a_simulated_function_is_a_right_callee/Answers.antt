use Rattle.agreement_laws.proofs.RightCallee.{agree}
use Rattle.agreement_laws.proofs.laws.a_simulated_function_is_a_right_callee.Goals as goal

pub returns : goal.returns
returns c = λ q base entry stack body zone known start goals holds call landing calls binary_set source_set is simulated binary_callee source_callee no_outputs binds x y begin well.
    agree q base entry stack body zone known start goals holds call landing calls binary_set source_set is simulated binary_callee source_callee no_outputs binds x y begin well
