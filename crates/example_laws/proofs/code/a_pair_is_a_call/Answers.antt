use Rattle.std.proofs.Common.{refl, arith}
use Rattle.code_reach_spec.specs.Code.{HasCode, Falls, Calls, IsReachable, here, next, call}
use Rattle.example_laws.specs.CodeSamples.{pair, pair_bytes}
use Rattle.example_laws.proofs.CodeWorked.{has_code, code_computes}
use Rattle.example_laws.proofs.code.a_pair_is_a_call.Goals as goal

code : HasCode pair 0x10000 12
unfolding pair
code = has_code pair_bytes _ 0x10000 12 16 refl (omega arith) (omega arith) (omega arith) (omega arith) refl refl

jump : IsReachable pair 0x10000 12 0x10004
unfolding code_computes
jump = next 0x10000 0x10004 Falls (here code) refl (0, omega arith, refl) (record { from = omega arith; below = omega arith })

pub returns : goal.returns
unfolding code_computes
returns c = record {
  flow = refl;
  returns = next 0x10004 0x10008 (Calls 0x1000c) jump refl (0, omega arith, refl) (record { from = omega arith; below = omega arith });
  calls = call 0x10004 0x1000c jump refl refl;
  alone = refl;
}
