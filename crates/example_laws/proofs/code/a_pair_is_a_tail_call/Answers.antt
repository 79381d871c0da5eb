use Rattle.std.proofs.Common.{refl, arith}
use Rattle.code_reach_spec.specs.Code.{HasCode, Falls, IsReachable, here, next, tail}
use Rattle.example_laws.specs.CodeSamples.{pair_by_x1, pair_by_x1_bytes}
use Rattle.example_laws.proofs.CodeWorked.{has_code, code_computes}
use Rattle.example_laws.proofs.code.a_pair_is_a_tail_call.Goals as goal

code : HasCode pair_by_x1 0x10000 12
unfolding pair_by_x1
code = has_code pair_by_x1_bytes _ 0x10000 12 16 refl (omega arith) (omega arith) (omega arith) (omega arith) refl refl

jump : IsReachable pair_by_x1 0x10000 12 0x10004
unfolding code_computes
jump = next 0x10000 0x10004 Falls (here code) refl (0, omega arith, refl) (record { from = omega arith; below = omega arith })

pub returns : goal.returns
unfolding code_computes
returns c = record {
  flow = refl;
  calls = tail 0x10004 0x1000c jump refl (λ inside. omega (arith, inside.below)) refl;
  alone = refl;
}
