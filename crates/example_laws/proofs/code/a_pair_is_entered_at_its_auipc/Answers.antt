use Rattle.std.proofs.Common.{refl, arith, pos}
use Rattle.rv_instr.specs.declared.Instr.TheVariants.{Jalr}
use Rattle.code_reach_spec.specs.declared.CodeKind.TheVariants.{Indirect}
use Rattle.code_reach_spec.specs.Code.{HasCode, Branches, Jumps, IsReachable, here, next}
use Rattle.code_reach_spec.specs.Faults.{target_of_reached, at_jump, entered, of_instruction}
use Rattle.example_laws.specs.CodeSamples.{entered_pair, entered_pair_bytes}
use Rattle.example_laws.proofs.CodeWorked.{has_code, code_computes}
use Rattle.example_laws.proofs.code.a_pair_is_entered_at_its_auipc.Goals as goal

code : HasCode entered_pair 0x10000 16
unfolding entered_pair
code = has_code entered_pair_bytes _ 0x10000 16 16 refl (omega arith) (omega arith) (omega arith) (omega arith) refl refl

reached : IsReachable entered_pair 0x10000 16 0x10008
unfolding code_computes
reached = next 0x10000 0x10008 (Branches 0x10008) (here code) refl (1, omega arith, refl) (record { from = omega arith; below = omega arith })

pub returns : goal.returns
unfolding code_computes
returns c = record {
  flow = refl;
  refused = of_instruction Indirect 0x10008 reached
      (entered (Jalr 0 5 (pos 8)) (Jumps 0x1000c) refl refl (at_jump (Jumps 0x1000c) refl (target_of_reached 0x10000 0x10008 (Branches 0x10008) (here code) refl (0, omega arith, refl))));
}
