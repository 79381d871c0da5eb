use Rattle.std.proofs.Common.{◌≡◌, List, [], ◌∷◌, refl, arith, Some, pos}
use Rattle.code_reach_spec.specs.Code.{HasCode, Branches, Switches, TableJump, flow_at, IsReachable, here, next}
use Rattle.rv_instr.specs.declared.Instr.TheVariants.{Jalr}
use Rattle.code_reach_spec.specs.declared.CodeKind.TheVariants.{Indirect}
use Rattle.code_reach_spec.specs.Faults.{IsTarget, target_of_reached, in_run_up, entered, of_instruction}
use Rattle.example_laws.specs.CodeSamples.{switch_entered, switch_entered_bytes}
use Rattle.example_laws.proofs.CodeWorked.{has_code, code_computes, falls_to, branch_falls_to, within}
use Rattle.example_laws.proofs.code.a_run_up_is_entered_at_its_first_word.Goals as goal

code : HasCode switch_entered 0x10000 52
unfolding switch_entered
code = has_code switch_entered_bytes _ 0x10000 52 60 refl (omega arith) (omega arith) (omega arith) (omega arith) refl refl

reached : IsReachable switch_entered 0x10000 52 0x10018
unfolding code_computes
reached =
    let a = falls_to switch_entered 0x10000 52 0x10000 (here code) refl (within 0x10004 (omega arith) (omega arith)) in
    let b = branch_falls_to switch_entered 0x10000 52 0x10004 0x1000c a refl (within 0x10008 (omega arith) (omega arith)) in
    let c = falls_to switch_entered 0x10000 52 0x10008 b refl (within 0x1000c (omega arith) (omega arith)) in
    let d = falls_to switch_entered 0x10000 52 0x1000c c refl (within 0x10010 (omega arith) (omega arith)) in
    let e = falls_to switch_entered 0x10000 52 0x10010 d refl (within 0x10014 (omega arith) (omega arith)) in
    falls_to switch_entered 0x10000 52 0x10014 e refl (within 0x10018 (omega arith) (omega arith))

abbrev jump : TableJump
jump = record { before = 6; branch = 0x10004; targets = 0x1001c ∷ 0x10024 ∷ [] }

target : IsTarget switch_entered 0x10000 52 0x1000c
unfolding code_computes
target = target_of_reached 0x10004 0x1000c (Branches 0x1000c)
    (falls_to switch_entered 0x10000 52 0x10000 (here code) refl (within 0x10004 (omega arith) (omega arith))) refl (0, omega arith, refl)

pub returns : goal.returns
unfolding code_computes
returns c = record {
  refused = of_instruction Indirect 0x10018 reached
      (entered (Jalr 0 15 (pos 0)) (Switches jump) refl refl (in_run_up jump 3 (omega arith) target));
}
