use Rattle.std.proofs.Common.{◌≡◌, List, [], ◌∷◌, refl, arith, Some, pos}
use Rattle.code_reach_spec.specs.Code.{HasCode, Branches, Switches, TableJump, flow_at, IsReachable, here, next}
use Rattle.code_reach_spec.specs.declared.CodeKind.TheVariants.{Leaves}
use Rattle.code_reach_spec.specs.Faults.{leaves, IsJumpToEntry, of_instruction}
use Rattle.example_laws.specs.CodeSamples.{switch_out, switch_out_bytes}
use Rattle.example_laws.proofs.CodeWorked.{has_code, code_computes, falls_to, branch_falls_to, within}
use Rattle.example_laws.proofs.code.a_table_stays_in_the_function.Goals as goal

code : HasCode switch_out 0x10000 52
unfolding switch_out
code = has_code switch_out_bytes _ 0x10000 52 60 refl (omega arith) (omega arith) (omega arith) (omega arith) refl refl

reached : IsReachable switch_out 0x10000 52 0x10018
unfolding code_computes
reached =
    let a = falls_to switch_out 0x10000 52 0x10000 (here code) refl (within 0x10004 (omega arith) (omega arith)) in
    let b = branch_falls_to switch_out 0x10000 52 0x10004 0x1002c a refl (within 0x10008 (omega arith) (omega arith)) in
    let c = falls_to switch_out 0x10000 52 0x10008 b refl (within 0x1000c (omega arith) (omega arith)) in
    let d = falls_to switch_out 0x10000 52 0x1000c c refl (within 0x10010 (omega arith) (omega arith)) in
    let e = falls_to switch_out 0x10000 52 0x10010 d refl (within 0x10014 (omega arith) (omega arith)) in
    falls_to switch_out 0x10000 52 0x10014 e refl (within 0x10018 (omega arith) (omega arith))

abbrev jump : TableJump
jump = record { before = 6; branch = 0x10004; targets = 0x1001c ∷ 0x10040 ∷ [] }

no_jump : IsJumpToEntry switch_out (Switches jump) 0x10040 → ⊥
no_jump on = let e = on.jumps in absurd (cc)

pub returns : goal.returns
unfolding code_computes
returns c = record {
  refused = of_instruction Leaves 0x10018 reached
      (leaves (Switches jump) 0x10040 refl (1, omega arith, refl) (λ inside. omega (arith, inside.below)) no_jump);
}
