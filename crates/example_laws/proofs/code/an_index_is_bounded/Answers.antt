use Rattle.std.proofs.Common.{◌≡◌, List, [], ◌∷◌, refl, arith, Some, pos}
use Rattle.code_reach_spec.specs.Code.{HasCode, Branches, Switches, TableJump, flow_at, IsReachable, here, next}
use Rattle.rv_instr.specs.declared.Instr.TheVariants.{Jalr}
use Rattle.code_reach_spec.specs.declared.CodeKind.TheVariants.{Indirect}
use Rattle.code_reach_spec.specs.Code.{Stops}
use Rattle.code_reach_spec.specs.Faults.{indirect, of_instruction}
use Rattle.example_laws.specs.CodeSamples.{switch_unbounded, switch_unbounded_bytes}
use Rattle.example_laws.proofs.CodeWorked.{has_code, code_computes, falls_to, branch_falls_to, within}
use Rattle.example_laws.proofs.code.an_index_is_bounded.Goals as goal

code : HasCode switch_unbounded 0x10000 52
unfolding switch_unbounded
code = has_code switch_unbounded_bytes _ 0x10000 52 60 refl (omega arith) (omega arith) (omega arith) (omega arith) refl refl

reached : IsReachable switch_unbounded 0x10000 52 0x10018
unfolding code_computes
reached =
    let a = falls_to switch_unbounded 0x10000 52 0x10000 (here code) refl (within 0x10004 (omega arith) (omega arith)) in
    let b = falls_to switch_unbounded 0x10000 52 0x10004 a refl (within 0x10008 (omega arith) (omega arith)) in
    let c = falls_to switch_unbounded 0x10000 52 0x10008 b refl (within 0x1000c (omega arith) (omega arith)) in
    let d = falls_to switch_unbounded 0x10000 52 0x1000c c refl (within 0x10010 (omega arith) (omega arith)) in
    let e = falls_to switch_unbounded 0x10000 52 0x10010 d refl (within 0x10014 (omega arith) (omega arith)) in
    falls_to switch_unbounded 0x10000 52 0x10014 e refl (within 0x10018 (omega arith) (omega arith))

pub returns : goal.returns
unfolding code_computes
returns c = record {
  flow = refl;
  refused = of_instruction Indirect 0x10018 reached (indirect (Jalr 0 15 (pos 0)) Stops refl refl refl);
}
