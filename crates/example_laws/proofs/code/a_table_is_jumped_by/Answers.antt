use Rattle.std.proofs.Common.{◌≡◌, List, [], ◌∷◌, refl, arith, Some, pos}
use Rattle.code_reach_spec.specs.Code.{HasCode, Branches, Switches, TableJump, flow_at, IsReachable, here, next}
use Rattle.example_laws.specs.CodeSamples.{switch, switch_bytes}
use Rattle.example_laws.proofs.CodeWorked.{has_code, code_computes, falls_to, branch_falls_to, within}
use Rattle.example_laws.proofs.code.a_table_is_jumped_by.Goals as goal

code : HasCode switch 0x10000 52
unfolding switch
code = has_code switch_bytes _ 0x10000 52 60 refl (omega arith) (omega arith) (omega arith) (omega arith) refl refl

reached : IsReachable switch 0x10000 52 0x10018
unfolding code_computes
reached =
    let a = falls_to switch 0x10000 52 0x10000 (here code) refl (within 0x10004 (omega arith) (omega arith)) in
    let b = branch_falls_to switch 0x10000 52 0x10004 0x1002c a refl (within 0x10008 (omega arith) (omega arith)) in
    let c = falls_to switch 0x10000 52 0x10008 b refl (within 0x1000c (omega arith) (omega arith)) in
    let d = falls_to switch 0x10000 52 0x1000c c refl (within 0x10010 (omega arith) (omega arith)) in
    let e = falls_to switch 0x10000 52 0x10010 d refl (within 0x10014 (omega arith) (omega arith)) in
    falls_to switch 0x10000 52 0x10014 e refl (within 0x10018 (omega arith) (omega arith))

abbrev jump : TableJump
jump = record { before = 6; branch = 0x10004; targets = 0x1001c ∷ 0x10024 ∷ [] }

flow : flow_at switch 0x10000 0x10018 ≡ Some (Switches jump)
unfolding code_computes
flow = refl

pub returns : goal.returns
returns c = record {
  flow = flow;
  first = next 0x10018 0x1001c (Switches jump) reached flow (0, omega arith, refl) (within 0x1001c (omega arith) (omega arith));
  second = next 0x10018 0x10024 (Switches jump) reached flow (1, omega arith, refl) (within 0x10024 (omega arith) (omega arith));
}
