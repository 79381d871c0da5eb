use Rattle.std.proofs.Common.{refl, arith}
use Rattle.code_reach_spec.specs.Code.{HasCode, CallsOn, here, tail, itself, further}
use Rattle.example_laws.specs.CodeSamples.{tail_call, tail_call_bytes}
use Rattle.example_laws.proofs.CodeWorked.{has_code, inside_range, code_computes}
use Rattle.example_laws.proofs.code.a_jump_out_is_a_tail_call.Goals as goal

code : HasCode tail_call 0x10000 4
unfolding tail_call
code = has_code tail_call_bytes _ 0x10000 4 8 refl (omega arith) (omega arith) (omega arith) (omega arith) refl refl

calls : CallsOn tail_call 0x10000 4 0x10004
unfolding code_computes
calls = tail 0x10000 0x10004 (here code) refl (λ inside. omega (arith, inside.below)) refl

pub returns : goal.returns
unfolding code_computes
returns c = record {
  flow = refl;
  calls = calls;
  reaches = further 0x10000 4 0x10004 itself refl calls;
  outside = λ reached. omega (arith, (inside_range tail_call 0x10000 4 0x10004 reached).below);
}
