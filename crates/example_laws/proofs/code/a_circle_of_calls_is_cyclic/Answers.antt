use Rattle.std.proofs.Common.{refl, arith}
use Rattle.code_reach_spec.specs.Code.{HasCode, here, call, itself, further}
use Rattle.example_laws.specs.CodeSamples.{circle, circle_bytes}
use Rattle.example_laws.proofs.CodeWorked.{has_code, code_computes}
use Rattle.example_laws.proofs.code.a_circle_of_calls_is_cyclic.Goals as goal

first_code : HasCode circle 0x10000 8
unfolding circle
first_code = has_code circle_bytes _ 0x10000 8 16 refl (omega arith) (omega arith) (omega arith) (omega arith) refl refl

second_code : HasCode circle 0x10008 8
unfolding circle
second_code = has_code circle_bytes _ 0x10008 8 16 refl (omega arith) (omega arith) (omega arith) (omega arith) refl refl

pub returns : goal.returns
unfolding code_computes
returns c = record {
  other = 0x10000;
  reached = itself;
  last = 0x10008;
  onward = further 0x10000 8 0x10008 itself refl (call 0x10000 0x10008 (here first_code) refl refl);
  size = 8;
  size_is = refl;
  back = call 0x10008 0x10000 (here second_code) refl refl;
}
