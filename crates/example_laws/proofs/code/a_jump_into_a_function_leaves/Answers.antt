use Rattle.std.proofs.Common.{◌≡◌, ℕ, true, false, refl, arith, Some, None, is_some, IsSome}
use Rattle.code_reach_spec.specs.declared.CodeKind.TheVariants.{Leaves}
use Rattle.elf_read_spec.specs.Image.{size_at}
use Rattle.code_reach_spec.specs.Code.{HasCode, Jumps, CallsOn, here, call, tail}
use Rattle.code_reach_spec.specs.Faults.{leaves, of_instruction}
use Rattle.example_laws.specs.CodeSamples.{stray, stray_bytes}
use Rattle.example_laws.proofs.CodeWorked.{has_code, code_computes}
use Rattle.example_laws.proofs.code.a_jump_into_a_function_leaves.Goals as goal

code : HasCode stray 0x10000 4
unfolding stray
code = has_code stray_bytes _ 0x10000 4 12 refl (omega arith) (omega arith) (omega arith) (omega arith) refl refl

no_entry : IsSome (size_at stray 0x10008) → ⊥
unfolding code_computes
no_entry some = absurd (cc)

none : CallsOn stray 0x10000 4 0x10008 → ⊥
none (call address _ reached is some) = no_entry some
none (tail address _ reached is outside some) = no_entry some

pub returns : goal.returns
unfolding code_computes
returns c = record {
  refused = of_instruction Leaves 0x10000 (here code)
      (leaves (Jumps 0x10008) 0x10008 refl (0, omega arith, refl) (λ inside. omega (arith, inside.below)) (λ on. no_entry on.to_entry));
  calls_nothing = none;
}
