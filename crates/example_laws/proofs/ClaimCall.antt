-- The machine calls the function by the convention.
use Rattle.std.proofs.Common.{◌≡◌, ℕ, zero, suc, ◌+◌, ◌^◌, Bool, true, false, cond, refl, ap, arith, lit<, eqb-true}
use Rattle.std.specs.Prelude.{◌==◌, nat_lt, Some, None}
use Rattle.std.proofs.lemmas.Bool.{ltb-true}
use Rattle.std.proofs.lemmas.List.Sums.{AllPass-from_list_all}
use Rattle.elf_read_spec.specs.Image.{size_at, global_pointer}
use Rattle.rv_machine_spec.specs.Machine.{IsMachine, read_register}
use Rattle.code_reach_spec.specs.Code.{InRange}
use Rattle.validity_spec.specs.Convention.{argument_words, ArePassed, Meets}
use Rattle.example_laws.specs.AddTwoArguments.{start}
use Rattle.example_laws.specs.AddTwoArgumentsCalled.{image, values}
use Rattle.example_laws.proofs.ClaimBytes.{holds_fixed, code_cells}

is_machine : IsMachine start
unfolding start
is_machine = record {
  count = refl;
  words = λ k d below. ltb-true _ (2 ^ 32) (AllPass-from_list_all (λ r. nat_lt r (2 ^ 32)) start.registers refl k d below);
  pc_word = lit< tt;
  cells = code_cells;
}

-- the return address is in no function
outside : (other size : ℕ) → size_at image other ≡ Some size → InRange other size 0x20000 → ⊥
unfolding size_at
outside other size e within = by_test (0x10000 == other) refl e
  where
    by_test : (b : Bool) → (0x10000 == other) ≡ b → cond b (Some 8) None ≡ Some size → ⊥
    by_test true is e =
        let entry : 0x10000 ≡ other = eqb-true 0x10000 other is in
        let long : 8 ≡ size = cc in
        omega (arith, within.below)
    by_test false is e = absurd (cc)

arguments : ArePassed start (argument_words values)
unfolding start read_register
arguments zero n e = let is : 5 ≡ n = cc in is
arguments (suc zero) n e = let is : 7 ≡ n = cc in is
arguments (suc (suc i)) n e = absurd (cc)

pub meets : Meets image 0x10000 0 start (argument_words values)
unfolding start read_register global_pointer
meets = record {
  machine = is_machine;
  at_entry = refl;
  return_aligned = refl;
  return_outside = λ other size reaches is within. outside other size is within;
  stack_aligned = refl;
  stack_room = omega arith;
  gp = tt;
  arguments = arguments;
  fixed = holds_fixed;
  zone_free = λ address zone. absurd (omega (arith, zone.from, zone.below));
}
