-- The calling convention's zone is over values at entry, and what holds at entry is too.
use Rattle.std.proofs.Common.{◌≡◌, ℕ, ◌<◌, ◌≤◌, ◌^◌, true, Option, Some, None, refl, ap, inl, inr}
use Rattle.std.specs.Prelude.{nat_lt}
use Rattle.std.proofs.lemmas.Bool.{lt-ltb}
use Rattle.term_core_spec.specs.declared.Width.TheVariants.{W32}
use Rattle.term_core_spec.specs.declared.Sort.TheVariants.{Word}
use Rattle.term_core_spec.specs.declared.Variable.{Variable}
use Rattle.term_core_spec.specs.Sort.{sort_of, sort_of_atom, sort_of_binary}
use Rattle.term_core_spec.specs.Term.{Term, Occurs}
use Rattle.sim_rules_spec.specs.Calling.{at_entry, zone_from, convention}
use Rattle.sim_rules_spec.specs.Proper.{IsConvention, IsEntryLine}

entry_alone : (r : ℕ) → IsEntryLine (at_entry r)
unfolding Occurs
entry_alone r v o = ap (λ (w : Variable). w.family) o

zone_alone : (stack : ℕ) → IsEntryLine (zone_from stack)
unfolding Occurs
zone_alone stack v (inl o) = ap (λ (w : Variable). w.family) o
zone_alone stack v (inr o) = absurd o

entry_word : (r : ℕ) → sort_of (at_entry r) ≡ Some (Word W32)
unfolding sort_of sort_of_atom
entry_word r = refl

zone_word : (stack : ℕ) → nat_lt stack (2 ^ 32) ≡ true → sort_of (zone_from stack) ≡ Some (Word W32)
unfolding sort_of sort_of_atom sort_of_binary
zone_word stack below = rw below refl

pub is_convention : (stack bottom top : ℕ) (result : Option Term) (fixed : ℕ → Option ℕ) → stack < 2 ^ 32 → ((at : ℕ) → 2 ^ 32 ≤ at → fixed at ≡ None)
    → IsConvention (convention stack bottom top result fixed)
is_convention stack bottom top result fixed below none = record {
  fixed_below = none;
  from_word = zone_word stack (lt-ltb stack (2 ^ 32) below);
  to_word = entry_word 2;
  from_entry = zone_alone stack;
  to_entry = entry_alone 2;
}
