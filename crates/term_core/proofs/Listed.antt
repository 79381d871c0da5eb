-- What an assignment lists, after a change and at any time.
use Rattle.std.proofs.Common.{◌≡◌, ◌^◌, Bool, true, false, cond, Option, Some, None, refl, ap, arith}
use Rattle.std.specs.Prelude.{nat_lt}
use Rattle.std.proofs.lemmas.Bool.{and_parts, ltb-true}
use Rattle.std.proofs.lemmas.Nat.{pow_pos, mod_below}
use Rattle.term_core_spec.specs.declared.Sort.{Sort}
use Rattle.term_core_spec.specs.declared.Sort.TheVariants as sort
use Rattle.term_core_spec.specs.Sort.{bits, same_width}
use Rattle.term_core_spec.specs.Value as spec
use Rattle.term_core_spec.proofs.Sorts.{same_width-true}
use Rattle.term_core_spec.proofs.Words.{cond-below}
use Rattle.term_core.specs.declared.value.Value.{Value}
use Rattle.term_core.specs.declared.value.Value.TheVariants.{Truth, Number, Bytes}
use Rattle.term_core.specs.Values.{value_of}
use Rattle.term_core.specs.Assignment.{is_of_sort, default_of, given_or_default}

-- the value at a variable, where one was listed or not
pub given_at : (s : Sort) (test : Bool) (o p : Option Value) (value : Value) → o ≡ cond test (Some value) p
    → given_or_default s o ≡ cond test (given_or_default s (Some value)) (given_or_default s p)
given_at s true o p value e = ap (given_or_default s) e
given_at s false o p value e = ap (given_or_default s) e

pub default_of-sort : (s : Sort) → spec.IsOfSort s (default_of s)
default_of-sort sort.Truth = tt
default_of-sort (sort.Word w) = (refl, pow_pos (bits w))
default_of-sort sort.Memory = λ q. omega arith

value_of-sort : (s : Sort) (value : Value) → is_of_sort s value ≡ true → spec.IsOfSort s (value_of value)
value_of-sort sort.Truth (Truth truth) e = tt
value_of-sort (sort.Word w) (Number v number) e =
    let tests = and_parts (same_width v w) (nat_lt number (2 ^ bits w)) e in
    (same_width-true v w tests.0, ltb-true number (2 ^ bits w) tests.1)
value_of-sort sort.Memory (Bytes memory) e = λ q. cond-below (nat_lt q (2 ^ 32)) _ 0 (2 ^ 8) (mod_below _ (2 ^ 8) (omega arith)) (omega arith)
value_of-sort s value e = absurd (cc)

pub given_or_default-sort : (s : Sort) (o : Option Value) → spec.IsOfSort s (given_or_default s o)
given_or_default-sort s None = default_of-sort s
given_or_default-sort s (Some value) = on_test (is_of_sort s value) refl
  where
    on_test : (test : Bool) → is_of_sort s value ≡ test → spec.IsOfSort s (cond test (value_of value) (default_of s))
    on_test true e = value_of-sort s value e
    on_test false e = default_of-sort s
