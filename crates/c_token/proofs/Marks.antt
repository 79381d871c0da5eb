-- Every punctuator has a byte.
use Rattle.std.proofs.Common.{◌≡◌, ℕ, ◌<◌, Bool, true, false, cond, Some, option_map, List, [], ◌∷◌, length, refl, arith, ◌&&◌}
use Rattle.std.specs.Prelude.{IfSome, nat_eq, nat_lt}
use Rattle.std.specs.List.{starts_with, list_all}
use Rattle.std.proofs.lemmas.Grind.{common_steps}
use Rattle.c_token_spec.specs.Punctuators.{prefix_entry, punctuators, punctuator_of}
use Rattle.c_token.specs.Tables.{measured}

some_byte : {V : Type 0} (table : List (List ℕ × V)) (text : List ℕ) → list_all (λ entry. nat_lt 0 (length entry.0)) table ≡ true → IfSome (option_map measured (prefix_entry table text)) (λ front. 0 < front.1)
some_byte [] text all = tt
some_byte {V} (entry ∷ table) text all = by_test (starts_with nat_eq text entry.0) (nat_lt 0 (length entry.0)) refl all (λ more. some_byte table text more)
  where
    by_test : (fits long : Bool) → nat_lt 0 (length entry.0) ≡ long → (long && list_all (λ e. nat_lt 0 (length e.0)) table) ≡ true → (list_all (λ e. nat_lt 0 (length e.0)) table ≡ true → IfSome (option_map measured (prefix_entry table text)) (λ front. 0 < front.1)) → IfSome (option_map measured (cond fits (Some entry) (prefix_entry table text))) (λ front. 0 < front.1)
    by_test fits false e both h = absurd (cc)
    by_test true true e both h = grind (arith, common_steps)
    by_test false true e both h = h both

pub punctuator-some : (text : List ℕ) → IfSome (option_map measured (punctuator_of text)) (λ front. 0 < front.1)
unfolding punctuator_of
punctuator-some text = some_byte punctuators text refl
