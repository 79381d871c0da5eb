-- The value of digits, one digit further.
use Rattle.std.proofs.Common.{◌≡◌, ℕ, suc, ◌+◌, ◌*◌, ◌^◌, ◌<◌, ◌≤◌, Bool, false, cond, Option, Some, None, option_map, take, List, [], ◌∷◌, drop, length, get_or, ap, sym, ◌∙◌, arith, mul_comm}
use Rattle.std.specs.Prelude.{fold, option_and_then, ◌==◌}
use Rattle.std.specs.List.{prefix_len}
use Rattle.std.proofs.lemmas.Grind.{common_steps}
use Rattle.std.proofs.Math.Seq.{drop-cons}
use Rattle.c_token_spec.specs.declared.token.Suffix.{Suffix}
use Rattle.c_token_spec.specs.declared.token.NumberType.{NumberType}
use Rattle.c_token_spec.specs.Words.{entry_of}
use Rattle.c_token_spec.specs.Numbers.{digit_value, digits_value, is_digit_to, suffixes, type_of, number_to}

abbrev pub value_after : (base value : ℕ) → List ℕ → ℕ
value_after base value digits = fold (λ v digit. base * v + digit_value digit) value digits

no_less : (base value : ℕ) → 0 < base → value ≤ base * value
no_less base value some = grind (arith, common_steps)

-- more digits make no value less
pub value_after-grows : (base value : ℕ) (digits : List ℕ) → 0 < base → value ≤ value_after base value digits
value_after-grows base value [] some = omega arith
value_after-grows base value (digit ∷ digits) some = let h = value_after-grows base (base * value + digit_value digit) digits some in omega (arith, no_less base value some)

-- with one digit more the value is at least the product
pub value_after-digit : (base value i : ℕ) (digits : List ℕ) → 0 < base → i < length digits → base * value + digit_value (get_or digits i 0) ≤ value_after base value (drop i digits)
value_after-digit base value i digits some h = rw (drop-cons digits i 0 h) (value_after-grows base (base * value + digit_value (get_or digits i 0)) (drop (suc i) digits) some)

-- where the product with one digit more is too large, so is the value of all digits
pub product_fits : (base value i total : ℕ) (digits : List ℕ) → 0 < base → i < length digits → value_after base value (drop i digits) ≡ total → total < 2 ^ 64 → value * base + digit_value (get_or digits i 0) < 2 ^ 64
product_fits base value i total digits some h e small = let g = value_after-digit base value i digits some h in let m : value * base ≡ base * value = mul_comm value base in omega arith

-- digits and a suffix, put together
put_together : {S V : Type 0} (none : Bool) (suffix : Option S) (make : S → Option V) (s : S) (v : V) → none ≡ false → suffix ≡ Some s → make s ≡ Some v → cond none None (option_and_then make suffix) ≡ Some v
put_together none suffix make s v a b c = rw (a, b) c

pub number_to-is : (base : ℕ) (text digits rest : List ℕ) (count value : ℕ) (suffix : Suffix) (type : NumberType) → count ≡ prefix_len (is_digit_to base) text → (count == 0) ≡ false → digits ≡ take count text → rest ≡ drop count text
    → Some suffix ≡ entry_of suffixes rest → value ≡ digits_value base digits → Some type ≡ type_of (base == 10) suffix value → Some (value, type) ≡ number_to base text
number_to-is base text digits rest count value suffix type ec some ed er es ev et =
    let h : digits_value base (take (prefix_len (is_digit_to base) text) text) ≡ value = ap (λ n. digits_value base (take n text)) (sym ec) ∙ ap (digits_value base) (sym ed) ∙ sym ev in
    sym (put_together (prefix_len (is_digit_to base) text == 0) (entry_of suffixes (drop (prefix_len (is_digit_to base) text) text))
    (λ s. option_map (λ t. (digits_value base (take (prefix_len (is_digit_to base) text) text), t)) (type_of (base == 10) s (digits_value base (take (prefix_len (is_digit_to base) text) text))))
    suffix (value, type)
    (ap (λ n. n == 0) (sym ec) ∙ some)
    (ap (λ n. entry_of suffixes (drop n text)) (sym ec) ∙ ap (entry_of suffixes) (sym er) ∙ sym es)
    (ap (λ v. option_map (λ t. (v, t)) (type_of (base == 10) suffix v)) h ∙ ap (option_map (λ t. (value, t))) (sym et)))
