-- Words of bytes: the number that bytes have together, and the bytes of a number.
use Rattle.std.proofs.Common.{◌≡◌, ℕ, zero, suc, ◌+◌, ◌*◌, ◌/◌, ◌%◌, ◌^◌, ◌<◌, Bool, true, false, cond, List, [], ◌∷◌, map, length, Some, refl, sym, ap, ◌∙◌, subst, arith}
use Rattle.std.specs.Prelude.{slice_get}
use Rattle.std.proofs.lemmas.Bool.{and_parts}
use Rattle.std.proofs.lemmas.Nat.{shr-shr, mod-pow-add, mod_below, pow-add}
use Rattle.std.proofs.lemmas.Option.{same_Some}
use Rattle.term_core_spec.specs.declared.Width.{Width}
use Rattle.term_core_spec.specs.declared.Width.TheVariants.{W8}
use Rattle.term_core_spec.specs.declared.Sort.TheVariants as sort
use Rattle.term_core_spec.specs.Term.{Term, byte}
use Rattle.term_core_spec.specs.Sort.{sort_of}
use Rattle.term_core_spec.proofs.Sorts.{as_word}
use Rattle.term_core_spec.proofs.Soundness.{value-sort}
use Rattle.term_core_spec.proofs.Same.{same_is}
use Rattle.term_norm_spec.proofs.Keeps.{known-sort, known-value}
use Rattle.term_core_spec.specs.Value.{Value, Number, Assignment, IsAssignment, IsOfSort, value, unary_value, byte_of, number_of_bytes, low_bits}
use Rattle.term_core_spec.specs.Same.{same_term}
use Rattle.term_norm_spec.specs.Patterns.{are_bytes_of, is_constant, are_constants, known}
use Rattle.term_norm_spec.proofs.Numbers.{mod-small}
use Rattle.term_norm_spec.proofs.Words.{word_of}

same_length : {A B : Type 0} → (f : A → B) (xs : List A) → length (map f xs) ≡ length xs
same_length f [] = refl
same_length f (x ∷ xs) = ap suc (same_length f xs)

-- all of these are sorted as bytes
abbrev pub AllBytes : List Term → Type 0
AllBytes [] = Unit {0}
AllBytes (t ∷ rest) = (sort_of t ≡ Some (sort.Word W8)) × AllBytes rest

-- the number of bytes, one more in front
pub number_more : (v : Value) (rest : List Value) (n m : ℕ) → v ≡ Number W8 n → n < 2 ^ 8 → number_of_bytes (map byte_of rest) ≡ Some m → number_of_bytes (map byte_of (v ∷ rest)) ≡ Some (n + 2 ^ 8 * m)
number_more v rest n m is below e = rw (is, e) (ap (λ k. Some (k + 2 ^ 8 * m)) (mod-small n (2 ^ 8) below))

abbrev pub AllByteValues : List Value → Type 0
AllByteValues [] = Unit {0}
AllByteValues (v ∷ rest) = IsOfSort (sort.Word W8) v × AllByteValues rest

pub number_of_values : (values : List Value) → AllByteValues values → (n : ℕ) × (number_of_bytes (map byte_of values) ≡ Some n) × (n < 2 ^ (8 * length values))
number_of_values [] all = (0, refl, omega arith)
number_of_values (v ∷ rest) all =
    let first = as_word W8 v all.0 in
    let later = number_of_values rest all.1 in
    (first.0 + 2 ^ 8 * later.0, number_more v rest first.0 later.0 first.1 first.2 later.1, more first.0 later.0 (length rest) first.2 later.2)
  where
    more : (n m k : ℕ) → n < 2 ^ 8 → m < 2 ^ (8 * k) → n + 2 ^ 8 * m < 2 ^ (8 * suc k)
    more n m k below_n below_m =
        let split : 2 ^ (8 * suc k) ≡ 2 ^ 8 * 2 ^ (8 * k) = ap (λ e. 2 ^ e) (omega arith) ∙ pow-add 2 8 (8 * k) in
        omega (arith, split)

byte_values : (assignment : Assignment) → IsAssignment assignment → (parts : List Term) → AllBytes parts → AllByteValues (map (value assignment) parts)
byte_values assignment h [] all = tt
byte_values assignment h (t ∷ rest) all = (value-sort assignment h t (sort.Word W8) all.0, byte_values assignment h rest all.1)

pub number_of_all : (assignment : Assignment) → IsAssignment assignment → (parts : List Term) → AllBytes parts
    → (n : ℕ) × (number_of_bytes (map byte_of (map (value assignment) parts)) ≡ Some n) × (n < 2 ^ (8 * length parts))
number_of_all assignment h parts all =
    let number = number_of_values (map (value assignment) parts) (byte_values assignment h parts all) in
    (number.0, number.1, subst (λ k. number.0 < 2 ^ (8 * k)) (same_length (value assignment) parts) number.2)

known_values : (parts : List Term) → AllBytes parts → are_constants parts ≡ true → AllByteValues (map known parts)
known_values [] all e = tt
known_values (t ∷ rest) all e =
    let both = and_parts (is_constant t) (are_constants rest) e in
    (known-sort t (sort.Word W8) both.0 all.0, known_values rest all.1 both.1)

-- the same of constants
pub number_of_known : (parts : List Term) → AllBytes parts → are_constants parts ≡ true → (n : ℕ) × (number_of_bytes (map byte_of (map known parts)) ≡ Some n) × (n < 2 ^ (8 * length parts))
number_of_known parts all e =
    let number = number_of_values (map known parts) (known_values parts all e) in
    (number.0, number.1, subst (λ k. number.0 < 2 ^ (8 * k)) (same_length known parts) number.2)

pub all_known : (assignment : Assignment) (parts : List Term) → are_constants parts ≡ true → map (value assignment) parts ≡ map known parts
all_known assignment [] e = refl
all_known assignment (t ∷ rest) e =
    let both = and_parts (is_constant t) (are_constants rest) e in
    let first = known-value assignment t both.0 in
    let later = all_known assignment rest both.1 in
    cc

-- the part at a place is that byte of the number
pub picked : (assignment : Assignment) → IsAssignment assignment → (parts : List Term) → AllBytes parts → (k : ℕ) (p : Term) → slice_get parts k ≡ Some p
    → (n : ℕ) → number_of_bytes (map byte_of (map (value assignment) parts)) ≡ Some n → value assignment p ≡ Number W8 (low_bits 8 (n / 2 ^ (8 * k)))
picked assignment h [] all k p e n is = absurd (cc)
picked assignment h (t ∷ rest) all zero p e n is =
    let first = word_of assignment h W8 t all.0 in
    let later = number_of_all assignment h rest all.1 in
    let whole : n ≡ first.0 + 2 ^ 8 * later.0 = same_Some n (first.0 + 2 ^ 8 * later.0) (sym is ∙ number_more (value assignment t) (map (value assignment) rest) first.0 later.0 first.1 first.2 later.1) in
    ap (value assignment) (sym (same_Some t p e)) ∙ first.1 ∙ ap (Number W8) (lowest first.0 later.0 n first.2 whole)
  where
    lowest : (a m n : ℕ) → a < 2 ^ 8 → n ≡ a + 2 ^ 8 * m → a ≡ n / 2 ^ (8 * 0) % 2 ^ 8
    lowest a m n below e = omega arith
picked assignment h (t ∷ rest) all (suc k) p e n is =
    let first = word_of assignment h W8 t all.0 in
    let later = number_of_all assignment h rest all.1 in
    let whole : n ≡ first.0 + 2 ^ 8 * later.0 = same_Some n (first.0 + 2 ^ 8 * later.0) (sym is ∙ number_more (value assignment t) (map (value assignment) rest) first.0 later.0 first.1 first.2 later.1) in
    picked assignment h rest all.1 k p e later.0 later.1 ∙ ap (λ m. Number W8 (m % 2 ^ 8)) (above first.0 later.0 n k first.2 whole)
  where
    above : (a m n k : ℕ) → a < 2 ^ 8 → n ≡ a + 2 ^ 8 * m → m / 2 ^ (8 * k) ≡ n / 2 ^ (8 * suc k)
    above a m n k below e =
        let up : m ≡ n / 2 ^ 8 = omega arith in
        ap (λ x. x / 2 ^ (8 * k)) up ∙ shr-shr n 8 (8 * k) ∙ ap (λ x. n / 2 ^ x) (omega arith)

pub value-byte : (assignment : Assignment) (place : ℕ) (w : Width) (x : Term) (a : ℕ) → value assignment x ≡ Number w a → value assignment (byte place x) ≡ Number W8 (low_bits 8 (a / 2 ^ (8 * place)))
unfolding value unary_value
value-byte assignment place w x a e = rw e refl

-- the bytes of x from a place on have the number of its bits from there on
pub pieces : (assignment : Assignment) (x : Term) (w : Width) (a : ℕ) → value assignment x ≡ Number w a → (k : ℕ) (parts : List Term) → are_bytes_of x k parts ≡ true
    → number_of_bytes (map byte_of (map (value assignment) parts)) ≡ Some (a / 2 ^ (8 * k) % 2 ^ (8 * length parts))
unfolding are_bytes_of
pieces assignment x w a ex k [] e = ap Some (nothing (a / 2 ^ (8 * k)))
  where
    nothing : (n : ℕ) → 0 ≡ n % 2 ^ (8 * 0)
    nothing n = omega arith
pieces assignment x w a ex k (t ∷ rest) e =
    let parts = both (same_term t (byte k x)) (are_bytes_of x (k + 1) rest) e in
    let is : value assignment t ≡ Number W8 (low_bits 8 (a / 2 ^ (8 * k))) = ap (value assignment) (same_is t (byte k x) parts.0) ∙ value-byte assignment k w x a ex in
    number_more (value assignment t) (map (value assignment) rest) (low_bits 8 (a / 2 ^ (8 * k))) (a / 2 ^ (8 * (k + 1)) % 2 ^ (8 * length rest)) is (mod_below _ (2 ^ 8) (omega arith)) (pieces assignment x w a ex (k + 1) rest parts.1)
    ∙ ap Some (joined_up k (length rest))
  where
    both : (p q : Bool) → cond p q false ≡ true → (p ≡ true) × (q ≡ true)
    both true q h = (refl, h)
    both false q h = absurd (cc)

    joined_up : (k l : ℕ) → a / 2 ^ (8 * k) % 2 ^ 8 + 2 ^ 8 * (a / 2 ^ (8 * (k + 1)) % 2 ^ (8 * l)) ≡ a / 2 ^ (8 * k) % 2 ^ (8 * suc l)
    joined_up k l =
        let up : a / 2 ^ (8 * k) / 2 ^ 8 ≡ a / 2 ^ (8 * (k + 1)) = shr-shr a (8 * k) 8 ∙ ap (λ x. a / 2 ^ x) (omega arith) in
        let split = mod-pow-add (a / 2 ^ (8 * k)) (8 * l) 8 in
        let length_is : 2 ^ (8 * suc l) ≡ 2 ^ (8 * l + 8) = ap (λ x. 2 ^ x) (omega arith) in
        omega (arith, split, ap (λ x. x % 2 ^ (8 * l)) up, ap (λ x. a / 2 ^ (8 * k) % x) length_is)
