-- The value of a well-sorted term is of the term's sort.
use Rattle.std.proofs.Common.{◌≡◌, ℕ, ◌+◌, ◌*◌, ◌^◌, ◌<◌, Bool, true, false, cond, List, [], ◌∷◌, map, Option, Some, None, option_map, option_and_then, refl, sym, ap, subst, arith}
use Rattle.std.specs.Prelude.{◌==◌, ◌&&◌, not, nat_le, nat_lt}
use Rattle.std.proofs.lemmas.Bool.{and_parts, ltb-true}
use Rattle.std.proofs.lemmas.Option.{same_Some}
use Rattle.std.proofs.lemmas.Nat.{pow_pos}
use Rattle.term_core_spec.specs.declared.Width.{Width}
use Rattle.term_core_spec.specs.declared.Width.TheVariants.{W8, W16, W32, W64}
use Rattle.term_core_spec.specs.declared.Sort.{Sort}
use Rattle.term_core_spec.specs.declared.Sort.TheVariants as sort
use Rattle.term_core_spec.specs.declared.Atom.{Atom}
use Rattle.term_core_spec.specs.declared.Atom.TheVariants as atom
use Rattle.term_core_spec.specs.declared.UnaryOperator.{UnaryOperator}
use Rattle.term_core_spec.specs.declared.UnaryOperator.TheVariants as unary
use Rattle.term_core_spec.specs.declared.BinaryOperator.{BinaryOperator}
use Rattle.term_core_spec.specs.declared.BinaryOperator.TheVariants as binary
use Rattle.term_core_spec.specs.declared.TernaryOperator.{TernaryOperator}
use Rattle.term_core_spec.specs.declared.TernaryOperator.TheVariants as ternary
use Rattle.term_core_spec.specs.declared.QuaternaryOperator.{QuaternaryOperator}
use Rattle.term_core_spec.specs.declared.QuaternaryOperator.TheVariants as quaternary
use Rattle.term_core_spec.specs.Term.{Term, Leaf, Unary, Binary, Ternary, Quaternary, Octonary}
use Rattle.term_core_spec.specs.Sort.{bits, same_sort, bits_of, is_word, is_truth, is_byte, is_address, is_memory, sort_if, all_bytes, sort_of, sort_of_atom, sort_of_unary, sort_of_binary, sort_of_ternary, sort_of_quaternary}
use Rattle.term_core_spec.specs.Value.{Value, Truth, Number, Bytes, IsOfSort, Assignment, IsAssignment, low_bits, operation, on_two_words, on_address, on_byte, number_of_bytes, byte_of, joined, with_byte, overlaid, value, value_of_atom, unary_value, binary_value, ternary_value, quaternary_value}
use Rattle.term_core_spec.proofs.Sorts.{same_sort-true, word_width, sort_if-some, with_one-some, with_two-some, with_three-some, with_four-some}
use Rattle.term_core_spec.proofs.Words.{low_bits-below, operation-below}

-- ---- what holds of each value of a sort holds of one

pub at_truth : (P : Value → Type 0) (x : Value) → IsOfSort sort.Truth x → ((a : Bool) → P (Truth a)) → P x
at_truth P (Truth a) h f = f a
at_truth P (Number w a) h f = absurd h
at_truth P (Bytes m) h f = absurd h

pub at_word : (P : Value → Type 0) (w : Width) (x : Value) → IsOfSort (sort.Word w) x → ((a : ℕ) → a < 2 ^ bits w → P (Number w a)) → P x
at_word P w (Number v a) h f = subst (λ u. P (Number u a)) (sym h.0) (f a h.1)
at_word P w (Truth a) h f = absurd h
at_word P w (Bytes m) h f = absurd h

pub at_memory : (P : Value → Type 0) (x : Value) → IsOfSort sort.Memory x → ((m : ℕ → ℕ) → ((q : ℕ) → m q < 2 ^ 8) → P (Bytes m)) → P x
at_memory P (Bytes m) h f = f m h
at_memory P (Truth a) h f = absurd h
at_memory P (Number w a) h f = absurd h

-- a value of one sort, where the sorts are equal
pub of_same_sort : (s t : Sort) (x : Value) → s ≡ t → IsOfSort s x → IsOfSort t x
of_same_sort s t x e h = subst (λ u. IsOfSort u x) e h

pub on_two_words-same : (f : Width → ℕ → ℕ → Value) (w : Width) (a b : ℕ) → on_two_words f (Number w a) (Number w b) ≡ f w a b
on_two_words-same f W8 a b = refl
on_two_words-same f W16 a b = refl
on_two_words-same f W32 a b = refl
on_two_words-same f W64 a b = refl

-- ---- operators

extended_fits : (v w : Width) (a : ℕ) → nat_le (bits v) (bits w) ≡ true → a < 2 ^ bits v → a < 2 ^ bits w
extended_fits W8 W8 a e below = below
extended_fits W8 W16 a e below = omega arith
extended_fits W8 W32 a e below = omega arith
extended_fits W8 W64 a e below = omega arith
extended_fits W16 W16 a e below = below
extended_fits W16 W32 a e below = omega arith
extended_fits W16 W64 a e below = omega arith
extended_fits W32 W32 a e below = below
extended_fits W32 W64 a e below = omega arith
extended_fits W64 W64 a e below = below
extended_fits v w a e below = absurd (cc)

-- the value is of the sort that the operator gives, where the test that it makes holds
given : (test : Bool) (s t : Sort) (x : Value) → sort_if test s ≡ Some t → IsOfSort s x → IsOfSort t x
given test s t x e h = of_same_sort s t x (sort_if-some test s t e).1 h

pub unary_value-sort : (operator : UnaryOperator) (p s : Sort) (x : Value) → sort_of_unary operator p ≡ Some s → IsOfSort p x → IsOfSort s (unary_value operator x)
unfolding sort_of_unary unary_value
unary_value-sort unary.Not p s x e h =
    let parts = sort_if-some (is_truth p) sort.Truth s e in
    let is_p : p ≡ sort.Truth = same_sort-true p sort.Truth parts.0 in
    at_truth (λ v. IsOfSort s (unary_value unary.Not v)) x (of_same_sort p sort.Truth x is_p h) (λ a. of_same_sort sort.Truth s (Truth (not a)) parts.1 tt)
unary_value-sort unary.Complement p s x e h =
    let parts = sort_if-some (is_word p) p s e in
    let width = word_width p parts.0 in
    let w : Width = width.0 in
    let is_s : sort.Word w ≡ s = cc (width.1, parts.1) in
    at_word (λ v. IsOfSort s (unary_value unary.Complement v)) w x (of_same_sort p (sort.Word w) x width.1 h)
    (λ a below. of_same_sort (sort.Word w) s _ is_s (refl, omega (arith, pow_pos (bits w))))
unary_value-sort (unary.ZeroExtend to) p s x e h =
    let parts = sort_if-some (is_word p && nat_le (bits_of p) (bits to)) (sort.Word to) s e in
    let tests = and_parts (is_word p) (nat_le (bits_of p) (bits to)) parts.0 in
    let width = word_width p tests.0 in
    let w : Width = width.0 in
    let wider : nat_le (bits w) (bits to) ≡ true = subst (λ q. nat_le (bits_of q) (bits to) ≡ true) width.1 tests.1 in
    at_word (λ v. IsOfSort s (unary_value (unary.ZeroExtend to) v)) w x (of_same_sort p (sort.Word w) x width.1 h)
    (λ a below. of_same_sort (sort.Word to) s (Number to a) parts.1 (refl, extended_fits w to a wider below))
unary_value-sort (unary.SignExtend to) p s x e h =
    let parts = sort_if-some (is_word p && nat_le (bits_of p) (bits to)) (sort.Word to) s e in
    let tests = and_parts (is_word p) (nat_le (bits_of p) (bits to)) parts.0 in
    let width = word_width p tests.0 in
    at_word (λ v. IsOfSort s (unary_value (unary.SignExtend to) v)) width.0 x (of_same_sort p (sort.Word width.0) x width.1 h)
    (λ a below. of_same_sort (sort.Word to) s _ parts.1 (refl, low_bits-below (bits to) _))
unary_value-sort (unary.Low to) p s x e h =
    let parts = sort_if-some (is_word p && nat_le (bits to) (bits_of p)) (sort.Word to) s e in
    let tests = and_parts (is_word p) (nat_le (bits to) (bits_of p)) parts.0 in
    let width = word_width p tests.0 in
    at_word (λ v. IsOfSort s (unary_value (unary.Low to) v)) width.0 x (of_same_sort p (sort.Word width.0) x width.1 h)
    (λ a below. of_same_sort (sort.Word to) s _ parts.1 (refl, low_bits-below (bits to) a))
unary_value-sort (unary.Byte place) p s x e h =
    let parts = sort_if-some (is_word p && nat_lt (8 * place) (bits_of p)) (sort.Word W8) s e in
    let tests = and_parts (is_word p) (nat_lt (8 * place) (bits_of p)) parts.0 in
    let width = word_width p tests.0 in
    at_word (λ v. IsOfSort s (unary_value (unary.Byte place) v)) width.0 x (of_same_sort p (sort.Word width.0) x width.1 h)
    (λ a below. of_same_sort (sort.Word W8) s _ parts.1 (refl, low_bits-below 8 _))

-- two words of one width
at_two_words : (P : Value → Type 0) (f : Width → ℕ → ℕ → Value) (p q : Sort) (x y : Value) → is_word p ≡ true → same_sort p q ≡ true → IsOfSort p x → IsOfSort q y
    → ((w : Width) (a b : ℕ) → p ≡ sort.Word w → a < 2 ^ bits w → b < 2 ^ bits w → P (f w a b)) → P (on_two_words f x y)
at_two_words P f p q x y word same hx hy g =
    let width = word_width p word in
    let w : Width = width.0 in
    let q_is : q ≡ sort.Word w = cc (same_sort-true p q same, width.1) in
    at_word (λ u. P (on_two_words f u y)) w x (of_same_sort p (sort.Word w) x width.1 hx)
    (λ a below_a. at_word (λ u. P (on_two_words f (Number w a) u)) w y (of_same_sort q (sort.Word w) y q_is hy)
    (λ b below_b. rw (on_two_words-same f w a b) (g w a b width.1 below_a below_b)))

at_byte : (P : Value → Type 0) (f : ℕ → Value) (s : Sort) (x : Value) → is_byte s ≡ true → IsOfSort s x → ((a : ℕ) → a < 2 ^ 8 → P (f a)) → P (on_byte f x)
at_byte P f s x test h g =
    at_word (λ u. P (on_byte f u)) W8 x (of_same_sort s (sort.Word W8) x (same_sort-true s (sort.Word W8) test) h)
    (λ a below. g (low_bits 8 a) (low_bits-below 8 a))

at_address : (P : Value → Type 0) (f : ℕ → Value) (s : Sort) (x : Value) → is_address s ≡ true → IsOfSort s x → ((a : ℕ) → P (f a)) → P (on_address f x)
at_address P f s x test h g =
    at_word (λ u. P (on_address f u)) W32 x (of_same_sort s (sort.Word W32) x (same_sort-true s (sort.Word W32) test) h) (λ a below. g a)

equal_values-sort : (p q : Sort) (x y : Value) → not (is_memory p) ≡ true → same_sort p q ≡ true → IsOfSort p x → IsOfSort q y → IsOfSort sort.Truth (binary_value binary.Equal x y)
unfolding binary_value
equal_values-sort sort.Truth q x y some same hx hy =
    at_truth (λ u. IsOfSort sort.Truth (binary_value binary.Equal u y)) x hx
    (λ a. at_truth (λ u. IsOfSort sort.Truth (binary_value binary.Equal (Truth a) u)) y (of_same_sort q sort.Truth y (sym (same_sort-true sort.Truth q same)) hy) (λ b. tt))
equal_values-sort (sort.Word w) q x y some same hx hy =
    at_word (λ u. IsOfSort sort.Truth (binary_value binary.Equal u y)) w x hx
    (λ a below. at_two_words (IsOfSort sort.Truth) (λ v c d. Truth (c == d)) (sort.Word w) q (Number w a) y refl same (refl, below) hy (λ v c d is below_c below_d. tt))
equal_values-sort sort.Memory q x y some same hx hy = absurd (cc)

-- one more than the greatest number that so many bytes can have
abbrev span : List Value → ℕ
span [] = 1
span (x ∷ rest) = 2 ^ 8 * span rest

abbrev AreBytes : List Value → Type 0
AreBytes [] = Unit {0}
AreBytes (x ∷ rest) = IsOfSort (sort.Word W8) x × AreBytes rest

bytes_number : (bytes : List Value) → AreBytes bytes → (n : ℕ) × (number_of_bytes (map byte_of bytes) ≡ Some n) × (n < span bytes)
bytes_number [] h = (0, refl, omega arith)
bytes_number (x ∷ rest) h =
    let later = bytes_number rest h.1 in
    at_word (λ u. (n : ℕ) × (option_and_then (λ byte. option_map (λ number. byte + 2 ^ 8 * number) (number_of_bytes (map byte_of rest))) (byte_of u) ≡ Some n) × (n < 2 ^ 8 * span rest)) W8 x h.0
    (λ a below. (low_bits 8 a + 2 ^ 8 * later.0, rw later.1 refl, omega (arith, later.2, low_bits-below 8 a)))

at_bytes : (P : Value → Type 0) (width : Width) (bytes : List Value) → AreBytes bytes → ((n : ℕ) → n < span bytes → P (Number width n)) → P (joined width bytes)
at_bytes P width bytes h g = let number = bytes_number bytes h in rw number.1 (g number.0 number.2)

byte_from : (s : Sort) (x : Value) → is_byte s ≡ true → IsOfSort s x → IsOfSort (sort.Word W8) x
byte_from s x test h = of_same_sort s (sort.Word W8) x (same_sort-true s (sort.Word W8) test) h

pub binary_value-sort : (operator : BinaryOperator) (p q s : Sort) (x y : Value) → sort_of_binary operator p q ≡ Some s → IsOfSort p x → IsOfSort q y → IsOfSort s (binary_value operator x y)
unfolding sort_of_binary binary_value
binary_value-sort binary.And p q s x y e hx hy =
    let parts = sort_if-some (is_truth p && is_truth q) sort.Truth s e in
    let tests = and_parts (is_truth p) (is_truth q) parts.0 in
    of_same_sort sort.Truth s _ parts.1
    (at_truth (λ u. IsOfSort sort.Truth (binary_value binary.And u y)) x (of_same_sort p sort.Truth x (same_sort-true p sort.Truth tests.0) hx)
    (λ a. at_truth (λ u. IsOfSort sort.Truth (binary_value binary.And (Truth a) u)) y (of_same_sort q sort.Truth y (same_sort-true q sort.Truth tests.1) hy) (λ b. tt)))
binary_value-sort binary.Or p q s x y e hx hy =
    let parts = sort_if-some (is_truth p && is_truth q) sort.Truth s e in
    let tests = and_parts (is_truth p) (is_truth q) parts.0 in
    of_same_sort sort.Truth s _ parts.1
    (at_truth (λ u. IsOfSort sort.Truth (binary_value binary.Or u y)) x (of_same_sort p sort.Truth x (same_sort-true p sort.Truth tests.0) hx)
    (λ a. at_truth (λ u. IsOfSort sort.Truth (binary_value binary.Or (Truth a) u)) y (of_same_sort q sort.Truth y (same_sort-true q sort.Truth tests.1) hy) (λ b. tt)))
binary_value-sort binary.Equal p q s x y e hx hy =
    let parts = sort_if-some (not (is_memory p) && same_sort p q) sort.Truth s e in
    let tests = and_parts (not (is_memory p)) (same_sort p q) parts.0 in
    of_same_sort sort.Truth s _ parts.1 (equal_values-sort p q x y tests.0 tests.1 hx hy)
binary_value-sort binary.Less p q s x y e hx hy =
    let parts = sort_if-some (is_word p && same_sort p q) sort.Truth s e in
    let tests = and_parts (is_word p) (same_sort p q) parts.0 in
    of_same_sort sort.Truth s _ parts.1
    (at_two_words (IsOfSort sort.Truth) (λ w a b. Truth (nat_lt a b)) p q x y tests.0 tests.1 hx hy (λ w a b is below_a below_b. tt))
binary_value-sort (binary.Word operator) p q s x y e hx hy =
    let parts = sort_if-some (is_word p && same_sort p q) p s e in
    let tests = and_parts (is_word p) (same_sort p q) parts.0 in
    of_same_sort p s _ parts.1
    (at_two_words (IsOfSort p) (λ w a b. Number w (operation operator (bits w) a b)) p q x y tests.0 tests.1 hx hy
    (λ w a b is below_a below_b. of_same_sort (sort.Word w) p _ (sym is) (refl, operation-below operator (bits w) a b below_a below_b)))
binary_value-sort binary.Load p q s x y e hx hy =
    let parts = sort_if-some (is_memory p && is_address q) (sort.Word W8) s e in
    let tests = and_parts (is_memory p) (is_address q) parts.0 in
    of_same_sort (sort.Word W8) s _ parts.1
    (at_memory (λ u. IsOfSort (sort.Word W8) (binary_value binary.Load u y)) x (of_same_sort p sort.Memory x (same_sort-true p sort.Memory tests.0) hx)
    (λ m below. at_address (IsOfSort (sort.Word W8)) (λ a. Number W8 (m (low_bits 32 a))) q y tests.1 hy (λ a. (refl, below (low_bits 32 a)))))
binary_value-sort binary.Join p q s x y e hx hy =
    let parts = sort_if-some (is_byte p && is_byte q) (sort.Word W16) s e in
    let tests = and_parts (is_byte p) (is_byte q) parts.0 in
    of_same_sort (sort.Word W16) s _ parts.1
    (at_bytes (IsOfSort (sort.Word W16)) W16 (x ∷ y ∷ []) (byte_from p x tests.0 hx, (byte_from q y tests.1 hy, tt)) (λ n below. (refl, below)))

pub cond_value : (s : Sort) (test : Bool) (x y : Value) → IsOfSort s x → IsOfSort s y → IsOfSort s (cond test x y)
cond_value s true x y hx hy = hx
cond_value s false x y hx hy = hy

cond_byte : (test : Bool) (a b : ℕ) → a < 2 ^ 8 → b < 2 ^ 8 → cond test a b < 2 ^ 8
cond_byte true a b below_a below_b = below_a
cond_byte false a b below_a below_b = below_b

pub ternary_value-sort : (operator : TernaryOperator) (p q r s : Sort) (x y z : Value) → sort_of_ternary operator p q r ≡ Some s
    → IsOfSort p x → IsOfSort q y → IsOfSort r z → IsOfSort s (ternary_value operator x y z)
unfolding sort_of_ternary ternary_value
ternary_value-sort ternary.Choose p q r s x y z e hx hy hz =
    let parts = sort_if-some (is_truth p && same_sort q r) q s e in
    let tests = and_parts (is_truth p) (same_sort q r) parts.0 in
    at_truth (λ u. IsOfSort s (ternary_value ternary.Choose u y z)) x (of_same_sort p sort.Truth x (same_sort-true p sort.Truth tests.0) hx)
    (λ test. cond_value s test y z (of_same_sort q s y parts.1 hy) (of_same_sort r s z (cc (same_sort-true q r tests.1, parts.1)) hz))
ternary_value-sort ternary.Store p q r s x y z e hx hy hz =
    let parts = sort_if-some (is_memory p && (is_address q && is_byte r)) sort.Memory s e in
    let tests = and_parts (is_memory p) (is_address q && is_byte r) parts.0 in
    let more = and_parts (is_address q) (is_byte r) tests.1 in
    of_same_sort sort.Memory s _ parts.1
    (at_memory (λ u. IsOfSort sort.Memory (ternary_value ternary.Store u y z)) x (of_same_sort p sort.Memory x (same_sort-true p sort.Memory tests.0) hx)
    (λ m below. at_address (IsOfSort sort.Memory) (λ a. on_byte (λ byte. Bytes (with_byte m (low_bits 32 a) byte)) z) q y more.0 hy
    (λ a. at_byte (IsOfSort sort.Memory) (λ byte. Bytes (with_byte m (low_bits 32 a) byte)) r z more.1 hz
    (λ byte small. λ address. cond_byte (address == low_bits 32 a) byte (m address) small (below address)))))

pub quaternary_value-sort : (operator : QuaternaryOperator) (p q r t s : Sort) (w x y z : Value) → sort_of_quaternary operator p q r t ≡ Some s
    → IsOfSort p w → IsOfSort q x → IsOfSort r y → IsOfSort t z → IsOfSort s (quaternary_value operator w x y z)
unfolding sort_of_quaternary quaternary_value
quaternary_value-sort quaternary.Over p q r t s w x y z e hw hx hy hz =
    let parts = sort_if-some (is_memory p && (is_memory q && (is_address r && is_address t))) sort.Memory s e in
    let tests = and_parts (is_memory p) (is_memory q && (is_address r && is_address t)) parts.0 in
    let more = and_parts (is_memory q) (is_address r && is_address t) tests.1 in
    let last = and_parts (is_address r) (is_address t) more.1 in
    of_same_sort sort.Memory s _ parts.1
    (at_memory (λ u. IsOfSort sort.Memory (quaternary_value quaternary.Over u x y z)) w (of_same_sort p sort.Memory w (same_sort-true p sort.Memory tests.0) hw)
    (λ m below_m. at_memory (λ u. IsOfSort sort.Memory (quaternary_value quaternary.Over (Bytes m) u y z)) x (of_same_sort q sort.Memory x (same_sort-true q sort.Memory more.0) hx)
    (λ zone below_zone. at_address (IsOfSort sort.Memory) (λ from. on_address (λ to. Bytes (overlaid m zone from to)) z) r y last.0 hy
    (λ from. at_address (IsOfSort sort.Memory) (λ to. Bytes (overlaid m zone from to)) t z last.1 hz
    (λ to. λ address. cond_byte (nat_le from address && nat_lt address to) (zone address) (m address) (below_zone address) (below_m address))))))
quaternary_value-sort quaternary.Join p q r t s w x y z e hw hx hy hz =
    let parts = sort_if-some (is_byte p && (is_byte q && (is_byte r && is_byte t))) (sort.Word W32) s e in
    let tests = and_parts (is_byte p) (is_byte q && (is_byte r && is_byte t)) parts.0 in
    let more = and_parts (is_byte q) (is_byte r && is_byte t) tests.1 in
    let last = and_parts (is_byte r) (is_byte t) more.1 in
    of_same_sort (sort.Word W32) s _ parts.1
    (at_bytes (IsOfSort (sort.Word W32)) W32 (w ∷ x ∷ y ∷ z ∷ []) (byte_from p w tests.0 hw, (byte_from q x more.0 hx, (byte_from r y last.0 hy, (byte_from t z last.1 hz, tt)))) (λ n below. (refl, below)))

atom_value-sort : (assignment : Assignment) → IsAssignment assignment → (leaf : Atom) (s : Sort) → sort_of_atom leaf ≡ Some s → IsOfSort s (value_of_atom assignment leaf)
unfolding sort_of_atom
atom_value-sort assignment h (atom.Truth known) s e = of_same_sort sort.Truth s _ (same_Some sort.Truth s e) tt
atom_value-sort assignment h (atom.Constant width number) s e =
    let parts = sort_if-some (nat_lt number (2 ^ bits width)) (sort.Word width) s e in
    of_same_sort (sort.Word width) s _ parts.1 (refl, ltb-true number (2 ^ bits width) parts.0)
atom_value-sort assignment h (atom.Open variable) s e = of_same_sort variable.sort s _ (same_Some variable.sort s e) (h variable)

-- a value with the sort that a term may have
abbrev HasSort : Option Sort → Value → Type 0
HasSort o x = (s : Sort) → o ≡ Some s → IsOfSort s x

byte_parts : (o : Option Sort) (rest : List (Option Sort)) → all_bytes (o ∷ rest) ≡ true → (o ≡ Some (sort.Word W8)) × (all_bytes rest ≡ true)
byte_parts (Some s) rest e = let parts = and_parts (is_byte s) (all_bytes rest) e in (ap Some (same_sort-true s (sort.Word W8) parts.0), parts.1)
byte_parts None rest e = absurd (cc)

-- a well-sorted term has a value of its sort, where each variable has one of its own
pub value-sort : (assignment : Assignment) → IsAssignment assignment → (t : Term) (s : Sort) → sort_of t ≡ Some s → IsOfSort s (value assignment t)
unfolding value sort_of
value-sort assignment h (Leaf leaf) s e = atom_value-sort assignment h leaf s e
value-sort assignment h (Unary operator a) s e =
    let parts = with_one-some (sort_of_unary operator) (sort_of a) s e in
    unary_value-sort operator parts.0 s (value assignment a) parts.2 (value-sort assignment h a parts.0 parts.1)
value-sort assignment h (Binary operator a b) s e =
    let parts = with_two-some (sort_of_binary operator) (sort_of a) (sort_of b) s e in
    binary_value-sort operator parts.0 parts.1 s (value assignment a) (value assignment b) parts.4 (value-sort assignment h a parts.0 parts.2) (value-sort assignment h b parts.1 parts.3)
value-sort assignment h (Ternary operator a b c) s e =
    let parts = with_three-some (sort_of_ternary operator) (sort_of a) (sort_of b) (sort_of c) s e in
    ternary_value-sort operator parts.0 parts.1 parts.2 s (value assignment a) (value assignment b) (value assignment c) parts.6
    (value-sort assignment h a parts.0 parts.3) (value-sort assignment h b parts.1 parts.4) (value-sort assignment h c parts.2 parts.5)
value-sort assignment h (Quaternary operator a b c d) s e =
    let parts = with_four-some (sort_of_quaternary operator) (sort_of a) (sort_of b) (sort_of c) (sort_of d) s e in
    quaternary_value-sort operator parts.0 parts.1 parts.2 parts.3 s (value assignment a) (value assignment b) (value assignment c) (value assignment d) parts.8
    (value-sort assignment h a parts.0 parts.4) (value-sort assignment h b parts.1 parts.5) (value-sort assignment h c parts.2 parts.6) (value-sort assignment h d parts.3 parts.7)
value-sort assignment h (Octonary a b c d i j k l) s e =
    let parts = sort_if-some (all_bytes (sort_of a ∷ sort_of b ∷ sort_of c ∷ sort_of d ∷ sort_of i ∷ sort_of j ∷ sort_of k ∷ sort_of l ∷ [])) (sort.Word W64) s e in
    let of_a = byte_parts (sort_of a) (sort_of b ∷ sort_of c ∷ sort_of d ∷ sort_of i ∷ sort_of j ∷ sort_of k ∷ sort_of l ∷ []) parts.0 in
    let of_b = byte_parts (sort_of b) (sort_of c ∷ sort_of d ∷ sort_of i ∷ sort_of j ∷ sort_of k ∷ sort_of l ∷ []) of_a.1 in
    let of_c = byte_parts (sort_of c) (sort_of d ∷ sort_of i ∷ sort_of j ∷ sort_of k ∷ sort_of l ∷ []) of_b.1 in
    let of_d = byte_parts (sort_of d) (sort_of i ∷ sort_of j ∷ sort_of k ∷ sort_of l ∷ []) of_c.1 in
    let of_i = byte_parts (sort_of i) (sort_of j ∷ sort_of k ∷ sort_of l ∷ []) of_d.1 in
    let of_j = byte_parts (sort_of j) (sort_of k ∷ sort_of l ∷ []) of_i.1 in
    let of_k = byte_parts (sort_of k) (sort_of l ∷ []) of_j.1 in
    let of_l = byte_parts (sort_of l) [] of_k.1 in
    let byte : Sort = sort.Word W8 in
    of_same_sort (sort.Word W64) s _ parts.1
    (at_bytes (IsOfSort (sort.Word W64)) W64
    (value assignment a ∷ value assignment b ∷ value assignment c ∷ value assignment d ∷ value assignment i ∷ value assignment j ∷ value assignment k ∷ value assignment l ∷ []) (
      value-sort assignment h a byte of_a.0,
      (
        value-sort assignment h b byte of_b.0,
        (
          value-sort assignment h c byte of_c.0,
          (
            value-sort assignment h d byte of_d.0,
            (value-sort assignment h i byte of_i.0, (value-sort assignment h j byte of_j.0, (value-sort assignment h k byte of_k.0, (value-sort assignment h l byte of_l.0, tt)))),
          ),
        ),
      ),
    )
    (λ n below. (refl, below)))
