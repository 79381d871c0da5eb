-- What the bits of operators with more arguments show, by those of their arguments.
use Rattle.std.proofs.Common.{◌≡◌, ◌<◌, ◌≤◌, ◌+◌, ◌*◌, ◌^◌, ℕ, zero, suc, Bool, true, false, List, [], ◌∷◌, ◌++◌, length, Some, refl, ap, sym, ◌∙◌, subst, arith}
use Rattle.std.specs.Prelude.{◌==◌, ◌&&◌, ◌||◌, not, nat_lt, if◌then◌else◌}
use Rattle.std.proofs.lemmas.Bool.{and_parts}
use Rattle.std.proofs.lemmas.List.{append-nil, append_assoc}
use Rattle.clause_check_spec.specs.declared.Literal.{Literal}
use Rattle.clause_check_spec.specs.Clause.{Valuation, holds}
use Rattle.term_core_spec.specs.declared.Width.{Width}
use Rattle.term_core_spec.specs.declared.Width.TheVariants.{W8, W16, W32, W64}
use Rattle.term_core_spec.specs.declared.Sort.{Sort}
use Rattle.term_core_spec.specs.declared.Sort.TheVariants as sort
use Rattle.term_core_spec.specs.declared.WordOperator.{WordOperator}
use Rattle.term_core_spec.specs.declared.BinaryOperator.{BinaryOperator}
use Rattle.term_core_spec.specs.declared.BinaryOperator.TheVariants as binary
use Rattle.term_core_spec.specs.declared.TernaryOperator.{TernaryOperator}
use Rattle.term_core_spec.specs.declared.TernaryOperator.TheVariants as ternary
use Rattle.term_core_spec.specs.declared.QuaternaryOperator.{QuaternaryOperator}
use Rattle.term_core_spec.specs.declared.QuaternaryOperator.TheVariants as quaternary
use Rattle.term_core_spec.specs.Term.{Term}
use Rattle.term_core_spec.specs.Sort.{bits, same_sort, is_word, is_truth, is_byte, is_address, is_memory, sort_if, sort_of_binary, sort_of_ternary, sort_of_quaternary}
use Rattle.term_core_spec.specs.Value.{Value, Truth, Number, Bytes, IsOfSort, operation, on_two_words, joined, binary_value, ternary_value, quaternary_value}
use Rattle.term_core_spec.proofs.Sorts.{same_sort-true, same_sort-same, word_width, sort_if-some}
use Rattle.term_core_spec.proofs.Soundness.{at_truth, at_word, at_memory, of_same_sort, on_two_words-same, cond_value}
use Rattle.bit_blast_spec.specs.Circuits.{Bits, each_two, and_gate, or_gate, choose_bits, equal_bits, less_bit}
use Rattle.bit_blast_spec.specs.Goal.{single, bit_of, word_bits, binary_bits, ternary_bits, quaternary_bits}
use Rattle.bit_blast_spec.specs.Gates.{last_of}
use Rattle.bit_blast_laws.specs.Meaning.{digit, number_of, AllHold}
use Rattle.bit_blast_laws.proofs.Gates.{hold_parts}
use Rattle.bit_blast_laws.specs.Shows.{Shows}
use Rattle.bit_blast_laws.proofs.Unaries.{only_bit}
use Rattle.bit_blast_laws.proofs.Binaries.{and_shows, or_shows, equal_truths_show, equal_words_show, less_shows, is_divided, word_shows, chosen_truths_show, chosen_words_show}
use Rattle.bit_blast_laws.proofs.Leaves.{joined_bits, BytesShow, joined_shows, nothing_shows}

-- two words of one width
pub at_words : (P : Value → Value → Type 0) (p q : Sort) (x y : Value) → is_word p ≡ true → same_sort p q ≡ true → IsOfSort p x → IsOfSort q y
    → ((w : Width) (a b : ℕ) → a < 2 ^ bits w → b < 2 ^ bits w → P (Number w a) (Number w b)) → P x y
at_words P p q x y word same hx hy g =
    let width = word_width p word in
    let w : Width = width.0 in
    let q_is : q ≡ sort.Word w = cc (same_sort-true p q same, width.1) in
    at_word (λ u. P u y) w x (of_same_sort p (sort.Word w) x width.1 hx)
    (λ a below_a. at_word (λ u. P (Number w a) u) w y (of_same_sort q (sort.Word w) y q_is hy) (λ b below_b. g w a b below_a below_b))

at_truths : (P : Value → Value → Type 0) (p q : Sort) (x y : Value) → is_truth p ≡ true → is_truth q ≡ true → IsOfSort p x → IsOfSort q y
    → ((a b : Bool) → P (Truth a) (Truth b)) → P x y
at_truths P p q x y tp tq hx hy g =
    at_truth (λ u. P u y) x (of_same_sort p sort.Truth x (same_sort-true p sort.Truth tp) hx)
    (λ a. at_truth (λ u. P (Truth a) u) y (of_same_sort q sort.Truth y (same_sort-true q sort.Truth tq) hy) (λ b. g a b))

-- what an operator on two words gives
at_two : (values : Valuation) (f : Width → ℕ → ℕ → Value) (w : Width) (a b : ℕ) (found : Bits) → Shows values (f w a b) found
    → Shows values (on_two_words f (Number w a) (Number w b)) found
at_two values f w a b found shows = subst (λ u. Shows values u found) (sym (on_two_words-same f w a b)) shows

equal_show : (values : Valuation) (p q : Sort) (x y : Value) (xs ys : Bits) (last : ℕ) → values 1 ≡ true → not (is_memory p) ≡ true → same_sort p q ≡ true
    → IsOfSort p x → IsOfSort q y → Shows values x xs → Shows values y ys → AllHold values last (equal_bits xs ys last).gates
    → Shows values (binary_value binary.Equal x y) (single (equal_bits xs ys last).out)
unfolding binary_value
equal_show values sort.Truth q x y xs ys last truth some same hx hy =
    at_truths (λ u v. Shows values u xs → Shows values v ys → AllHold values last (equal_bits xs ys last).gates
    → Shows values (binary_value binary.Equal u v) (single (equal_bits xs ys last).out)) sort.Truth q x y refl
    (subst (λ r. is_truth r ≡ true) (same_sort-true sort.Truth q same) refl) hx hy
    (λ a b. equal_truths_show values a b xs ys last truth)
equal_show values (sort.Word w) q x y xs ys last truth some same hx hy =
    at_words (λ u v. Shows values u xs → Shows values v ys → AllHold values last (equal_bits xs ys last).gates
    → Shows values (binary_value binary.Equal u v) (single (equal_bits xs ys last).out)) (sort.Word w) q x y refl same hx hy
    (λ v a b below_a below_b sx sy all.
    at_two values (λ w c b. Truth (c == b)) v a b (single (equal_bits xs ys last).out) (equal_words_show values v a b xs ys last truth sx sy all))
equal_show values sort.Memory q x y xs ys last truth some same hx hy = λ sx sy all. absurd (cc)

-- all but loads, quotients and remainders
abbrev pub is_plain : BinaryOperator → Bool
is_plain (binary.Word operator) = not (is_divided operator)
is_plain binary.Load = false
is_plain operator = true

not_divided : (b : Bool) → not b ≡ true → b ≡ false
not_divided true e = cc
not_divided false e = refl

pub binary_shows : (values : Valuation) (term : Term) (operator : BinaryOperator) (p q s : Sort) (x y : Value) (xs ys : Bits) (last : ℕ) → values 1 ≡ true
    → is_plain operator ≡ true → sort_of_binary operator p q ≡ Some s → IsOfSort p x → IsOfSort q y → Shows values x xs → Shows values y ys
    → AllHold values last (binary_bits term operator xs ys last).gates → Shows values (binary_value operator x y) (binary_bits term operator xs ys last).out
unfolding sort_of_binary binary_value binary_bits
binary_shows values term binary.And p q s x y xs ys last truth is e hx hy sx sy all =
    let parts = sort_if-some (is_truth p && is_truth q) sort.Truth s e in
    let tests = and_parts (is_truth p) (is_truth q) parts.0 in
    at_truths (λ u v. Shows values u xs → Shows values v ys → AllHold values last (each_two and_gate xs ys last).gates
    → Shows values (binary_value binary.And u v) (each_two and_gate xs ys last).out) p q x y tests.0 tests.1 hx hy
    (λ a b. and_shows values a b xs ys last) sx sy all
binary_shows values term binary.Or p q s x y xs ys last truth is e hx hy sx sy all =
    let parts = sort_if-some (is_truth p && is_truth q) sort.Truth s e in
    let tests = and_parts (is_truth p) (is_truth q) parts.0 in
    at_truths (λ u v. Shows values u xs → Shows values v ys → AllHold values last (each_two or_gate xs ys last).gates
    → Shows values (binary_value binary.Or u v) (each_two or_gate xs ys last).out) p q x y tests.0 tests.1 hx hy
    (λ a b. or_shows values a b xs ys last) sx sy all
binary_shows values term binary.Equal p q s x y xs ys last truth is e hx hy sx sy all =
    let parts = sort_if-some (not (is_memory p) && same_sort p q) sort.Truth s e in
    let tests = and_parts (not (is_memory p)) (same_sort p q) parts.0 in
    let own = hold_parts values last (equal_bits xs ys last).gates [] all in
    equal_show values p q x y xs ys last truth tests.0 tests.1 hx hy sx sy own.0
binary_shows values term binary.Less p q s x y xs ys last truth is e hx hy sx sy all =
    let parts = sort_if-some (is_word p && same_sort p q) sort.Truth s e in
    let tests = and_parts (is_word p) (same_sort p q) parts.0 in
    let own = hold_parts values last (less_bit xs ys last).gates [] all in
    at_words (λ u v. Shows values u xs → Shows values v ys → Shows values (binary_value binary.Less u v) (single (less_bit xs ys last).out)) p q x y tests.0 tests.1 hx hy
    (λ w a b below_a below_b sx sy.
    at_two values (λ w a b. Truth (nat_lt a b)) w a b (single (less_bit xs ys last).out) (less_shows values w a b xs ys last truth sx sy own.0)) sx sy
binary_shows values term (binary.Word operator) p q s x y xs ys last truth is e hx hy sx sy all =
    let parts = sort_if-some (is_word p && same_sort p q) p s e in
    let tests = and_parts (is_word p) (same_sort p q) parts.0 in
    at_words (λ u v. Shows values u xs → Shows values v ys → AllHold values last (word_bits operator xs ys last).gates
    → Shows values (binary_value (binary.Word operator) u v) (word_bits operator xs ys last).out) p q x y tests.0 tests.1 hx hy
    (λ w a b below_a below_b sx sy all.
    at_two values (λ w a b. Number w (operation operator (bits w) a b)) w a b (word_bits operator xs ys last).out
    (word_shows values operator w a b xs ys last truth (not_divided (is_divided operator) is) sx sy all)) sx sy all
binary_shows values term binary.Load p q s x y xs ys last truth is e hx hy sx sy all = cc
binary_shows values term binary.Join p q s x y xs ys last truth is e hx hy sx sy all =
    let parts = sort_if-some (is_byte p && is_byte q) (sort.Word W16) s e in
    let tests = and_parts (is_byte p) (is_byte q) parts.0 in
    let first = of_same_sort p (sort.Word W8) x (same_sort-true p (sort.Word W8) tests.0) hx in
    let second = of_same_sort q (sort.Word W8) y (same_sort-true q (sort.Word W8) tests.1) hy in
    subst (Shows values (joined W16 (x ∷ y ∷ []))) (ap (λ l. xs ++ l) (append-nil ys))
    (joined_shows values W16 (x ∷ y ∷ []) (xs ∷ ys ∷ []) refl (first, sx, (second, sy, tt)))

-- ---- choices

chosen_shows : (values : Valuation) (c : Bool) (s : Sort) (y z : Value) (test : Literal) (ys zs : Bits) (last : ℕ) → holds values test ≡ c → IsOfSort s y → IsOfSort s z
    → Shows values y ys → Shows values z zs → AllHold values last (choose_bits test ys zs last).gates
    → Shows values (if c then y else z) (choose_bits test ys zs last).out
chosen_shows values c sort.Truth y z test ys zs last e hy hz sy sz all =
    at_truths (λ u v. Shows values u ys → Shows values v zs → Shows values (if c then u else v) (choose_bits test ys zs last).out) sort.Truth sort.Truth y z refl refl hy hz
    (λ a b sy sz. chosen_truths_show values c a b test ys zs last e sy sz all) sy sz
chosen_shows values c (sort.Word w) y z test ys zs last e hy hz sy sz all =
    at_words (λ u v. Shows values u ys → Shows values v zs → Shows values (if c then u else v) (choose_bits test ys zs last).out) (sort.Word w) (sort.Word w) y z refl
    (same_sort-same (sort.Word w)) hy hz
    (λ v a b below_a below_b sy sz. chosen_words_show values c v a b test ys zs last e sy sz all) sy sz
chosen_shows values c sort.Memory y z test ys zs last e hy hz sy sz all =
    nothing_shows values (if c then y else z) (choose_bits test ys zs last).out (cond_value sort.Memory c y z hy hz)

pub ternary_shows : (values : Valuation) (operator : TernaryOperator) (p q r s : Sort) (x y z : Value) (xs ys zs : Bits) (last : ℕ)
    → sort_of_ternary operator p q r ≡ Some s → IsOfSort p x → IsOfSort q y → IsOfSort r z → IsOfSort s (ternary_value operator x y z)
    → Shows values x xs → Shows values y ys → Shows values z zs
    → AllHold values last (ternary_bits operator xs ys zs last).gates → Shows values (ternary_value operator x y z) (ternary_bits operator xs ys zs last).out
unfolding sort_of_ternary ternary_value ternary_bits
ternary_shows values ternary.Choose p q r s x y z xs ys zs last e hx hy hz whole sx sy sz all =
    let parts = sort_if-some (is_truth p && same_sort q r) q s e in
    let tests = and_parts (is_truth p) (same_sort q r) parts.0 in
    at_truth (λ u. Shows values u xs → Shows values (ternary_value ternary.Choose u y z) (choose_bits (bit_of xs) ys zs last).out) x
    (of_same_sort p sort.Truth x (same_sort-true p sort.Truth tests.0) hx)
    (λ c here.
    let bit = only_bit values xs c here.0 here.1 in
    let test : holds values (bit_of xs) ≡ c = ap (λ l. holds values (bit_of l)) bit.1 ∙ bit.2 in
    chosen_shows values c q y z (bit_of xs) ys zs last test hy (of_same_sort r q z (sym (same_sort-true q r tests.1)) hz) sy sz all) sx
ternary_shows values ternary.Store p q r s x y z xs ys zs last e hx hy hz whole sx sy sz all =
    let parts = sort_if-some (is_memory p && (is_address q && is_byte r)) sort.Memory s e in
    nothing_shows values (ternary_value ternary.Store x y z) [] (of_same_sort s sort.Memory (ternary_value ternary.Store x y z) (sym parts.1) whole)

pub quaternary_shows : (values : Valuation) (operator : QuaternaryOperator) (p q r t s : Sort) (w x y z : Value) (ws xs ys zs : Bits) (last : ℕ)
    → sort_of_quaternary operator p q r t ≡ Some s → IsOfSort p w → IsOfSort q x → IsOfSort r y → IsOfSort t z → IsOfSort s (quaternary_value operator w x y z)
    → Shows values w ws → Shows values x xs → Shows values y ys → Shows values z zs
    → Shows values (quaternary_value operator w x y z) (quaternary_bits operator ws xs ys zs last).out
unfolding sort_of_quaternary quaternary_value quaternary_bits
quaternary_shows values quaternary.Over p q r t s w x y z ws xs ys zs last e hw hx hy hz whole sw sx sy sz =
    let parts = sort_if-some (is_memory p && (is_memory q && (is_address r && is_address t))) sort.Memory s e in
    nothing_shows values (quaternary_value quaternary.Over w x y z) [] (of_same_sort s sort.Memory (quaternary_value quaternary.Over w x y z) (sym parts.1) whole)
quaternary_shows values quaternary.Join p q r t s w x y z ws xs ys zs last e hw hx hy hz whole sw sx sy sz =
    let parts = sort_if-some (is_byte p && (is_byte q && (is_byte r && is_byte t))) (sort.Word W32) s e in
    let tests = and_parts (is_byte p) (is_byte q && (is_byte r && is_byte t)) parts.0 in
    let more = and_parts (is_byte q) (is_byte r && is_byte t) tests.1 in
    let rest = and_parts (is_byte r) (is_byte t) more.1 in
    let byte = λ (s : Sort) (u : Value) (test : is_byte s ≡ true) (h : IsOfSort s u). of_same_sort s (sort.Word W8) u (same_sort-true s (sort.Word W8) test) h in
    subst (Shows values (joined W32 (w ∷ x ∷ y ∷ z ∷ []))) (grouped ws xs ys zs)
    (joined_shows values W32 (w ∷ x ∷ y ∷ z ∷ []) (ws ∷ xs ∷ ys ∷ zs ∷ []) refl
    (byte p w tests.0 hw, sw, (byte q x more.0 hx, sx, (byte r y rest.0 hy, sy, (byte t z rest.1 hz, sz, tt)))))
  where
    grouped : (a b c d : Bits) → a ++ (b ++ (c ++ (d ++ []))) ≡ a ++ b ++ c ++ d
    grouped a b c d = simp (append-nil, append_assoc)
