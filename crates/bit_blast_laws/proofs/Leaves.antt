-- What the bits of terms without gates show.
use Rattle.std.proofs.Common.{◌≡◌, ◌<◌, ◌≤◌, ◌+◌, ◌-◌, ◌*◌, ◌/◌, ◌%◌, ◌^◌, ℕ, zero, suc, Bool, true, false, List, [], ◌∷◌, ◌++◌, length, map, Option, Some, None, refl, ap, sym, ◌∙◌, subst, arith}
use Rattle.std.specs.Prelude.{◌==◌, ◌&&◌, not, nat_lt, if◌then◌else◌, option_and_then, option_map}
use Rattle.std.proofs.lemmas.Bool.{ltb-true}
use Rattle.std.proofs.lemmas.Option.{same_Some}
use Rattle.std.proofs.lemmas.Nat.{shr-shr}
use Rattle.std.proofs.lemmas.List.{length-append, append-nil, append_assoc}
use Rattle.std.proofs.Math.Nat.{mod-eq_of_lt, mod-one}
use Rattle.clause_check_spec.specs.declared.Literal.{Literal}
use Rattle.clause_check_spec.specs.Clause.{Valuation, holds}
use Rattle.term_core_spec.specs.declared.Width.{Width}
use Rattle.term_core_spec.specs.declared.Width.TheVariants.{W8}
use Rattle.term_core_spec.specs.declared.Sort.{Sort}
use Rattle.term_core_spec.specs.declared.Sort.TheVariants as sort
use Rattle.term_core_spec.specs.declared.Variable.{Variable}
use Rattle.term_core_spec.specs.declared.Atom.{Atom}
use Rattle.term_core_spec.specs.declared.Atom.TheVariants as atom
use Rattle.term_core_spec.specs.Term.{Term, Leaf}
use Rattle.term_core_spec.specs.Sort.{bits, sort_of_atom, sort_if}
use Rattle.term_core_spec.specs.Value.{Value, Truth, Number, Bytes, IsOfSort, Assignment, IsAssignment, low_bits, number_of_bytes, byte_of, joined, word_or_stray, value, value_of_atom}
use Rattle.term_core_spec.proofs.Sorts.{sort_if-some}
use Rattle.term_core_spec.proofs.Soundness.{at_truth, at_word, at_memory}
use Rattle.bit_blast_spec.specs.Gates.{Gate, next, last_of, literal_of}
use Rattle.bit_blast_spec.specs.Circuits.{Bits, one, none, new_bits}
use Rattle.bit_blast_spec.specs.Goal.{single, known, known_bits, size_of, atom_bits}
use Rattle.bit_blast_laws.specs.Meaning.{digit, number_of, AllHold}
use Rattle.bit_blast_laws.proofs.Adders.{with_digit}
use Rattle.bit_blast_laws.proofs.Widths.{number-append, holds-none}
use Rattle.bit_blast_laws.specs.Shows.{Shows}
use Rattle.bit_blast_laws.specs.Reads.{bit_of_value, is_read, Reads}
use Rattle.bit_blast_laws.proofs.Unaries.{shows_bit}

pub reads_parts : (assignment : Assignment) (values : Valuation) (last : ℕ) (gates more : List Gate) → Reads assignment values last (gates ++ more)
    → Reads assignment values last gates × Reads assignment values (last_of last gates) more
reads_parts assignment values last [] more all = (tt, all)
reads_parts assignment values last (gate ∷ gates) more all =
    let parts = reads_parts assignment values (next last gate) gates more all.1 in ((all.0, parts.0), parts.1)

-- ---- known words

known_holds : (values : Valuation) (b : Bool) → values 1 ≡ true → holds values (known b) ≡ b
known_holds values true truth = truth
known_holds values false truth = holds-none values truth

-- the lowest bit and the rest
low_digit : (n : ℕ) → digit (n % 2 == 1) ≡ n % 2
low_digit n = by_rest (n % 2) (omega arith)
  where
    by_rest : (r : ℕ) → r < 2 → digit (r == 1) ≡ r
    by_rest zero h = refl
    by_rest (suc zero) h = refl
    by_rest (suc (suc r)) h = absurd (omega (arith, h))

pub one_more : (n count rest : ℕ) → rest ≡ n / 2 % 2 ^ count → digit (n % 2 == 1) + 2 * rest ≡ n % 2 ^ suc count
one_more n count rest e =
    let small : n % 2 ≤ 1 = omega arith in
    let whole : n % 2 + 2 * (n / 2) ≡ n = omega arith in
    ap (λ d. d + 2 * rest) (low_digit n) ∙ ap (λ m. n % 2 + 2 * m) e ∙ with_digit count (n / 2) (n % 2) small ∙ ap (λ m. m % 2 ^ suc count) whole

known_number : (values : Valuation) (count n : ℕ) → values 1 ≡ true → number_of values (known_bits count n) ≡ n % 2 ^ count
known_number values zero n truth = sym (mod-one n)
known_number values (suc count) n truth =
    ap (λ b. digit b + 2 * number_of values (known_bits count (n / 2))) (known_holds values (n % 2 == 1) truth)
    ∙ one_more n count (number_of values (known_bits count (n / 2))) (known_number values count (n / 2) truth)

known_length : (count n : ℕ) → length (known_bits count n) ≡ count
known_length zero n = refl
known_length (suc count) n = ap (λ m. suc m) (known_length count (n / 2))

-- ---- new bits

pub new_length : (term : Term) (index count last : ℕ) → length (new_bits term index count last).out ≡ count
unfolding new_bits
new_length term index zero last = refl
new_length term index (suc count) last = ap (λ n. suc n) (new_length term (suc index) count (last + 1))

pub new_number : (assignment : Assignment) (values : Valuation) (term : Term) (width : Width) (n index count last : ℕ) → is_read term ≡ true
    → value assignment term ≡ Number width n → Reads assignment values last (new_bits term index count last).gates
    → number_of values (new_bits term index count last).out ≡ n / 2 ^ index % 2 ^ count
unfolding new_bits
new_number assignment values term width n index zero last read is reads = sym (mod-one (n / 2 ^ index))
new_number assignment values term width n index (suc count) last read is reads =
    let rest = reads_parts assignment values (last + 1) (new_bits term (suc index) count (last + 1)).gates [] reads.1 in
    let bit = reads.0 read ∙ ap (λ v. bit_of_value v index) is in
    let half : n / 2 ^ index / 2 ≡ n / 2 ^ suc index = shr-shr n index 1 ∙ ap (λ k. n / 2 ^ k) (omega arith) in
    ap (λ b. digit b + 2 * number_of values (new_bits term (suc index) count (last + 1)).out) bit
    ∙ one_more (n / 2 ^ index) count (number_of values (new_bits term (suc index) count (last + 1)).out)
    (new_number assignment values term width n (suc index) count (last + 1) read is rest.0 ∙ ap (λ m. m % 2 ^ count) (sym half))

-- a word that is reconstructed
pub read_word_shows : (assignment : Assignment) (values : Valuation) (term : Term) (width : Width) (x : Value) (last : ℕ) → is_read term ≡ true
    → value assignment term ≡ x → IsOfSort (sort.Word width) x → Reads assignment values last (new_bits term 0 (bits width) last).gates
    → Shows values x (new_bits term 0 (bits width) last).out
read_word_shows assignment values term width x last read is h reads =
    at_word (λ u. value assignment term ≡ u → Shows values u (new_bits term 0 (bits width) last).out) width x h
    (λ n below same.
    let plain : n / 2 ^ 0 ≡ n = omega arith in (
      new_length term 0 (bits width) last,
      new_number assignment values term width n 0 (bits width) last read same reads ∙ ap (λ m. m % 2 ^ bits width) plain ∙ mod-eq_of_lt below,
    ))
    is

pub read_truth_shows : (assignment : Assignment) (values : Valuation) (term : Term) (x : Value) (last : ℕ) → is_read term ≡ true
    → value assignment term ≡ x → IsOfSort sort.Truth x → Reads assignment values last (new_bits term 0 1 last).gates
    → Shows values x (new_bits term 0 1 last).out
unfolding new_bits
read_truth_shows assignment values term x last read is h reads =
    at_truth (λ u. value assignment term ≡ u → Shows values u (literal_of (last + 1) ∷ [])) x h
    (λ b same. shows_bit values (literal_of (last + 1)) b (reads.0 read ∙ ap (λ v. bit_of_value v 0) same)) is

-- ---- atoms

pub nothing_shows : (values : Valuation) (x : Value) (found : Bits) → IsOfSort sort.Memory x → Shows values x found
nothing_shows values x found h = at_memory (λ u. Shows values u found) x h (λ m below. tt)

open_shows : (assignment : Assignment) (values : Valuation) (v : Variable) (s : Sort) (last : ℕ) → v.sort ≡ s → IsAssignment assignment
    → Reads assignment values last (new_bits (Leaf (atom.Open v)) 0 (size_of s) last).gates
    → Shows values (assignment v) (new_bits (Leaf (atom.Open v)) 0 (size_of s) last).out
unfolding value new_bits
open_shows assignment values v sort.Truth last e h reads =
    read_truth_shows assignment values (Leaf (atom.Open v)) (assignment v) last refl refl (subst (λ s. IsOfSort s (assignment v)) e (h v)) reads
open_shows assignment values v (sort.Word width) last e h reads =
    read_word_shows assignment values (Leaf (atom.Open v)) width (assignment v) last refl refl (subst (λ s. IsOfSort s (assignment v)) e (h v)) reads
open_shows assignment values v sort.Memory last e h reads = nothing_shows values (assignment v) [] (subst (λ s. IsOfSort s (assignment v)) e (h v))

pub atom_shows : (assignment : Assignment) (values : Valuation) (leaf : Atom) (s : Sort) (last : ℕ) → values 1 ≡ true → IsAssignment assignment
    → sort_of_atom leaf ≡ Some s → Reads assignment values last (atom_bits leaf last).gates → Shows values (value assignment (Leaf leaf)) (atom_bits leaf last).out
unfolding atom_bits sort_of_atom value
atom_shows assignment values (atom.Truth b) s last truth h e reads = shows_bit values (known b) b (known_holds values b truth)
atom_shows assignment values (atom.Constant width n) s last truth h e reads =
    let parts = sort_if-some (nat_lt n (2 ^ bits width)) (sort.Word width) s e in
    (known_length (bits width) n, known_number values (bits width) n truth ∙ mod-eq_of_lt (ltb-true n (2 ^ bits width) parts.0))
atom_shows assignment values (atom.Open v) s last truth h e reads = open_shows assignment values v v.sort last refl h reads

-- ---- bytes that are joined

abbrev pub joined_bits : List Bits → Bits
joined_bits [] = []
joined_bits (byte ∷ bytes) = byte ++ joined_bits bytes

-- each of these values is a byte, and its bits show it
abbrev pub BytesShow : Valuation → List Value → List Bits → Type 0
BytesShow values [] [] = Unit {0}
BytesShow values (x ∷ rest) (xs ∷ more) = IsOfSort (sort.Word W8) x × Shows values x xs × BytesShow values rest more
BytesShow values rest more = ⊥

joined_number : (values : Valuation) (bytes : List Value) (found : List Bits) → BytesShow values bytes found
    → (number_of_bytes (map byte_of bytes) ≡ Some (number_of values (joined_bits found))) × (length (joined_bits found) ≡ 8 * length bytes)
joined_number values [] [] shows = (refl, refl)
joined_number values [] (xs ∷ more) shows = absurd shows
joined_number values (x ∷ rest) [] shows = absurd shows
joined_number values (x ∷ rest) (xs ∷ more) shows =
    let later = joined_number values rest more shows.2 in
    at_word (λ u. Shows values u xs
    → (option_and_then (λ byte. option_map (λ number. byte + 2 ^ 8 * number) (number_of_bytes (map byte_of rest))) (byte_of u) ≡ Some (number_of values (xs ++ joined_bits more)))
    × (length (xs ++ joined_bits more) ≡ 8 * suc (length rest))) W8 x shows.0
    (λ a below here.
    let number : number_of values (xs ++ joined_bits more) ≡ low_bits 8 a + 2 ^ 8 * number_of values (joined_bits more) =
    number-append values xs (joined_bits more)
    ∙ ap (λ n. n + 2 ^ length xs * number_of values (joined_bits more)) (here.1 ∙ sym (mod-eq_of_lt below))
    ∙ ap (λ n. low_bits 8 a + 2 ^ n * number_of values (joined_bits more)) here.0
    in
    let long = length-append xs (joined_bits more) in
    (ap (option_map (λ number. low_bits 8 a + 2 ^ 8 * number)) later.0 ∙ ap Some (sym number), omega (arith, long, here.0, later.1)))
    shows.1

-- the word of bytes that are shown
pub joined_shows : (values : Valuation) (width : Width) (bytes : List Value) (found : List Bits) → bits width ≡ 8 * length bytes → BytesShow values bytes found
    → Shows values (joined width bytes) (joined_bits found)
joined_shows values width bytes found long shows =
    let number = joined_number values bytes found shows in
    subst (λ o. Shows values (word_or_stray width o) (joined_bits found)) (sym number.0) (number.1 ∙ sym long, refl)
