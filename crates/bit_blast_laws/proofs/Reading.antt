-- Bits of variables and of loads are those of the values that are reconstructed.
use Rattle.std.proofs.Common.{◌≡◌, ◌<◌, ◌+◌, ◌/◌, ◌%◌, ◌^◌, ℕ, zero, suc, true, false, [], ◌∷◌, ◌++◌, length, Some, refl, ap, sym, ◌∙◌, subst, arith}
use Rattle.std.specs.Prelude.{◌==◌}
use Rattle.std.proofs.lemmas.List.{append_assoc}
use Rattle.std.proofs.lemmas.Option.{same_Some}
use Rattle.std.proofs.lemmas.Nat.{shr-shr, pow_pos}
use Rattle.std.proofs.Math.Nat.{mod-eq_of_lt, mod-lt}
use Rattle.clause_check_spec.specs.Clause.{Valuation, holds}
use Rattle.term_core_spec.specs.declared.Width.{Width}
use Rattle.term_core_spec.specs.declared.Width.TheVariants.{W8, W32}
use Rattle.term_core_spec.specs.declared.Sort.{Sort}
use Rattle.term_core_spec.specs.declared.Sort.TheVariants as sort
use Rattle.term_core_spec.specs.declared.Variable.{Variable}
use Rattle.term_core_spec.specs.declared.Atom.{Atom}
use Rattle.term_core_spec.specs.declared.Atom.TheVariants as atom
use Rattle.term_core_spec.specs.declared.BinaryOperator.TheVariants as binary
use Rattle.term_core_spec.specs.Term.{Term, Leaf, Unary, Binary, Ternary, Quaternary, Octonary}
use Rattle.term_core_spec.specs.Sort.{bits, sort_of, sort_of_atom}
use Rattle.term_core_spec.specs.Value.{Value, Number, IsOfSort, Assignment, IsAssignment, low_bits, loaded, value, binary_value}
use Rattle.term_core_spec.proofs.Soundness.{at_word}
use Rattle.bit_blast_spec.specs.Circuits.{Bits, new_bits}
use Rattle.bit_blast_spec.specs.Goal.{Table, is_there, bits_in, bit_of, size_of, enter, atom_bits}
use Rattle.bit_blast_laws.specs.Meaning.{number_of}
use Rattle.bit_blast_laws.proofs.Adders.{below_width}
use Rattle.bit_blast_laws.specs.Shows.{Shows}
use Rattle.bit_blast_laws.specs.Reads.{bit_of_value, Reads}
use Rattle.bit_blast_laws.proofs.Leaves.{new_length, one_more}
use Rattle.bit_blast_laws.proofs.Divisions.{same_head}
use Rattle.mem_terms_spec.specs.Assignments.{IsVariable}
use Rattle.bit_blast_laws.specs.Back.{first_byte, loads_from, value_back, read_back, IfFromVariable, TableLoadsFromVariables}
use Rattle.bit_blast_laws.proofs.Silent.{reads_both}
use Rattle.bit_blast_laws.proofs.Prefixes.{Prefix, prefix_bits, new_there}

-- ---- what is reconstructed is an assignment

value_sort : (values : Valuation) (table : Table) (v : Variable) (s : Sort) → IsOfSort s (value_back values table v s)
value_sort values table v sort.Truth = tt
value_sort values table v (sort.Word width) = (refl, mod-lt (number_of values (bits_in table (Leaf (atom.Open v)))) (pow_pos (bits width)))
value_sort values table v sort.Memory = λ address. mod-lt (first_byte values address (loads_from (Leaf (atom.Open v)) table)) (pow_pos 8)

pub is_assignment : (values : Valuation) (table : Table) → IsAssignment (read_back values table)
is_assignment values table v = value_sort values table v v.sort

-- ---- new bits

-- the bits of a word that has their number
new_reads : (assignment : Assignment) (values : Valuation) (term : Term) (width : Width) (n index count last : ℕ) → value assignment term ≡ Number width n
    → number_of values (new_bits term index count last).out ≡ n / 2 ^ index % 2 ^ count → Reads assignment values last (new_bits term index count last).gates
unfolding new_bits
new_reads assignment values term width n index zero last is e = tt
new_reads assignment values term width n index (suc count) last is e =
    let rest = new_bits term (suc index) count (last + 1) in
    let half : n / 2 ^ index / 2 ≡ n / 2 ^ suc index = shr-shr n index 1 ∙ ap (λ k. n / 2 ^ k) (omega arith) in
    let split = one_more (n / 2 ^ index) count (n / 2 ^ index / 2 % 2 ^ count) refl in
    let head = same_head (values (last + 1)) (n / 2 ^ index % 2 == 1) (number_of values rest.out) (n / 2 ^ index / 2 % 2 ^ count) (e ∙ sym split) in (
      λ read. head.0 ∙ ap (λ v. bit_of_value v index) (sym is),
      reads_both assignment values (last + 1) rest.gates []
          (new_reads assignment values term width n (suc index) count (last + 1) is (head.1 ∙ ap (λ m. m % 2 ^ count) half)) tt,
    )

whole_number : (values : Valuation) (found : Bits) (count : ℕ) → length found ≡ count → low_bits count (number_of values found) ≡ number_of values found
whole_number values found count long = mod-eq_of_lt (subst (λ k. number_of values found < 2 ^ k) long (below_width values found))

-- the bits of a word whose number is that of its low bits
word_reads : (assignment : Assignment) (values : Valuation) (term : Term) (width : Width) (count last : ℕ)
    → value assignment term ≡ Number width (low_bits count (number_of values (new_bits term 0 count last).out))
    → Reads assignment values last (new_bits term 0 count last).gates
word_reads assignment values term width count last is =
    let found = (new_bits term 0 count last).out in
    let n = number_of values found in
    let plain : low_bits count n / 2 ^ 0 ≡ low_bits count n = omega arith in
    let same = whole_number values found count (new_length term 0 count last) in
    new_reads assignment values term width (low_bits count n) 0 count last is
    (sym (ap (λ m. m % 2 ^ count) plain ∙ ap (λ m. m % 2 ^ count) same ∙ same))

-- ---- variables

open_reads : (assignment : Assignment) (values : Valuation) (table : Table) (v : Variable) (s : Sort) (last : ℕ)
    → bits_in table (Leaf (atom.Open v)) ≡ (new_bits (Leaf (atom.Open v)) 0 (size_of s) last).out → value assignment (Leaf (atom.Open v)) ≡ value_back values table v s
    → Reads assignment values last (new_bits (Leaf (atom.Open v)) 0 (size_of s) last).gates
unfolding new_bits
open_reads assignment values table v sort.Truth last found is =
    ((λ read. sym (ap (λ u. bit_of_value u 0) is ∙ ap (λ found. holds values (bit_of found)) found)), tt)
open_reads assignment values table v (sort.Word width) last found is =
    word_reads assignment values (Leaf (atom.Open v)) width (bits width) last (is ∙ ap (λ found. Number width (low_bits (bits width) (number_of values found))) found)
open_reads assignment values table v sort.Memory last found is = tt

pub leaf_reads : (values : Valuation) (whole : Table) (leaf : Atom) (table : Table) (last : ℕ) → is_there (Leaf leaf) table ≡ false
    → Prefix (enter (Leaf leaf) table (atom_bits leaf) last).out whole
    → Reads (read_back values whole) values last (enter (Leaf leaf) table (atom_bits leaf) last).gates
unfolding atom_bits value
leaf_reads values whole (atom.Truth b) table last new prefix = tt
leaf_reads values whole (atom.Constant width n) table last new prefix = tt
leaf_reads values whole (atom.Open v) table last new prefix =
    let term = Leaf (atom.Open v) in
    let made = new_bits term 0 (size_of v.sort) last in
    let found : bits_in whole term ≡ made.out =
    ap (λ t. bits_in t term) (prefix.1 ∙ append_assoc table ((term, made.out) ∷ []) prefix.0) ∙ new_there term table made.out prefix.0 new
    in
    reads_both (read_back values whole) values last made.gates [] (open_reads (read_back values whole) values whole v v.sort last found refl) tt

-- ---- loads

-- the byte of each load of the table is the first one that is found at its address
abbrev pub Found : Valuation → Table → Type 0
Found values whole =
    (before more : Table) (memory address : Term) (byte : Bits) → whole ≡ before ++ (Binary binary.Load memory address, byte) ∷ more
    → first_byte values (number_of values (bits_in whole address)) (loads_from memory whole) ≡ number_of values byte

at_variable : (P : Term → Type 0) (t : Term) → IsVariable t → ((v : Variable) → P (Leaf (atom.Open v))) → P t
at_variable P (Leaf (atom.Open v)) h f = f v
at_variable P (Leaf (atom.Truth b)) h f = absurd h
at_variable P (Leaf (atom.Constant width n)) h f = absurd h
at_variable P (Unary operator x) h f = absurd h
at_variable P (Binary operator x y) h f = absurd h
at_variable P (Ternary operator x y z) h f = absurd h
at_variable P (Quaternary operator a b c d) h f = absurd h
at_variable P (Octonary a b c d e f1 g i) h f = absurd h

entry_from : (before more : Table) (term : Term) (found : Bits) → TableLoadsFromVariables (before ++ (term, found) ∷ more) → IfFromVariable term
entry_from [] more term found all = all.0
entry_from (entry ∷ before) more term found all = entry_from before more term found all.1

byte_value : (values : Valuation) (whole : Table) (v : Variable) (x : Value) (found : Bits) → v.sort ≡ sort.Memory → IsOfSort (sort.Word W32) x → Shows values x found
    → loaded (read_back values whole v) x ≡ Number W8 (low_bits 8 (first_byte values (number_of values found) (loads_from (Leaf (atom.Open v)) whole)))
byte_value values whole v x found e h shows =
    ap (λ s. loaded (value_back values whole v s) x) e
    ∙ at_word (λ u. Shows values u found → loaded (value_back values whole v sort.Memory) u
    ≡ Number W8 (low_bits 8 (first_byte values (number_of values found) (loads_from (Leaf (atom.Open v)) whole)))) W32 x h
    (λ a below here. ap (λ n. Number W8 (low_bits 8 (first_byte values n (loads_from (Leaf (atom.Open v)) whole)))) (mod-eq_of_lt below ∙ sym here.1)) shows

pub load_reads : (values : Valuation) (whole : Table) → TableLoadsFromVariables whole → Found values whole
    → (m x : Term) (table : Table) (last : ℕ) → sort_of m ≡ Some sort.Memory → IsOfSort (sort.Word W32) (value (read_back values whole) x)
    → is_there x table ≡ true → Shows values (value (read_back values whole) x) (bits_in table x)
    → Prefix (enter (Binary binary.Load m x) table (new_bits (Binary binary.Load m x) 0 8) last).out whole
    → Reads (read_back values whole) values last (enter (Binary binary.Load m x) table (new_bits (Binary binary.Load m x) 0 8) last).gates
unfolding value binary_value sort_of sort_of_atom
load_reads values whole from known m x table last of_memory of_word there shows prefix =
    let term = Binary binary.Load m x in
    let made = new_bits term 0 8 last in
    let at : whole ≡ table ++ (term, made.out) ∷ prefix.0 = prefix.1 ∙ append_assoc table ((term, made.out) ∷ []) prefix.0 in
    let variable : IsVariable m = entry_from table prefix.0 term made.out (subst (λ t. TableLoadsFromVariables t) at from) in
    let grown : Prefix table whole = ((term, made.out) ∷ prefix.0, at) in
    let same = prefix_bits x table whole grown there in
    let byte : first_byte values (number_of values (bits_in table x)) (loads_from m whole) ≡ number_of values made.out =
    ap (λ f. first_byte values (number_of values f) (loads_from m whole)) (sym same) ∙ known table prefix.0 m x made.out at
    in
    let is : value (read_back values whole) term ≡ Number W8 (low_bits 8 (first_byte values (number_of values (bits_in table x)) (loads_from m whole))) =
    at_variable (λ t. sort_of t ≡ Some sort.Memory
    → loaded (value (read_back values whole) t) (value (read_back values whole) x)
    ≡ Number W8 (low_bits 8 (first_byte values (number_of values (bits_in table x)) (loads_from t whole)))) m variable
    (λ v e. byte_value values whole v (value (read_back values whole) x) (bits_in table x) (same_Some v.sort sort.Memory e) of_word shows) of_memory
    in
    reads_both (read_back values whole) values last made.gates []
    (word_reads (read_back values whole) values term W8 8 last (is ∙ ap (λ n. Number W8 (low_bits 8 n)) byte)) tt
