-- Terms settle with all their clauses.
use Rattle.std.proofs.Common.{◌≡◌, ◌%◌, ◌/◌, ◌^◌, ℕ, Bool, true, false, List, [], ◌∷◌, ◌++◌, length, Option, Some, None, refl, ap, sym, ◌∙◌, arith}
use Rattle.std.specs.Prelude.{◌&&◌, if◌then◌else◌}
use Rattle.std.proofs.lemmas.Bool.{and_parts}
use Rattle.std.proofs.Math.Nat.{mod-eq_of_lt}
use Rattle.clause_check_spec.specs.Clause.{Valuation}
use Rattle.term_core_spec.specs.declared.Width.{Width}
use Rattle.term_core_spec.specs.declared.Width.TheVariants.{W8, W64}
use Rattle.term_core_spec.specs.declared.Sort.{Sort}
use Rattle.term_core_spec.specs.declared.Sort.TheVariants as sort
use Rattle.term_core_spec.specs.declared.WordOperator.{WordOperator}
use Rattle.term_core_spec.specs.declared.WordOperator.TheVariants as word
use Rattle.term_core_spec.specs.declared.BinaryOperator.{BinaryOperator}
use Rattle.term_core_spec.specs.declared.BinaryOperator.TheVariants as binary
use Rattle.term_core_spec.specs.Term.{Term, Leaf, Unary, Binary, Ternary, Quaternary, Octonary, divide, remainder}
use Rattle.term_core_spec.specs.Sort.{bits, same_sort, is_word, is_byte, all_bytes, sort_of, sort_of_unary, sort_of_binary, sort_of_ternary, sort_of_quaternary}
use Rattle.term_core_spec.specs.Value.{Number, Assignment, IsAssignment, operation, on_two_words, value, binary_value}
use Rattle.term_core_spec.proofs.Sorts.{same_sort-true, sort_if-some, with_one-some, with_two-some, with_three-some, with_four-some}
use Rattle.term_core_spec.proofs.Soundness.{value-sort, on_two_words-same}
use Rattle.term_core_spec.proofs.Words.{operation-below}
use Rattle.bit_blast_spec.specs.Gates.{Build, last_of, give, ◌>>=◌}
use Rattle.bit_blast_spec.specs.Circuits.{Bits, new_bits, division}
use Rattle.bit_blast_spec.specs.Goal.{Table, is_there, bits_in, enter, atom_bits, unary_bits, binary_bits, ternary_bits, quaternary_bits, divided, with_binary, visit}
use Rattle.bit_blast_laws.specs.Meaning.{number_of, AllHold}
use Rattle.bit_blast_laws.specs.Shows.{Shows, AllShow}
use Rattle.bit_blast_laws.proofs.Leaves.{new_length}
use Rattle.bit_blast_laws.proofs.Operators.{at_words}
use Rattle.bit_blast_laws.proofs.Tables.{Visited, shown_there}
use Rattle.bit_blast_laws.proofs.Visits.{Takes, all_taken}
use Rattle.bit_blast_laws.proofs.Settled.{AllSettle}
use Rattle.bit_blast_laws.proofs.Every.{every_atom, every_unary, every_binary, every_ternary, every_quaternary, every_new}
use Rattle.bit_blast_laws.proofs.Bare.{IsNoClaim, NoClaims, bare, bare_hold, settled_reads, settled_parts, hold_both}
use Rattle.bit_blast_laws.proofs.Divisions.{settled_number, division_settles}

-- what settles for a term has its values, further clauses included
unfoldable pub Completes : Valuation → Assignment → Term → Type 0
Completes values assignment t =
    (s : Sort) → sort_of t ≡ Some s → (table : Table) (last : ℕ) → AllShow values assignment table → AllSettle assignment values last (visit t table last).gates
    → AllHold values last (visit t table last).gates

-- gates without claims, and an entry
enter_complete : (assignment : Assignment) (values : Valuation) (term : Term) (table : Table) (build : Build Bits) (last : ℕ) → NoClaims (build last).gates
    → AllSettle assignment values last (enter term table build last).gates → AllHold values last (enter term table build last).gates
enter_complete assignment values term table build last bare all =
    let parts = settled_parts assignment values last (build last).gates [] all in
    hold_both values last (build last).gates [] (bare_hold assignment values last (build last).gates bare parts.0) tt

once_complete : (assignment : Assignment) (values : Valuation) (table : Table) (build : Build Table) (last : ℕ) (b : Bool)
    → AllSettle assignment values last ((if b then give table else build) last).gates
    → (AllSettle assignment values last (build last).gates → AllHold values last (build last).gates)
    → AllHold values last ((if b then give table else build) last).gates
once_complete assignment values table build last true all go = tt
once_complete assignment values table build last false all go = go all

-- first a term, and then what uses it
after_complete : (assignment : Assignment) (values : Valuation) → values 1 ≡ true → IsAssignment assignment → (t : Term) → Completes values assignment t
    → (s : Sort) → sort_of t ≡ Some s → (more : Table → Build Table) (table : Table) (last : ℕ) → AllShow values assignment table
    → AllSettle assignment values last ((visit t table >>= more) last).gates
    → ((next : Table) (end : ℕ) → Visited values assignment t table next → AllSettle assignment values end (more next end).gates → AllHold values end (more next end).gates)
    → AllHold values last ((visit t table >>= more) last).gates
unfolding Completes Takes
after_complete assignment values truth h t complete s e more table last shows all go =
    let first = visit t table last in
    let middle = last_of last first.gates in
    let parts = settled_parts assignment values last first.gates (more first.out middle).gates all in
    let own = complete s e table last shows parts.0 in
    let visited = all_taken values assignment truth h t s e table last shows (record { hold = own; read = settled_reads assignment values last first.gates parts.0 }) in
    hold_both values last first.gates (more first.out middle).gates own (go first.out middle visited parts.1)

-- ---- quotients and remainders

quotient_value : (assignment : Assignment) (operator : WordOperator) (x y : Term) (w : Width) (a b : ℕ) → value assignment x ≡ Number w a → value assignment y ≡ Number w b
    → value assignment (Binary (binary.Word operator) x y) ≡ Number w (operation operator (bits w) a b)
unfolding value binary_value
quotient_value assignment operator x y w a b e f =
    ap (λ u. on_two_words (λ w a b. Number w (operation operator (bits w) a b)) u (value assignment y)) e
    ∙ ap (λ u. on_two_words (λ w a b. Number w (operation operator (bits w) a b)) (Number w a) u) f
    ∙ on_two_words-same (λ w a b. Number w (operation operator (bits w) a b)) w a b

divided_complete : (assignment : Assignment) (values : Valuation) → values 1 ≡ true → IsAssignment assignment
    → (x y : Term) (p q : Sort) (table : Table) (last : ℕ) → is_word p ≡ true → same_sort p q ≡ true
    → sort_of x ≡ Some p → sort_of y ≡ Some q → AllShow values assignment table → is_there x table ≡ true → is_there y table ≡ true
    → AllSettle assignment values last (divided x y table last).gates → AllHold values last (divided x y table last).gates
unfolding divided
divided_complete assignment values truth h x y p q table last of_words same sx sy all tx ty settle =
    let xs = bits_in table x in
    let ys = bits_in table y in
    let quotients = new_bits (divide x y) 0 (length xs) last in
    let first = last_of last quotients.gates in
    let rests = new_bits (remainder x y) 0 (length xs) first in
    let second = last_of first rests.gates in
    let gates = division quotients.out rests.out xs ys second in
    let one = settled_parts assignment values last quotients.gates (rests.gates ++ (gates.gates ++ [])) settle in
    let two = settled_parts assignment values first rests.gates (gates.gates ++ []) one.1 in
    let three = settled_parts assignment values second gates.gates [] two.1 in
    let long_q = new_length (divide x y) 0 (length xs) last in
    let long_r = new_length (remainder x y) 0 (length xs) first in
    let own =
    at_words (λ u v. value assignment x ≡ u → value assignment y ≡ v → Shows values u xs → Shows values v ys → AllHold values second gates.gates) p q
    (value assignment x) (value assignment y) of_words same (value-sort assignment h x p sx) (value-sort assignment h y q sy)
    (λ w a b below_a below_b e f show_x show_y.
    let number = λ (operator : WordOperator) (found : Bits) (long : length found ≡ length xs) (is : number_of values found ≡ operation operator (bits w) a b / 2 ^ 0 % 2 ^ length xs).
    let plain : operation operator (bits w) a b / 2 ^ 0 ≡ operation operator (bits w) a b = omega arith in
    let small = operation-below operator (bits w) a b below_a below_b in
    let whole : number_of values found ≡ operation operator (length xs) (number_of values xs) (number_of values ys) =
    is ∙ ap (λ n. n % 2 ^ length xs) plain ∙ ap (λ k. operation operator (bits w) a b % 2 ^ k) show_x.0 ∙ mod-eq_of_lt small
    ∙ ap (λ n. operation operator (bits w) a n) (sym show_y.1) ∙ ap (λ n. operation operator (bits w) n (number_of values ys)) (sym show_x.1)
    ∙ ap (λ n. operation operator n (number_of values xs) (number_of values ys)) (sym show_x.0)
    in whole
    in
    division_settles assignment values quotients.out rests.out xs ys second truth long_q long_r (show_y.0 ∙ sym show_x.0)
    (number word.Divide quotients.out long_q
    (settled_number assignment values (divide x y) w (operation word.Divide (bits w) a b) 0 (length xs) last (quotient_value assignment word.Divide x y w a b e f) one.0))
    (number word.Remainder rests.out long_r
    (settled_number assignment values (remainder x y) w (operation word.Remainder (bits w) a b) 0 (length xs) first (quotient_value assignment word.Remainder x y w a b e f) two.0))
    three.0) refl refl (shown_there values assignment x table all tx) (shown_there values assignment y table all ty)
    in
    hold_both values last quotients.gates (rests.gates ++ (gates.gates ++ [])) (bare_hold assignment values last quotients.gates (every_new IsNoClaim bare (divide x y) 0 (length xs) last (λ at. tt)) one.0)
    (hold_both values first rests.gates (gates.gates ++ []) (bare_hold assignment values first rests.gates (every_new IsNoClaim bare (remainder x y) 0 (length xs) first (λ at. tt)) two.0)
    (hold_both values second gates.gates [] own tt))

binary_complete : (assignment : Assignment) (values : Valuation) → values 1 ≡ true → IsAssignment assignment
    → (operator : BinaryOperator) (x y : Term) (p q s : Sort) (table : Table) (last : ℕ) → sort_of_binary operator p q ≡ Some s
    → sort_of x ≡ Some p → sort_of y ≡ Some q → AllShow values assignment table → is_there x table ≡ true → is_there y table ≡ true
    → AllSettle assignment values last (with_binary operator x y table last).gates → AllHold values last (with_binary operator x y table last).gates
unfolding sort_of_binary
binary_complete assignment values truth h binary.And x y p q s table last e sx sy all tx ty settle =
    enter_complete assignment values (Binary binary.And x y) table (binary_bits (Binary binary.And x y) binary.And (bits_in table x) (bits_in table y)) last
    (every_binary IsNoClaim bare (Binary binary.And x y) binary.And (bits_in table x) (bits_in table y) last (λ at. tt)) settle
binary_complete assignment values truth h binary.Or x y p q s table last e sx sy all tx ty settle =
    enter_complete assignment values (Binary binary.Or x y) table (binary_bits (Binary binary.Or x y) binary.Or (bits_in table x) (bits_in table y)) last
    (every_binary IsNoClaim bare (Binary binary.Or x y) binary.Or (bits_in table x) (bits_in table y) last (λ at. tt)) settle
binary_complete assignment values truth h binary.Equal x y p q s table last e sx sy all tx ty settle =
    enter_complete assignment values (Binary binary.Equal x y) table (binary_bits (Binary binary.Equal x y) binary.Equal (bits_in table x) (bits_in table y)) last
    (every_binary IsNoClaim bare (Binary binary.Equal x y) binary.Equal (bits_in table x) (bits_in table y) last (λ at. tt)) settle
binary_complete assignment values truth h binary.Less x y p q s table last e sx sy all tx ty settle =
    enter_complete assignment values (Binary binary.Less x y) table (binary_bits (Binary binary.Less x y) binary.Less (bits_in table x) (bits_in table y)) last
    (every_binary IsNoClaim bare (Binary binary.Less x y) binary.Less (bits_in table x) (bits_in table y) last (λ at. tt)) settle
binary_complete assignment values truth h binary.Join x y p q s table last e sx sy all tx ty settle =
    enter_complete assignment values (Binary binary.Join x y) table (binary_bits (Binary binary.Join x y) binary.Join (bits_in table x) (bits_in table y)) last
    (every_binary IsNoClaim bare (Binary binary.Join x y) binary.Join (bits_in table x) (bits_in table y) last (λ at. tt)) settle
binary_complete assignment values truth h binary.Load x y p q s table last e sx sy all tx ty settle =
    enter_complete assignment values (Binary binary.Load x y) table (binary_bits (Binary binary.Load x y) binary.Load (bits_in table x) (bits_in table y)) last
    (every_binary IsNoClaim bare (Binary binary.Load x y) binary.Load (bits_in table x) (bits_in table y) last (λ at. tt)) settle
binary_complete assignment values truth h (binary.Word word.Add) x y p q s table last e sx sy all tx ty settle =
    enter_complete assignment values (Binary (binary.Word word.Add) x y) table (binary_bits (Binary (binary.Word word.Add) x y) (binary.Word word.Add) (bits_in table x) (bits_in table y)) last
    (every_binary IsNoClaim bare (Binary (binary.Word word.Add) x y) (binary.Word word.Add) (bits_in table x) (bits_in table y) last (λ at. tt)) settle
binary_complete assignment values truth h (binary.Word word.Subtract) x y p q s table last e sx sy all tx ty settle =
    enter_complete assignment values (Binary (binary.Word word.Subtract) x y) table (binary_bits (Binary (binary.Word word.Subtract) x y) (binary.Word word.Subtract) (bits_in table x) (bits_in table y)) last
    (every_binary IsNoClaim bare (Binary (binary.Word word.Subtract) x y) (binary.Word word.Subtract) (bits_in table x) (bits_in table y) last (λ at. tt)) settle
binary_complete assignment values truth h (binary.Word word.Multiply) x y p q s table last e sx sy all tx ty settle =
    enter_complete assignment values (Binary (binary.Word word.Multiply) x y) table (binary_bits (Binary (binary.Word word.Multiply) x y) (binary.Word word.Multiply) (bits_in table x) (bits_in table y)) last
    (every_binary IsNoClaim bare (Binary (binary.Word word.Multiply) x y) (binary.Word word.Multiply) (bits_in table x) (bits_in table y) last (λ at. tt)) settle
binary_complete assignment values truth h (binary.Word word.And) x y p q s table last e sx sy all tx ty settle =
    enter_complete assignment values (Binary (binary.Word word.And) x y) table (binary_bits (Binary (binary.Word word.And) x y) (binary.Word word.And) (bits_in table x) (bits_in table y)) last
    (every_binary IsNoClaim bare (Binary (binary.Word word.And) x y) (binary.Word word.And) (bits_in table x) (bits_in table y) last (λ at. tt)) settle
binary_complete assignment values truth h (binary.Word word.Or) x y p q s table last e sx sy all tx ty settle =
    enter_complete assignment values (Binary (binary.Word word.Or) x y) table (binary_bits (Binary (binary.Word word.Or) x y) (binary.Word word.Or) (bits_in table x) (bits_in table y)) last
    (every_binary IsNoClaim bare (Binary (binary.Word word.Or) x y) (binary.Word word.Or) (bits_in table x) (bits_in table y) last (λ at. tt)) settle
binary_complete assignment values truth h (binary.Word word.Xor) x y p q s table last e sx sy all tx ty settle =
    enter_complete assignment values (Binary (binary.Word word.Xor) x y) table (binary_bits (Binary (binary.Word word.Xor) x y) (binary.Word word.Xor) (bits_in table x) (bits_in table y)) last
    (every_binary IsNoClaim bare (Binary (binary.Word word.Xor) x y) (binary.Word word.Xor) (bits_in table x) (bits_in table y) last (λ at. tt)) settle
binary_complete assignment values truth h (binary.Word word.ShiftLeft) x y p q s table last e sx sy all tx ty settle =
    enter_complete assignment values (Binary (binary.Word word.ShiftLeft) x y) table (binary_bits (Binary (binary.Word word.ShiftLeft) x y) (binary.Word word.ShiftLeft) (bits_in table x) (bits_in table y)) last
    (every_binary IsNoClaim bare (Binary (binary.Word word.ShiftLeft) x y) (binary.Word word.ShiftLeft) (bits_in table x) (bits_in table y) last (λ at. tt)) settle
binary_complete assignment values truth h (binary.Word word.ShiftRight) x y p q s table last e sx sy all tx ty settle =
    enter_complete assignment values (Binary (binary.Word word.ShiftRight) x y) table (binary_bits (Binary (binary.Word word.ShiftRight) x y) (binary.Word word.ShiftRight) (bits_in table x) (bits_in table y)) last
    (every_binary IsNoClaim bare (Binary (binary.Word word.ShiftRight) x y) (binary.Word word.ShiftRight) (bits_in table x) (bits_in table y) last (λ at. tt)) settle
binary_complete assignment values truth h (binary.Word word.ShiftRightSigned) x y p q s table last e sx sy all tx ty settle =
    enter_complete assignment values (Binary (binary.Word word.ShiftRightSigned) x y) table (binary_bits (Binary (binary.Word word.ShiftRightSigned) x y) (binary.Word word.ShiftRightSigned) (bits_in table x) (bits_in table y)) last
    (every_binary IsNoClaim bare (Binary (binary.Word word.ShiftRightSigned) x y) (binary.Word word.ShiftRightSigned) (bits_in table x) (bits_in table y) last (λ at. tt)) settle
binary_complete assignment values truth h (binary.Word word.Divide) x y p q s table last e sx sy all tx ty settle =
    let tests = and_parts (is_word p) (same_sort p q) (sort_if-some (is_word p && same_sort p q) p s e).0 in
    divided_complete assignment values truth h x y p q table last tests.0 tests.1 sx sy all tx ty settle
binary_complete assignment values truth h (binary.Word word.Remainder) x y p q s table last e sx sy all tx ty settle =
    let tests = and_parts (is_word p) (same_sort p q) (sort_if-some (is_word p && same_sort p q) p s e).0 in
    divided_complete assignment values truth h x y p q table last tests.0 tests.1 sx sy all tx ty settle

byte_parts : (o : Option Sort) (rest : List (Option Sort)) → all_bytes (o ∷ rest) ≡ true → (o ≡ Some (sort.Word W8)) × (all_bytes rest ≡ true)
byte_parts (Some s) rest e = let parts = and_parts (is_byte s) (all_bytes rest) e in (ap Some (same_sort-true s (sort.Word W8) parts.0), parts.1)
byte_parts None rest e = absurd (cc)

pub all_complete : (assignment : Assignment) (values : Valuation) → values 1 ≡ true → IsAssignment assignment → (t : Term) → Completes values assignment t
unfolding Completes visit sort_of
all_complete assignment values truth h (Leaf leaf) s e table last shows all =
    once_complete assignment values table (enter (Leaf leaf) table (atom_bits leaf)) last (is_there (Leaf leaf) table) all
    (λ own. enter_complete assignment values (Leaf leaf) table (atom_bits leaf) last (every_atom IsNoClaim bare leaf last (λ at. tt)) own)
all_complete assignment values truth h (Unary operator x) s e table last shows all =
    let sorts = with_one-some (sort_of_unary operator) (sort_of x) s e in
    once_complete assignment values table (visit x table >>= λ t. enter (Unary operator x) t (unary_bits operator (bits_in t x))) last (is_there (Unary operator x) table) all
    (λ own. after_complete assignment values truth h x (all_complete assignment values truth h x) sorts.0 sorts.1 (λ t. enter (Unary operator x) t (unary_bits operator (bits_in t x))) table last shows own
    (λ n1 e1 v1 a1. enter_complete assignment values (Unary operator x) n1 (unary_bits operator (bits_in n1 x)) e1 (every_unary IsNoClaim bare operator (bits_in n1 x) e1) a1))
all_complete assignment values truth h (Binary operator x y) s e table last shows all =
    let sorts = with_two-some (sort_of_binary operator) (sort_of x) (sort_of y) s e in
    once_complete assignment values table (visit x table >>= λ t. visit y t >>= λ t. with_binary operator x y t) last (is_there (Binary operator x y) table) all
    (λ own. after_complete assignment values truth h x (all_complete assignment values truth h x) sorts.0 sorts.2 (λ t. visit y t >>= λ t. with_binary operator x y t) table last shows own
    (λ n1 e1 v1 a1. after_complete assignment values truth h y (all_complete assignment values truth h y) sorts.1 sorts.3 (λ t. with_binary operator x y t) n1 e1 v1.shows a1
    (λ n2 e2 v2 a2. binary_complete assignment values truth h operator x y sorts.0 sorts.1 s n2 e2 sorts.4 sorts.2 sorts.3 v2.shows (v2.kept x v1.there) v2.there a2)))
all_complete assignment values truth h (Ternary operator x y z) s e table last shows all =
    let sorts = with_three-some (sort_of_ternary operator) (sort_of x) (sort_of y) (sort_of z) s e in
    once_complete assignment values table (visit x table >>= λ t. visit y t >>= λ t. visit z t >>= λ t. enter (Ternary operator x y z) t (ternary_bits operator (bits_in t x) (bits_in t y) (bits_in t z))) last (is_there (Ternary operator x y z) table) all
    (λ own. after_complete assignment values truth h x (all_complete assignment values truth h x) sorts.0 sorts.3 (λ t. visit y t >>= λ t. visit z t >>= λ t. enter (Ternary operator x y z) t (ternary_bits operator (bits_in t x) (bits_in t y) (bits_in t z))) table last shows own
    (λ n1 e1 v1 a1. after_complete assignment values truth h y (all_complete assignment values truth h y) sorts.1 sorts.4 (λ t. visit z t >>= λ t. enter (Ternary operator x y z) t (ternary_bits operator (bits_in t x) (bits_in t y) (bits_in t z))) n1 e1 v1.shows a1
    (λ n2 e2 v2 a2. after_complete assignment values truth h z (all_complete assignment values truth h z) sorts.2 sorts.5 (λ t. enter (Ternary operator x y z) t (ternary_bits operator (bits_in t x) (bits_in t y) (bits_in t z))) n2 e2 v2.shows a2
    (λ n3 e3 v3 a3. enter_complete assignment values (Ternary operator x y z) n3 (ternary_bits operator (bits_in n3 x) (bits_in n3 y) (bits_in n3 z)) e3 (every_ternary IsNoClaim bare operator (bits_in n3 x) (bits_in n3 y) (bits_in n3 z) e3) a3))))
all_complete assignment values truth h (Quaternary operator x y z k) s e table last shows all =
    let sorts = with_four-some (sort_of_quaternary operator) (sort_of x) (sort_of y) (sort_of z) (sort_of k) s e in
    once_complete assignment values table (visit x table >>= λ t. visit y t >>= λ t. visit z t >>= λ t. visit k t >>= λ t. enter (Quaternary operator x y z k) t (quaternary_bits operator (bits_in t x) (bits_in t y) (bits_in t z) (bits_in t k))) last (is_there (Quaternary operator x y z k) table) all
    (λ own. after_complete assignment values truth h x (all_complete assignment values truth h x) sorts.0 sorts.4 (λ t. visit y t >>= λ t. visit z t >>= λ t. visit k t >>= λ t. enter (Quaternary operator x y z k) t (quaternary_bits operator (bits_in t x) (bits_in t y) (bits_in t z) (bits_in t k))) table last shows own
    (λ n1 e1 v1 a1. after_complete assignment values truth h y (all_complete assignment values truth h y) sorts.1 sorts.5 (λ t. visit z t >>= λ t. visit k t >>= λ t. enter (Quaternary operator x y z k) t (quaternary_bits operator (bits_in t x) (bits_in t y) (bits_in t z) (bits_in t k))) n1 e1 v1.shows a1
    (λ n2 e2 v2 a2. after_complete assignment values truth h z (all_complete assignment values truth h z) sorts.2 sorts.6 (λ t. visit k t >>= λ t. enter (Quaternary operator x y z k) t (quaternary_bits operator (bits_in t x) (bits_in t y) (bits_in t z) (bits_in t k))) n2 e2 v2.shows a2
    (λ n3 e3 v3 a3. after_complete assignment values truth h k (all_complete assignment values truth h k) sorts.3 sorts.7 (λ t. enter (Quaternary operator x y z k) t (quaternary_bits operator (bits_in t x) (bits_in t y) (bits_in t z) (bits_in t k))) n3 e3 v3.shows a3
    (λ n4 e4 v4 a4. enter_complete assignment values (Quaternary operator x y z k) n4 (quaternary_bits operator (bits_in n4 x) (bits_in n4 y) (bits_in n4 z) (bits_in n4 k)) e4 (every_quaternary IsNoClaim bare operator (bits_in n4 x) (bits_in n4 y) (bits_in n4 z) (bits_in n4 k) e4) a4)))))
all_complete assignment values truth h (Octonary t1 t2 t3 t4 t5 t6 t7 t8) s e table last shows all =
    let parts = sort_if-some (all_bytes (sort_of t1 ∷ sort_of t2 ∷ sort_of t3 ∷ sort_of t4 ∷ sort_of t5 ∷ sort_of t6 ∷ sort_of t7 ∷ sort_of t8 ∷ [])) (sort.Word W64) s e in
    let of1 = byte_parts (sort_of t1) (sort_of t2 ∷ sort_of t3 ∷ sort_of t4 ∷ sort_of t5 ∷ sort_of t6 ∷ sort_of t7 ∷ sort_of t8 ∷ []) parts.0 in
    let of2 = byte_parts (sort_of t2) (sort_of t3 ∷ sort_of t4 ∷ sort_of t5 ∷ sort_of t6 ∷ sort_of t7 ∷ sort_of t8 ∷ []) of1.1 in
    let of3 = byte_parts (sort_of t3) (sort_of t4 ∷ sort_of t5 ∷ sort_of t6 ∷ sort_of t7 ∷ sort_of t8 ∷ []) of2.1 in
    let of4 = byte_parts (sort_of t4) (sort_of t5 ∷ sort_of t6 ∷ sort_of t7 ∷ sort_of t8 ∷ []) of3.1 in
    let of5 = byte_parts (sort_of t5) (sort_of t6 ∷ sort_of t7 ∷ sort_of t8 ∷ []) of4.1 in
    let of6 = byte_parts (sort_of t6) (sort_of t7 ∷ sort_of t8 ∷ []) of5.1 in
    let of7 = byte_parts (sort_of t7) (sort_of t8 ∷ []) of6.1 in
    let of8 = byte_parts (sort_of t8) ([]) of7.1 in
    once_complete assignment values table (visit t1 table >>= λ t. visit t2 t >>= λ t. visit t3 t >>= λ t. visit t4 t >>= λ t. visit t5 t >>= λ t. visit t6 t >>= λ t. visit t7 t >>= λ t. visit t8 t >>= λ t. enter (Octonary t1 t2 t3 t4 t5 t6 t7 t8) t (give (bits_in t t1 ++ bits_in t t2 ++ bits_in t t3 ++ bits_in t t4 ++ bits_in t t5 ++ bits_in t t6 ++ bits_in t t7 ++ bits_in t t8))) last (is_there (Octonary t1 t2 t3 t4 t5 t6 t7 t8) table) all
    (λ own. after_complete assignment values truth h t1 (all_complete assignment values truth h t1) (sort.Word W8) of1.0 (λ t. visit t2 t >>= λ t. visit t3 t >>= λ t. visit t4 t >>= λ t. visit t5 t >>= λ t. visit t6 t >>= λ t. visit t7 t >>= λ t. visit t8 t >>= λ t. enter (Octonary t1 t2 t3 t4 t5 t6 t7 t8) t (give (bits_in t t1 ++ bits_in t t2 ++ bits_in t t3 ++ bits_in t t4 ++ bits_in t t5 ++ bits_in t t6 ++ bits_in t t7 ++ bits_in t t8))) table last shows own
    (λ n1 e1 v1 a1. after_complete assignment values truth h t2 (all_complete assignment values truth h t2) (sort.Word W8) of2.0 (λ t. visit t3 t >>= λ t. visit t4 t >>= λ t. visit t5 t >>= λ t. visit t6 t >>= λ t. visit t7 t >>= λ t. visit t8 t >>= λ t. enter (Octonary t1 t2 t3 t4 t5 t6 t7 t8) t (give (bits_in t t1 ++ bits_in t t2 ++ bits_in t t3 ++ bits_in t t4 ++ bits_in t t5 ++ bits_in t t6 ++ bits_in t t7 ++ bits_in t t8))) n1 e1 v1.shows a1
    (λ n2 e2 v2 a2. after_complete assignment values truth h t3 (all_complete assignment values truth h t3) (sort.Word W8) of3.0 (λ t. visit t4 t >>= λ t. visit t5 t >>= λ t. visit t6 t >>= λ t. visit t7 t >>= λ t. visit t8 t >>= λ t. enter (Octonary t1 t2 t3 t4 t5 t6 t7 t8) t (give (bits_in t t1 ++ bits_in t t2 ++ bits_in t t3 ++ bits_in t t4 ++ bits_in t t5 ++ bits_in t t6 ++ bits_in t t7 ++ bits_in t t8))) n2 e2 v2.shows a2
    (λ n3 e3 v3 a3. after_complete assignment values truth h t4 (all_complete assignment values truth h t4) (sort.Word W8) of4.0 (λ t. visit t5 t >>= λ t. visit t6 t >>= λ t. visit t7 t >>= λ t. visit t8 t >>= λ t. enter (Octonary t1 t2 t3 t4 t5 t6 t7 t8) t (give (bits_in t t1 ++ bits_in t t2 ++ bits_in t t3 ++ bits_in t t4 ++ bits_in t t5 ++ bits_in t t6 ++ bits_in t t7 ++ bits_in t t8))) n3 e3 v3.shows a3
    (λ n4 e4 v4 a4. after_complete assignment values truth h t5 (all_complete assignment values truth h t5) (sort.Word W8) of5.0 (λ t. visit t6 t >>= λ t. visit t7 t >>= λ t. visit t8 t >>= λ t. enter (Octonary t1 t2 t3 t4 t5 t6 t7 t8) t (give (bits_in t t1 ++ bits_in t t2 ++ bits_in t t3 ++ bits_in t t4 ++ bits_in t t5 ++ bits_in t t6 ++ bits_in t t7 ++ bits_in t t8))) n4 e4 v4.shows a4
    (λ n5 e5 v5 a5. after_complete assignment values truth h t6 (all_complete assignment values truth h t6) (sort.Word W8) of6.0 (λ t. visit t7 t >>= λ t. visit t8 t >>= λ t. enter (Octonary t1 t2 t3 t4 t5 t6 t7 t8) t (give (bits_in t t1 ++ bits_in t t2 ++ bits_in t t3 ++ bits_in t t4 ++ bits_in t t5 ++ bits_in t t6 ++ bits_in t t7 ++ bits_in t t8))) n5 e5 v5.shows a5
    (λ n6 e6 v6 a6. after_complete assignment values truth h t7 (all_complete assignment values truth h t7) (sort.Word W8) of7.0 (λ t. visit t8 t >>= λ t. enter (Octonary t1 t2 t3 t4 t5 t6 t7 t8) t (give (bits_in t t1 ++ bits_in t t2 ++ bits_in t t3 ++ bits_in t t4 ++ bits_in t t5 ++ bits_in t t6 ++ bits_in t t7 ++ bits_in t t8))) n6 e6 v6.shows a6
    (λ n7 e7 v7 a7. after_complete assignment values truth h t8 (all_complete assignment values truth h t8) (sort.Word W8) of8.0 (λ t. enter (Octonary t1 t2 t3 t4 t5 t6 t7 t8) t (give (bits_in t t1 ++ bits_in t t2 ++ bits_in t t3 ++ bits_in t t4 ++ bits_in t t5 ++ bits_in t t6 ++ bits_in t t7 ++ bits_in t t8))) n7 e7 v7.shows a7
    (λ n8 e8 v8 a8. enter_complete assignment values (Octonary t1 t2 t3 t4 t5 t6 t7 t8) n8 (give (bits_in n8 t1 ++ bits_in n8 t2 ++ bits_in n8 t3 ++ bits_in n8 t4 ++ bits_in n8 t5 ++ bits_in n8 t6 ++ bits_in n8 t7 ++ bits_in n8 t8)) e8 tt a8)))))))))
