-- The gates of a goal name only variables made before them.
use Rattle.std.proofs.Common.{◌≡◌, ◌≤◌, ◌+◌, ◌-◌, ◌*◌, ℕ, zero, suc, Bool, true, false, List, [], ◌∷◌, ◌++◌, length, map, take, drop, replicate, Option, Some, refl, arith}
use Rattle.std.specs.Prelude.{◌&&◌, nat_le, if◌then◌else◌, filter}
use Rattle.std.specs.List.{list_all}
use Rattle.clause_check_spec.specs.declared.Literal.{Literal}
use Rattle.clause_check_spec.specs.Clause.{Clause, negation, is_of, are_of}
use Rattle.term_core_spec.specs.declared.Atom.{Atom}
use Rattle.term_core_spec.specs.declared.Atom.TheVariants as atom
use Rattle.term_core_spec.specs.declared.UnaryOperator.{UnaryOperator}
use Rattle.term_core_spec.specs.declared.UnaryOperator.TheVariants as unary
use Rattle.term_core_spec.specs.declared.WordOperator.{WordOperator}
use Rattle.term_core_spec.specs.declared.WordOperator.TheVariants as word
use Rattle.term_core_spec.specs.declared.BinaryOperator.{BinaryOperator}
use Rattle.term_core_spec.specs.declared.BinaryOperator.TheVariants as binary
use Rattle.term_core_spec.specs.declared.TernaryOperator.{TernaryOperator}
use Rattle.term_core_spec.specs.declared.TernaryOperator.TheVariants as ternary
use Rattle.term_core_spec.specs.declared.QuaternaryOperator.{QuaternaryOperator}
use Rattle.term_core_spec.specs.declared.QuaternaryOperator.TheVariants as quaternary
use Rattle.term_core_spec.specs.Term.{Term, Leaf, Unary, Binary, Ternary, Quaternary, Octonary, divide, remainder}
use Rattle.term_core_spec.specs.Sort.{bits}
use Rattle.term_core_spec.specs.Same.{same_term}
use Rattle.bit_blast_spec.specs.Gates.{Gate, Truth, Bit, And, Xor, Mux, Majority, Claim, gate_clauses, next, last_of, literal_of, clauses_from, Build, give, ◌>>=◌, make, claims, claim}
use Rattle.bit_blast_spec.specs.Circuits.{Bits, none, zeros, and_gate, or_gate, xor_gate, equal_bits, less_bit, moved_up, moved_down, sign_of, new_bits, division}
use Rattle.bit_blast_spec.specs.Goal.{single, bit_of, known, known_bits, size_of, atom_bits, unary_bits, word_bits, binary_bits, ternary_bits, quaternary_bits, Table, entry_of, is_there, found_bits, bits_in, enter, divided, with_binary, visit, Load, with_load, loads_of, equal_where, tie, tie_all, is_of_memory, memories_of, tie_memories, goal_gates, cnf_of}
use Rattle.bit_blast_laws.specs.Named.{IsNamed, AreNamed, AllNamed, GateNames, GatesName, WellMade, TableNames}
use Rattle.bit_blast_laws.proofs.Made.{last_rises, still_named, still_all, names_negation, names_negations, names-append, names-take, names-drop, names-replicate, names_one, names_none, names_sign, then_made, give_made, TwoMade, and_made, or_made, xor_made, each_two_made}
use Rattle.bit_blast_laws.proofs.CircuitNames.{equal_made, sum_made, less_made, difference_made, choose_made, product_made, shift_made, keeps_up, keeps_down, shift_signed_made, new_made, claim_made, division_made}

-- ---- operators

known_named : (last : ℕ) (b : Bool) → 1 ≤ last → IsNamed last (known b)
known_named last true some = names_one last some
known_named last false some = names_none last some

known_all : (last count n : ℕ) → 1 ≤ last → AreNamed last (known_bits count n)
known_all last zero n some = tt
known_all last (suc count) n some = (known_named last _ some, known_all last count _ some)

atom_made : (leaf : Atom) (last : ℕ) → 1 ≤ last → WellMade Bits AreNamed last (atom_bits leaf last)
unfolding atom_bits
atom_made (atom.Truth b) last some = give_made AreNamed (single (known b)) last (known_named last b some, tt)
atom_made (atom.Constant width n) last some = give_made AreNamed (known_bits (bits width) n) last (known_all last (bits width) n some)
atom_made (atom.Open v) last some = new_made (Leaf (atom.Open v)) 0 (size_of v.sort) last

unary_made : (operator : UnaryOperator) (xs : Bits) (last : ℕ) → 1 ≤ last → AreNamed last xs → WellMade Bits AreNamed last (unary_bits operator xs last)
unfolding unary_bits
unary_made unary.Not xs last some nx = give_made AreNamed (map negation xs) last (names_negations last xs nx)
unary_made unary.Complement xs last some nx = give_made AreNamed (map negation xs) last (names_negations last xs nx)
unary_made (unary.ZeroExtend width) xs last some nx =
    give_made AreNamed (xs ++ zeros (bits width - length xs)) last
    (names-append last xs (zeros (bits width - length xs)) nx (names-replicate last (bits width - length xs) none (names_none last some)))
unary_made (unary.SignExtend width) xs last some nx =
    give_made AreNamed (xs ++ replicate (bits width - length xs) (sign_of xs)) last
    (names-append last xs (replicate (bits width - length xs) (sign_of xs)) nx (names-replicate last (bits width - length xs) (sign_of xs) (names_sign last xs some nx)))
unary_made (unary.Low width) xs last some nx = give_made AreNamed (take (bits width) xs) last (names-take last (bits width) xs nx)
unary_made (unary.Byte index) xs last some nx =
    give_made AreNamed (take 8 (drop (8 * index) xs)) last (names-take last 8 (drop (8 * index) xs) (names-drop last (8 * index) xs nx))

word_made : (operator : WordOperator) (xs ys : Bits) (last : ℕ) → 1 ≤ last → AreNamed last xs → AreNamed last ys → WellMade Bits AreNamed last (word_bits operator xs ys last)
unfolding word_bits TwoMade
word_made word.Add xs ys last some nx ny = sum_made xs ys none last some nx ny (names_none last some)
word_made word.Subtract xs ys last some nx ny = difference_made xs ys last some nx ny
word_made word.Multiply xs ys last some nx ny = product_made xs ys last some nx ny
word_made word.And xs ys last some nx ny = each_two_made and_gate 1 and_made xs ys last some nx ny
word_made word.Or xs ys last some nx ny = each_two_made or_gate 1 or_made xs ys last some nx ny
word_made word.Xor xs ys last some nx ny = each_two_made xor_gate 1 xor_made xs ys last some nx ny
word_made word.ShiftLeft xs ys last some nx ny = shift_made moved_up keeps_up xs ys last some nx ny
word_made word.ShiftRight xs ys last some nx ny = shift_made (moved_down none) (keeps_down none 1 (names_none 1 (omega arith))) xs ys last some nx ny
word_made word.ShiftRightSigned xs ys last some nx ny = shift_signed_made xs ys last some nx ny
word_made word.Divide xs ys last some nx ny = give_made AreNamed [] last tt
word_made word.Remainder xs ys last some nx ny = give_made AreNamed [] last tt

binary_made : (term : Term) (operator : BinaryOperator) (xs ys : Bits) (last : ℕ) → 1 ≤ last → AreNamed last xs → AreNamed last ys
    → WellMade Bits AreNamed last (binary_bits term operator xs ys last)
unfolding binary_bits TwoMade
binary_made term binary.And xs ys last some nx ny = each_two_made and_gate 1 and_made xs ys last some nx ny
binary_made term binary.Or xs ys last some nx ny = each_two_made or_gate 1 or_made xs ys last some nx ny
binary_made term binary.Equal xs ys last some nx ny =
    let own = equal_made xs ys last some nx ny in
    let made = equal_bits xs ys last in
    then_made IsNamed AreNamed (equal_bits xs ys) (λ same. give (single same)) last own
    (give_made AreNamed (single made.out) (last_of last made.gates) (own.out, tt))
binary_made term binary.Less xs ys last some nx ny =
    let own = less_made xs ys last some nx ny in
    let made = less_bit xs ys last in
    then_made IsNamed AreNamed (less_bit xs ys) (λ less. give (single less)) last own
    (give_made AreNamed (single made.out) (last_of last made.gates) (own.out, tt))
binary_made term (binary.Word operator) xs ys last some nx ny = word_made operator xs ys last some nx ny
binary_made term binary.Load xs ys last some nx ny = new_made term 0 8 last
binary_made term binary.Join xs ys last some nx ny = give_made AreNamed (xs ++ ys) last (names-append last xs ys nx ny)

bit_named : (last : ℕ) (found : Bits) → 1 ≤ last → AreNamed last found → IsNamed last (bit_of found)
bit_named last [] some named = names_none last some
bit_named last (bit ∷ found) some named = named.0

ternary_made : (operator : TernaryOperator) (xs ys zs : Bits) (last : ℕ) → 1 ≤ last → AreNamed last xs → AreNamed last ys → AreNamed last zs
    → WellMade Bits AreNamed last (ternary_bits operator xs ys zs last)
unfolding ternary_bits
ternary_made ternary.Choose xs ys zs last some nx ny nz = choose_made (bit_of xs) ys zs last (bit_named last xs some nx) ny nz
ternary_made ternary.Store xs ys zs last some nx ny nz = give_made AreNamed [] last tt

four_named : (last : ℕ) (a b c d : Bits) → AreNamed last a → AreNamed last b → AreNamed last c → AreNamed last d → AreNamed last (a ++ b ++ c ++ d)
four_named last a b c d na nb nc nd = names-append last (a ++ b ++ c) d (names-append last (a ++ b) c (names-append last a b na nb) nc) nd

quaternary_made : (operator : QuaternaryOperator) (a b c d : Bits) (last : ℕ) → AreNamed last a → AreNamed last b → AreNamed last c → AreNamed last d
    → WellMade Bits AreNamed last (quaternary_bits operator a b c d last)
unfolding quaternary_bits
quaternary_made quaternary.Over a b c d last na nb nc nd = give_made AreNamed [] last tt
quaternary_made quaternary.Join a b c d last na nb nc nd = give_made AreNamed (a ++ b ++ c ++ d) last (four_named last a b c d na nb nc nd)

-- ---- tables

still_table : (last more : ℕ) (table : Table) → last ≤ more → TableNames last table → TableNames more table
still_table last more [] h named = tt
still_table last more (entry ∷ table) h named = (still_all last more entry.1 h named.0, still_table last more table h named.1)

table-append : (last : ℕ) (table more : Table) → TableNames last table → TableNames last more → TableNames last (table ++ more)
table-append last [] more h k = k
table-append last (entry ∷ table) more h k = (h.0, table-append last table more h.1 k)

by_found : (last : ℕ) (entry : Term × Bits) (found : Option (Term × Bits)) (b : Bool) → AreNamed last entry.1 → AreNamed last (found_bits found)
    → AreNamed last (found_bits (if b then Some entry else found))
by_found last entry found true h k = h
by_found last entry found false h k = k

pub bits_named : (last : ℕ) (table : Table) (term : Term) → TableNames last table → AreNamed last (bits_in table term)
bits_named last [] term named = tt
bits_named last (entry ∷ table) term named = by_found last entry (entry_of term table) (same_term term entry.0) named.0 (bits_named last table term named.1)

enter_made : (term : Term) (table : Table) (build : Build Bits) (last : ℕ) → TableNames last table → WellMade Bits AreNamed last (build last)
    → WellMade Table TableNames last (enter term table build last)
enter_made term table build last named own =
    let after = last_of last (build last).gates in
    then_made AreNamed TableNames build (λ found. give (table ++ (term, found) ∷ [])) last own
    (give_made TableNames (table ++ (term, (build last).out) ∷ []) after
    (table-append after table ((term, (build last).out) ∷ []) (still_table last after table own.rises named) (own.out, tt)))

divided_made : (x y : Term) (table : Table) (last : ℕ) → 1 ≤ last → TableNames last table → WellMade Table TableNames last (divided x y table last)
unfolding divided
divided_made x y table last some named =
    let xs = bits_in table x in
    let ys = bits_in table y in
    let q = new_bits (divide x y) 0 (length xs) last in
    let l1 = last_of last q.gates in
    let of1 = new_made (divide x y) 0 (length xs) last in
    let h1 = of1.rises in
    let r = new_bits (remainder x y) 0 (length xs) l1 in
    let l2 = last_of l1 r.gates in
    let of2 = new_made (remainder x y) 0 (length xs) l1 in
    let h2 = of2.rises in
    let u2 : last ≤ l2 = omega (arith, h1, h2) in
    let nq = still_all l1 l2 q.out h2 of1.out in
    let of3 =
    division_made q.out r.out xs ys l2 (omega (arith, some, u2)) nq of2.out (still_all last l2 xs u2 (bits_named last table x named))
    (still_all last l2 ys u2 (bits_named last table y named))
    in
    let d = division q.out r.out xs ys l2 in
    let l3 = last_of l2 d.gates in
    let h3 = of3.rises in
    let u3 : last ≤ l3 = omega (arith, u2, h3) in
    let out = table ++ (divide x y, q.out) ∷ (remainder x y, r.out) ∷ [] in
    then_made AreNamed TableNames (new_bits (divide x y) 0 (length xs))
    (λ q. new_bits (remainder x y) 0 (length xs) >>= λ r. division q r xs ys >>= λ unit. give (table ++ (divide x y, q) ∷ (remainder x y, r) ∷ [])) last of1
    (then_made AreNamed TableNames (new_bits (remainder x y) 0 (length xs))
    (λ r. division q.out r xs ys >>= λ unit. give (table ++ (divide x y, q.out) ∷ (remainder x y, r) ∷ [])) l1 of2
    (then_made (λ last unit. Unit {0}) TableNames (division q.out r.out xs ys) (λ unit. give out) l2 of3
    (give_made TableNames out l3
    (table-append l3 table ((divide x y, q.out) ∷ (remainder x y, r.out) ∷ []) (still_table last l3 table u3 named)
    (still_all l2 l3 q.out h3 nq, (still_all l2 l3 r.out h3 of2.out, tt))))))

plain_made : (operator : BinaryOperator) (x y : Term) (table : Table) (last : ℕ) → 1 ≤ last → TableNames last table
    → WellMade Table TableNames last (enter (Binary operator x y) table (binary_bits (Binary operator x y) operator (bits_in table x) (bits_in table y)) last)
plain_made operator x y table last some named =
    enter_made (Binary operator x y) table (binary_bits (Binary operator x y) operator (bits_in table x) (bits_in table y)) last named
    (binary_made (Binary operator x y) operator (bits_in table x) (bits_in table y) last some (bits_named last table x named) (bits_named last table y named))

with_binary_made : (operator : BinaryOperator) (x y : Term) (table : Table) (last : ℕ) → 1 ≤ last → TableNames last table
    → WellMade Table TableNames last (with_binary operator x y table last)
with_binary_made binary.And x y table last some named = plain_made binary.And x y table last some named
with_binary_made binary.Or x y table last some named = plain_made binary.Or x y table last some named
with_binary_made binary.Equal x y table last some named = plain_made binary.Equal x y table last some named
with_binary_made binary.Less x y table last some named = plain_made binary.Less x y table last some named
with_binary_made binary.Load x y table last some named = plain_made binary.Load x y table last some named
with_binary_made binary.Join x y table last some named = plain_made binary.Join x y table last some named
with_binary_made (binary.Word word.Divide) x y table last some named = divided_made x y table last some named
with_binary_made (binary.Word word.Remainder) x y table last some named = divided_made x y table last some named
with_binary_made (binary.Word word.Add) x y table last some named = plain_made (binary.Word word.Add) x y table last some named
with_binary_made (binary.Word word.Subtract) x y table last some named = plain_made (binary.Word word.Subtract) x y table last some named
with_binary_made (binary.Word word.Multiply) x y table last some named = plain_made (binary.Word word.Multiply) x y table last some named
with_binary_made (binary.Word word.And) x y table last some named = plain_made (binary.Word word.And) x y table last some named
with_binary_made (binary.Word word.Or) x y table last some named = plain_made (binary.Word word.Or) x y table last some named
with_binary_made (binary.Word word.Xor) x y table last some named = plain_made (binary.Word word.Xor) x y table last some named
with_binary_made (binary.Word word.ShiftLeft) x y table last some named = plain_made (binary.Word word.ShiftLeft) x y table last some named
with_binary_made (binary.Word word.ShiftRight) x y table last some named = plain_made (binary.Word word.ShiftRight) x y table last some named
with_binary_made (binary.Word word.ShiftRightSigned) x y table last some named = plain_made (binary.Word word.ShiftRightSigned) x y table last some named

once_made : (table : Table) (build : Build Table) (last : ℕ) (b : Bool) → TableNames last table → WellMade Table TableNames last (build last)
    → WellMade Table TableNames last ((if b then give table else build) last)
once_made table build last true named own = give_made TableNames table last named
once_made table build last false named own = own

-- a term that is taken
unfoldable pub TermMade : Term → Type 0
TermMade term = (table : Table) (last : ℕ) → 1 ≤ last → TableNames last table → WellMade Table TableNames last (visit term table last)

-- first a term, and then what uses it
after_term : (term : Term) → TermMade term → (more : Table → Build Table) (table : Table) (last : ℕ) → 1 ≤ last → TableNames last table
    → ((next : Table) (end : ℕ) → 1 ≤ end → TableNames end next → WellMade Table TableNames end (more next end))
    → WellMade Table TableNames last ((visit term table >>= more) last)
unfolding TermMade
after_term term made more table last some named go =
    let own = made table last some named in
    let middle = last_of last (visit term table last).gates in
    let h = own.rises in
    then_made TableNames TableNames (visit term table) more last own (go (visit term table last).out middle (omega (arith, some, h)) own.out)

pub visit_made : (term : Term) → TermMade term
unfolding TermMade visit
visit_made (Leaf leaf) table last some named =
    once_made table (enter (Leaf leaf) table (atom_bits leaf)) last (is_there (Leaf leaf) table) named
    (enter_made (Leaf leaf) table (atom_bits leaf) last named (atom_made leaf last some))
visit_made (Unary operator x) table last some named =
    once_made table (visit x table >>= λ t. enter (Unary operator x) t (unary_bits operator (bits_in t x))) last (is_there (Unary operator x) table) named
    (after_term x (visit_made x) (λ t. enter (Unary operator x) t (unary_bits operator (bits_in t x))) table last some named
    (λ t end some named. enter_made (Unary operator x) t (unary_bits operator (bits_in t x)) end named (unary_made operator (bits_in t x) end some (bits_named end t x named))))
visit_made (Binary operator x y) table last some named =
    once_made table (visit x table >>= λ t. visit y t >>= λ t. with_binary operator x y t) last (is_there (Binary operator x y) table) named
    (after_term x (visit_made x) (λ t. visit y t >>= λ t. with_binary operator x y t) table last some named
    (λ t end some named. after_term y (visit_made y) (λ t. with_binary operator x y t) t end some named
    (λ t end some named. with_binary_made operator x y t end some named)))
visit_made (Ternary operator x y z) table last some named =
    once_made table
    (visit x table >>= λ t. visit y t >>= λ t. visit z t >>= λ t.
    enter (Ternary operator x y z) t (ternary_bits operator (bits_in t x) (bits_in t y) (bits_in t z))) last (is_there (Ternary operator x y z) table) named
    (after_term x (visit_made x) (λ t. visit y t >>= λ t. visit z t >>= λ t. enter (Ternary operator x y z) t (ternary_bits operator (bits_in t x) (bits_in t y) (bits_in t z)))
    table last some named
    (λ t end some named.
    after_term y (visit_made y) (λ t. visit z t >>= λ t. enter (Ternary operator x y z) t (ternary_bits operator (bits_in t x) (bits_in t y) (bits_in t z))) t end some named
    (λ t end some named.
    after_term z (visit_made z) (λ t. enter (Ternary operator x y z) t (ternary_bits operator (bits_in t x) (bits_in t y) (bits_in t z))) t end some named
    (λ t end some named.
    enter_made (Ternary operator x y z) t (ternary_bits operator (bits_in t x) (bits_in t y) (bits_in t z)) end named
    (ternary_made operator (bits_in t x) (bits_in t y) (bits_in t z) end some (bits_named end t x named) (bits_named end t y named) (bits_named end t z named))))))
visit_made (Quaternary operator x y z k) table last some named =
    once_made table (visit x table >>= λ t. visit y t >>= λ t. visit z t >>= λ t. visit k t >>= λ t. enter (Quaternary operator x y z k) t (quaternary_bits operator (bits_in t x) (bits_in t y) (bits_in t z) (bits_in t k))) last (is_there (Quaternary operator x y z k) table) named
    (after_term x (visit_made x) (λ t. visit y t >>= λ t. visit z t >>= λ t. visit k t >>= λ t. enter (Quaternary operator x y z k) t (quaternary_bits operator (bits_in t x) (bits_in t y) (bits_in t z) (bits_in t k))) table last some named
    (λ t end some named. after_term y (visit_made y) (λ t. visit z t >>= λ t. visit k t >>= λ t. enter (Quaternary operator x y z k) t (quaternary_bits operator (bits_in t x) (bits_in t y) (bits_in t z) (bits_in t k))) t end some named
    (λ t end some named. after_term z (visit_made z) (λ t. visit k t >>= λ t. enter (Quaternary operator x y z k) t (quaternary_bits operator (bits_in t x) (bits_in t y) (bits_in t z) (bits_in t k))) t end some named
    (λ t end some named. after_term k (visit_made k) (λ t. enter (Quaternary operator x y z k) t (quaternary_bits operator (bits_in t x) (bits_in t y) (bits_in t z) (bits_in t k))) t end some named
    (λ t end some named. enter_made (Quaternary operator x y z k) t (quaternary_bits operator (bits_in t x) (bits_in t y) (bits_in t z) (bits_in t k)) end named (quaternary_made operator (bits_in t x) (bits_in t y) (bits_in t z) (bits_in t k) end (bits_named end t x named) (bits_named end t y named) (bits_named end t z named) (bits_named end t k named)))))))
visit_made (Octonary t1 t2 t3 t4 t5 t6 t7 t8) table last some named =
    once_made table (visit t1 table >>= λ t. visit t2 t >>= λ t. visit t3 t >>= λ t. visit t4 t >>= λ t. visit t5 t >>= λ t. visit t6 t >>= λ t. visit t7 t >>= λ t. visit t8 t >>= λ t. enter (Octonary t1 t2 t3 t4 t5 t6 t7 t8) t (give (bits_in t t1 ++ bits_in t t2 ++ bits_in t t3 ++ bits_in t t4 ++ bits_in t t5 ++ bits_in t t6 ++ bits_in t t7 ++ bits_in t t8))) last (is_there (Octonary t1 t2 t3 t4 t5 t6 t7 t8) table) named
    (after_term t1 (visit_made t1) (λ t. visit t2 t >>= λ t. visit t3 t >>= λ t. visit t4 t >>= λ t. visit t5 t >>= λ t. visit t6 t >>= λ t. visit t7 t >>= λ t. visit t8 t >>= λ t. enter (Octonary t1 t2 t3 t4 t5 t6 t7 t8) t (give (bits_in t t1 ++ bits_in t t2 ++ bits_in t t3 ++ bits_in t t4 ++ bits_in t t5 ++ bits_in t t6 ++ bits_in t t7 ++ bits_in t t8))) table last some named
    (λ t end some named. after_term t2 (visit_made t2) (λ t. visit t3 t >>= λ t. visit t4 t >>= λ t. visit t5 t >>= λ t. visit t6 t >>= λ t. visit t7 t >>= λ t. visit t8 t >>= λ t. enter (Octonary t1 t2 t3 t4 t5 t6 t7 t8) t (give (bits_in t t1 ++ bits_in t t2 ++ bits_in t t3 ++ bits_in t t4 ++ bits_in t t5 ++ bits_in t t6 ++ bits_in t t7 ++ bits_in t t8))) t end some named
    (λ t end some named. after_term t3 (visit_made t3) (λ t. visit t4 t >>= λ t. visit t5 t >>= λ t. visit t6 t >>= λ t. visit t7 t >>= λ t. visit t8 t >>= λ t. enter (Octonary t1 t2 t3 t4 t5 t6 t7 t8) t (give (bits_in t t1 ++ bits_in t t2 ++ bits_in t t3 ++ bits_in t t4 ++ bits_in t t5 ++ bits_in t t6 ++ bits_in t t7 ++ bits_in t t8))) t end some named
    (λ t end some named. after_term t4 (visit_made t4) (λ t. visit t5 t >>= λ t. visit t6 t >>= λ t. visit t7 t >>= λ t. visit t8 t >>= λ t. enter (Octonary t1 t2 t3 t4 t5 t6 t7 t8) t (give (bits_in t t1 ++ bits_in t t2 ++ bits_in t t3 ++ bits_in t t4 ++ bits_in t t5 ++ bits_in t t6 ++ bits_in t t7 ++ bits_in t t8))) t end some named
    (λ t end some named. after_term t5 (visit_made t5) (λ t. visit t6 t >>= λ t. visit t7 t >>= λ t. visit t8 t >>= λ t. enter (Octonary t1 t2 t3 t4 t5 t6 t7 t8) t (give (bits_in t t1 ++ bits_in t t2 ++ bits_in t t3 ++ bits_in t t4 ++ bits_in t t5 ++ bits_in t t6 ++ bits_in t t7 ++ bits_in t t8))) t end some named
    (λ t end some named. after_term t6 (visit_made t6) (λ t. visit t7 t >>= λ t. visit t8 t >>= λ t. enter (Octonary t1 t2 t3 t4 t5 t6 t7 t8) t (give (bits_in t t1 ++ bits_in t t2 ++ bits_in t t3 ++ bits_in t t4 ++ bits_in t t5 ++ bits_in t t6 ++ bits_in t t7 ++ bits_in t t8))) t end some named
    (λ t end some named. after_term t7 (visit_made t7) (λ t. visit t8 t >>= λ t. enter (Octonary t1 t2 t3 t4 t5 t6 t7 t8) t (give (bits_in t t1 ++ bits_in t t2 ++ bits_in t t3 ++ bits_in t t4 ++ bits_in t t5 ++ bits_in t t6 ++ bits_in t t7 ++ bits_in t t8))) t end some named
    (λ t end some named. after_term t8 (visit_made t8) (λ t. enter (Octonary t1 t2 t3 t4 t5 t6 t7 t8) t (give (bits_in t t1 ++ bits_in t t2 ++ bits_in t t3 ++ bits_in t t4 ++ bits_in t t5 ++ bits_in t t6 ++ bits_in t t7 ++ bits_in t t8))) t end some named
    (λ t end some named. enter_made (Octonary t1 t2 t3 t4 t5 t6 t7 t8) t (give (bits_in t t1 ++ bits_in t t2 ++ bits_in t t3 ++ bits_in t t4 ++ bits_in t t5 ++ bits_in t t6 ++ bits_in t t7 ++ bits_in t t8)) end named (give_made AreNamed (bits_in t t1 ++ bits_in t t2 ++ bits_in t t3 ++ bits_in t t4 ++ bits_in t t5 ++ bits_in t t6 ++ bits_in t t7 ++ bits_in t t8) end (names-append end (bits_in t t1 ++ bits_in t t2 ++ bits_in t t3 ++ bits_in t t4 ++ bits_in t t5 ++ bits_in t t6 ++ bits_in t t7) (bits_in t t8) (names-append end (bits_in t t1 ++ bits_in t t2 ++ bits_in t t3 ++ bits_in t t4 ++ bits_in t t5 ++ bits_in t t6) (bits_in t t7) (names-append end (bits_in t t1 ++ bits_in t t2 ++ bits_in t t3 ++ bits_in t t4 ++ bits_in t t5) (bits_in t t6) (names-append end (bits_in t t1 ++ bits_in t t2 ++ bits_in t t3 ++ bits_in t t4) (bits_in t t5) (names-append end (bits_in t t1 ++ bits_in t t2 ++ bits_in t t3) (bits_in t t4) (names-append end (bits_in t t1 ++ bits_in t t2) (bits_in t t3) (names-append end (bits_in t t1) (bits_in t t2) (bits_named end t t1 named) (bits_named end t t2 named)) (bits_named end t t3 named)) (bits_named end t t4 named)) (bits_named end t t5 named)) (bits_named end t t6 named)) (bits_named end t t7 named)) (bits_named end t t8 named))))))))))))

-- ---- ties

abbrev LoadNames : ℕ → Load → Type 0
LoadNames last load = AreNamed last load.address × AreNamed last load.byte

abbrev LoadsName : ℕ → List Load → Type 0
LoadsName last [] = Unit {0}
LoadsName last (load ∷ loads) = LoadNames last load × LoadsName last loads

still_loads : (last more : ℕ) (loads : List Load) → last ≤ more → LoadsName last loads → LoadsName more loads
still_loads last more [] h named = tt
still_loads last more (load ∷ loads) h named =
    ((still_all last more load.address h named.0.0, still_all last more load.byte h named.0.1), still_loads last more loads h named.1)

with_load_named : (last : ℕ) (table : Table) (term : Term) (byte : Bits) (loads : List Load) → TableNames last table → AreNamed last byte → LoadsName last loads
    → LoadsName last (with_load table (term, byte) loads)
with_load_named last table (Leaf leaf) byte loads h k named = named
with_load_named last table (Unary operator x) byte loads h k named = named
with_load_named last table (Binary binary.Load memory address) byte loads h k named = ((bits_named last table address h, k), named)
with_load_named last table (Binary binary.And x y) byte loads h k named = named
with_load_named last table (Binary binary.Or x y) byte loads h k named = named
with_load_named last table (Binary binary.Equal x y) byte loads h k named = named
with_load_named last table (Binary binary.Less x y) byte loads h k named = named
with_load_named last table (Binary (binary.Word operator) x y) byte loads h k named = named
with_load_named last table (Binary binary.Join x y) byte loads h k named = named
with_load_named last table (Ternary operator x y z) byte loads h k named = named
with_load_named last table (Quaternary operator a b c d) byte loads h k named = named
with_load_named last table (Octonary a b c d e f g i) byte loads h k named = named

loads_named : (last : ℕ) (table entries : Table) → TableNames last table → TableNames last entries → LoadsName last (loads_of table entries)
loads_named last table [] h k = tt
loads_named last table (entry ∷ entries) h k = with_load_named last table entry.0 entry.1 (loads_of table entries) h k.0 (loads_named last table entries h k.1)

if_named : (last : ℕ) (b : Bool) (load : Load) (loads : List Load) → LoadNames last load → LoadsName last loads → LoadsName last (if b then load ∷ loads else loads)
if_named last true load loads h k = (h, k)
if_named last false load loads h k = k

filter_named : (last : ℕ) (test : Load → Bool) (loads : List Load) → LoadsName last loads → LoadsName last (filter test loads)
filter_named last test [] named = tt
filter_named last test (load ∷ loads) named = if_named last (test load) load (filter test loads) named.0 (filter_named last test loads named.1)

where_named : (last : ℕ) (same : Literal) (xs ys : Bits) → IsNamed last same → AreNamed last xs → AreNamed last ys → AllNamed last (equal_where same xs ys)
where_named last same [] ys ns nx ny = tt
where_named last same (x ∷ xs) [] ns nx ny = tt
where_named last same (x ∷ xs) (y ∷ ys) ns nx ny =
    let n = names_negation last same ns in
    ((n, (names_negation last x nx.0, (ny.0, tt))), ((n, (nx.0, (names_negation last y ny.0, tt))), where_named last same xs ys ns nx.1 ny.1))

abbrev Free : ℕ → Unit {0} → Type 0
Free last unit = Unit {0}

tie_made : (load : Load) (loads : List Load) (last : ℕ) → 1 ≤ last → LoadNames last load → LoadsName last loads → WellMade (Unit {0}) Free last (tie load loads last)
unfolding tie
tie_made load [] last some nl named = give_made Free tt last tt
tie_made load (later ∷ loads) last some nl named =
    let same = equal_bits load.address later.address last in
    let of1 = equal_made load.address later.address last some nl.0 named.0.0 in
    let l1 = last_of last same.gates in
    let h1 = of1.rises in
    let rules = equal_where same.out load.byte later.byte in
    let of2 = claim_made rules l1 (where_named l1 same.out load.byte later.byte of1.out (still_all last l1 load.byte h1 nl.1) (still_all last l1 later.byte h1 named.0.1)) in
    let l2 = last_of l1 (claims rules) in
    let h2 = of2.rises in
    let up : last ≤ l2 = omega (arith, h1, h2) in
    then_made IsNamed Free (equal_bits load.address later.address)
    (λ same. claim (equal_where same load.byte later.byte) >>= λ unit. tie load loads) last of1
    (then_made Free Free (claim rules) (λ unit. tie load loads) l1 of2
    (tie_made load loads l2 (omega (arith, some, up)) (still_all last l2 load.address up nl.0, still_all last l2 load.byte up nl.1) (still_loads last l2 loads up named.1)))

ties_made : (loads : List Load) (last : ℕ) → 1 ≤ last → LoadsName last loads → WellMade (Unit {0}) Free last (tie_all loads last)
unfolding tie_all
ties_made [] last some named = give_made Free tt last tt
ties_made (load ∷ loads) last some named =
    let own = tie_made load loads last some named.0 named.1 in
    let middle = last_of last (tie load loads last).gates in
    let h = own.rises in
    then_made Free Free (tie load loads) (λ unit. tie_all loads) last own (ties_made loads middle (omega (arith, some, h)) (still_loads last middle loads h named.1))

memories_made : (memories : List Term) (loads : List Load) (last : ℕ) → 1 ≤ last → LoadsName last loads → WellMade (Unit {0}) Free last (tie_memories memories loads last)
unfolding tie_memories
memories_made [] loads last some named = give_made Free tt last tt
memories_made (memory ∷ memories) loads last some named =
    let own = ties_made (filter (is_of_memory memory) loads) last some (filter_named last (is_of_memory memory) loads named) in
    let middle = last_of last (tie_all (filter (is_of_memory memory) loads) last).gates in
    let h = own.rises in
    then_made Free Free (tie_all (filter (is_of_memory memory) loads)) (λ unit. tie_memories memories loads) last own
    (memories_made memories loads middle (omega (arith, some, h)) (still_loads last middle loads h named))

-- ---- the whole

pub goal_made : (goal : Term) → WellMade (Unit {0}) Free 0 (goal_gates goal 0)
unfolding goal_gates TermMade
goal_made goal =
    let table = visit goal [] 1 in
    let of1 = visit_made goal [] 1 (omega arith) tt in
    let l1 = last_of 1 table.gates in
    let h1 = of1.rises in
    let some : 1 ≤ l1 = h1 in
    let loads = loads_of table.out table.out in
    let ties = tie_memories (memories_of loads) loads l1 in
    let of2 = memories_made (memories_of loads) loads l1 some (loads_named l1 table.out table.out of1.out of1.out) in
    let l2 = last_of l1 ties.gates in
    let h2 = of2.rises in
    let found = bits_in table.out goal in
    let named = still_all l1 l2 found h2 (bits_named l1 table.out goal of1.out) in
    let last = (negation (bit_of found) ∷ []) ∷ [] in
    let of3 = claim_made last l2 ((names_negation l2 (bit_of found) (bit_named l2 found (omega (arith, some, h2)) named), tt), tt) in
    then_made IsNamed Free (make Truth)
    (λ truth. visit goal [] >>= λ table. tie_memories (memories_of (loads_of table table)) (loads_of table table) >>= λ unit.
    claim ((negation (bit_of (bits_in table goal)) ∷ []) ∷ [])) 0
    (record { gates = (tt, tt); out = record { some = omega arith; made = omega arith }; rises = omega arith })
    (then_made TableNames Free (visit goal [])
    (λ table. tie_memories (memories_of (loads_of table table)) (loads_of table table) >>= λ unit. claim ((negation (bit_of (bits_in table goal)) ∷ []) ∷ [])) 1 of1
    (then_made Free Free (tie_memories (memories_of loads) loads) (λ unit. claim last) l1 of2 of3))

-- ---- as a test

is_named : (last : ℕ) (l : Literal) → IsNamed last l → is_of last l ≡ true
is_named last l named = both (nat_le 1 l.variable) (nat_le l.variable last) (le_test 1 l.variable named.some) (le_test l.variable last named.made)
  where
    le_test : (a b : ℕ) → a ≤ b → nat_le a b ≡ true
    le_test a b h = grind arith

    both : (a b : Bool) → a ≡ true → b ≡ true → (a && b) ≡ true
    both true b e f = f
    both false b e f = cc

and_true : (a b : Bool) → a ≡ true → b ≡ true → (a && b) ≡ true
and_true true b e f = f
and_true false b e f = cc

clause_named : (last : ℕ) (clause : Clause) → AreNamed last clause → list_all (is_of last) clause ≡ true
clause_named last [] named = refl
clause_named last (l ∷ clause) named = and_true (is_of last l) (list_all (is_of last) clause) (is_named last l named.0) (clause_named last clause named.1)

clauses_named : (last : ℕ) (clauses : List Clause) → AllNamed last clauses → are_of last clauses ≡ true
clauses_named last [] named = refl
clauses_named last (clause ∷ clauses) named =
    and_true (list_all (is_of last) clause) (are_of last clauses) (clause_named last clause named.0) (clauses_named last clauses named.1)

-- the clauses of one gate, whose variable is the next
gate_named : (last whole : ℕ) (gate : Gate) → next last gate ≤ whole → GateNames last gate → AllNamed whole (gate_clauses (literal_of (last + 1)) gate)
gate_named last whole Truth h named = ((record { some = omega arith; made = h }, tt), tt)
gate_named last whole (Bit term index) h named = tt
gate_named last whole (And a b) h named =
    let o : IsNamed whole (literal_of (last + 1)) = record { some = omega arith; made = h } in
    let up : last ≤ whole = omega (arith, h) in
    let a1 = still_named last whole a up named.0 in
    let b1 = still_named last whole b up named.1 in
    let n = names_negation whole (literal_of (last + 1)) o in
    ((n, (a1, tt)), ((n, (b1, tt)), ((o, (names_negation whole a a1, (names_negation whole b b1, tt))), tt)))
gate_named last whole (Xor a b) h named =
    let o : IsNamed whole (literal_of (last + 1)) = record { some = omega arith; made = h } in
    let up : last ≤ whole = omega (arith, h) in
    let a1 = still_named last whole a up named.0 in
    let b1 = still_named last whole b up named.1 in
    let n = names_negation whole (literal_of (last + 1)) o in
    let na = names_negation whole a a1 in
    let nb = names_negation whole b b1 in
    ((n, (a1, (b1, tt))), ((n, (na, (nb, tt))), ((o, (na, (b1, tt))), ((o, (a1, (nb, tt))), tt))))
gate_named last whole (Mux c a b) h named =
    let o : IsNamed whole (literal_of (last + 1)) = record { some = omega arith; made = h } in
    let up : last ≤ whole = omega (arith, h) in
    let c1 = still_named last whole c up named.0 in
    let a1 = still_named last whole a up named.1 in
    let b1 = still_named last whole b up named.2 in
    let n = names_negation whole (literal_of (last + 1)) o in
    let nc = names_negation whole c c1 in
    let na = names_negation whole a a1 in
    let nb = names_negation whole b b1 in
    ((nc, (na, (o, tt))), ((nc, (a1, (n, tt))), ((c1, (nb, (o, tt))), ((c1, (b1, (n, tt))), tt))))
gate_named last whole (Majority a b c) h named =
    let o : IsNamed whole (literal_of (last + 1)) = record { some = omega arith; made = h } in
    let up : last ≤ whole = omega (arith, h) in
    let a1 = still_named last whole a up named.0 in
    let b1 = still_named last whole b up named.1 in
    let c1 = still_named last whole c up named.2 in
    let n = names_negation whole (literal_of (last + 1)) o in
    let na = names_negation whole a a1 in
    let nb = names_negation whole b b1 in
    let nc = names_negation whole c c1 in
    ((na, (nb, (o, tt))), ((na, (nc, (o, tt))), ((nb, (nc, (o, tt))), ((a1, (b1, (n, tt))), ((a1, (c1, (n, tt))), ((b1, (c1, (n, tt))), tt))))))
gate_named last whole (Claim clause) h named = (still_all last whole clause h named, tt)

all-append : (last : ℕ) (clauses more : List Clause) → AllNamed last clauses → AllNamed last more → AllNamed last (clauses ++ more)
all-append last [] more h k = k
all-append last (clause ∷ clauses) more h k = (h.0, all-append last clauses more h.1 k)

gates_named : (last whole : ℕ) (gates : List Gate) → last_of last gates ≤ whole → GatesName last gates → AllNamed whole (clauses_from last gates)
gates_named last whole [] h named = tt
gates_named last whole (gate ∷ gates) h named =
    let rises = last_rises (next last gate) gates in
    all-append whole (gate_clauses (literal_of (last + 1)) gate) (clauses_from (next last gate) gates)
    (gate_named last whole gate (omega (arith, h, rises)) named.0) (gates_named (next last gate) whole gates h named.1)

pub goal_named : (goal : Term) → are_of (cnf_of goal).variables (cnf_of goal).clauses ≡ true
unfolding cnf_of
goal_named goal =
    clauses_named (last_of 0 (goal_gates goal 0).gates) (clauses_from 0 (goal_gates goal 0).gates)
    (gates_named 0 (last_of 0 (goal_gates goal 0).gates) (goal_gates goal 0).gates (omega arith) (goal_made goal).gates)
