-- The clauses of a goal: of its subterms in post-order, of its loads, and that it is false.
use Rattle.std.specs.Prelude.{ℕ, zero, suc, ◌+◌, ◌-◌, ◌*◌, ◌/◌, ◌%◌, ◌==◌, if◌then◌else◌, Bool, true, false, List, [], ◌∷◌, ◌++◌, length, map, take, drop, replicate, filter, Option, Some, None, is_some, option_map}
use Rattle.std.specs.List.{find}
use Rattle.clause_check_spec.specs.declared.Literal.{Literal}
use Rattle.clause_check_spec.specs.Clause.{Clause, Cnf, negation}
use Rattle.term_core_spec.specs.declared.Width.{Width}
use Rattle.term_core_spec.specs.declared.Sort.{Sort}
use Rattle.term_core_spec.specs.declared.Sort.TheVariants as sort
use Rattle.term_core_spec.specs.declared.Variable.{Variable}
use Rattle.term_core_spec.specs.declared.Atom.{Atom}
use Rattle.term_core_spec.specs.declared.Atom.TheVariants as atom
use Rattle.term_core_spec.specs.declared.UnaryOperator.{UnaryOperator}
use Rattle.term_core_spec.specs.declared.UnaryOperator.TheVariants as unary
use Rattle.term_core_spec.specs.declared.WordOperator.{WordOperator}
use Rattle.term_core_spec.specs.declared.WordOperator.TheVariants as word
use Rattle.term_core_spec.specs.declared.BinaryOperator.{BinaryOperator}
use Rattle.term_core_spec.specs.declared.BinaryOperator.TheVariants as binary
use Rattle.term_core_spec.specs.declared.TernaryOperator.{TernaryOperator}
use Rattle.term_core_spec.specs.declared.TernaryOperator.TheVariants as ternary
use Rattle.term_core_spec.specs.declared.QuaternaryOperator.{QuaternaryOperator}
use Rattle.term_core_spec.specs.declared.QuaternaryOperator.TheVariants as quaternary
use Rattle.term_core_spec.specs.Term.{Term, Leaf, Unary, Binary, Ternary, Quaternary, Octonary, divide, remainder}
use Rattle.term_core_spec.specs.Sort.{bits}
use Rattle.term_core_spec.specs.Same.{same_term}
use Rattle.bit_blast_spec.specs.Gates.{Gate, Truth, Build, Made, give, ◌>>=◌, make, claim, last_of, clauses_from}
use Rattle.bit_blast_spec.specs.Circuits.{Bits, one, none, zeros, each_two, and_gate, or_gate, xor_gate, choose_bits, equal_bits, sum_bits, difference_bits, less_bit, product_bits, moved_up, moved_down, shift_bits, shift_signed_bits, sign_of, new_bits, division}

-- ---- the bits of a term, by those of its arguments

abbrev pub single : Literal → Bits
single literal = literal ∷ []

-- the one bit of a truth value
abbrev pub bit_of : Bits → Literal
bit_of [] = none
bit_of (bit ∷ rest) = bit

abbrev pub known : Bool → Literal
known value = if value then one else none

-- so many bits of a number
abbrev pub known_bits : (count : ℕ) → (number : ℕ) → Bits
known_bits zero number = []
known_bits (suc count) number = known (number % 2 == 1) ∷ known_bits count (number / 2)

-- how many bits a variable has; no term of a goal is a memory but what is loaded from
abbrev pub size_of : Sort → ℕ
size_of sort.Truth = 1
size_of (sort.Word width) = bits width
size_of sort.Memory = 0

unfoldable pub atom_bits : Atom → Build Bits
atom_bits (atom.Truth value) = give (single (known value))
atom_bits (atom.Constant width number) = give (known_bits (bits width) number)
atom_bits (atom.Open variable) = new_bits (Leaf (atom.Open variable)) 0 (size_of variable.sort)

unfoldable pub unary_bits : UnaryOperator → Bits → Build Bits
unary_bits unary.Not x = give (map negation x)
unary_bits unary.Complement x = give (map negation x)
unary_bits (unary.ZeroExtend width) x = give (x ++ zeros (bits width - length x))
unary_bits (unary.SignExtend width) x = give (x ++ replicate (bits width - length x) (sign_of x))
unary_bits (unary.Low width) x = give (take (bits width) x)
unary_bits (unary.Byte index) x = give (take 8 (drop (8 * index) x))

unfoldable pub word_bits : WordOperator → Bits → Bits → Build Bits
word_bits word.Add x y = sum_bits x y none
word_bits word.Subtract x y = difference_bits x y
word_bits word.Multiply x y = product_bits x y
word_bits word.And x y = each_two and_gate x y
word_bits word.Or x y = each_two or_gate x y
word_bits word.Xor x y = each_two xor_gate x y
word_bits word.ShiftLeft x y = shift_bits moved_up x y
word_bits word.ShiftRight x y = shift_bits (moved_down none) x y
word_bits word.ShiftRightSigned x y = shift_signed_bits x y
-- see `divided`
word_bits word.Divide x y = give []
word_bits word.Remainder x y = give []

-- of a term that is a load, the new bits are its own
unfoldable pub binary_bits : Term → BinaryOperator → Bits → Bits → Build Bits
binary_bits term binary.And x y = each_two and_gate x y
binary_bits term binary.Or x y = each_two or_gate x y
binary_bits term binary.Equal x y = equal_bits x y >>= λ same. give (single same)
binary_bits term binary.Less x y = less_bit x y >>= λ less. give (single less)
binary_bits term (binary.Word operator) x y = word_bits operator x y
binary_bits term binary.Load x y = new_bits term 0 8
binary_bits term binary.Join x y = give (x ++ y)

unfoldable pub ternary_bits : TernaryOperator → Bits → Bits → Bits → Build Bits
ternary_bits ternary.Choose test x y = choose_bits (bit_of test) x y
ternary_bits ternary.Store m x y = give []

unfoldable pub quaternary_bits : QuaternaryOperator → Bits → Bits → Bits → Bits → Build Bits
quaternary_bits quaternary.Over m z x y = give []
quaternary_bits quaternary.Join a b c d = give (a ++ b ++ c ++ d)

-- ---- distinct subterms in post-order, arguments from left to right

-- the terms so far, each with its bits
abbrev pub Table : Type 0
Table = List (Term × Bits)

abbrev pub entry_of : Term → Table → Option (Term × Bits)
entry_of term table = find (λ entry. same_term term entry.0) table

abbrev pub is_there : Term → Table → Bool
is_there term table = is_some (entry_of term table)

abbrev pub found_bits : Option (Term × Bits) → Bits
found_bits None = []
found_bits (Some entry) = entry.1

abbrev pub bits_in : Table → Term → Bits
bits_in table term = found_bits (entry_of term table)

-- with a term and its bits
abbrev pub enter : Term → Table → Build Bits → Build Table
enter term table build = build >>= λ found. give (table ++ (term, found) ∷ [])

-- the quotient and the remainder of two terms share their bits: with either of them both are there
unfoldable pub divided : Term → Term → Table → Build Table
divided x y table =
    new_bits (divide x y) 0 (length (bits_in table x)) >>= λ q. new_bits (remainder x y) 0 (length (bits_in table x)) >>= λ r.
    division q r (bits_in table x) (bits_in table y) >>= λ unit. give (table ++ (divide x y, q) ∷ (remainder x y, r) ∷ [])

abbrev pub with_binary : BinaryOperator → Term → Term → Table → Build Table
with_binary (binary.Word word.Divide) x y table = divided x y table
with_binary (binary.Word word.Remainder) x y table = divided x y table
with_binary operator x y table = enter (Binary operator x y) table (binary_bits (Binary operator x y) operator (bits_in table x) (bits_in table y))

-- a term that is there already makes nothing
abbrev pub once : Term → Table → Build Table → Build Table
once term table build = if is_there term table then give table else build

unfoldable pub visit : Term → Table → Build Table
visit (Leaf leaf) table = once (Leaf leaf) table (enter (Leaf leaf) table (atom_bits leaf))
visit (Unary operator x) table =
    once (Unary operator x) table
    (visit x table >>= λ t. enter (Unary operator x) t (unary_bits operator (bits_in t x)))
visit (Binary operator x y) table =
    once (Binary operator x y) table
    (visit x table >>= λ t. visit y t >>= λ t. with_binary operator x y t)
visit (Ternary operator x y z) table =
    once (Ternary operator x y z) table
    (visit x table >>= λ t. visit y t >>= λ t. visit z t >>= λ t.
    enter (Ternary operator x y z) t (ternary_bits operator (bits_in t x) (bits_in t y) (bits_in t z)))
visit (Quaternary operator a b c d) table =
    once (Quaternary operator a b c d) table
    (visit a table >>= λ t. visit b t >>= λ t. visit c t >>= λ t. visit d t >>= λ t.
    enter (Quaternary operator a b c d) t (quaternary_bits operator (bits_in t a) (bits_in t b) (bits_in t c) (bits_in t d)))
visit (Octonary a b c d e f g h) table =
    once (Octonary a b c d e f g h) table
    (visit a table >>= λ t. visit b t >>= λ t. visit c t >>= λ t. visit d t >>= λ t.
    visit e t >>= λ t. visit f t >>= λ t. visit g t >>= λ t. visit h t >>= λ t.
    enter (Octonary a b c d e f g h) t
    (give (bits_in t a ++ bits_in t b ++ bits_in t c ++ bits_in t d ++ bits_in t e ++ bits_in t f ++ bits_in t g ++ bits_in t h)))

-- ---- loads of one memory at equal addresses are equal

pub record Load : Type 0 where
  pub memory : Term
  pub address : Bits
  pub byte : Bits

abbrev pub with_load : Table → Term × Bits → List Load → List Load
with_load table (Binary binary.Load memory address, byte) loads = record { memory = memory; address = bits_in table address; byte = byte } ∷ loads
with_load table entry loads = loads

-- of some entries of a table, in their order
abbrev pub loads_of : Table → List (Term × Bits) → List Load
loads_of table [] = []
loads_of table (entry ∷ entries) = with_load table entry (loads_of table entries)

-- where the addresses are equal the bytes are
abbrev pub equal_where : Literal → Bits → Bits → List Clause
equal_where same (x ∷ xs) (y ∷ ys) = (negation same ∷ negation x ∷ y ∷ []) ∷ (negation same ∷ x ∷ negation y ∷ []) ∷ equal_where same xs ys
equal_where same xs ys = []

unfoldable pub tie : Load → List Load → Build (Unit {0})
tie load [] = give tt
tie load (later ∷ loads) =
    equal_bits load.address later.address >>= λ same. claim (equal_where same load.byte later.byte) >>= λ unit. tie load loads

-- the loads of one memory, each with the later ones
unfoldable pub tie_all : List Load → Build (Unit {0})
tie_all [] = give tt
tie_all (load ∷ loads) = tie load loads >>= λ unit. tie_all loads

abbrev pub is_of_memory : Term → Load → Bool
is_of_memory memory load = same_term load.memory memory

-- the memories of loads, in the order of their first loads
abbrev pub with_memory : Load → List Term → List Term
with_memory load memories = load.memory ∷ filter (λ memory. if same_term load.memory memory then false else true) memories

abbrev pub memories_of : List Load → List Term
memories_of [] = []
memories_of (load ∷ loads) = with_memory load (memories_of loads)

unfoldable pub tie_memories : List Term → List Load → Build (Unit {0})
tie_memories [] loads = give tt
tie_memories (memory ∷ memories) loads = tie_all (filter (is_of_memory memory) loads) >>= λ unit. tie_memories memories loads

-- ---- the whole

-- all gates of a goal; the last clause is that it is false
unfoldable pub goal_gates : Term → Build (Unit {0})
goal_gates goal =
    make Truth >>= λ truth. visit goal [] >>= λ table.
    tie_memories (memories_of (loads_of table table)) (loads_of table table) >>= λ unit.
    claim ((negation (bit_of (bits_in table goal)) ∷ []) ∷ [])

-- the clauses of a goal: a truth value in normal form
unfoldable pub cnf_of : Term → Cnf
cnf_of goal = record {
  variables = last_of 0 (goal_gates goal 0).gates;
  clauses = clauses_from 0 (goal_gates goal 0).gates;
}
