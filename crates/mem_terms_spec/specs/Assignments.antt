-- From assignments of a term to those of its flat term, and back; and what is said of terms.
use Rattle.std.specs.Prelude.{◌≡◌, ◌≢◌, ℕ, ◌==◌, ◌&&◌, if◌then◌else◌, true, List, [], ◌∷◌, map, filter, get_or}
use Rattle.term_core_spec.specs.declared.Sort.TheVariants as sort
use Rattle.term_core_spec.specs.declared.Family.TheVariants as family
use Rattle.term_core_spec.specs.declared.Variable.{Variable}
use Rattle.term_core_spec.specs.declared.Atom.{Atom}
use Rattle.term_core_spec.specs.declared.Atom.TheVariants as atom
use Rattle.term_core_spec.specs.declared.BinaryOperator.{BinaryOperator}
use Rattle.term_core_spec.specs.declared.BinaryOperator.TheVariants as binary
use Rattle.term_core_spec.specs.Term.{Term, Leaf, Unary, Binary, Ternary, Quaternary, Octonary, open_term, load, Occurs}
use Rattle.term_core_spec.specs.Sort.{is_memory}
use Rattle.term_core_spec.specs.Same.{same_variable}
use Rattle.term_core_spec.specs.Value.{Value, Truth, Number, Bytes, Assignment, IsAssignment, value, low_bits}
use Rattle.mem_terms_spec.specs.Flat.{VariableLoad, FlatLoad, byte_variable, is_from, is_among, memories_of}

-- ---- to the flat term

abbrev pub term_of : VariableLoad → Term
term_of l = load (open_term l.memory) l.address

abbrev pub value_of_load : Assignment → VariableLoad → Value
value_of_load assignment l = value assignment (term_of l)

-- each byte is what its load gives, and all else is kept
unfoldable pub with_bytes : List VariableLoad → Assignment → Assignment
with_bytes loads assignment =
    λ v. if same_variable v (byte_variable v.index) then get_or (map (value_of_load assignment) loads) v.index (assignment v) else assignment v

-- ---- and back

-- the number of a word
abbrev pub number_of : Value → ℕ
number_of (Number width number) = number
number_of (Truth truth) = 0
number_of (Bytes bytes) = 0

-- the byte of the first of these loads at an address, 0 where there is none
abbrev pub first_byte : Assignment → (address : ℕ) → List FlatLoad → ℕ
first_byte assignment address [] = 0
first_byte assignment address (l ∷ loads) =
    if low_bits 32 (number_of (value assignment l.address)) == address
    then low_bits 8 (number_of (value assignment l.byte)) else first_byte assignment address loads

-- the memory that gives its loads their bytes
abbrev pub memory_back : Assignment → List FlatLoad → Variable → Value
memory_back assignment loads v = Bytes (λ address. first_byte assignment address (filter (is_from v) loads))

-- each memory that is loaded from gives its loads their bytes, and all else is kept
unfoldable pub rebuilt : List FlatLoad → Assignment → Assignment
rebuilt loads assignment = λ v. if is_memory v.sort && is_among v (memories_of loads) then memory_back assignment loads v else assignment v

-- ---- of terms

abbrev pub IsVariable : Term → Type 0
IsVariable (Leaf (atom.Open v)) = Unit {0}
IsVariable t = ⊥

abbrev pub IfOfVariable : BinaryOperator → Term → Type 0
IfOfVariable binary.Load memory = IsVariable memory
IfOfVariable operator x = Unit {0}

-- each load in the term, at any place, is of a variable: of no memory that is stored to, laid over or chosen
unfoldable pub LoadsFromVariables : Term → Type 0
LoadsFromVariables (Leaf leaf) = Unit {0}
LoadsFromVariables (Unary operator a) = LoadsFromVariables a
LoadsFromVariables (Binary operator a b) = IfOfVariable operator a × LoadsFromVariables a × LoadsFromVariables b
LoadsFromVariables (Ternary operator a b c) = LoadsFromVariables a × LoadsFromVariables b × LoadsFromVariables c
LoadsFromVariables (Quaternary operator a b c d) = LoadsFromVariables a × LoadsFromVariables b × LoadsFromVariables c × LoadsFromVariables d
LoadsFromVariables (Octonary a b c d e f g h) =
    LoadsFromVariables a × LoadsFromVariables b × LoadsFromVariables c × LoadsFromVariables d
    × LoadsFromVariables e × LoadsFromVariables f × LoadsFromVariables g × LoadsFromVariables h

abbrev pub IsNoMemory : Atom → Type 0
IsNoMemory (atom.Open v) = v.sort ≢ sort.Memory
IsNoMemory (atom.Truth value) = Unit {0}
IsNoMemory (atom.Constant width number) = Unit {0}

-- neither a load nor a memory variable occurs in the term
unfoldable pub IsWithoutMemory : Term → Type 0
IsWithoutMemory (Leaf leaf) = IsNoMemory leaf
IsWithoutMemory (Unary operator a) = IsWithoutMemory a
IsWithoutMemory (Binary operator a b) = (operator ≢ binary.Load) × IsWithoutMemory a × IsWithoutMemory b
IsWithoutMemory (Ternary operator a b c) = IsWithoutMemory a × IsWithoutMemory b × IsWithoutMemory c
IsWithoutMemory (Quaternary operator a b c d) = IsWithoutMemory a × IsWithoutMemory b × IsWithoutMemory c × IsWithoutMemory d
IsWithoutMemory (Octonary a b c d e f g h) =
    IsWithoutMemory a × IsWithoutMemory b × IsWithoutMemory c × IsWithoutMemory d
    × IsWithoutMemory e × IsWithoutMemory f × IsWithoutMemory g × IsWithoutMemory h

-- no byte of a load occurs in the term yet
abbrev pub HasNoBytes : Term → Type 0
HasNoBytes t = (v : Variable) → Occurs v t → v.family ≢ family.LoadedByte

-- true under every assignment
abbrev pub IsAlwaysTrue : Term → Type 0
IsAlwaysTrue t = (assignment : Assignment) → IsAssignment assignment → value assignment t ≡ Truth true
