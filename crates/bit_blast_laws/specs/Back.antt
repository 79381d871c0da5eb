-- The assignment that is reconstructed from a model of a goal's clauses.
use Rattle.std.specs.Prelude.{ℕ, ◌==◌, if◌then◌else◌, List, [], ◌∷◌, filter}
use Rattle.clause_check_spec.specs.Clause.{Valuation, holds}
use Rattle.term_core_spec.specs.declared.Sort.{Sort}
use Rattle.term_core_spec.specs.declared.Sort.TheVariants as sort
use Rattle.term_core_spec.specs.declared.Variable.{Variable}
use Rattle.term_core_spec.specs.declared.Atom.TheVariants as atom
use Rattle.term_core_spec.specs.Term.{Term, Leaf, Binary}
use Rattle.term_core_spec.specs.Sort.{bits}
use Rattle.term_core_spec.specs.Value.{Value, Truth, Number, Bytes, Assignment, low_bits}
use Rattle.mem_terms_spec.specs.Assignments.{IfOfVariable}
use Rattle.bit_blast_spec.specs.Goal.{Table, Load, bits_in, bit_of, loads_of, is_of_memory}
use Rattle.bit_blast_laws.specs.Meaning.{number_of}

-- the byte of the first of these loads whose address has this number; 0 where there is none
abbrev pub first_byte : Valuation → (address : ℕ) → List Load → ℕ
first_byte values address [] = 0
first_byte values address (load ∷ loads) = if number_of values load.address == address then number_of values load.byte else first_byte values address loads

abbrev pub loads_from : Term → Table → List Load
loads_from memory table = filter (is_of_memory memory) (loads_of table table)

-- the value of a variable by its bits in a table of terms, of a memory by the bytes that are loaded from it
abbrev pub value_back : Valuation → Table → Variable → Sort → Value
value_back values table v sort.Truth = Truth (holds values (bit_of (bits_in table (Leaf (atom.Open v)))))
value_back values table v (sort.Word width) = Number width (low_bits (bits width) (number_of values (bits_in table (Leaf (atom.Open v)))))
value_back values table v sort.Memory = Bytes (λ address. low_bits 8 (first_byte values address (loads_from (Leaf (atom.Open v)) table)))

abbrev pub read_back : Valuation → Table → Assignment
read_back values table = λ v. value_back values table v v.sort

-- a load is from a variable
abbrev pub IfFromVariable : Term → Type 0
IfFromVariable (Binary operator a b) = IfOfVariable operator a
IfFromVariable term = Unit {0}

-- each load among some entries of a table is from a variable: no memory that is stored to or chosen
abbrev pub TableLoadsFromVariables : Table → Type 0
TableLoadsFromVariables [] = Unit {0}
TableLoadsFromVariables (entry ∷ table) = IfFromVariable entry.0 × TableLoadsFromVariables table
