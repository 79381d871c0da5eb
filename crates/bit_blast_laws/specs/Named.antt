-- Gates that name only variables made before them.
use Rattle.std.specs.Prelude.{◌≤◌, ℕ, List, [], ◌∷◌}
use Rattle.clause_check_spec.specs.declared.Literal.{Literal}
use Rattle.clause_check_spec.specs.Clause.{Clause}
use Rattle.bit_blast_spec.specs.Gates.{Gate, Truth, Bit, And, Xor, Mux, Majority, Claim, next, last_of, Made}
use Rattle.bit_blast_spec.specs.Circuits.{Bits}
use Rattle.bit_blast_spec.specs.Goal.{Table}

-- a literal of one of the first variables
pub record IsNamed (last : ℕ) (literal : Literal) : Type 0 where
  pub some : 1 ≤ literal.variable
  pub made : literal.variable ≤ last

abbrev pub AreNamed : (last : ℕ) → Bits → Type 0
AreNamed last [] = Unit {0}
AreNamed last (bit ∷ found) = IsNamed last bit × AreNamed last found

abbrev pub AllNamed : (last : ℕ) → List Clause → Type 0
AllNamed last [] = Unit {0}
AllNamed last (clause ∷ clauses) = AreNamed last clause × AllNamed last clauses

abbrev pub GateNames : (last : ℕ) → Gate → Type 0
GateNames last Truth = Unit {0}
GateNames last (Bit term index) = Unit {0}
GateNames last (And a b) = IsNamed last a × IsNamed last b
GateNames last (Xor a b) = IsNamed last a × IsNamed last b
GateNames last (Mux c a b) = IsNamed last c × IsNamed last a × IsNamed last b
GateNames last (Majority a b c) = IsNamed last a × IsNamed last b × IsNamed last c
GateNames last (Claim clause) = AreNamed last clause

abbrev pub GatesName : (last : ℕ) → List Gate → Type 0
GatesName last [] = Unit {0}
GatesName last (gate ∷ gates) = GateNames last gate × GatesName (next last gate) gates

-- what is made names only variables made before, and its outcome those made then
pub record WellMade (A : Type 0) (Names : (last : ℕ) → A → Type 0) (last : ℕ) (made : Made A) : Type 0 where
  pub gates : GatesName last made.gates
  pub out : Names (last_of last made.gates) made.out
  pub rises : last ≤ last_of last made.gates

-- the bits of each term of a table are named
abbrev pub TableNames : (last : ℕ) → Table → Type 0
TableNames last [] = Unit {0}
TableNames last (entry ∷ table) = AreNamed last entry.1 × TableNames last table
