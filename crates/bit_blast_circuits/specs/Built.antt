-- What a call makes: exactly what a build gives, after the clauses that were there.
use Rattle.std.specs.Prelude.{◌≡◌, ◌++◌, [], List, Vec, Result, IfOk, OnOk}
use Rattle.std.specs.Global.{Global}
use Rattle.clause_check_spec.specs.declared.Literal.{Literal}
use Rattle.clause_check_spec.specs.Clause.{Cnf}
use Rattle.bit_blast_spec.specs.Gates.{Gate, Build, last_of, clauses_from}
use Rattle.bit_blast_spec.specs.Circuits.{Bits}

abbrev pub no_clauses : Cnf
no_clauses = record { variables = 0; clauses = [] }

-- clauses with those of some gates after them
abbrev pub with_gates : Cnf → List Gate → Cnf
with_gates cnf gates = record { variables = last_of cnf.variables gates; clauses = cnf.clauses ++ clauses_from cnf.variables gates }

-- what the build gives from the last variable on, and its gates after the old ones
pub record IsBuilt {A : Type 0} (build : Build A) (old : Cnf) (out : A) (new : Cnf) : Type 0 where
  pub answer : out ≡ (build old.variables).out
  pub grown : new ≡ with_gates old (build old.variables).gates

-- a build that has begun: what the rest gives completes the whole
pub record Continues {A B : Type 0} (whole : Build A) (old now : Cnf) (rest : Build B) (join : B → A) : Type 0 where
  pub ends : (b : B) (end : Cnf) → IsBuilt rest now b end → IsBuilt whole old (join b) end

-- ---- what a call makes, where it is not out of memory

abbrev pub MakesWord : {E : Type 0} → Result (Vec Literal Global) E → (circuit : Build Bits) → (old new : Cnf) → Type 0
MakesWord result circuit old new = IfOk result (λ out. IsBuilt circuit old out.items new)

abbrev pub MakesBit : {E : Type 0} → Result Literal E → (circuit : Build Literal) → (old new : Cnf) → Type 0
MakesBit result circuit old new = IfOk result (λ out. IsBuilt circuit old out new)

abbrev pub MakesClauses : {E : Type 0} → Result (Unit {0}) E → (clauses : Build (Unit {0})) → (old new : Cnf) → Type 0
MakesClauses result clauses old new = OnOk result (IsBuilt clauses old tt new)
