-- Gates over numbered variables, the clauses of each (Tseitin's), and how gates are numbered as they are made.
use Rattle.std.specs.Prelude.{ℕ, ◌+◌, Bool, true, false, List, [], ◌∷◌, ◌++◌}
use Rattle.clause_check_spec.specs.declared.Literal.{Literal}
use Rattle.clause_check_spec.specs.Clause.{Clause, negation}
use Rattle.term_core_spec.specs.Term.{Term}

-- what a new variable is equal to
pub data Gate : Type 0 where
  -- truth
  Truth : Gate
  -- a bit, lowest first, of a term that has no gates of its own: a variable, a load, a quotient or a remainder
  Bit : (term : Term) → (index : ℕ) → Gate
  -- both
  And : (a b : Literal) → Gate
  -- one of them alone
  Xor : (a b : Literal) → Gate
  -- a where c holds, else b
  Mux : (c a b : Literal) → Gate
  -- two of the three at least
  Majority : (a b c : Literal) → Gate
  -- no variable, but a clause over those before
  Claim : (clause : Clause) → Gate

-- the clauses that make the literal o of a new variable equal to its gate
abbrev pub gate_clauses : (o : Literal) → Gate → List Clause
gate_clauses o Truth = (o ∷ []) ∷ []
gate_clauses o (Bit term index) = []
gate_clauses o (And a b) =
    (negation o ∷ a ∷ [])
    ∷ (negation o ∷ b ∷ [])
    ∷ (o ∷ negation a ∷ negation b ∷ [])
    ∷ []
gate_clauses o (Xor a b) =
    (negation o ∷ a ∷ b ∷ [])
    ∷ (negation o ∷ negation a ∷ negation b ∷ [])
    ∷ (o ∷ negation a ∷ b ∷ [])
    ∷ (o ∷ a ∷ negation b ∷ [])
    ∷ []
gate_clauses o (Mux c a b) =
    (negation c ∷ negation a ∷ o ∷ [])
    ∷ (negation c ∷ a ∷ negation o ∷ [])
    ∷ (c ∷ negation b ∷ o ∷ [])
    ∷ (c ∷ b ∷ negation o ∷ [])
    ∷ []
gate_clauses o (Majority a b c) =
    (negation a ∷ negation b ∷ o ∷ [])
    ∷ (negation a ∷ negation c ∷ o ∷ [])
    ∷ (negation b ∷ negation c ∷ o ∷ [])
    ∷ (a ∷ b ∷ negation o ∷ [])
    ∷ (a ∷ c ∷ negation o ∷ [])
    ∷ (b ∷ c ∷ negation o ∷ [])
    ∷ []
gate_clauses o (Claim clause) = clause ∷ []

-- the number of the last variable, one gate on
abbrev pub next : (last : ℕ) → Gate → ℕ
next last Truth = last + 1
next last (Bit term index) = last + 1
next last (And a b) = last + 1
next last (Xor a b) = last + 1
next last (Mux c a b) = last + 1
next last (Majority a b c) = last + 1
next last (Claim clause) = last

-- the number of the last variable, some gates on
abbrev pub last_of : (last : ℕ) → List Gate → ℕ
last_of last [] = last
last_of last (gate ∷ gates) = last_of (next last gate) gates

abbrev pub literal_of : ℕ → Literal
literal_of variable = record { variable = variable; is_negated = false }

-- the clauses of gates that are made from a number on
abbrev pub clauses_from : (last : ℕ) → List Gate → List Clause
clauses_from last [] = []
clauses_from last (gate ∷ gates) = gate_clauses (literal_of (last + 1)) gate ++ clauses_from (next last gate) gates

-- ---- gates that are made one after the other

pub record Made (A : Type 0) : Type 0 where
  pub out : A
  pub gates : List Gate

-- from the number of the last variable, something and the gates that were made for it
abbrev pub Build : Type 0 → Type 0
Build A = (last : ℕ) → Made A

-- something for which no gate is made
abbrev pub give : {A : Type 0} → A → Build A
give x = λ last. record { out = x; gates = [] }

abbrev pub following : {A B : Type 0} → ℕ → Made A → (A → Build B) → Made B
following last first more = record {
  out = (more first.out (last_of last first.gates)).out;
  gates = first.gates ++ (more first.out (last_of last first.gates)).gates;
}

-- first these gates, then those that use their outcome
infixl 15 ◌>>=◌
abbrev pub ◌>>=◌ : {A B : Type 0} → Build A → (A → Build B) → Build B
build >>= more = λ last. following last (build last) more

-- the literal of a new variable
abbrev pub make : Gate → Build Literal
make gate = λ last. record { out = literal_of (last + 1); gates = gate ∷ [] }

abbrev pub claims : List Clause → List Gate
claims [] = []
claims (clause ∷ clauses) = Claim clause ∷ claims clauses

-- clauses over the variables so far
abbrev pub claim : List Clause → Build (Unit {0})
claim clauses = λ last. record { out = tt; gates = claims clauses }
