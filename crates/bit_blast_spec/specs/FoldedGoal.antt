-- The gates of a goal, folded one after the other; a gate that was made before is found again.
use Rattle.std.specs.Prelude.{ℕ, zero, suc, ◌+◌, ◌-◌, ◌&&◌, Bool, true, false, if◌then◌else◌, List, [], ◌∷◌, ◌++◌, map, Option, Some, None, option_map}
use Rattle.std.specs.List.{list_all}
use Rattle.clause_check_spec.specs.declared.Literal.{Literal}
use Rattle.clause_check_spec.specs.Clause.{Clause, Cnf, same_literal, is_of}
use Rattle.term_core_spec.specs.Term.{Term}
use Rattle.bit_blast_spec.specs.Gates.{Gate, Truth, Bit, And, Xor, Mux, Majority, Claim, next, last_of, clauses_from}
use Rattle.bit_blast_spec.specs.Goal.{goal_gates}
use Rattle.bit_blast_spec.specs.Folding.{Signal, Known, Of, opposite_if, Folded, Stands, Needs, fold_and, fold_xor, fold_mux, fold_majority}

-- what each variable from 1 on stands for, and the gates that are made, in their order
pub record Folding : Type 0 where
  pub stands : List Signal
  pub made : List Gate

-- the entry with an index
unfoldable pub signal_at : List Signal → ℕ → Signal
signal_at [] n = Known false
signal_at (t ∷ rest) zero = t
signal_at (t ∷ rest) (suc n) = signal_at rest n

abbrev pub signal_of : List Signal → Literal → Signal
signal_of stands l = opposite_if l.is_negated (signal_at stands (l.variable - 1))

-- ---- gates found again

-- the same kind, and the same inputs
abbrev pub same_gate : Gate → Gate → Bool
same_gate (And a b) (And p q) = same_literal a p && same_literal b q
same_gate (Xor a b) (Xor p q) = same_literal a p && same_literal b q
same_gate (Mux c a b) (Mux r p q) = same_literal c r && (same_literal a p && same_literal b q)
same_gate (Majority a b c) (Majority p q r) = same_literal a p && (same_literal b q && same_literal c r)
same_gate g h = false

-- the variable of a gate, among gates that are made from a number on
unfoldable pub place_of : Gate → (last : ℕ) → List Gate → Option ℕ
place_of g last [] = None
place_of g last (h ∷ rest) = if same_gate g h then Some (last + 1) else place_of g (next last h) rest

-- ---- a gate more

abbrev pub with_signal : Folding → Signal → Folding
with_signal s t = record { stands = s.stands ++ t ∷ []; made = s.made }

-- a new variable, which is a gate
abbrev pub with_gate : Folding → (is_negated : Bool) → Gate → Folding
with_gate s is_negated g = record {
  stands = s.stands ++ Of (record { variable = last_of 0 s.made + 1; is_negated = is_negated }) ∷ [];
  made = s.made ++ g ∷ [];
}

abbrev pub with_place : Folding → (is_negated : Bool) → Gate → Option ℕ → Folding
with_place s is_negated g (Some k) = with_signal s (Of (record { variable = k; is_negated = is_negated }))
with_place s is_negated g None = with_gate s is_negated g

abbrev pub with_folded : Folding → Folded → Folding
with_folded s (Stands t) = with_signal s t
with_folded s (Needs is_negated g) = with_place s is_negated g (place_of g 0 s.made)

-- of a clause: nothing where a signal is true, else the literals
unfoldable pub clause_of : List Signal → Option Clause
clause_of [] = Some []
clause_of (Known true ∷ rest) = None
clause_of (Known false ∷ rest) = clause_of rest
clause_of (Of l ∷ rest) = option_map (λ clause. l ∷ clause) (clause_of rest)

abbrev pub with_claim : Folding → Option Clause → Folding
with_claim s (Some clause) = record { stands = s.stands; made = s.made ++ Claim clause ∷ [] }
with_claim s None = s

unfoldable pub after_gate : Folding → Gate → Folding
after_gate s Truth = with_signal s (Known true)
after_gate s (Bit term index) = with_gate s false (Bit term index)
after_gate s (And a b) = with_folded s (fold_and (signal_of s.stands a) (signal_of s.stands b))
after_gate s (Xor a b) = with_folded s (fold_xor (signal_of s.stands a) (signal_of s.stands b))
after_gate s (Mux c a b) = with_folded s (fold_mux (signal_of s.stands c) (signal_of s.stands a) (signal_of s.stands b))
after_gate s (Majority a b c) = with_folded s (fold_majority (signal_of s.stands a) (signal_of s.stands b) (signal_of s.stands c))
after_gate s (Claim clause) = with_claim s (clause_of (map (signal_of s.stands) clause))

unfoldable pub after_gates : Folding → List Gate → Folding
after_gates s [] = s
after_gates s (g ∷ gates) = after_gates (after_gate s g) gates

abbrev pub nothing_made : Folding
nothing_made = record { stands = []; made = [] }

-- gates, folded
abbrev pub folded : List Gate → List Gate
folded gates = (after_gates nothing_made gates).made

-- ---- gates over variables that are there

abbrev pub literals_of : Gate → List Literal
literals_of Truth = []
literals_of (Bit term index) = []
literals_of (And a b) = a ∷ b ∷ []
literals_of (Xor a b) = a ∷ b ∷ []
literals_of (Mux c a b) = c ∷ a ∷ b ∷ []
literals_of (Majority a b c) = a ∷ b ∷ c ∷ []
literals_of (Claim clause) = clause

-- each gate is of variables before it
unfoldable pub are_in_order : (last : ℕ) → List Gate → Bool
are_in_order last [] = true
are_in_order last (g ∷ gates) = list_all (is_of last) (literals_of g) && are_in_order (next last g) gates

-- ---- the whole

-- the folded clauses of a goal
abbrev pub folded_cnf_of : Term → Cnf
folded_cnf_of goal = record {
  variables = last_of 0 (folded (goal_gates goal 0).gates);
  clauses = clauses_from 0 (folded (goal_gates goal 0).gates);
}
