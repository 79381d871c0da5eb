-- Gates that are folded, worked by hand.
use Rattle.std.specs.Prelude.{ℕ, true, false, List, [], ◌∷◌, ◌++◌}
use Rattle.clause_check_spec.specs.declared.Literal.{Literal}
use Rattle.term_core_spec.specs.Term.{truth}
use Rattle.bit_blast_spec.specs.Gates.{Gate, Truth, Bit, And, Xor, Mux, Majority, Claim}

abbrev pub is : ℕ → Literal
is variable = record { variable = variable; is_negated = false }

abbrev pub isnt : ℕ → Literal
isnt variable = record { variable = variable; is_negated = true }

-- two bits of some term
abbrev pub bits : List Gate
bits = Bit (truth true) 0 ∷ Bit (truth true) 1 ∷ []

-- truth is variable 1, the bits are 2 and 3, and the first gate is 4
abbrev pub over_bits : List Gate → List Gate
over_bits gates = Truth ∷ bits ++ gates

-- a gate twice, its inputs exchanged: both are one, and one of both alone is false
abbrev pub twice : List Gate
twice = over_bits (And (is 2) (is 3) ∷ And (is 3) (is 2) ∷ Xor (is 4) (isnt 5) ∷ Claim (isnt 6 ∷ []) ∷ [])

-- the claim is the empty clause
abbrev pub once : List Gate
once = bits ++ And (is 1) (is 2) ∷ Claim [] ∷ []

-- near misses: another kind, and another sign
abbrev pub unlike : List Gate
unlike = over_bits (And (is 2) (is 3) ∷ Xor (is 2) (is 3) ∷ And (is 2) (isnt 3) ∷ Claim (is 4 ∷ is 5 ∷ is 6 ∷ []) ∷ [])

abbrev pub unlike_folded : List Gate
unlike_folded = bits ++ And (is 1) (is 2) ∷ Xor (is 1) (is 2) ∷ And (is 1) (isnt 2) ∷ Claim (is 3 ∷ is 4 ∷ is 5 ∷ []) ∷ []

-- signs of a xor are moved out, and a choice of opposite arms is one; a claim that is true is left out
abbrev pub signs : List Gate
signs = over_bits (Xor (isnt 2) (is 3) ∷ Mux (is 2) (is 3) (isnt 3) ∷ Claim (is 4 ∷ isnt 5 ∷ []) ∷ Claim (is 1 ∷ is 4 ∷ []) ∷ [])

abbrev pub signs_folded : List Gate
signs_folded = bits ++ Xor (is 1) (is 2) ∷ Claim (isnt 3 ∷ is 3 ∷ []) ∷ []

-- two of three of which one is true: either of the others; and of opposite ones the third
abbrev pub carries : List Gate
carries = over_bits (Majority (is 3) (is 1) (is 2) ∷ Majority (is 2) (is 3) (isnt 2) ∷ Claim (is 4 ∷ is 5 ∷ []) ∷ [])

abbrev pub carries_folded : List Gate
carries_folded = bits ++ And (isnt 1) (isnt 2) ∷ Claim (isnt 3 ∷ is 2 ∷ []) ∷ []
