-- Gates that name earlier variables alone settle one after the other.
use Rattle.std.proofs.Common.{◌≡◌, ◌≤◌, ◌<◌, ◌+◌, ℕ, Bool, true, false, List, [], ◌∷◌, refl, ap, sym, ◌∙◌, arith}
use Rattle.std.specs.Prelude.{◌==◌, ◌&&◌, not, if◌then◌else◌}
use Rattle.clause_check_spec.specs.declared.Literal.{Literal}
use Rattle.clause_check_spec.specs.Clause.{Valuation, holds}
use Rattle.term_core_spec.specs.Value.{Assignment, value}
use Rattle.bit_blast_spec.specs.Gates.{Gate, Truth, Bit, And, Xor, Mux, Majority, Claim, next}
use Rattle.bit_blast_laws.specs.Meaning.{differ, majority}
use Rattle.bit_blast_laws.specs.Reads.{bit_of_value}
use Rattle.bit_blast_laws.specs.Named.{IsNamed, GateNames, GatesName}
use Rattle.bit_blast_laws.proofs.Settled.{with_value, given, settled, Settles, AllSettle}

other_value : (values : Valuation) (variable other : ℕ) (b : Bool) → other < variable → with_value values variable b other ≡ values other
other_value values variable other b below = ap (λ t. if t then b else values other) (apart other variable below)
  where
    apart : (a b : ℕ) → a < b → (a == b) ≡ false
    apart a b h = grind arith

own_value : (values : Valuation) (variable : ℕ) (b : Bool) → with_value values variable b variable ≡ b
own_value values variable b = ap (λ t. if t then b else values variable) (same variable)
  where
    same : (a : ℕ) → (a == a) ≡ true
    same a = grind arith

-- variables before stay as they were
given_stays : (assignment : Assignment) (values : Valuation) (last : ℕ) (gate : Gate) (other : ℕ) → other ≤ last → given assignment values last gate other ≡ values other
given_stays assignment values last Truth other h = other_value values (last + 1) other true (omega (arith, h))
given_stays assignment values last (Bit term index) other h = other_value values (last + 1) other _ (omega (arith, h))
given_stays assignment values last (And a b) other h = other_value values (last + 1) other _ (omega (arith, h))
given_stays assignment values last (Xor a b) other h = other_value values (last + 1) other _ (omega (arith, h))
given_stays assignment values last (Mux c a b) other h = other_value values (last + 1) other _ (omega (arith, h))
given_stays assignment values last (Majority a b c) other h = other_value values (last + 1) other _ (omega (arith, h))
given_stays assignment values last (Claim clause) other h = refl

next_above : (last : ℕ) (gate : Gate) → last ≤ next last gate
next_above last Truth = omega arith
next_above last (Bit term index) = omega arith
next_above last (And a b) = omega arith
next_above last (Xor a b) = omega arith
next_above last (Mux c a b) = omega arith
next_above last (Majority a b c) = omega arith
next_above last (Claim clause) = omega arith

pub settled_stays : (assignment : Assignment) (values : Valuation) (last : ℕ) (gates : List Gate) (other : ℕ) → other ≤ last
    → settled assignment values last gates other ≡ values other
settled_stays assignment values last [] other h = refl
settled_stays assignment values last (gate ∷ gates) other h =
    let above = next_above last gate in
    settled_stays assignment (given assignment values last gate) (next last gate) gates other (omega (arith, h, above)) ∙ given_stays assignment values last gate other h

-- a literal of a variable before
holds_stays : (assignment : Assignment) (values : Valuation) (last : ℕ) (gate : Gate) (gates : List Gate) (l : Literal) → IsNamed last l
    → holds (settled assignment values last (gate ∷ gates)) l ≡ holds values l
holds_stays assignment values last gate gates l named =
    ap (λ b. if l.is_negated then not b else b) (settled_stays assignment values last (gate ∷ gates) l.variable named.made)

-- the new variable
own_stays : (assignment : Assignment) (values : Valuation) (last : ℕ) (b : Bool) (gates : List Gate)
    → settled assignment (with_value values (last + 1) b) (last + 1) gates (last + 1) ≡ b
own_stays assignment values last b gates =
    settled_stays assignment (with_value values (last + 1) b) (last + 1) gates (last + 1) (omega arith) ∙ own_value values (last + 1) b

gate_settles : (assignment : Assignment) (values : Valuation) (last : ℕ) (gate : Gate) (gates : List Gate) → GateNames last gate
    → Settles assignment (settled assignment values last (gate ∷ gates)) (last + 1) gate
gate_settles assignment values last Truth gates named = own_stays assignment values last true gates
gate_settles assignment values last (Bit term index) gates named = own_stays assignment values last (bit_of_value (value assignment term) index) gates
gate_settles assignment values last (And a b) gates named =
    own_stays assignment values last (holds values a && holds values b) gates
    ∙ ap (λ t. t && holds values b) (sym (holds_stays assignment values last (And a b) gates a named.0))
    ∙ ap (λ t. holds (settled assignment values last (And a b ∷ gates)) a && t) (sym (holds_stays assignment values last (And a b) gates b named.1))
gate_settles assignment values last (Xor a b) gates named =
    own_stays assignment values last (differ (holds values a) (holds values b)) gates
    ∙ ap (λ t. differ t (holds values b)) (sym (holds_stays assignment values last (Xor a b) gates a named.0))
    ∙ ap (λ t. differ (holds (settled assignment values last (Xor a b ∷ gates)) a) t) (sym (holds_stays assignment values last (Xor a b) gates b named.1))
gate_settles assignment values last (Mux c a b) gates named =
    own_stays assignment values last (if holds values c then holds values a else holds values b) gates
    ∙ ap (λ t. if t then holds values a else holds values b) (sym (holds_stays assignment values last (Mux c a b) gates c named.0))
    ∙ ap (λ t. if holds (settled assignment values last (Mux c a b ∷ gates)) c then t else holds values b) (sym (holds_stays assignment values last (Mux c a b) gates a named.1))
    ∙ ap (λ t. if holds (settled assignment values last (Mux c a b ∷ gates)) c then holds (settled assignment values last (Mux c a b ∷ gates)) a else t)
    (sym (holds_stays assignment values last (Mux c a b) gates b named.2))
gate_settles assignment values last (Majority a b c) gates named =
    own_stays assignment values last (majority (holds values a) (holds values b) (holds values c)) gates
    ∙ ap (λ t. majority t (holds values b) (holds values c)) (sym (holds_stays assignment values last (Majority a b c) gates a named.0))
    ∙ ap (λ t. majority (holds (settled assignment values last (Majority a b c ∷ gates)) a) t (holds values c))
    (sym (holds_stays assignment values last (Majority a b c) gates b named.1))
    ∙ ap (λ t. majority (holds (settled assignment values last (Majority a b c ∷ gates)) a) (holds (settled assignment values last (Majority a b c ∷ gates)) b) t)
    (sym (holds_stays assignment values last (Majority a b c) gates c named.2))
gate_settles assignment values last (Claim clause) gates named = tt

pub gates_settle : (assignment : Assignment) (values : Valuation) (last : ℕ) (gates : List Gate) → GatesName last gates
    → AllSettle assignment (settled assignment values last gates) last gates
gates_settle assignment values last [] named = tt
gates_settle assignment values last (gate ∷ gates) named = (
  gate_settles assignment values last gate gates named.0,
  gates_settle assignment (given assignment values last gate) (next last gate) gates named.1,
)
