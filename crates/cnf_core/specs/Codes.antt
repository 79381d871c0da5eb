-- Literals as numbers.
use Rattle.std.specs.Prelude.{◌≡◌, ◌+◌, ◌*◌, ◌/◌, ◌%◌, ◌==◌, ◌<◌, ◌≤◌, ◌&&◌, not, ℕ, Bool, true, false}
use Rattle.std.specs.Int.{from_bool}
use Rattle.std.proofs.Common.{refl, ap, sym, ◌∙◌, arith}
use Rattle.std.proofs.lemmas.Bool.{eqb-true, eqb-false, ne_eqb, eq-eqb}
use Rattle.clause_check_spec.specs.declared.Literal.{Literal}
use Rattle.clause_check_spec.specs.Clause.{negation, same_sign, same_literal, is_of}

-- twice the variable, and one more for the negation
abbrev pub code_of : Literal → ℕ
code_of literal = 2 * literal.variable + from_bool literal.is_negated

-- the literal of a code
abbrev pub literal_at : (code : ℕ) → Literal
literal_at code = record { variable = code / 2; is_negated = code % 2 == 1 }

-- ---- laws

half : (variable : ℕ) (is_negated : Bool) → (2 * variable + from_bool is_negated) / 2 ≡ variable
half variable true = omega arith
half variable false = omega arith

odd : (variable : ℕ) (is_negated : Bool) → ((2 * variable + from_bool is_negated) % 2 == 1) ≡ is_negated
odd variable true = grind arith
odd variable false = grind arith

-- each literal is that of its code
pub literal_at-code_of : (literal : Literal) → literal_at (code_of literal) ≡ literal
literal_at-code_of literal = λ i. record {
  variable = half literal.variable literal.is_negated i;
  is_negated = odd literal.variable literal.is_negated i;
}

-- each code is that of its literal
pub code_of-literal_at : (code : ℕ) → code_of (literal_at code) ≡ code
code_of-literal_at code = by_rest (code % 2 == 1) refl
  where
    by_rest : (b : Bool) → (code % 2 == 1) ≡ b → 2 * (code / 2) + from_bool b ≡ code
    by_rest true e = grind arith
    by_rest false e = grind arith

-- literals with one code are equal
pub same_code : (a b : Literal) → code_of a ≡ code_of b → a ≡ b
same_code a b e = sym (literal_at-code_of a) ∙ ap literal_at e ∙ literal_at-code_of b

-- the test of literals by their codes
pub same_literal_by_code : (a b : Literal) → (code_of a == code_of b) ≡ same_literal a b
same_literal_by_code a b = by_signs (a.variable == b.variable) refl a.is_negated b.is_negated
  where
    by_signs : (same : Bool) → (a.variable == b.variable) ≡ same
        → (s t : Bool) → (2 * a.variable + from_bool s == 2 * b.variable + from_bool t) ≡ (same && same_sign s t)
    by_signs true e true true = eq-eqb (2 * a.variable + 1) (2 * b.variable + 1) (let v = eqb-true a.variable b.variable e in omega (arith, v))
    by_signs true e false false = eq-eqb (2 * a.variable + 0) (2 * b.variable + 0) (let v = eqb-true a.variable b.variable e in omega (arith, v))
    by_signs true e true false = ne_eqb (2 * a.variable + 1) (2 * b.variable + 0) (λ h. omega (arith, h))
    by_signs true e false true = ne_eqb (2 * a.variable + 0) (2 * b.variable + 1) (λ h. omega (arith, h))
    by_signs false e true true = ne_eqb (2 * a.variable + 1) (2 * b.variable + 1) (λ h. eqb-false a.variable b.variable e (omega (arith, h)))
    by_signs false e false false = ne_eqb (2 * a.variable + 0) (2 * b.variable + 0) (λ h. eqb-false a.variable b.variable e (omega (arith, h)))
    by_signs false e true false = ne_eqb (2 * a.variable + 1) (2 * b.variable + 0) (λ h. omega (arith, h))
    by_signs false e false true = ne_eqb (2 * a.variable + 0) (2 * b.variable + 1) (λ h. omega (arith, h))

from_bool_bound : (b : Bool) → from_bool b ≤ 1
from_bool_bound true = omega arith
from_bool_bound false = omega arith

-- the codes of literals of so many variables
pub code_within : (variables : ℕ) (literal : Literal) → is_of variables literal ≡ true
    → (2 ≤ code_of literal) × (code_of literal < 2 * variables + 2)
code_within variables literal named =
    let low : 1 ≤ literal.variable = grind arith in
    let high : literal.variable ≤ variables = grind arith in
    let bound = from_bool_bound literal.is_negated in
    (omega (arith, low, bound), omega (arith, high, bound))

-- the other literal of the variable has the other code of two
pub code_of-negation : (literal : Literal) → code_of (negation literal) + code_of literal ≡ 4 * literal.variable + 1
code_of-negation literal = by_sign literal.is_negated
  where
    by_sign : (b : Bool) → (2 * literal.variable + from_bool (not b)) + (2 * literal.variable + from_bool b) ≡ 4 * literal.variable + 1
    by_sign true = omega arith
    by_sign false = omega arith
