-- Polynomials with coefficients modulo 2 ^ count, over atoms, which are terms.
use Rattle.std.specs.Prelude.{ℕ, ◌+◌, ◌-◌, ◌*◌, ◌^◌, ◌==◌, ◌&&◌, not, nat_le, Bool, true, false, if◌then◌else◌, List, [], ◌∷◌, length, map, Option, Some, None, option_map}
use Rattle.std.specs.List.{list_any}
use Rattle.term_core_spec.specs.declared.Width.{Width}
use Rattle.term_core_spec.specs.Term.{Term}
use Rattle.term_core_spec.specs.Sort.{bits}
use Rattle.term_core_spec.specs.Same.{same_term}
use Rattle.term_core_spec.specs.Value.{Value, Truth, Number, Bytes, Assignment, value, low_bits}
use Rattle.term_norm_spec.specs.Normal.{normal_low}
use Rattle.word_steps_spec.specs.Numbers.{is_bool}

-- a coefficient that is not 0, and a monomial: the product of some atoms, in any order. A truth value is 1 or 0, and is an atom of
-- a monomial once at most
pub record Summand : Type 0 where
  pub coefficient : ℕ
  pub atoms : List Term

-- no two summands have one monomial
abbrev pub Polynomial : Type 0
Polynomial = List Summand

-- a polynomial has at most so many summands, and a monomial so many atoms
abbrev pub MONOMIALS : ℕ
MONOMIALS = 48

abbrev pub ATOMS : ℕ
ATOMS = 8

-- ---- monomials

-- some atoms with t taken out once
unfoldable pub without : Term → List Term → Option (List Term)
without t [] = None
without t (u ∷ rest) = if same_term t u then Some rest else option_map (λ others. u ∷ others) (without t rest)

abbrev pub holds_of : (List Term → Bool) → Option (List Term) → Bool
holds_of test (Some atoms) = test atoms
holds_of test None = false

-- the same atoms, each as often
unfoldable pub same_atoms : List Term → List Term → Bool
same_atoms [] [] = true
same_atoms [] (u ∷ rest) = false
same_atoms (t ∷ more) atoms = holds_of (same_atoms more) (without t atoms)

-- the atoms of a product of two monomials
unfoldable pub with_atoms : List Term → List Term → List Term
with_atoms [] atoms = atoms
with_atoms (t ∷ more) atoms = if is_bool t && list_any (same_term t) atoms then with_atoms more atoms else t ∷ with_atoms more atoms

-- ---- sums and products. A summand with the coefficient 0 is left out

abbrev pub with_summand : ℕ → List Term → Polynomial → Polynomial
with_summand coefficient atoms rest = if coefficient == 0 then rest else record { coefficient = coefficient; atoms = atoms } ∷ rest

-- with so many times a monomial more
unfoldable pub plus_summand : ℕ → ℕ → List Term → Polynomial → Polynomial
plus_summand count c atoms [] = with_summand (low_bits count c) atoms []
plus_summand count c atoms (s ∷ rest) =
    if same_atoms atoms s.atoms then with_summand (low_bits count (c + s.coefficient)) s.atoms rest
    else s ∷ plus_summand count c atoms rest

unfoldable pub plus : ℕ → Polynomial → Polynomial → Polynomial
plus count [] q = q
plus count (s ∷ p) q = plus_summand count s.coefficient s.atoms (plus count p q)

-- c times a polynomial
unfoldable pub scaled : ℕ → ℕ → Polynomial → Polynomial
scaled count c [] = []
scaled count c (s ∷ p) = with_summand (low_bits count (c * s.coefficient)) s.atoms (scaled count c p)

-- 2 ^ count - 1 is -1
abbrev pub minus : ℕ → Polynomial → Polynomial → Polynomial
minus count p q = plus count (scaled count (2 ^ count - 1) q) p

unfoldable pub times_summand : ℕ → Summand → Polynomial → Polynomial
times_summand count s [] = []
times_summand count s (u ∷ q) = plus_summand count (s.coefficient * u.coefficient) (with_atoms s.atoms u.atoms) (times_summand count s q)

unfoldable pub times : ℕ → Polynomial → Polynomial → Polynomial
times count [] q = []
times count (s ∷ p) q = plus count (times_summand count s q) (times count p q)

abbrev pub constant_polynomial : ℕ → ℕ → Polynomial
constant_polynomial count n = with_summand (low_bits count n) [] []

abbrev pub atom_polynomial : Term → Polynomial
atom_polynomial t = record { coefficient = 1; atoms = t ∷ [] } ∷ []

abbrev pub low_atom : Width → Term → Term
low_atom width t = if is_bool t then t else normal_low width t

-- the low bits, at a width: each atom that is a word becomes its low bits, as an atom
unfoldable pub lowered : Width → Polynomial → Polynomial
lowered width [] = []
lowered width (s ∷ p) = plus_summand (bits width) s.coefficient (map (low_atom width) s.atoms) (lowered width p)

-- ---- bounds and tests

unfoldable pub has_small_monomials : Polynomial → Bool
has_small_monomials [] = true
has_small_monomials (s ∷ p) = nat_le (length s.atoms) ATOMS && has_small_monomials p

-- the polynomial of a term, where it is within the bounds; else the term is an atom
abbrev pub bounded : Term → Polynomial → Polynomial
bounded t p = if nat_le (length p) MONOMIALS && has_small_monomials p then p else atom_polynomial t

abbrev pub is_empty : Polynomial → Bool
is_empty [] = true
is_empty (s ∷ p) = false

abbrev pub has_no_atom : List Term → Bool
has_no_atom [] = true
has_no_atom (t ∷ rest) = false

-- a constant other than 0
abbrev pub is_only_constant : ℕ → Polynomial → Bool
is_only_constant count (s ∷ []) = has_no_atom s.atoms && not (low_bits count s.coefficient == 0)
is_only_constant count p = false

-- ---- values

abbrev pub number_of_value : Value → ℕ
number_of_value (Number width n) = n
number_of_value (Truth b) = if b then 1 else 0
number_of_value (Bytes memory) = 0

unfoldable pub product : Assignment → List Term → ℕ
product assignment [] = 1
product assignment (t ∷ rest) = number_of_value (value assignment t) * product assignment rest

-- the sum of the summands; the value is this modulo 2 ^ count
unfoldable pub polynomial_value : Assignment → Polynomial → ℕ
polynomial_value assignment [] = 0
polynomial_value assignment (s ∷ p) = s.coefficient * product assignment s.atoms + polynomial_value assignment p
