-- The atoms of a polynomial are truth values, and words of one width.
use Rattle.std.proofs.Common.{◌≡◌, ℕ, ◌+◌, ◌-◌, ◌*◌, ◌^◌, Bool, true, false, cond, List, [], ◌∷◌, Some, ◌⊎◌}
use Rattle.std.specs.Prelude.{◌==◌, ◌&&◌}
use Rattle.std.specs.List.{AllByRecursion, list_any}
use Rattle.term_core_spec.specs.declared.Width.{Width}
use Rattle.term_core_spec.specs.declared.Sort.TheVariants as sort
use Rattle.term_core_spec.specs.Term.{Term}
use Rattle.term_core_spec.specs.Sort.{sort_of}
use Rattle.term_core_spec.specs.Value.{low_bits}
use Rattle.term_core_spec.specs.Same.{same_term}
use Rattle.word_steps_spec.specs.Numbers.{is_bool}
use Rattle.word_steps_spec.specs.Polynomial.{Summand, Polynomial, same_atoms, with_atoms, with_summand, plus_summand, plus, scaled, minus, times_summand, times, constant_polynomial}

module _ (w : Width) where
  abbrev pub IsAtom : Term → Type 0
  IsAtom t = (sort_of t ≡ Some (sort.Word w)) ⊎ (sort_of t ≡ Some sort.Truth)

  abbrev pub AreAtoms : List Term → Type 0
  AreAtoms ts = AllByRecursion IsAtom ts

  abbrev pub HasAtoms : Polynomial → Type 0
  HasAtoms p = AllByRecursion (λ (s : Summand). AreAtoms s.atoms) p

  with_atoms_are : (ts us : List Term) → AreAtoms ts → AreAtoms us → AreAtoms (with_atoms ts us)
  unfolding with_atoms
  with_atoms_are [] us h g = g
  with_atoms_are (t ∷ ts) us h g = by (is_bool t && list_any (same_term t) us) (with_atoms_are ts us h.1 g)
    where
      by : (test : Bool) → AreAtoms (with_atoms ts us) → AreAtoms (cond test (with_atoms ts us) (t ∷ with_atoms ts us))
      by true rest = rest
      by false rest = (h.0, rest)

  pub with_summand_atoms : (c : ℕ) (atoms : List Term) (rest : Polynomial) → AreAtoms atoms → HasAtoms rest → HasAtoms (with_summand c atoms rest)
  with_summand_atoms c atoms rest h g = by (c == 0)
    where
      by : (test : Bool) → HasAtoms (cond test rest (record { coefficient = c; atoms = atoms } ∷ rest))
      by true = g
      by false = (h, g)

  module _ (count : ℕ) where
    pub plus_summand_atoms : (c : ℕ) (atoms : List Term) (p : Polynomial) → AreAtoms atoms → HasAtoms p → HasAtoms (plus_summand count c atoms p)
    unfolding plus_summand
    plus_summand_atoms c atoms [] h g = with_summand_atoms (low_bits count c) atoms [] h tt
    plus_summand_atoms c atoms (s ∷ p) h g = by (same_atoms atoms s.atoms) (plus_summand_atoms c atoms p h g.1)
      where
        by : (test : Bool) → HasAtoms (plus_summand count c atoms p)
            → HasAtoms (cond test (with_summand (low_bits count (c + s.coefficient)) s.atoms p) (s ∷ plus_summand count c atoms p))
        by true again = with_summand_atoms (low_bits count (c + s.coefficient)) s.atoms p g.0 g.1
        by false again = (g.0, again)

    pub plus_atoms : (p q : Polynomial) → HasAtoms p → HasAtoms q → HasAtoms (plus count p q)
    unfolding plus
    plus_atoms [] q h g = g
    plus_atoms (s ∷ p) q h g = plus_summand_atoms s.coefficient s.atoms (plus count p q) h.0 (plus_atoms p q h.1 g)

    pub scaled_atoms : (c : ℕ) (p : Polynomial) → HasAtoms p → HasAtoms (scaled count c p)
    unfolding scaled
    scaled_atoms c [] h = tt
    scaled_atoms c (s ∷ p) h = with_summand_atoms (low_bits count (c * s.coefficient)) s.atoms (scaled count c p) h.0 (scaled_atoms c p h.1)

    pub minus_atoms : (p q : Polynomial) → HasAtoms p → HasAtoms q → HasAtoms (minus count p q)
    minus_atoms p q h g = plus_atoms (scaled count (2 ^ count - 1) q) p (scaled_atoms (2 ^ count - 1) q g) h

    times_summand_atoms : (s : Summand) (q : Polynomial) → AreAtoms s.atoms → HasAtoms q → HasAtoms (times_summand count s q)
    unfolding times_summand
    times_summand_atoms s [] h g = tt
    times_summand_atoms s (u ∷ q) h g =
        plus_summand_atoms (s.coefficient * u.coefficient) (with_atoms s.atoms u.atoms) (times_summand count s q) (with_atoms_are s.atoms u.atoms h g.0) (times_summand_atoms s q h g.1)

    pub times_atoms : (p q : Polynomial) → HasAtoms p → HasAtoms q → HasAtoms (times count p q)
    unfolding times
    times_atoms [] q h g = tt
    times_atoms (s ∷ p) q h g = plus_atoms (times_summand count s q) (times count p q) (times_summand_atoms s q h.0 g) (times_atoms p q h.1 g)

    pub constant_atoms : (n : ℕ) → HasAtoms (constant_polynomial count n)
    constant_atoms n = with_summand_atoms (low_bits count n) [] [] tt tt
