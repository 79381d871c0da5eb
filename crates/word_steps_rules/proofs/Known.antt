-- The terms of bits are those of a bank.
use Rattle.std.proofs.Common.{ℕ, ◌+◌, ◌-◌, ◌<◌, ◌≤◌, Bool, true, false, cond, ◌⊎◌, inl, inr, List, [], ◌∷◌, length, sym, subst}
use Rattle.std.specs.Prelude.{nat_lt}
use Rattle.std.proofs.lemmas.Bool.{cases_lt}
use Rattle.std.proofs.lemmas.List.{get_or_past}
use Rattle.std.proofs.lemmas.List.Elements.{All-get_or}
use Rattle.word_steps_rules.specs.declared.bit.Bit.{Bit}
use Rattle.word_steps_rules.specs.declared.bit.Bit.TheVariants.{Fixed}
use Rattle.word_steps_rules.specs.declared.plan.Shift.{Shift}
use Rattle.word_steps_rules.specs.declared.plan.Shift.TheVariants.{Up, Down, DownSigned}
use Rattle.word_steps_rules.specs.Bits.{IsBit, AreBits, row_bit, AreIn, row_in, shifted_bit, joined_bit, bits_at}

module _ (n : ℕ) where
  pub known_bit : (row : List Bit) → AreIn n row → (i : ℕ) → IsBit n (row_bit row i)
  known_bit row are i = by (cases_lt i (length row))
    where
      by : (i < length row) ⊎ (length row ≤ i) → IsBit n (row_bit row i)
      by (inl less) = All-get_or (IsBit n) row i (Fixed false) less are
      by (inr past) = subst (IsBit n) (sym (get_or_past row i (Fixed false) past)) tt

  by_test : (test : Bool) (p q : Bit) → IsBit n p → IsBit n q → IsBit n (cond test p q)
  by_test true p q is_p is_q = is_p
  by_test false p q is_p is_q = is_q

  pub known_shift : (shift : Shift) (row : List Bit) → AreIn n row → (places i : ℕ) → IsBit n (shifted_bit shift row places i)
  unfolding shifted_bit
  known_shift Up row are places i = by_test (nat_lt i places) (Fixed false) (row_bit row (i - places)) tt (known_bit row are (i - places))
  known_shift Down row are places i = by_test (nat_lt (places + i) (length row)) (row_bit row (places + i)) (Fixed false) (known_bit row are (places + i)) tt
  known_shift DownSigned row are places i =
      by_test (nat_lt (places + i) (length row)) (row_bit row (places + i)) (row_bit row (length row - 1)) (known_bit row are (places + i)) (known_bit row are (length row - 1))

  module _ (rows : List (List Bit)) (are : (k : ℕ) → AreIn n (row_in rows k)) where
    pub known_joined : (ks : List ℕ) (i : ℕ) → IsBit n (joined_bit rows ks i)
    unfolding joined_bit
    known_joined [] i = tt
    known_joined (k ∷ rest) i = by_test (nat_lt i 8) (row_bit (row_in rows k) i) (joined_bit rows rest (i - 8)) (known_bit (row_in rows k) (are k) i) (known_joined rest (i - 8))

    pub known_both : (id first second place : ℕ) → id < n → AreBits n (bits_at rows id first second place)
    known_both id first second place below =
        record { first = known_bit (row_in rows first) (are first) place; second = known_bit (row_in rows second) (are second) place; otherwise = below }
