-- Pairs of bits that are not the same, place by place from the highest, as the lists of the definitions have them.
use Rattle.std.specs.Prelude.{ℕ, zero, suc, ◌&&◌, ◌||◌, not, Bool, true, false, List, length}
use Rattle.term_core_spec.specs.Term.{Term}
use Rattle.word_steps_spec.specs.Bitwise as spec
use Rattle.word_steps_rules.specs.declared.bit.Bit.{Bit}
use Rattle.word_steps_rules.specs.declared.bitwise.Pair.{Pair}
use Rattle.word_steps_rules.specs.Bits.{bit_in, row_bit, bits_in, IsBit}

abbrev pub Trees : Type 0
Trees = List Term

abbrev pub pair_in : List Term → Pair → spec.BitPair
pair_in trees p = record { first = bit_in trees p.first; second = bit_in trees p.second }

pub record IsPair (n : ℕ) (p : Pair) : Type 0 where
  pub first : IsBit n p.first
  pub second : IsBit n p.second

abbrev pub pair_at : (first second : List Bit) → ℕ → Pair
pair_at first second place = record { first = row_bit first place; second = row_bit second place }

-- two lists of bits are the same below a count
abbrev pub are_same : ℕ → (f g : spec.Bits) → Bool
are_same count f g = spec.all_below count (λ i. spec.same_bit (f i) (g i))

abbrev pub pair_of : (f g : spec.Bits) → ℕ → spec.BitPair
pair_of f g i = record { first = f i; second = g i }

-- a pair is among those that are not the same
unfoldable pub has_pair : spec.BitPair → ℕ → (f g : spec.Bits) → Bool
has_pair p zero f g = false
has_pair p (suc i) f g = (not (spec.same_bit (f i) (g i)) && spec.same_pair p (pair_of f g i)) || has_pair p i f g

-- the pairs of f and g that are not the same are among those of h and k
unfoldable pub have_pairs : ℕ → (f g : spec.Bits) → (total : ℕ) → (h k : spec.Bits) → Bool
have_pairs zero f g total h k = true
have_pairs (suc i) f g total h k = (spec.same_bit (f i) (g i) || has_pair (pair_of f g i) total h k) && have_pairs i f g total h k

-- 0 and 1 at some place
unfoldable pub differ : ℕ → (f g : spec.Bits) → Bool
differ zero f g = false
differ (suc i) f g = spec.are_opposite (pair_of f g i) || differ i f g

-- each pair of one of two pairs of words is among those of the other
abbrev pub have_same : List Term → (a b c d : List Bit) → Bool
have_same trees a b c d =
    have_pairs (length a) (bits_in trees a) (bits_in trees b) (length c) (bits_in trees c) (bits_in trees d)
    && have_pairs (length c) (bits_in trees c) (bits_in trees d) (length a) (bits_in trees a) (bits_in trees b)
