-- Lists of pairs of bits that are not the same, place by place.
use Rattle.std.proofs.Common.{◌≡◌, ℕ, zero, suc, ◌-◌, ◌<◌, arith, Bool, true, false, cond, List, ◌∷◌, refl, sym, ap, ◌∙◌}
use Rattle.std.specs.Prelude.{◌&&◌, ◌||◌, not}
use Rattle.term_core_spec.specs.Term.{Term}
use Rattle.word_steps_spec.specs.Bitwise as spec
use Rattle.word_steps_spec.specs.Bitwise.{Fixed, Of, Bits, BitPair, same_bit, is_fixed, same_pair, is_among, are_among, unequal_pairs, are_opposite, has_opposite, has_none, all_below}
use Rattle.word_steps_rules.specs.declared.bit.Bit.{Bit}
use Rattle.word_steps_rules.specs.declared.bitwise.Pair.{Pair}
use Rattle.word_steps_rules.specs.Bits.{bit_in, bits_in}
use Rattle.word_steps_rules.specs.Pairs.{are_same, pair_in, pair_at, pair_of, has_pair, have_pairs, differ}

pub has_pair_is : (p : BitPair) (count : ℕ) (f g : Bits) → is_among p (unequal_pairs count f g) ≡ has_pair p count f g
unfolding unequal_pairs is_among has_pair
has_pair_is p zero f g = refl
has_pair_is p (suc i) f g = by (same_bit (f i) (g i)) (has_pair_is p i f g)
  where
    by : (test : Bool) → is_among p (unequal_pairs i f g) ≡ has_pair p i f g
        → is_among p (cond test (unequal_pairs i f g) (pair_of f g i ∷ unequal_pairs i f g)) ≡ ((not test && same_pair p (pair_of f g i)) || has_pair p i f g)
    by true later = later
    by false later = ap (λ b. same_pair p (pair_of f g i) || b) later

pub have_pairs_is : (count : ℕ) (f g : Bits) (total : ℕ) (h k : Bits) → are_among (unequal_pairs count f g) (unequal_pairs total h k) ≡ have_pairs count f g total h k
unfolding unequal_pairs are_among have_pairs
have_pairs_is zero f g total h k = refl
have_pairs_is (suc i) f g total h k = by (same_bit (f i) (g i)) (have_pairs_is i f g total h k)
  where
    by : (test : Bool) → are_among (unequal_pairs i f g) (unequal_pairs total h k) ≡ have_pairs i f g total h k
        → are_among (cond test (unequal_pairs i f g) (pair_of f g i ∷ unequal_pairs i f g)) (unequal_pairs total h k)
        ≡ ((test || has_pair (pair_of f g i) total h k) && have_pairs i f g total h k)
    by true later = later
    by false later =
        ap (λ b. b && are_among (unequal_pairs i f g) (unequal_pairs total h k)) (has_pair_is (pair_of f g i) total h k)
        ∙ ap (λ b. has_pair (pair_of f g i) total h k && b) later

pub none_is : (count : ℕ) (f g : Bits) → has_none (unequal_pairs count f g) ≡ are_same count f g
unfolding unequal_pairs all_below
none_is zero f g = refl
none_is (suc i) f g = by (same_bit (f i) (g i)) (none_is i f g)
  where
    by : (test : Bool) → has_none (unequal_pairs i f g) ≡ are_same i f g
        → has_none (cond test (unequal_pairs i f g) (pair_of f g i ∷ unequal_pairs i f g)) ≡ (test && are_same i f g)
    by true later = later
    by false later = refl

-- the same bit is not opposite to itself
same_not_opposite : (p q : spec.Bit) → same_bit p q ≡ true → are_opposite (record { first = p; second = q }) ≡ false
same_not_opposite (Fixed true) (Fixed true) e = refl
same_not_opposite (Fixed false) (Fixed false) e = refl
same_not_opposite (Fixed true) (Fixed false) e = absurd (cc)
same_not_opposite (Fixed false) (Fixed true) e = absurd (cc)
same_not_opposite (Fixed a) (Of t i) e = absurd (cc)
same_not_opposite (Of t i) (Fixed a) e = absurd (cc)
same_not_opposite (Of t i) (Of u j) e = refl

pub differ_is : (count : ℕ) (f g : Bits) → has_opposite (unequal_pairs count f g) ≡ differ count f g
unfolding unequal_pairs has_opposite differ
differ_is zero f g = refl
differ_is (suc i) f g = by (same_bit (f i) (g i)) refl (differ_is i f g)
  where
    by : (test : Bool) → same_bit (f i) (g i) ≡ test → has_opposite (unequal_pairs i f g) ≡ differ i f g
        → has_opposite (cond test (unequal_pairs i f g) (pair_of f g i ∷ unequal_pairs i f g)) ≡ (are_opposite (pair_of f g i) || differ i f g)
    by true e later = later ∙ ap (λ b. b || differ i f g) (sym (same_not_opposite (f i) (g i) e))
    by false e later = ap (λ b. are_opposite (pair_of f g i) || b) later

-- ---- the last of the places below a count

module _ (trees : List Term) (a b : List Bit) where
  abbrev f : Bits
  f = bits_in trees a

  abbrev g : Bits
  g = bits_in trees b

  module _ (p : BitPair) where
    -- two bits are not the same, and are the pair
    abbrev is_here : Pair → Bool
    is_here here = not (same_bit (bit_in trees here.first) (bit_in trees here.second)) && same_pair p (pair_in trees here)

    pair_last : (count : ℕ) → 0 < count → (is_here (pair_at a b (count - 1)) || has_pair p (count - 1) f g) ≡ has_pair p count f g
    unfolding has_pair
    pair_last zero some = absurd (omega (arith, some))
    pair_last (suc i) some = let one : suc i - 1 ≡ i = omega arith in ap (λ k. is_here (pair_at a b k) || has_pair p k f g) one

    pub pair_before : (count : ℕ) (here : Pair) (found rest : Bool) → 0 < count → here ≡ pair_at a b (count - 1) → found ≡ is_here here → found ≡ false
        → rest ≡ has_pair p (count - 1) f g → rest ≡ has_pair p count f g
    pair_before count here found rest some at is e later =
        later ∙ ap (λ q. q || has_pair p (count - 1) f g) (sym e ∙ is ∙ ap is_here at) ∙ pair_last count some

  module _ (total : ℕ) (h k : Bits) where
    -- a pair is the same bit, or one of the others
    abbrev is_other : Pair → Bool
    is_other here = same_bit (bit_in trees here.first) (bit_in trees here.second) || has_pair (pair_in trees here) total h k

    pairs_last : (count : ℕ) → 0 < count → (is_other (pair_at a b (count - 1)) && have_pairs (count - 1) f g total h k) ≡ have_pairs count f g total h k
    unfolding have_pairs
    pairs_last zero some = absurd (omega (arith, some))
    pairs_last (suc i) some = let one : suc i - 1 ≡ i = omega arith in ap (λ j. is_other (pair_at a b j) && have_pairs j f g total h k) one

    pub pairs_before : (count : ℕ) (here : Pair) (found rest : Bool) → 0 < count → here ≡ pair_at a b (count - 1) → found ≡ is_other here → found ≡ true
        → rest ≡ have_pairs (count - 1) f g total h k → rest ≡ have_pairs count f g total h k
    pairs_before count here found rest some at is e later =
        later ∙ ap (λ q. q && have_pairs (count - 1) f g total h k) (sym e ∙ is ∙ ap is_other at) ∙ pairs_last count some

    pub not_other : (count : ℕ) (here : Pair) (found : Bool) → 0 < count → here ≡ pair_at a b (count - 1) → found ≡ is_other here → found ≡ false
        → found ≡ have_pairs count f g total h k
    not_other count here found some at is e =
        e ∙ ap (λ q. q && have_pairs (count - 1) f g total h k) (sym e ∙ is ∙ ap is_other at) ∙ pairs_last count some
