-- Bits of rows at other places, and the same bits of a term.
use Rattle.std.proofs.Common.{◌≡◌, ℕ, zero, suc, ◌+◌, ◌-◌, ◌*◌, ◌<◌, Bool, true, false, cond, List, [], ◌∷◌, length, map, Some, refl, sym, ap, ◌∙◌, subst, arith}
use Rattle.std.specs.Prelude.{◌&&◌, ◌||◌, nat_lt}
use Rattle.std.proofs.lemmas.Bool.{lt-ltb, ltb-true, ltb-false}
use Rattle.term_core_spec.specs.declared.Width.{Width}
use Rattle.term_core_spec.specs.declared.Width.TheVariants.{W8, W16, W32, W64}
use Rattle.term_core_spec.specs.declared.Sort.TheVariants as sort
use Rattle.term_core_spec.specs.Term.{Term}
use Rattle.term_core_spec.specs.Sort.{bits, sort_of}
use Rattle.term_norm_spec.specs.Patterns.{width_of}
use Rattle.term_norm_spec.proofs.Bytes.{AllBytes}
use Rattle.term_norm_spec.proofs.Keeps.{width_is}
use Rattle.word_steps_spec.specs.Bitwise as spec
use Rattle.word_steps_spec.specs.Bitwise.{all_below, are_apart, moved_up, moved_down, moved_with_sign, joined_bits, bits_of}
use Rattle.word_steps_rules.specs.declared.bit.Bit.{Bit}
use Rattle.word_steps_rules.specs.declared.bit.Bit.TheVariants.{Fixed}
use Rattle.word_steps_rules.specs.declared.plan.Shift.TheVariants.{Up, Down, DownSigned}
use Rattle.word_steps_rules.specs.Bits.{bit_in, row_bit, bits_in, IsRow, row_in, shifted_bit, joined_bit}

-- two lists of bits are the same below a count
abbrev pub SameBelow : ℕ → (f g : spec.Bits) → Type 0
SameBelow count f g = (i : ℕ) → i < count → f i ≡ g i

-- ---- bits at other places

pub up_same : (count places : ℕ) (f g : spec.Bits) → SameBelow count f g → (i : ℕ) → i < count → moved_up places f i ≡ moved_up places g i
up_same count places f g same i less = by (nat_lt i places)
  where
    by : (test : Bool) → cond test (spec.Fixed false) (f (i - places)) ≡ cond test (spec.Fixed false) (g (i - places))
    by true = refl
    by false = same (i - places) (omega (arith, less))

pub down_same : (count places : ℕ) (f g : spec.Bits) → SameBelow count f g → (i : ℕ) → moved_down count places f i ≡ moved_down count places g i
down_same count places f g same i = by (nat_lt (places + i) count) refl
  where
    by : (test : Bool) → nat_lt (places + i) count ≡ test → cond test (f (places + i)) (spec.Fixed false) ≡ cond test (g (places + i)) (spec.Fixed false)
    by true e = same (places + i) (ltb-true (places + i) count e)
    by false e = refl

pub signed_same : (count places : ℕ) (f g : spec.Bits) → 0 < count → SameBelow count f g → (i : ℕ) → moved_with_sign count places f i ≡ moved_with_sign count places g i
signed_same count places f g some same i = by (nat_lt (places + i) count) refl
  where
    by : (test : Bool) → nat_lt (places + i) count ≡ test → cond test (f (places + i)) (f (count - 1)) ≡ cond test (g (places + i)) (g (count - 1))
    by true e = same (places + i) (ltb-true (places + i) count e)
    by false e = same (count - 1) (omega (arith, some))

-- below the count nothing comes in
pub down_inside : (count places : ℕ) (f : spec.Bits) (i : ℕ) → places + i < count → moved_down count places f i ≡ f (places + i)
down_inside count places f i less = ap (λ test. cond test (f (places + i)) (spec.Fixed false)) (lt-ltb (places + i) count less)

pub all_same : (count : ℕ) (p q : ℕ → Bool) → ((i : ℕ) → i < count → p i ≡ q i) → all_below count p ≡ all_below count q
unfolding all_below
all_same zero p q same = refl
all_same (suc k) p q same = ap (λ b. b && all_below k p) (same k (omega arith)) ∙ ap (λ b. q k && b) (all_same k p q (λ i less. same i (omega (arith, less))))

pub apart_same : (count : ℕ) (f g h k : spec.Bits) → SameBelow count f h → SameBelow count g k → are_apart count f g ≡ are_apart count h k
apart_same count f g h k same_f same_g =
    all_same count (λ i. spec.is_fixed false (f i) || spec.is_fixed false (g i)) (λ i. spec.is_fixed false (h i) || spec.is_fixed false (k i))
    (λ i less.
    ap (λ p. spec.is_fixed false p || spec.is_fixed false (g i)) (same_f i less)
    ∙ ap (λ q. spec.is_fixed false (h i) || spec.is_fixed false q) (same_g i less))

-- ---- the same of rows

module _ (trees : List Term) where
  up_is : (row : List Bit) (places i : ℕ) → bit_in trees (shifted_bit Up row places i) ≡ moved_up places (bits_in trees row) i
  unfolding shifted_bit
  up_is row places i = by (nat_lt i places)
    where
      by : (test : Bool) → bit_in trees (cond test (Fixed false) (row_bit row (i - places))) ≡ cond test (spec.Fixed false) (bits_in trees row (i - places))
      by true = refl
      by false = refl

  down_is : (row : List Bit) (places i : ℕ) → bit_in trees (shifted_bit Down row places i) ≡ moved_down (length row) places (bits_in trees row) i
  unfolding shifted_bit
  down_is row places i = by (nat_lt (places + i) (length row))
    where
      by : (test : Bool) → bit_in trees (cond test (row_bit row (places + i)) (Fixed false)) ≡ cond test (bits_in trees row (places + i)) (spec.Fixed false)
      by true = refl
      by false = refl

  signed_is : (row : List Bit) (places i : ℕ) → bit_in trees (shifted_bit DownSigned row places i) ≡ moved_with_sign (length row) places (bits_in trees row) i
  unfolding shifted_bit
  signed_is row places i = by (nat_lt (places + i) (length row))
    where
      by : (test : Bool) → bit_in trees (cond test (row_bit row (places + i)) (row_bit row (length row - 1)))
          ≡ cond test (bits_in trees row (places + i)) (bits_in trees row (length row - 1))
      by true = refl
      by false = refl

  pub joined_is : (rows : List (List Bit)) (ks : List ℕ) (i : ℕ) → bit_in trees (joined_bit rows ks i) ≡ joined_bits (map (λ k. bits_in trees (row_in rows k)) ks) i
  unfolding joined_bit joined_bits
  joined_is rows [] i = refl
  joined_is rows (k ∷ rest) i = by (nat_lt i 8) (joined_is rows rest (i - 8))
    where
      by : (test : Bool) → bit_in trees (joined_bit rows rest (i - 8)) ≡ joined_bits (map (λ j. bits_in trees (row_in rows j)) rest) (i - 8)
          → bit_in trees (cond test (row_bit (row_in rows k) i) (joined_bit rows rest (i - 8)))
          ≡ cond test (bits_in trees (row_in rows k) i) (joined_bits (map (λ j. bits_in trees (row_in rows j)) rest) (i - 8))
      by true later = refl
      by false later = later

  -- ---- rows of words

  some_bits : (w : Width) → 0 < bits w
  some_bits W8 = omega arith
  some_bits W16 = omega arith
  some_bits W32 = omega arith
  some_bits W64 = omega arith

  module _ (u : Width) (x : Term) (row : List Bit) (hx : sort_of x ≡ Some (sort.Word u)) (is : IsRow trees x row) where
    pub row_long : length row ≡ bits (width_of x)
    row_long = is.long u hx ∙ ap bits (sym (width_is x u hx))

    pub row_same : SameBelow (bits (width_of x)) (bits_in trees row) (bits_of x)
    row_same i less = is.each u hx i (subst (λ w. i < bits w) (width_is x u hx) less)

    pub up_row : (places i : ℕ) → i < bits (width_of x) → bit_in trees (shifted_bit Up row places i) ≡ moved_up places (bits_of x) i
    up_row places i less = up_is row places i ∙ up_same (bits (width_of x)) places (bits_in trees row) (bits_of x) row_same i less

    pub down_row : (places i : ℕ) → bit_in trees (shifted_bit Down row places i) ≡ moved_down (bits (width_of x)) places (bits_of x) i
    down_row places i =
        down_is row places i ∙ ap (λ n. moved_down n places (bits_in trees row) i) row_long
        ∙ down_same (bits (width_of x)) places (bits_in trees row) (bits_of x) row_same i

    pub signed_row : (places i : ℕ) → bit_in trees (shifted_bit DownSigned row places i) ≡ moved_with_sign (bits (width_of x)) places (bits_of x) i
    signed_row places i =
        signed_is row places i ∙ ap (λ n. moved_with_sign n places (bits_in trees row) i) row_long
        ∙ signed_same (bits (width_of x)) places (bits_in trees row) (bits_of x) (some_bits (width_of x)) row_same i

    -- a place of the word itself
    pub inside_row : (places i : ℕ) → places + i < bits (width_of x) → bit_in trees (shifted_bit Down row places i) ≡ bits_of x (places + i)
    inside_row places i less = down_row places i ∙ down_inside (bits (width_of x)) places (bits_of x) i less

  -- rows of bytes
  abbrev pub AreRowsOf : List (List Bit) → List Term → List ℕ → Type 0
  AreRowsOf rows [] ks = Unit {0}
  AreRowsOf rows (t ∷ rest) [] = true ≡ false
  AreRowsOf rows (t ∷ rest) (k ∷ ks) = IsRow trees t (row_in rows k) × AreRowsOf rows rest ks

  pub bytes_same : (rows : List (List Bit)) (parts : List Term) (ks : List ℕ) → AllBytes parts → AreRowsOf rows parts ks → (i : ℕ) → i < 8 * length parts
      → joined_bits (map (λ k. bits_in trees (row_in rows k)) ks) i ≡ joined_bits (map bits_of parts) i
  unfolding joined_bits
  bytes_same rows [] ks all are i less = absurd (omega (arith, less))
  bytes_same rows (t ∷ rest) [] all are i less = absurd (cc (are))
  bytes_same rows (t ∷ rest) (k ∷ ks) all are i less = by (nat_lt i 8) refl (bytes_same rows rest ks all.1 are.1 (i - 8))
    where
      more : 8 * length (t ∷ rest) ≡ 8 * length rest + 8
      more = omega arith

      by : (test : Bool) → nat_lt i 8 ≡ test
          → (i - 8 < 8 * length rest → joined_bits (map (λ j. bits_in trees (row_in rows j)) ks) (i - 8) ≡ joined_bits (map bits_of rest) (i - 8))
          → cond test (bits_in trees (row_in rows k) i) (joined_bits (map (λ j. bits_in trees (row_in rows j)) ks) (i - 8))
          ≡ cond test (bits_of t i) (joined_bits (map bits_of rest) (i - 8))
      by true e later = are.0.each W8 all.0 i (ltb-true i 8 e)
      by false e later = let above = ltb-false i 8 e in later (omega (arith, less, more, above))
