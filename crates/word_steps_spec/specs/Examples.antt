-- Blocks of word steps, and pairs of terms for the rules, worked by hand.
use Rattle.std.specs.Prelude.{◌≡◌, ℕ, ◌*◌, ◌==◌, Bool, true, false, if◌then◌else◌, List, [], ◌∷◌, replicate, Option, Some, None}
use Rattle.term_core_spec.specs.declared.Width.TheVariants.{W8, W16, W32, W64}
use Rattle.term_core_spec.specs.declared.Sort.TheVariants.{Truth, Word}
use Rattle.term_core_spec.specs.declared.Atom.{Atom}
use Rattle.term_core_spec.specs.declared.Atom.TheVariants as atom
use Rattle.term_core_spec.specs.declared.Family.TheVariants.{Register, IsSet}
use Rattle.term_core_spec.specs.declared.BinaryOperator.TheVariants as binary
use Rattle.term_core_spec.specs.declared.WordOperator.TheVariants as word
use Rattle.term_core_spec.specs.Term.{Term, truth, constant, open_term, not_term, and_term, or_term, choose, complement, zero_extend, sign_extend, low, byte, equal, less, add, subtract, multiply, bit_and, bit_or, bit_xor, shift_left, shift_right, shift_right_signed, divide, remainder, join_four}
use Rattle.word_steps_spec.specs.Numbers.{Alone, Two, Fact}
use Rattle.word_steps_spec.specs.Lines.{Line, MergeRule, Same, Ring, DecisionRule, RingOf, Next, Argument, Parts, Renew, RenewAll, MergeBy, DecideBy, Keep, Case, Block, merges_by, decided_by, goals_after}
use Rattle.word_steps_spec.specs.Zones.{says_zone}

abbrev pub register : ℕ → Term
register i = open_term (record { family = Register; index = i; instance = 0; sort = Word W32 })

abbrev pub five : Term
five = constant W32 5

-- ---- a block that closes its goal

-- `or (not (eq x 5)) (eq (sub (add x y) y) 5)`. Its subterms in post-order: 1 is x, 2 is 5, 3 is `eq x 5`, 4 is `not`,
-- 5 is y, 6 is the sum, 7 the difference, 8 the second `eq`, 9 the goal
abbrev pub goal : Term
goal = or_term (not_term (equal (register 1) five)) (equal (subtract (add (register 1) (register 2)) (register 2)) five)

abbrev pub is_true : ℕ → Fact
is_true k = record { number = k; holds = true }

abbrev pub is_false : ℕ → Fact
is_false k = record { number = k; holds = false }

-- both sides of the `or` are false, so `eq x 5` is true; the difference is x, and x is 5; what is left is the second `eq`
abbrev pub block : Block
block = record {
  lines =
      Parts (is_false 9)
      ∷ Argument (is_false 4) 1
      ∷ MergeBy Ring 7 1 []
      ∷ MergeBy Same 1 2 (record { fact = is_true 3; as_made = true } ∷ [])
      ∷ Renew 7
      ∷ [];
  end = Keep (record { fact = is_false 8; as_made = false } ∷ []);
}

-- ---- a block that takes its goal apart

-- a truth value
abbrev pub flag : Term
flag = open_term (record { family = IsSet; index = 1; instance = 0; sort = Truth })

-- `ite flag (not (eq (add x x) (add (mul x 2) 1))) (not flag)`. 1 is the flag, 2 is x, 3 is `add x x`, 4 is 2, 5 is
-- `mul x 2`, 6 is 1, 7 the sum, 8 the `eq`, 9 and 10 the `not` of 8 and 1, 11 the goal
abbrev pub split_goal : Term
split_goal =
    choose flag
    (not_term (equal (add (register 1) (register 1)) (add (multiply (register 1) (constant W32 2)) (constant W32 1))))
    (not_term flag)

-- 12 is the `eq` turned round, of the same difference, which is 1; so both are false. All numbers are renewed, and the
-- goal is taken apart by the flag
abbrev pub split_block : Block
split_block = record {
  lines =
      Next (Two binary.Equal 7 3)
      ∷ MergeBy Ring 8 12 []
      ∷ DecideBy RingOf 12 []
      ∷ RenewAll
      ∷ [];
  end = Case (record { fact = is_false 11; as_made = false } ∷ []) 1;
}

-- what is left where the flag is true, and where it is false
abbrev pub case_goal : Bool → Term
case_goal b = not_term (and_term (not_term (choose flag (truth true) (not_term flag))) (if b then flag else not_term flag))

-- of each, 7 is the goal, 6 the `and`, 5 and 4 the first `not` and its `ite`, 3 is `not flag`, 1 the flag
abbrev pub true_block : Block
true_block = record {
  lines = Argument (is_false 7) 1 ∷ Parts (is_true 6) ∷ Argument (is_true 5) 1 ∷ [];
  end = Keep (record { fact = is_false 4; as_made = false } ∷ []);
}

abbrev pub false_block : Block
false_block = record {
  lines = Argument (is_false 7) 1 ∷ Parts (is_true 6) ∷ Parts (is_true 3) ∷ Parts (is_true 5) ∷ [];
  end = Keep (record { fact = is_false 4; as_made = false } ∷ []);
}

-- what is left of a goal after a block
abbrev pub Leaves : Term → Block → List Term → Type 0
Leaves t block goals = goals_after [] t block ≡ Some goals

-- ---- blocks that are refused

abbrev pub keeps : Fact → List Line → Block
keeps f lines = record { lines = lines; end = Keep (record { fact = f; as_made = false } ∷ []) }

-- a merge of two sorts, a fact that is none, a number that isn't there, a fact before it is one, a new variable, a sum of a word and a
-- truth value, all numbers renewed once too often; and a fact to be kept that is none
abbrev pub no_blocks : List Block
no_blocks =
    keeps (is_false 9) (MergeBy Ring 1 3 [] ∷ [])
    ∷ keeps (is_false 9) (Argument (is_true 4) 1 ∷ [])
    ∷ keeps (is_false 9) (Renew 10 ∷ [])
    ∷ keeps (is_false 9) (MergeBy Same 1 2 (record { fact = is_true 3; as_made = true } ∷ []) ∷ [])
    ∷ keeps (is_false 9) (Next (Alone (atom.Open (record { family = Register; index = 1; instance = 0; sort = Word W32 }))) ∷ [])
    ∷ keeps (is_false 9) (Next (Two (binary.Word word.Add) 1 3) ∷ [])
    ∷ keeps (is_false 9) (replicate 17 RenewAll)
    ∷ keeps (is_true 9) []
    ∷ []

abbrev pub AreRefused : Term → List Block → Type 0
AreRefused t [] = Unit {0}
AreRefused t (block ∷ rest) = (goals_after [] t block ≡ None) × AreRefused t rest

-- what holds in one case is no fact in the other: the flag where it is false, and its opposite where it is true
abbrev pub in_false_case : Block
in_false_case = keeps (is_true 1) (Argument (is_false 7) 1 ∷ Parts (is_true 6) ∷ Parts (is_true 3) ∷ [])

abbrev pub in_true_case : Block
in_true_case = keeps (is_true 3) (Argument (is_false 7) 1 ∷ Parts (is_true 6) ∷ [])

-- ---- rules on pairs of terms

pub record Pair : Type 0 where
  pub first : Term
  pub second : Term

infixl 90 ◌~◌
abbrev pub ◌~◌ : Term → Term → Pair
t ~ u = record { first = t; second = u }

-- the rule accepts each pair, or refuses each
abbrev pub Accepts : MergeRule → Bool → List Pair → Type 0
Accepts rule test [] = Unit {0}
Accepts rule test (pair ∷ rest) = (merges_by rule [] pair.first pair.second ≡ test) × Accepts rule test rest

abbrev pub x : Term
x = register 1

abbrev pub y : Term
y = register 2

abbrev pub number : ℕ → Term
number n = constant W32 n

-- `ring`: products turned round and multiplied out, `bnot`, shifts, the top bit, remainders, low parts, `eq` of opposite
-- differences, and a coefficient that is 0 modulo 2^32
abbrev pub alike : List Pair
alike =
    multiply (add x y) (subtract x y) ~ subtract (multiply x x) (multiply y y)
    ∷ complement x ~ subtract (number 4294967295) x
    ∷ shift_left x (number 3) ~ multiply x (number 8)
    ∷ bit_xor x (number 2147483648) ~ subtract x (number 2147483648)
    ∷ add (remainder x y) (multiply y (divide x y)) ~ x
    ∷ low W8 (add x y) ~ add (byte 0 y) (low W8 x)
    ∷ equal x (add y (number 7)) ~ equal (subtract y x) (number 4294967289)
    ∷ multiply (multiply x (number 2147483648)) (number 2) ~ number 0
    ∷ []

-- near misses: another coefficient, a shift by a word, another bit, another divisor, another byte, another constant
abbrev pub unlike : List Pair
unlike =
    multiply (add x y) (subtract x y) ~ add (multiply x x) (multiply y y)
    ∷ complement x ~ subtract (number 0) x
    ∷ shift_left x (number 3) ~ multiply x (number 4)
    ∷ shift_left x y ~ multiply x y
    ∷ bit_xor x (number 1073741824) ~ add x (number 1073741824)
    ∷ add (remainder x y) (multiply y (divide x (number 3))) ~ x
    ∷ low W8 (add x y) ~ add (byte 1 y) (low W8 x)
    ∷ equal x (add y (number 7)) ~ equal (subtract y x) (number 7)
    ∷ low W16 x ~ x
    ∷ multiply (multiply x (number 1073741824)) (number 2) ~ number 0
    ∷ []

abbrev pub z : Term
z = register 3

-- another truth value
abbrev pub other : Term
other = open_term (record { family = IsSet; index = 2; instance = 0; sort = Truth })

-- `comm`: arguments of nested operators in another order, also each as often; of `eq` those of truth values, and both sides
abbrev pub ordered : List Pair
ordered =
    multiply (multiply x y) z ~ multiply z (multiply y x)
    ∷ bit_and (bit_and x y) (bit_and z x) ~ bit_and x (bit_and x (bit_and y z))
    ∷ bit_or (add x y) (bit_or y x) ~ bit_or x (bit_or y (add x y))
    ∷ bit_xor (bit_xor x y) z ~ bit_xor y (bit_xor z x)
    ∷ equal x y ~ equal y x
    ∷ equal (equal flag other) (equal x y) ~ equal other (equal (equal x y) flag)
    ∷ and_term (or_term flag other) (equal x y) ~ and_term (equal x y) (or_term flag other)
    ∷ or_term (or_term flag other) (equal x y) ~ or_term other (or_term (equal x y) flag)
    ∷ []

-- near misses: an operator where the order counts, another one of the arguments twice, two operators, nested `eq` of words, an
-- argument that is equal only by the rule itself
abbrev pub unordered : List Pair
unordered =
    subtract x y ~ subtract y x
    ∷ bit_and x (bit_and x y) ~ bit_and y (bit_and x y)
    ∷ multiply (multiply x x) y ~ multiply x (multiply y y)
    ∷ bit_and (bit_or x y) z ~ bit_or (bit_and x y) z
    ∷ equal (equal x y) (equal z five) ~ equal (equal x z) (equal y five)
    ∷ and_term (or_term flag other) (equal x y) ~ and_term (equal x y) (or_term other flag)
    ∷ less x y ~ less y x
    ∷ []

-- ---- `bits`

-- the low byte of a word, as a word
abbrev pub low_byte : Term → Term
low_byte t = zero_extend W32 (low W8 t)

-- bytes that are joined, shifts there and back, a mask, a shift by the width and one by more, sums where nothing is carried, an
-- `ite` of one bit, and `eq` of the same pairs of bits
abbrev pub of_one_list : List Pair
of_one_list =
    join_four (byte 0 x) (byte 1 x) (byte 2 x) (byte 3 x) ~ x
    ∷ shift_right (shift_left x (number 24)) (number 24) ~ low_byte x
    ∷ shift_right_signed (shift_left x (number 24)) (number 24) ~ sign_extend W32 (low W8 x)
    ∷ bit_and x (number 255) ~ low_byte x
    ∷ shift_right x (number 32) ~ number 0
    ∷ shift_right_signed x (number 40) ~ shift_right_signed x (number 31)
    ∷ add (shift_left x (number 8)) (zero_extend W32 (byte 3 x)) ~ bit_or (shift_right x (number 24)) (shift_left x (number 8))
    ∷ bit_xor (bit_and x (number 15)) (low_byte x) ~ bit_and (number 240) (bit_xor (bit_and x (number 15)) (low_byte x))
    ∷ bit_and (number 15) (choose flag (bit_and x (number 15)) (low_byte x)) ~ bit_and x (number 15)
    ∷ equal (low_byte x) (low_byte y) ~ equal (low W8 y) (low W8 x)
    ∷ []

-- near misses: zeros for signs, a shift by less than the width, a carry, another mask, other bytes, an unknown shift, an `ite` of
-- two bits, a bit more on one side
abbrev pub of_two_lists : List Pair
of_two_lists =
    shift_right_signed (shift_left x (number 24)) (number 24) ~ low_byte x
    ∷ shift_right x (number 31) ~ number 0
    ∷ add (shift_left x (number 7)) (zero_extend W32 (byte 3 x)) ~ bit_or (shift_right x (number 24)) (shift_left x (number 7))
    ∷ bit_and x (number 254) ~ low_byte x
    ∷ join_four (byte 1 x) (byte 0 x) (byte 2 x) (byte 3 x) ~ x
    ∷ shift_left x y ~ x
    ∷ choose flag (bit_and x (number 15)) (low_byte x) ~ bit_and x (number 15)
    ∷ equal (low_byte x) (low_byte y) ~ equal (low W16 x) (low W16 y)
    ∷ []

-- spellings of `ult`: below 1, above a constant, and with flipped top bits
abbrev pub top : Term
top = number 2147483648

abbrev pub spelled : List Pair
spelled =
    less x (number 1) ~ equal x (number 0)
    ∷ less (number 7) x ~ not_term (less x (number 8))
    ∷ not_term (less x (number 8)) ~ less (number 7) x
    ∷ less (bit_xor (low_byte x) top) (bit_xor top (low_byte y)) ~ less (low_byte x) (low_byte y)
    ∷ less (bit_xor x top) top ~ not_term (less x top)
    ∷ less (number 2147483647) (bit_xor x top) ~ less x top
    ∷ []

-- near misses: other constants, the greatest one, signs that are unknown, `not` left out
abbrev pub misspelled : List Pair
misspelled =
    less x (number 2) ~ equal x (number 0)
    ∷ less (number 7) x ~ not_term (less x (number 7))
    ∷ less (number 4294967295) x ~ not_term (less x (number 0))
    ∷ less (bit_xor x top) (bit_xor y top) ~ less x y
    ∷ less (bit_xor x top) top ~ less x top
    ∷ less (number 2147483648) (bit_xor x top) ~ less x top
    ∷ []

-- the rule decides each term so
abbrev pub Decides : DecisionRule → List Term → Option Atom → Type 0
Decides rule [] answer = Unit {0}
Decides rule (t ∷ rest) answer = (decided_by rule [] t ≡ answer) × Decides rule rest answer

abbrev pub known_true : List Term
known_true =
    equal (bit_and x (number 255)) (low_byte x)
    ∷ less (low_byte x) (number 256)
    ∷ less (add (remainder x (number 10)) (number 2)) (number 12)
    ∷ less (choose flag (number 3) (number 7)) (number 8)
    ∷ []

-- the lowest bit of one side is 1, of the other 0; a byte has no ninth bit; other bounds
abbrev pub known_false : List Term
known_false =
    equal (bit_or x (number 1)) (bit_and y (number 254))
    ∷ equal (number 256) (low_byte x)
    ∷ equal (add (remainder x (number 10)) (number 100)) (number 50)
    ∷ less (number 255) (low_byte x)
    ∷ less (number 268435455) (divide x (number 16))
    ∷ []

abbrev pub unknown : List Term
unknown =
    equal (bit_or x (number 1)) (bit_or y (number 1))
    ∷ equal (number 255) (low_byte x)
    ∷ less (low_byte x) (number 255)
    ∷ less (remainder x y) (number 10)
    ∷ less (add (low_byte x) y) y
    ∷ less (subtract (low_byte x) (number 1)) (number 256)
    ∷ x
    ∷ []

-- ---- choices in `ring`

-- sums and products of an `ite`, the opposite condition, one condition twice, `and`, `or` and `eq` of conditions, low bits,
-- and all bits flipped that a word may have
abbrev pub choices : List Pair
choices =
    choose flag (add x (number 1)) x ~ add x (choose flag (number 1) (number 0))
    ∷ multiply (choose flag (number 2) (number 3)) x ~ choose flag (multiply x (number 2)) (multiply x (number 3))
    ∷ choose (not_term flag) x y ~ choose flag y x
    ∷ choose flag (choose flag x y) z ~ choose flag x z
    ∷ choose (and_term flag other) x y ~ choose flag (choose other x y) y
    ∷ choose (or_term flag other) x y ~ choose flag x (choose other x y)
    ∷ choose (equal flag other) x y ~ choose flag (choose other x y) (choose other y x)
    ∷ low W16 (choose flag x y) ~ choose flag (low W16 x) (low W16 y)
    ∷ bit_xor (low_byte x) (number 255) ~ subtract (number 255) (low_byte x)
    ∷ bit_xor (number 4294967295) x ~ subtract (number 4294967295) x
    ∷ []

-- near misses: the words or the condition exchanged, `and` for `or`, an `eq` of words that would say which, bytes,
-- and a mask that is too short
abbrev pub other_choices : List Pair
other_choices =
    choose flag x y ~ choose flag y x
    ∷ choose flag x y ~ choose other x y
    ∷ choose (and_term flag other) x y ~ choose (or_term flag other) x y
    ∷ choose (equal flag other) x y ~ choose flag (choose other x y) (choose other x y)
    ∷ choose (equal x y) x y ~ y
    ∷ choose (not_term flag) (low W8 x) (low W8 y) ~ choose flag (low W8 y) (low W8 x)
    ∷ bit_xor (low_byte x) (number 127) ~ subtract (number 127) (low_byte x)
    ∷ bit_xor x (number 255) ~ subtract (number 255) x
    ∷ []

-- ---- rules with facts

-- a term, and facts that are given
pub record Given : Type 0 where
  pub facts : List Term
  pub term : Term

infixl 90 ◌⊢◌
abbrev pub ◌⊢◌ : List Term → Term → Given
facts ⊢ t = record { facts = facts; term = t }

-- the rule decides each term so
abbrev pub DecidesWith : DecisionRule → List Given → Option Atom → Type 0
DecidesWith rule [] answer = Unit {0}
DecidesWith rule (given ∷ rest) answer = (decided_by rule given.facts given.term ≡ answer) × DecidesWith rule rest answer

-- ---- `low`

-- the low bits of a word under a mask are those of n
abbrev pub masked : Term → ℕ → ℕ → Term
masked t mask n = equal (bit_and t (number mask)) (number n)

abbrev pub aligned : Term → Term
aligned t = masked t 3 0

-- coefficients alone, own bits, two aligned words, a word with a constant, a multiple of an aligned word, and low bits of a sum
abbrev pub low_bits_differ : List Given
low_bits_differ =
    [] ⊢ equal (add (multiply x (number 4)) (number 1)) (multiply y (number 2))
    ∷ [] ⊢ equal (bit_and x (number 240)) (add (multiply y (number 16)) (number 8))
    ∷ (aligned x ∷ aligned y ∷ []) ⊢ equal (add x (number 6)) y
    ∷ (aligned (add x (number 1)) ∷ []) ⊢ equal (add x (number 2)) (multiply y (number 4))
    ∷ (aligned x ∷ []) ⊢ equal (multiply x (number 2)) (add (multiply y (number 8)) (number 4))
    ∷ (masked (add x y) 7 5 ∷ []) ⊢ equal (add x y) (number 4)
    ∷ []

-- near misses: one of both words isn't aligned, no bit is left, one bit too many, no mask of low bits, the opposite of a fact,
-- another width, and no `eq`
abbrev pub low_bits_agree : List Given
low_bits_agree =
    (aligned x ∷ []) ⊢ equal (add x (number 6)) y
    ∷ (aligned x ∷ aligned y ∷ []) ⊢ equal (add x (number 4)) y
    ∷ (aligned x ∷ []) ⊢ equal (multiply x (number 2)) (add (multiply y (number 16)) (number 8))
    ∷ (masked x 6 0 ∷ []) ⊢ equal (add x (number 1)) (multiply y (number 4))
    ∷ (not_term (aligned x) ∷ []) ⊢ equal (add x (number 1)) (multiply y (number 4))
    ∷ (equal (bit_and (low W16 x) (constant W16 3)) (constant W16 0) ∷ []) ⊢ equal (add x (number 1)) (multiply y (number 4))
    ∷ (aligned x ∷ []) ⊢ less (add x (number 1)) (multiply y (number 4))
    ∷ []

-- ---- `range`

-- ranges within ranges, also behind the wrap and of opposite forms; `and` and `or`; two words of one form; a single atom by its
-- bounds, and a truth value
abbrev pub in_range : List Given
in_range =
    (less x (number 10) ∷ []) ⊢ less x (number 20)
    ∷ (less (subtract x (number 4)) (number 8) ∷ []) ⊢ less x (number 12)
    ∷ (less (number 3) x ∷ []) ⊢ not_term (equal x (number 2))
    ∷ (and_term (not_term (less x (number 3))) (less x (number 10)) ∷ []) ⊢ less (subtract x (number 3)) (number 7)
    ∷ (or_term (less x (number 3)) (equal x (number 3)) ∷ []) ⊢ less x (number 4)
    ∷ (less (subtract x y) (number 10) ∷ []) ⊢ less (subtract y (subtract x (number 9))) (subtract y (add x (number 1)))
    ∷ (less x (number 100) ∷ []) ⊢ less (add x (number 1)) (add x (number 5))
    ∷ [] ⊢ less (add (low_byte x) (number 7)) (number 263)
    ∷ [] ⊢ less (choose flag (number 1) (number 0)) (number 2)
    ∷ []

abbrev pub out_of_range : List Given
out_of_range =
    (less x (number 10) ∷ []) ⊢ less (number 9) x
    ∷ (less (subtract x y) (number 10) ∷ []) ⊢ equal (subtract y x) (number 5)
    ∷ (equal x (number 7) ∷ []) ⊢ less x (number 7)
    ∷ [] ⊢ less (number 255) (low_byte x)
    ∷ []

-- near misses: one number more, another word, sums and differences that wrap, `ult` of one word and itself, ranges that neither
-- meet nor touch, another bound, two facts, and a constant
abbrev pub across_ranges : List Given
across_ranges =
    (less x (number 10) ∷ []) ⊢ less x (number 9)
    ∷ (less x (number 10) ∷ []) ⊢ less y (number 20)
    ∷ (less x (number 4294967295) ∷ []) ⊢ less (add x (number 1)) (add x (number 2))
    ∷ (less x (number 10) ∷ []) ⊢ less (subtract x (number 1)) (number 9)
    ∷ (less x (number 10) ∷ []) ⊢ less x x
    ∷ (or_term (less x (number 3)) (equal x (number 5)) ∷ []) ⊢ less x (number 10)
    ∷ [] ⊢ less (low_byte x) (number 255)
    ∷ (less x (number 10) ∷ less x (number 10) ∷ []) ⊢ less x (number 20)
    ∷ (less x (number 10) ∷ []) ⊢ less (number 3) (number 4)
    ∷ []

-- ---- `zone`

abbrev pub SaysZone : Bool → List Given → Type 0
SaysZone test [] = Unit {0}
SaysZone test (given ∷ rest) = (says_zone given.facts given.term ≡ test) × SaysZone test rest

-- four bytes from a on are outside the 100 from b on
abbrev pub apart : (a b : Term) → Term
apart a b = or_term (less (add a (number 3)) b) (not_term (less a (add b (number 100))))

-- 100 can be added to y
abbrev pub low_y : Term
low_y = less y (number 4294967196)

-- x isn't in the 100 bytes from y on
abbrev pub far_from_y : Term
far_from_y = not_term (less (subtract x y) (number 100))

-- of words, also with the other facts in another order; the whole zone; of one byte; of constants, with the `or` turned round; and
-- of an `and` that is false
abbrev pub zones : List Given
zones =
    (apart x y ∷ low_y ∷ aligned x ∷ []) ⊢ far_from_y
    ∷ (apart x y ∷ aligned x ∷ low_y ∷ []) ⊢ not_term (equal x (add y (number 50)))
    ∷ (apart x y ∷ low_y ∷ aligned x ∷ []) ⊢ less (subtract x (add y (number 100))) (number 4294967193)
    ∷ (or_term (less x y) (not_term (less x (add y (number 100)))) ∷ low_y ∷ []) ⊢ far_from_y
    ∷ (or_term (not_term (less x (number 65636))) (less (add x (number 3)) (number 65536)) ∷ aligned x ∷ []) ⊢ not_term (equal x (number 65600))
    ∷ (not_term (and_term (not_term (less (add x (number 3)) y)) (less x (add y (number 100)))) ∷ low_y ∷ aligned x ∷ []) ⊢ far_from_y
    ∷ []

-- near misses: without the alignment or the bound, or with less of them; more than the zone, on either side; `ult` on both sides,
-- an `and`, and another word
abbrev pub no_zones : List Given
no_zones =
    (apart x y ∷ low_y ∷ []) ⊢ far_from_y
    ∷ (apart x y ∷ aligned x ∷ []) ⊢ far_from_y
    ∷ (apart x y ∷ low_y ∷ masked x 1 0 ∷ []) ⊢ far_from_y
    ∷ (apart x y ∷ less y (number 4294967197) ∷ aligned x ∷ []) ⊢ far_from_y
    ∷ (apart x y ∷ low_y ∷ aligned x ∷ []) ⊢ not_term (less (subtract x y) (number 101))
    ∷ (apart x y ∷ low_y ∷ aligned x ∷ []) ⊢ less (subtract x (add y (number 100))) (number 4294967192)
    ∷ (or_term (less (add x (number 3)) y) (less x (add y (number 100))) ∷ low_y ∷ aligned x ∷ []) ⊢ far_from_y
    ∷ (and_term (less (add x (number 3)) y) (not_term (less x (add y (number 100)))) ∷ low_y ∷ aligned x ∷ []) ⊢ far_from_y
    ∷ (apart z y ∷ low_y ∷ aligned z ∷ []) ⊢ far_from_y
    ∷ []

-- ---- `within`

-- x is in the 100 bytes from y on, and its opposite
abbrev pub near_y : Term
near_y = and_term (not_term (less x y)) (less x (add y (number 100)))

abbrev pub not_near_y : Term
not_near_y = or_term (less x y) (not_term (less x (add y (number 100))))

abbrev pub within_window : List Given
within_window =
    (low_y ∷ less (subtract x y) (number 100) ∷ []) ⊢ near_y
    ∷ (low_y ∷ far_from_y ∷ []) ⊢ not_near_y
    ∷ (less (subtract x (number 16)) (number 8) ∷ []) ⊢ and_term (less x (number 32)) (not_term (less x (number 16)))
    ∷ []

abbrev pub outside_window : List Given
outside_window =
    (low_y ∷ equal (subtract x y) (number 100) ∷ []) ⊢ near_y
    ∷ (low_y ∷ less (subtract x y) (number 50) ∷ []) ⊢ not_near_y
    ∷ []

-- near misses: no bound, or one more; a range of one more; two words, and both orders exchanged
abbrev pub across_window : List Given
across_window =
    (less (subtract x y) (number 100) ∷ []) ⊢ near_y
    ∷ (less y (number 4294967197) ∷ less (subtract x y) (number 100) ∷ []) ⊢ near_y
    ∷ (low_y ∷ less (subtract x y) (number 101) ∷ []) ⊢ near_y
    ∷ (low_y ∷ less (subtract x y) (number 100) ∷ []) ⊢ and_term (not_term (less x y)) (less z (add y (number 100)))
    ∷ (low_y ∷ less (subtract x y) (number 100) ∷ []) ⊢ and_term (less x y) (not_term (less x (add y (number 100))))
    ∷ []

-- ---- `quot`

-- two terms, and facts that are given
pub record Claim : Type 0 where
  pub facts : List Term
  pub pair : Pair

abbrev pub where_true : List Term → Pair → Claim
where_true facts pair = record { facts = facts; pair = pair }

abbrev pub AcceptsWith : MergeRule → Bool → List Claim → Type 0
AcceptsWith rule test [] = Unit {0}
AcceptsWith rule test (claim ∷ rest) = (merges_by rule claim.facts claim.pair.first claim.pair.second ≡ test) × AcceptsWith rule test rest

abbrev pub wide_product : Term → ℕ → Term
wide_product t c = multiply (zero_extend W64 t) (constant W64 c)

-- the upper half of a product of 64 bits
abbrev pub upper_product : Term → ℕ → Term
upper_product t c = join_four (byte 4 (wide_product t c)) (byte 5 (wide_product t c)) (byte 6 (wide_product t c)) (byte 7 (wide_product t c))

abbrev pub seventh : Term → Term
seventh t = shift_right (add (shift_right (subtract t (upper_product t 613566757)) (number 1)) (upper_product t 613566757)) (number 2)

-- y turned down by k places
abbrev pub turn : Term → ℕ → ℕ → Term
turn t k j = bit_or (shift_right t (number k)) (shift_left t (number j))

-- by 10, by 7 with a multiplier of 33 bits, of a byte, of a word that a fact bounds, by 16, by 14 with a shift before; two divisions;
-- by 8 the rest; whether 3 and 6 divide a word
abbrev pub quotients : List Claim
quotients =
    where_true [] (shift_right (upper_product x 3435973837) (number 3) ~ divide x (number 10))
    ∷ where_true [] (divide x (number 7) ~ seventh x)
    ∷ where_true [] (shift_right (multiply (low_byte x) (number 205)) (number 11) ~ divide (low_byte x) (number 10))
    ∷ where_true (less x (number 16384) ∷ []) (shift_right (multiply x (number 6554)) (number 16) ~ divide x (number 10))
    ∷ where_true [] (shift_right x (number 4) ~ divide x (number 16))
    ∷ where_true [] (shift_right (upper_product (shift_right x (number 1)) 2454267027) (number 2) ~ divide x (number 14))
    ∷ where_true [] (divide (divide x (number 3)) (number 5) ~ divide x (number 15))
    ∷ where_true [] (bit_and x (number 7) ~ remainder x (number 8))
    ∷ where_true [] (less (multiply x (number 2863311531)) (number 1431655766) ~ equal (remainder x (number 3)) (number 0))
    ∷ where_true [] (less (turn (multiply x (number 2863311531)) 1 31) (number 715827883) ~ equal (remainder x (number 6)) (number 0))
    ∷ []

-- near misses: another divisor, a multiplier that is too small, no bound, a bound that is one too great, another word; a product that
-- isn't the divisor; another mask; a limit one too great and one too small, and another turn
abbrev pub other_quotients : List Claim
other_quotients =
    where_true [] (shift_right (upper_product x 3435973837) (number 3) ~ divide x (number 11))
    ∷ where_true [] (shift_right (upper_product x 3435973836) (number 3) ~ divide x (number 10))
    ∷ where_true [] (shift_right (multiply x (number 205)) (number 11) ~ divide x (number 10))
    ∷ where_true (less x (number 16385) ∷ []) (shift_right (multiply x (number 6554)) (number 16) ~ divide x (number 10))
    ∷ where_true [] (shift_right (upper_product y 3435973837) (number 3) ~ divide x (number 10))
    ∷ where_true [] (divide (divide x (number 3)) (number 5) ~ divide x (number 8))
    ∷ where_true [] (divide (divide x (number 0)) (number 5) ~ divide x (number 0))
    ∷ where_true [] (bit_and x (number 6) ~ remainder x (number 7))
    ∷ where_true [] (less (multiply x (number 2863311531)) (number 1431655767) ~ equal (remainder x (number 3)) (number 0))
    ∷ where_true [] (less (multiply x (number 2863311531)) (number 1431655765) ~ equal (remainder x (number 3)) (number 0))
    ∷ where_true [] (less (turn (multiply x (number 2863311531)) 2 30) (number 715827883) ~ equal (remainder x (number 6)) (number 0))
    ∷ []

-- `quot` of words with a sign: what C means by a quotient

abbrev pub quotient_in_c : Term → ℕ → Term
quotient_in_c t d =
    choose (less t top) (divide (choose (less t top) t (subtract (number 0) t)) (number d))
    (subtract (number 0) (divide (choose (less t top) t (subtract (number 0) t)) (number d)))

abbrev pub signed_wide : Term → ℕ → Term
signed_wide t c = multiply (sign_extend W64 t) (constant W64 c)

-- the upper half of a product of 64 bits, with signs
abbrev pub signed_upper : Term → ℕ → Term
signed_upper t c = join_four (byte 4 (signed_wide t c)) (byte 5 (signed_wide t c)) (byte 6 (signed_wide t c)) (byte 7 (signed_wide t c))

abbrev pub tenth : Term → Term
tenth t = shift_right_signed (signed_upper t 1717986919) (number 2)

-- the sum with a factor below 0
abbrev pub signed_seventh : Term → Term
signed_seventh t = shift_right_signed (add (signed_upper t 18446744071868851347) t) (number 2)

-- x is from -n to n - 1
abbrev pub at_most_far : ℕ → Term
at_most_far n = less (add x (number n)) (number (2 * n))

-- the word added to a product, and to a product moved down
abbrev pub raised_third : Term → Term
raised_third t = shift_right_signed (add (signed_upper t 1431655766) t) (number 2)

abbrev pub later_third : Term → Term
later_third t = shift_right_signed (add t (shift_right_signed (signed_upper t 2863311531) (number 1))) (number 2)

abbrev pub less_its_signs : Term → Term
less_its_signs t = subtract t (shift_right_signed x (number 31))

-- by 10 less the signs of the word, by 5, by 7 with its sign, and with that of the floor; by 10 and by 3 for words that a fact bounds
abbrev pub signed_quotients : List Claim
signed_quotients =
    where_true [] (subtract (tenth x) (shift_right_signed x (number 31)) ~ quotient_in_c x 10)
    ∷ where_true [] (quotient_in_c x 5 ~ subtract (shift_right_signed (signed_upper x 1717986919) (number 1)) (shift_right_signed x (number 31)))
    ∷ where_true [] (add (signed_seventh x) (shift_right x (number 31)) ~ quotient_in_c x 7)
    ∷ where_true [] (add (shift_right (signed_seventh x) (number 31)) (signed_seventh x) ~ quotient_in_c x 7)
    ∷ where_true (at_most_far 1073741824 ∷ []) (less_its_signs (signed_upper x 429496730) ~ quotient_in_c x 10)
    ∷ where_true (at_most_far 1073741824 ∷ []) (less_its_signs (raised_third x) ~ quotient_in_c x 3)
    ∷ where_true (at_most_far 1073741824 ∷ []) (quotient_in_c x 3 ~ less_its_signs (later_third x))
    ∷ []

-- near misses: another divisor, the sign left out, of another word or a bit too low, a product without signs, a factor that is a
-- little too great, the sign of a product with a factor below 0; a bound that is one too great, and sums that may wrap round
abbrev pub other_signed_quotients : List Claim
other_signed_quotients =
    where_true [] (subtract (tenth x) (shift_right_signed x (number 31)) ~ quotient_in_c x 11)
    ∷ where_true [] (tenth x ~ quotient_in_c x 10)
    ∷ where_true [] (subtract (tenth x) (shift_right_signed y (number 31)) ~ quotient_in_c x 10)
    ∷ where_true [] (subtract (tenth x) (shift_right_signed x (number 30)) ~ quotient_in_c x 10)
    ∷ where_true [] (subtract (shift_right_signed (upper_product x 1717986919) (number 2)) (shift_right_signed x (number 31)) ~ quotient_in_c x 10)
    ∷ where_true [] (subtract (shift_right_signed (signed_upper x 1717986920) (number 2)) (shift_right_signed x (number 31)) ~ quotient_in_c x 10)
    ∷ where_true [] (subtract (tenth x) (shift_right_signed (signed_upper x 18446744073709551615) (number 31)) ~ quotient_in_c x 10)
    ∷ where_true (at_most_far 1073741825 ∷ []) (less_its_signs (signed_upper x 429496730) ~ quotient_in_c x 10)
    ∷ where_true [] (less_its_signs (raised_third x) ~ quotient_in_c x 3)
    ∷ where_true [] (quotient_in_c x 3 ~ less_its_signs (later_third x))
    ∷ []

-- `quot` of words with a sign: whether a number divides a word

abbrev pub is_multiple_in_c : Term → ℕ → Term
is_multiple_in_c t d = equal (remainder (choose (less t top) t (subtract (number 0) t)) (number d)) (number 0)

-- a product with a constant added
abbrev pub moved_product : Term → ℕ → ℕ → Term
moved_product t c b = add (multiply t (number c)) (number b)

-- by 3, by 5, and by 10 with a turn
abbrev pub signed_multiples : List Claim
signed_multiples =
    where_true [] (less (moved_product x 2863311531 715827882) (number 1431655765) ~ is_multiple_in_c x 3)
    ∷ where_true [] (is_multiple_in_c x 5 ~ less (moved_product x 3435973837 429496729) (number 858993459))
    ∷ where_true [] (less (turn (moved_product x 3435973837 429496728) 1 31) (number 429496729) ~ is_multiple_in_c x 10)
    ∷ []

-- near misses: a limit that is one too great and one too small, nothing added, too little added, an odd number added before a turn,
-- another turn, another word, and the word without a sign
abbrev pub no_signed_multiples : List Claim
no_signed_multiples =
    where_true [] (less (moved_product x 2863311531 715827882) (number 1431655766) ~ is_multiple_in_c x 3)
    ∷ where_true [] (less (moved_product x 2863311531 715827882) (number 1431655764) ~ is_multiple_in_c x 3)
    ∷ where_true [] (less (multiply x (number 2863311531)) (number 1431655766) ~ is_multiple_in_c x 3)
    ∷ where_true [] (less (moved_product x 2863311531 715827881) (number 1431655765) ~ is_multiple_in_c x 3)
    ∷ where_true [] (less (turn (moved_product x 3435973837 429496729) 1 31) (number 429496729) ~ is_multiple_in_c x 10)
    ∷ where_true [] (less (turn (moved_product x 3435973837 429496728) 2 30) (number 429496729) ~ is_multiple_in_c x 10)
    ∷ where_true [] (less (moved_product y 2863311531 715827882) (number 1431655765) ~ is_multiple_in_c x 3)
    ∷ where_true [] (less (moved_product x 2863311531 715827882) (number 1431655765) ~ equal (remainder x (number 3)) (number 0))
    ∷ []

-- ---- `lift`

abbrev pub chosen_bytes : (tests : ℕ → Term) → Term
chosen_bytes test =
    join_four (choose (test 0) (byte 0 x) (byte 0 y)) (choose (test 1) (byte 1 x) (byte 1 y)) (choose (test 2) (byte 2 x) (byte 2 y))
    (choose (test 3) (byte 3 x) (byte 3 y))

abbrev pub bytes_of : Term → Term
bytes_of t = join_four (byte 0 t) (byte 1 t) (byte 2 t) (byte 3 t)

-- out of a join, out of both arms, and out of an `eq` of constants or of opposite words
abbrev pub lifted : List Pair
lifted =
    chosen_bytes (λ i. flag) ~ choose flag (bytes_of x) (bytes_of y)
    ∷ choose flag (choose flag x y) z ~ choose flag x z
    ∷ choose flag x (choose flag y z) ~ choose flag x z
    ∷ equal (choose flag (number 3) (number 7)) (number 3) ~ flag
    ∷ not_term flag ~ equal (choose flag (number 3) (number 7)) (number 7)
    ∷ equal (choose flag (number 3) (number 7)) (number 5) ~ truth false
    ∷ equal (choose flag x (subtract (number 0) x)) (number 0) ~ equal x (number 0)
    ∷ []

-- near misses: another condition in a join or an arm, arms exchanged, one constant twice, `not` left out, a word for a constant,
-- words that aren't opposite, and another constant than 0
abbrev pub not_lifted : List Pair
not_lifted =
    chosen_bytes (λ i. if i == 2 then other else flag) ~ choose flag (bytes_of x) (bytes_of y)
    ∷ chosen_bytes (λ i. flag) ~ choose flag (bytes_of y) (bytes_of x)
    ∷ choose flag (choose other x y) z ~ choose flag x z
    ∷ equal (choose flag (number 3) (number 3)) (number 3) ~ flag
    ∷ equal (choose flag (number 3) (number 7)) (number 7) ~ flag
    ∷ equal (choose flag x (number 7)) (number 7) ~ not_term flag
    ∷ equal (choose flag x (subtract y x)) (number 0) ~ equal x (number 0)
    ∷ equal (choose flag x (subtract (number 0) x)) (number 1) ~ equal x (number 1)
    ∷ []

-- ---- `fit`

abbrev pub low_half : Term → Term
low_half t = low W16 t

abbrev pub signed_byte : Term → Term
signed_byte t = sign_extend W32 (byte 0 t)

-- a word cut to 8 bits by shifts
abbrev pub high_byte : Term → Term
high_byte t = shift_left t (number 24)

-- words that fit 8 bits, with a sign and without; sums and products
abbrev pub fitting : List Claim
fitting =
    where_true (less x (number 128) ∷ []) (signed_byte x ~ x)
    ∷ where_true (less x (number 256) ∷ []) (x ~ zero_extend W32 (byte 0 x))
    ∷ where_true (less x (number 256) ∷ []) (bit_and x (number 255) ~ x)
    ∷ where_true (at_most_far 128 ∷ []) (shift_right_signed (high_byte x) (number 24) ~ x)
    ∷ where_true (less x (number 256) ∷ []) (shift_right (high_byte x) (number 24) ~ x)
    ∷ where_true [] (bit_and (add (low_byte x) (low_byte y)) (number 511) ~ add (low_byte x) (low_byte y))
    ∷ where_true [] (sign_extend W32 (low_half (multiply (signed_byte x) (signed_byte y))) ~ multiply (signed_byte x) (signed_byte y))
    ∷ where_true (less x (number 100) ∷ less y (number 50) ∷ []) (bit_and (choose flag x y) (number 127) ~ choose flag x y)
    ∷ []

-- near misses: bounds that are one too great, a word without a sign for one with, no mask, another shift, a bit too few for a sum and a
-- product, and a fact of one arm alone
abbrev pub not_fitting : List Claim
not_fitting =
    where_true (less x (number 129) ∷ []) (signed_byte x ~ x)
    ∷ where_true (less x (number 257) ∷ []) (x ~ zero_extend W32 (byte 0 x))
    ∷ where_true (less x (number 256) ∷ []) (signed_byte x ~ x)
    ∷ where_true (less x (number 2) ∷ []) (bit_and x (number 254) ~ x)
    ∷ where_true (at_most_far 129 ∷ []) (shift_right_signed (high_byte x) (number 24) ~ x)
    ∷ where_true (less x (number 2) ∷ []) (shift_right (high_byte x) (number 23) ~ x)
    ∷ where_true [] (bit_and (add (low_byte x) (low_byte y)) (number 255) ~ add (low_byte x) (low_byte y))
    ∷ where_true [] (signed_byte (multiply (signed_byte x) (signed_byte y)) ~ multiply (signed_byte x) (signed_byte y))
    ∷ where_true (less x (number 100) ∷ []) (bit_and (choose flag x y) (number 127) ~ choose flag x y)
    ∷ []

-- at least 2
abbrev pub from_two : Term → Term
from_two t = not_term (less t (number 2))

abbrev pub fit_below : List Given
fit_below =
    (less x (number 100) ∷ []) ⊢ less (multiply x x) (number 9802)
    ∷ (less x (number 100) ∷ from_two y ∷ []) ⊢ less (divide x y) (number 50)
    ∷ []

abbrev pub fit_apart : List Given
fit_apart =
    (less x (number 100) ∷ []) ⊢ equal (add (multiply x (number 3)) (number 1)) (number 299)
    ∷ (at_most_far 10 ∷ []) ⊢ equal (multiply x x) (number 101)
    ∷ []

abbrev pub only_zero : List Given
only_zero = (less x (number 1) ∷ []) ⊢ x ∷ []

-- bounds that are one too great, and a divisor that may be 0
abbrev pub fit_unknown : List Given
fit_unknown =
    (less x (number 100) ∷ []) ⊢ less (multiply x x) (number 9801)
    ∷ (less x (number 100) ∷ []) ⊢ less (divide x y) (number 50)
    ∷ (less x (number 100) ∷ []) ⊢ equal (add (multiply x (number 3)) (number 1)) (number 298)
    ∷ (at_most_far 10 ∷ []) ⊢ equal (multiply x x) (number 100)
    ∷ (less x (number 2) ∷ []) ⊢ x
    ∷ []
