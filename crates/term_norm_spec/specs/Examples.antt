-- Terms and their normal forms, worked by hand. The bytes at 100 and 101 are fixed as 7 and 8, and that at 200 as 9.
use Rattle.std.specs.Prelude.{◌≡◌, ℕ, true, false, List, [], ◌∷◌}
use Rattle.term_core_spec.specs.declared.Width.TheVariants.{W8, W16, W32, W64}
use Rattle.term_core_spec.specs.declared.Sort.{Sort}
use Rattle.term_core_spec.specs.declared.Sort.TheVariants.{Truth, Word, Memory}
use Rattle.term_core_spec.specs.declared.Family.{Family}
use Rattle.term_core_spec.specs.declared.Family.TheVariants.{Register, IsSet, SourceMemory, BinaryMemory, LoadedByte}
use Rattle.term_core_spec.specs.Term.{Term, truth, constant, open_term, not_term, complement, zero_extend, sign_extend, low, byte, and_term, or_term, equal, less, add, subtract, multiply, bit_and, bit_or, bit_xor, shift_left, shift_right, shift_right_signed, divide, remainder, load, join_two, join_four, choose, store, over}
use Rattle.memory_spec.specs.Runs.{Run}
use Rattle.term_norm_spec.specs.Normal.{normal}

pub record Example : Type 0 where
  pub term : Term
  pub form : Term

infixl 90 ◌⇒◌
-- a term, and its normal form
abbrev pub ◌⇒◌ : Term → Term → Example
t ⇒ u = record { term = t; form = u }

abbrev pub runs : List Run
runs = record { start = 100; bytes = 7 ∷ 8 ∷ [] } ∷ record { start = 200; bytes = 9 ∷ [] } ∷ []

-- each term has the form
abbrev pub AreNormal : List Example → Type 0
AreNormal [] = Unit {0}
AreNormal (example ∷ rest) = (normal runs example.term ≡ example.form) × AreNormal rest

abbrev pub variable : Family → ℕ → Sort → Term
variable f i s = open_term (record { family = f; index = i; instance = 0; sort = s })

abbrev pub number : ℕ → Term
number n = constant W32 n

abbrev pub ones : Term
ones = number 4294967295

-- words of 32 bits
abbrev pub x : Term
x = variable Register 1 (Word W32)

abbrev pub y : Term
y = variable Register 2 (Word W32)

-- truth values
abbrev pub p : Term
p = variable IsSet 1 Truth

abbrev pub q : Term
q = variable IsSet 2 Truth

-- bytes
abbrev pub a : Term
a = variable LoadedByte 1 (Word W8)

abbrev pub b : Term
b = variable LoadedByte 2 (Word W8)

-- a memory of the source, and one of the binary
abbrev pub m : Term
m = variable SourceMemory 0 Memory

abbrev pub n : Term
n = variable BinaryMemory 0 Memory

abbrev pub constants : List Example
constants =
    add (number 3) (number 4) ⇒ number 7
    ∷ subtract (number 3) (number 4) ⇒ ones
    ∷ not_term (truth true) ⇒ truth false
    ∷ and_term (truth true) (truth false) ⇒ truth false
    ∷ less (number 3) (number 4) ⇒ truth true
    ∷ divide (number 5) (number 0) ⇒ ones
    ∷ remainder (number 5) (number 0) ⇒ number 5
    ∷ join_two (constant W8 1) (constant W8 2) ⇒ constant W16 513
    ∷ byte 1 (constant W16 513) ⇒ constant W8 2
    ∷ sign_extend W32 (constant W8 255) ⇒ ones
    ∷ shift_right_signed (constant W8 128) (constant W8 9) ⇒ constant W8 255
    ∷ []

abbrev pub doubled : List Example
doubled =
    not_term (not_term p) ⇒ p
    ∷ not_term p ⇒ not_term p
    ∷ complement (complement x) ⇒ x
    ∷ complement (complement (complement x)) ⇒ complement x
    ∷ []

abbrev pub absorbed : List Example
absorbed =
    and_term p (truth false) ⇒ truth false
    ∷ and_term (truth true) p ⇒ p
    ∷ and_term p p ⇒ p
    ∷ and_term (not_term p) p ⇒ truth false
    ∷ and_term p q ⇒ and_term p q
    ∷ or_term (truth true) p ⇒ truth true
    ∷ or_term p (truth false) ⇒ p
    ∷ or_term p (not_term p) ⇒ truth true
    ∷ bit_and x (number 0) ⇒ number 0
    ∷ bit_and ones x ⇒ x
    ∷ bit_and x (number 2147483647) ⇒ bit_and x (number 2147483647)
    ∷ bit_and x (complement x) ⇒ number 0
    ∷ bit_or x ones ⇒ ones
    ∷ bit_or (number 0) x ⇒ x
    ∷ bit_or x x ⇒ x
    ∷ bit_or (complement x) x ⇒ ones
    ∷ []

abbrev pub exclusive : List Example
exclusive =
    bit_xor x x ⇒ number 0
    ∷ bit_xor (number 0) x ⇒ x
    ∷ bit_xor x (number 0) ⇒ x
    ∷ bit_xor x ones ⇒ bit_xor x ones
    ∷ []

abbrev pub gathered : List Example
gathered =
    subtract x x ⇒ number 0
    ∷ subtract x (number 1) ⇒ add x ones
    ∷ subtract x (number 0) ⇒ x
    ∷ subtract (number 1) x ⇒ subtract (number 1) x
    ∷ add (number 5) x ⇒ add x (number 5)
    ∷ add x (number 0) ⇒ x
    ∷ add (add x (number 3)) (number 4) ⇒ add x (number 7)
    ∷ add (add x (number 1)) ones ⇒ x
    ∷ add (add x (number 3)) y ⇒ add (add x (number 3)) y
    ∷ add y x ⇒ add y x
    ∷ multiply (number 3) x ⇒ multiply x (number 3)
    ∷ multiply (number 0) x ⇒ number 0
    ∷ multiply x (number 1) ⇒ x
    ∷ multiply x y ⇒ multiply x y
    ∷ []

abbrev pub equalities : List Example
equalities =
    equal x x ⇒ truth true
    ∷ equal p (truth true) ⇒ p
    ∷ equal (truth false) p ⇒ not_term p
    ∷ equal (truth false) (not_term p) ⇒ p
    ∷ equal (add x (number 1)) (add x (number 2)) ⇒ truth false
    ∷ equal x (add x (number 1)) ⇒ truth false
    ∷ equal (add x (number 1)) x ⇒ truth false
    ∷ equal (add x (number 1)) (add (number 1) x) ⇒ truth true
    ∷ equal (add x (number 1)) (add y (number 1)) ⇒ equal (add x (number 1)) (add y (number 1))
    ∷ equal x (number 5) ⇒ equal x (number 5)
    ∷ []

abbrev pub orderings : List Example
orderings =
    less x x ⇒ truth false
    ∷ less x (number 0) ⇒ truth false
    ∷ less (number 0) x ⇒ less (number 0) x
    ∷ []

abbrev pub choices : List Example
choices =
    choose (truth false) x y ⇒ y
    ∷ choose p x x ⇒ x
    ∷ choose p (truth true) (truth false) ⇒ p
    ∷ choose (not_term p) (truth true) (truth false) ⇒ not_term p
    ∷ choose (not_term p) (truth false) (truth true) ⇒ p
    ∷ choose p (truth false) (truth true) ⇒ choose p (truth false) (truth true)
    ∷ choose (not_term p) x y ⇒ choose p y x
    ∷ choose p m m ⇒ m
    ∷ []

abbrev pub resized : List Example
resized =
    shift_left x (number 0) ⇒ x
    ∷ shift_right (number 0) x ⇒ shift_right (number 0) x
    ∷ zero_extend W32 x ⇒ x
    ∷ low W32 x ⇒ x
    ∷ low W8 (zero_extend W32 a) ⇒ a
    ∷ low W8 (sign_extend W64 a) ⇒ a
    ∷ low W16 (zero_extend W32 a) ⇒ low W16 (zero_extend W32 a)
    ∷ join_four (byte 0 x) (byte 1 x) (byte 2 x) (byte 3 x) ⇒ x
    ∷ join_four (byte 0 x) (byte 2 x) (byte 1 x) (byte 3 x) ⇒ join_four (byte 0 x) (byte 2 x) (byte 1 x) (byte 3 x)
    ∷ join_two (byte 0 x) (byte 1 x) ⇒ join_two (byte 0 x) (byte 1 x)
    ∷ byte 1 (join_two a b) ⇒ b
    ∷ byte 0 (join_two a b) ⇒ a
    ∷ []

abbrev pub loads : List Example
loads =
    load (store m x a) y ⇒ choose (equal y x) a (load m y)
    ∷ load (store m x a) x ⇒ a
    ∷ load (store m (number 4) a) (number 8) ⇒ load m (number 8)
    ∷ load (over m n x y) (number 5) ⇒ choose (and_term (not_term (less (number 5) x)) (less (number 5) y)) (load n (number 5)) (load m (number 5))
    ∷ load (over m n (number 4) (number 8)) (number 7) ⇒ load n (number 7)
    ∷ load (over m n (number 4) (number 8)) (number 8) ⇒ load m (number 8)
    ∷ load (choose p m n) x ⇒ choose p (load m x) (load n x)
    ∷ load m (number 100) ⇒ constant W8 7
    ∷ load m (number 101) ⇒ constant W8 8
    ∷ load m (number 102) ⇒ load m (number 102)
    ∷ load m (number 200) ⇒ constant W8 9
    ∷ load m (number 99) ⇒ load m (number 99)
    ∷ load n (number 100) ⇒ load n (number 100)
    ∷ load m x ⇒ load m x
    ∷ []

abbrev pub nested : List Example
nested =
    equal (subtract (add x (number 3)) (number 3)) x ⇒ truth true
    ∷ load (choose (not_term p) m n) (number 100) ⇒ choose p (load n (number 100)) (constant W8 7)
    ∷ load (store (store m (number 4) a) (add x (number 1)) b) (add (number 1) x) ⇒ b
    ∷ load (store (store m x a) (add x (number 1)) b) x ⇒ a
    ∷ equal (load m (number 100)) (constant W8 7) ⇒ truth true
    ∷ choose (less x (number 0)) x (add y (number 0)) ⇒ y
    ∷ add (multiply x (number 0)) y ⇒ y
    ∷ []
