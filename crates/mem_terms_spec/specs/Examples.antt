-- Terms and their flat terms, worked by hand.
use Rattle.std.specs.Prelude.{◌≡◌, ℕ, true, List, [], ◌∷◌}
use Rattle.term_core_spec.specs.declared.Width.TheVariants.{W8, W32}
use Rattle.term_core_spec.specs.declared.Sort.{Sort}
use Rattle.term_core_spec.specs.declared.Sort.TheVariants.{Word, Memory}
use Rattle.term_core_spec.specs.declared.Family.{Family}
use Rattle.term_core_spec.specs.declared.Family.TheVariants.{Register, SourceMemory, BinaryMemory, LoadedByte}
use Rattle.term_core_spec.specs.Term.{Term, truth, constant, open_term, not_term, zero_extend, and_term, or_term, equal, less, add, load}
use Rattle.mem_terms_spec.specs.Flat.{flat_of}

pub record Example : Type 0 where
  pub term : Term
  pub flat : Term

infixl 90 ◌⇒◌
-- a term, and its flat term
abbrev pub ◌⇒◌ : Term → Term → Example
t ⇒ u = record { term = t; flat = u }

abbrev pub AreFlat : List Example → Type 0
AreFlat [] = Unit {0}
AreFlat (example ∷ rest) = (flat_of example.term ≡ example.flat) × AreFlat rest

abbrev pub variable : Family → ℕ → Sort → Term
variable f i s = open_term (record { family = f; index = i; instance = 0; sort = s })

-- words of 32 bits
abbrev pub x : Term
x = variable Register 1 (Word W32)

abbrev pub y : Term
y = variable Register 2 (Word W32)

-- two memories
abbrev pub m : Term
m = variable SourceMemory 0 Memory

abbrev pub n : Term
n = variable BinaryMemory 0 Memory

-- the byte of the k-th load
abbrev pub b : ℕ → Term
b k = variable LoadedByte k (Word W8)

abbrev pub yes : Term
yes = truth true

-- the same address, or other bytes
abbrev pub tied : Term → Term → Term → Term → Term
tied first byte second other = or_term (not_term (equal first second)) (equal byte other)

-- nothing is loaded
abbrev pub no_loads : List Example
no_loads =
    less x y ⇒ or_term (not_term yes) (less x y)
    ∷ []

-- one memory at two addresses: the loads are tied once; a load that occurs twice is one
abbrev pub two_addresses : List Example
two_addresses =
    equal (load m x) (load m y) ⇒ or_term (not_term (and_term yes (tied x (b 0) y (b 1)))) (equal (b 0) (b 1))
    ∷ equal (load m y) (load m y) ⇒ or_term (not_term yes) (equal (b 0) (b 0))
    ∷ []

-- the address of a load is itself loaded: the inner one comes first, and the address is flat
abbrev pub nested : List Example
nested =
    less (load m (zero_extend W32 (load m x))) (constant W8 7)
    ⇒ or_term (not_term (and_term yes (tied x (b 0) (zero_extend W32 (b 0)) (b 1)))) (less (b 1) (constant W8 7))
    ∷ []

-- two memories are tied apart, that of the first load first; each load with the later ones
abbrev pub two_memories : List Example
two_memories =
    equal (load n x) (load m x) ⇒ or_term (not_term yes) (equal (b 0) (b 1))
    ∷ and_term (equal (load n x) (load m x)) (and_term (equal (load m y) (load n y)) (less (load n (add x y)) (constant W8 9)))
    ⇒ or_term
    (not_term
    (and_term (and_term (and_term (and_term yes (tied x (b 0) y (b 3))) (tied x (b 0) (add x y) (b 4))) (tied y (b 3) (add x y) (b 4))) (tied x (b 1) y (b 2))))
    (and_term (equal (b 0) (b 1)) (and_term (equal (b 2) (b 3)) (less (b 4) (constant W8 9))))
    ∷ []
