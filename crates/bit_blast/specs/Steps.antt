-- A visit of a term by single steps.
use Rattle.std.specs.Prelude.{◌≡◌, ℕ, ◌+◌, ◌*◌, true, List, [], ◌∷◌, ◌++◌}
use Rattle.term_core_spec.specs.declared.WordOperator.TheVariants as word
use Rattle.term_core_spec.specs.declared.BinaryOperator.TheVariants as binary
use Rattle.term_core_spec.specs.Term.{Term, Leaf, Unary, Binary, Ternary, Quaternary, Octonary, divide, remainder}
use Rattle.bit_blast_spec.specs.Gates.{Build, give, ◌>>=◌}
use Rattle.bit_blast_spec.specs.Circuits.{Bits}
use Rattle.bit_blast_spec.specs.Goal.{Table, is_there, bits_in, atom_bits, unary_bits, binary_bits, ternary_bits, quaternary_bits, enter, with_binary, once, visit}

-- from left to right
abbrev pub arguments : Term → List Term
arguments (Leaf leaf) = []
arguments (Unary operator a) = a ∷ []
arguments (Binary operator a b) = a ∷ b ∷ []
arguments (Ternary operator a b c) = a ∷ b ∷ c ∷ []
arguments (Quaternary operator a b c d) = a ∷ b ∷ c ∷ d ∷ []
arguments (Octonary a b c d e f g h) = a ∷ b ∷ c ∷ d ∷ e ∷ f ∷ g ∷ h ∷ []

-- the bits of a term that is no quotient or remainder, by those of its arguments
abbrev pub own_bits : Term → Table → Build Bits
own_bits (Leaf leaf) t = atom_bits leaf
own_bits (Unary operator a) t = unary_bits operator (bits_in t a)
own_bits (Binary operator a b) t = binary_bits (Binary operator a b) operator (bits_in t a) (bits_in t b)
own_bits (Ternary operator a b c) t = ternary_bits operator (bits_in t a) (bits_in t b) (bits_in t c)
own_bits (Quaternary operator a b c d) t = quaternary_bits operator (bits_in t a) (bits_in t b) (bits_in t c) (bits_in t d)
own_bits (Octonary a b c d e f g h) t =
    give (bits_in t a ++ bits_in t b ++ bits_in t c ++ bits_in t d ++ bits_in t e ++ bits_in t f ++ bits_in t g ++ bits_in t h)

-- a term is entered, its arguments being there
abbrev pub finish : Term → Table → Build Table
finish (Leaf leaf) t = enter (Leaf leaf) t (own_bits (Leaf leaf) t)
finish (Unary operator a) t = enter (Unary operator a) t (own_bits (Unary operator a) t)
finish (Binary operator a b) t = with_binary operator a b t
finish (Ternary operator a b c) t = enter (Ternary operator a b c) t (own_bits (Ternary operator a b c) t)
finish (Quaternary operator a b c d) t = enter (Quaternary operator a b c d) t (own_bits (Quaternary operator a b c d) t)
finish (Octonary a b c d e f g h) t = enter (Octonary a b c d e f g h) t (own_bits (Octonary a b c d e f g h) t)

pub data Step : Type 0 where
  Visit : (term : Term) → Step
  -- the entry of a term whose arguments are there
  Finish : (term : Term) → Step

abbrev pub act : Step → Table → Build Table
act (Visit term) t = visit term t
act (Finish term) t = once term t (finish term t)

-- what is left to do: the last step is the first
abbrev pub run : List Step → Table → Build Table
run [] t = give t
run (step ∷ steps) t = run steps t >>= λ after. act step after

-- visits of some terms, that of the first term last
abbrev pub visits : List Term → List Step
visits [] = []
visits (term ∷ terms) = visits terms ++ Visit term ∷ []

-- ---- tables with the arguments of their terms

-- the terms that a table with this one has too
abbrev pub needs : Term → List Term
needs (Binary (binary.Word word.Divide) a b) = a ∷ b ∷ remainder a b ∷ []
needs (Binary (binary.Word word.Remainder) a b) = a ∷ b ∷ divide a b ∷ []
needs term = arguments term

abbrev pub AllThere : List Term → Table → Type 0
AllThere [] t = Unit {0}
AllThere (term ∷ terms) t = (is_there term t ≡ true) × AllThere terms t

abbrev pub IsClosed : Table → Type 0
IsClosed t = (term : Term) → is_there term t ≡ true → AllThere (needs term) t

-- ---- how much is left to do

-- how many operators and leaves
abbrev pub size : Term → ℕ
size (Leaf leaf) = 1
size (Unary operator a) = 1 + size a
size (Binary operator a b) = 1 + (size a + size b)
size (Ternary operator a b c) = 1 + (size a + (size b + size c))
size (Quaternary operator a b c d) = 1 + (size a + (size b + (size c + size d)))
size (Octonary a b c d e f g h) = 1 + (size a + (size b + (size c + (size d + (size e + (size f + (size g + size h)))))))

abbrev pub weight : Step → ℕ
weight (Visit term) = 2 * size term
weight (Finish term) = 1

abbrev pub weights : List Step → ℕ
weights [] = 0
weights (step ∷ steps) = weight step + weights steps
