-- What the rules of the normal form ask of a term.
use Rattle.std.specs.Prelude.{ℕ, ◌+◌, ◌-◌, ◌^◌, ◌==◌, ◌&&◌, not, Bool, true, false, if◌then◌else◌, List, [], ◌∷◌, slice_get, Option, Some, None, option_and_then}
use Rattle.term_core_spec.specs.declared.Width.{Width}
use Rattle.term_core_spec.specs.declared.Width.TheVariants.{W8, W16, W32, W64}
use Rattle.term_core_spec.specs.declared.Sort.{Sort}
use Rattle.term_core_spec.specs.declared.Sort.TheVariants as sort
use Rattle.term_core_spec.specs.declared.Family.{Family}
use Rattle.term_core_spec.specs.declared.Family.TheVariants as family
use Rattle.term_core_spec.specs.declared.Atom.{Atom}
use Rattle.term_core_spec.specs.declared.Atom.TheVariants as atom
use Rattle.term_core_spec.specs.declared.UnaryOperator.TheVariants as unary
use Rattle.term_core_spec.specs.declared.WordOperator.TheVariants as word
use Rattle.term_core_spec.specs.declared.BinaryOperator.TheVariants as binary
use Rattle.term_core_spec.specs.declared.TernaryOperator.TheVariants as ternary
use Rattle.term_core_spec.specs.declared.QuaternaryOperator.TheVariants as quaternary
use Rattle.term_core_spec.specs.Term.{Term, Leaf, Unary, Binary, Ternary, Quaternary, Octonary, truth, constant, not_term, complement, byte}
use Rattle.term_core_spec.specs.Sort.{bits, same_width}
use Rattle.term_core_spec.specs.Value.{Value, Truth, Number, Bytes, stray}
use Rattle.term_core_spec.specs.Same.{same_term}

-- ---- widths

abbrev pub width_of_sort : Sort → Width
width_of_sort (sort.Word w) = w
width_of_sort sort.Truth = W8
width_of_sort sort.Memory = W8

abbrev pub width_of_atom : Atom → Width
width_of_atom (atom.Truth value) = W8
width_of_atom (atom.Constant w number) = w
width_of_atom (atom.Open variable) = width_of_sort variable.sort

-- the width of a well-sorted word: its operator says it, or its first argument that is a word; 8 for what is no
-- word
unfoldable pub width_of : Term → Width
width_of (Leaf leaf) = width_of_atom leaf
width_of (Unary unary.Not x) = W8
width_of (Unary unary.Complement x) = width_of x
width_of (Unary (unary.ZeroExtend w) x) = w
width_of (Unary (unary.SignExtend w) x) = w
width_of (Unary (unary.Low w) x) = w
width_of (Unary (unary.Byte place) x) = W8
width_of (Binary (binary.Word operator) x y) = width_of x
width_of (Binary binary.Join x y) = W16
width_of (Binary operator x y) = W8
width_of (Ternary ternary.Choose test x y) = width_of x
width_of (Ternary ternary.Store m x y) = W8
width_of (Quaternary quaternary.Join a b c d) = W32
width_of (Quaternary quaternary.Over m z x y) = W8
width_of (Octonary a b c d e f g h) = W64

-- ---- constants

-- true, false, or a word that is known
unfoldable pub is_constant : Term → Bool
is_constant (Leaf (atom.Truth value)) = true
is_constant (Leaf (atom.Constant width number)) = true
is_constant t = false

abbrev pub are_constants : List Term → Bool
are_constants [] = true
are_constants (t ∷ rest) = is_constant t && are_constants rest

unfoldable pub is_true : Term → Bool
is_true (Leaf (atom.Truth value)) = value
is_true t = false

unfoldable pub is_false : Term → Bool
is_false (Leaf (atom.Truth value)) = not value
is_false t = false

unfoldable pub is_zero : Term → Bool
is_zero (Leaf (atom.Constant width number)) = number == 0
is_zero t = false

unfoldable pub is_one : Term → Bool
is_one (Leaf (atom.Constant width number)) = number == 1
is_one t = false

-- all bits are set
unfoldable pub is_full : Term → Bool
is_full (Leaf (atom.Constant width number)) = number == 2 ^ bits width - 1
is_full t = false

-- the value of a constant
unfoldable pub known : Term → Value
known (Leaf (atom.Truth value)) = Truth value
known (Leaf (atom.Constant width number)) = Number width number
known t = stray

-- the number of a constant word
unfoldable pub number_of : Term → ℕ
number_of (Leaf (atom.Constant width number)) = number
number_of t = 0

-- the constant with a value that is no memory
unfoldable pub constant_of : Value → Term
constant_of (Truth value) = truth value
constant_of (Number width number) = constant width number
constant_of (Bytes memory) = truth false

-- 0, and the word with all bits set, at the width of a term
abbrev pub zero_like : Term → Term
zero_like x = constant (width_of x) 0

abbrev pub full_like : Term → Term
full_like x = constant (width_of x) (2 ^ bits (width_of x) - 1)

-- ---- operators

-- the argument of a `not`
unfoldable pub under_not : Term → Option Term
under_not (Unary unary.Not x) = Some x
under_not t = None

unfoldable pub under_complement : Term → Option Term
under_complement (Unary unary.Complement x) = Some x
under_complement t = None

-- the word that is extended
unfoldable pub under_extension : Term → Option Term
under_extension (Unary (unary.ZeroExtend w) x) = Some x
under_extension (Unary (unary.SignExtend w) x) = Some x
under_extension t = None

-- one is the `not`, or the complement, of the other
abbrev pub are_negations : Term → Term → Bool
are_negations x y = if same_term y (not_term x) then true else same_term x (not_term y)

abbrev pub are_complements : Term → Term → Bool
are_complements x y = if same_term y (complement x) then true else same_term x (complement y)

-- a word as a base and the constant that is added to it, of `add x c` or of any other x
unfoldable pub base : Term → Term
base (Binary (binary.Word word.Add) x (Leaf (atom.Constant width number))) = x
base t = t

unfoldable pub offset : Term → ℕ
offset (Binary (binary.Word word.Add) x (Leaf (atom.Constant width number))) = number
offset t = 0

-- ---- bytes

-- byte `place` of a join is this part
unfoldable pub part : ℕ → Term → Option Term
part place (Binary binary.Join a b) = slice_get (a ∷ b ∷ []) place
part place (Quaternary quaternary.Join a b c d) = slice_get (a ∷ b ∷ c ∷ d ∷ []) place
part place (Octonary a b c d e f g h) = slice_get (a ∷ b ∷ c ∷ d ∷ e ∷ f ∷ g ∷ h ∷ []) place
part place t = None

-- the word whose byte 0 it is
unfoldable pub under_first_byte : Term → Option Term
under_first_byte (Unary (unary.Byte place) x) = if place == 0 then Some x else None
under_first_byte t = None

-- these are the bytes of x from `place` on
unfoldable pub are_bytes_of : Term → ℕ → List Term → Bool
are_bytes_of x place [] = true
are_bytes_of x place (t ∷ rest) = if same_term t (byte place x) then are_bytes_of x (place + 1) rest else false

-- x, where the parts are its bytes, the lowest first and all of them
abbrev pub whole : Width → List Term → Option Term
whole width [] = None
whole width (t ∷ rest) = option_and_then (λ x. if same_width (width_of x) width then (if are_bytes_of x 1 rest then Some x else None) else None) (under_first_byte t)

-- ---- memory

abbrev pub is_of_source : Family → Bool
is_of_source family.SourceMemory = true
is_of_source f = false

-- a variable that is a memory of the source
unfoldable pub is_source_memory : Term → Bool
is_source_memory (Leaf (atom.Open variable)) = is_of_source variable.family
is_source_memory t = false
