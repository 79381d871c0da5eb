-- The value of a term under an assignment of values to its variables. Words are numbers modulo 2 ^ width; a
-- memory has a byte for each address below 2 ^ 32. An operator at values of other kinds has the value `stray`; of a term
-- that is not well sorted nothing else is meant.
use Rattle.std.specs.Prelude.{◌≡◌, ℕ, ◌+◌, ◌-◌, ◌*◌, ◌/◌, ◌%◌, ◌^◌, ◌<◌, ◌==◌, ◌&&◌, ◌||◌, not, nat_lt, nat_le, Bool, true, false, if◌then◌else◌, List, [], ◌∷◌, map, Option, Some, None, option_map, option_and_then, bit_and, bit_or, bit_xor}
use Rattle.term_core_spec.specs.declared.Width.{Width}
use Rattle.term_core_spec.specs.declared.Width.TheVariants.{W8, W16, W32, W64}
use Rattle.term_core_spec.specs.declared.Sort.{Sort}
use Rattle.term_core_spec.specs.declared.Sort.TheVariants as sort
use Rattle.term_core_spec.specs.declared.Variable.{Variable}
use Rattle.term_core_spec.specs.declared.Atom.{Atom}
use Rattle.term_core_spec.specs.declared.Atom.TheVariants as atom
use Rattle.term_core_spec.specs.declared.UnaryOperator.{UnaryOperator}
use Rattle.term_core_spec.specs.declared.UnaryOperator.TheVariants as unary
use Rattle.term_core_spec.specs.declared.WordOperator.{WordOperator}
use Rattle.term_core_spec.specs.declared.WordOperator.TheVariants as word
use Rattle.term_core_spec.specs.declared.BinaryOperator.{BinaryOperator}
use Rattle.term_core_spec.specs.declared.BinaryOperator.TheVariants as binary
use Rattle.term_core_spec.specs.declared.TernaryOperator.{TernaryOperator}
use Rattle.term_core_spec.specs.declared.TernaryOperator.TheVariants as ternary
use Rattle.term_core_spec.specs.declared.QuaternaryOperator.{QuaternaryOperator}
use Rattle.term_core_spec.specs.declared.QuaternaryOperator.TheVariants as quaternary
use Rattle.term_core_spec.specs.Term.{Term, Leaf, Unary, Binary, Ternary, Quaternary, Octonary}
use Rattle.term_core_spec.specs.Sort.{bits, same_width}

pub data Value : Type 0 where
  Truth : (truth : Bool) → Value
  -- a word of this width
  Number : (width : Width) → (number : ℕ) → Value
  -- a memory: the byte at each address
  Bytes : (bytes : ℕ → ℕ) → Value

-- the value has the sort, and its words and bytes are in their ranges
abbrev pub IsOfSort : Sort → Value → Type 0
IsOfSort sort.Truth (Truth truth) = Unit {0}
IsOfSort (sort.Word w) (Number v number) = (v ≡ w) × (number < 2 ^ bits w)
IsOfSort sort.Memory (Bytes bytes) = (address : ℕ) → bytes address < 2 ^ 8
IsOfSort s value = ⊥

-- the value of each variable
abbrev pub Assignment : Type 0
Assignment = Variable → Value

-- each variable has a value of its sort
abbrev pub IsAssignment : Assignment → Type 0
IsAssignment assignment = (v : Variable) → IsOfSort v.sort (assignment v)

abbrev pub stray : Value
stray = Truth false

-- ---- words

-- the low `count` bits of a number
abbrev pub low_bits : ℕ → ℕ → ℕ
low_bits count number = number % 2 ^ count

-- the top bit of a word of `count` bits is set
abbrev pub is_negative : ℕ → ℕ → Bool
is_negative count a = nat_le (2 ^ (count - 1)) a

-- a number with the bits from `from` to below `to` set, where the test holds
abbrev pub ones_if : Bool → ℕ → ℕ → ℕ
ones_if test from to = if test then 2 ^ to - 2 ^ from else 0

-- the bits of a word moved down by less than its own `count`, and its top bit in those that come in
abbrev pub shifted_with_sign : ℕ → ℕ → ℕ → ℕ
shifted_with_sign count a places = low_bits count (a / 2 ^ places + ones_if (is_negative count a) (count - places) count)

-- words of `count` bits; a count of places from the width on moves every bit out; a division by 0 gives all bits
-- set, and a remainder by 0 the dividend
unfoldable pub operation : WordOperator → ℕ → ℕ → ℕ → ℕ
operation word.Add count a b = low_bits count (a + b)
operation word.Subtract count a b = low_bits count (a + (2 ^ count - low_bits count b))
operation word.Multiply count a b = low_bits count (a * b)
operation word.And count a b = bit_and a b
operation word.Or count a b = bit_or a b
operation word.Xor count a b = bit_xor a b
operation word.ShiftLeft count a b = if nat_lt b count then low_bits count (a * 2 ^ b) else 0
operation word.ShiftRight count a b = if nat_lt b count then a / 2 ^ b else 0
operation word.ShiftRightSigned count a b = if nat_lt b count then shifted_with_sign count a b else ones_if (is_negative count a) 0 count
operation word.Divide count a b = if b == 0 then 2 ^ count - 1 else a / b
operation word.Remainder count a b = if b == 0 then a else a % b

-- ---- operators

abbrev pub value_of_atom : Assignment → Atom → Value
value_of_atom assignment (atom.Truth value) = Truth value
value_of_atom assignment (atom.Constant width number) = Number width number
value_of_atom assignment (atom.Open variable) = assignment variable

abbrev pub on_truth : (Bool → Value) → Value → Value
on_truth f (Truth a) = f a
on_truth f (Number w a) = stray
on_truth f (Bytes m) = stray

abbrev pub on_word : (Width → ℕ → Value) → Value → Value
on_word f (Number w a) = f w a
on_word f (Truth a) = stray
on_word f (Bytes m) = stray

abbrev pub on_memory : ((ℕ → ℕ) → Value) → Value → Value
on_memory f (Bytes m) = f m
on_memory f (Truth a) = stray
on_memory f (Number w a) = stray

abbrev pub on_truths : (Bool → Bool → Value) → Value → Value → Value
on_truths f x y = on_truth (λ a. on_truth (f a) y) x

-- two words of one width
abbrev pub on_two_words : (Width → ℕ → ℕ → Value) → Value → Value → Value
on_two_words f x y = on_word (λ v a. on_word (λ w b. if same_width v w then f v a b else stray) y) x

-- a word of 32 bits is an address
abbrev pub on_address : (ℕ → Value) → Value → Value
on_address f x = on_word (λ w a. if same_width w W32 then f a else stray) x

abbrev pub on_byte : (ℕ → Value) → Value → Value
on_byte f x = on_word (λ w a. if same_width w W8 then f (low_bits 8 a) else stray) x

unfoldable pub unary_value : UnaryOperator → Value → Value
unary_value unary.Not x = on_truth (λ a. Truth (not a)) x
unary_value unary.Complement x = on_word (λ w a. Number w (2 ^ bits w - 1 - low_bits (bits w) a)) x
unary_value (unary.ZeroExtend to) x = on_word (λ w a. Number to a) x
unary_value (unary.SignExtend to) x = on_word (λ w a. Number to (low_bits (bits to) (a + ones_if (is_negative (bits w) a) (bits w) (bits to)))) x
unary_value (unary.Low to) x = on_word (λ w a. Number to (low_bits (bits to) a)) x
unary_value (unary.Byte place) x = on_word (λ w a. Number W8 (low_bits 8 (a / 2 ^ (8 * place)))) x

abbrev pub equal_values : Value → Value → Value
equal_values (Truth a) y = on_truth (λ b. Truth (if a then b else not b)) y
equal_values (Number v a) y = on_two_words (λ w c b. Truth (c == b)) (Number v a) y
equal_values (Bytes m) y = stray

-- the byte of a memory at an address
abbrev pub loaded : Value → Value → Value
loaded m x = on_memory (λ bytes. on_address (λ address. Number W8 (bytes (low_bits 32 address))) x) m

-- the number of a byte, where the value is one
abbrev pub byte_of : Value → Option ℕ
byte_of (Number W8 number) = Some (low_bits 8 number)
byte_of x = None

-- the number of these bytes, the lowest first, where all are there
abbrev pub number_of_bytes : List (Option ℕ) → Option ℕ
number_of_bytes [] = Some 0
number_of_bytes (x ∷ rest) = option_and_then (λ byte. option_map (λ number. byte + 2 ^ 8 * number) (number_of_bytes rest)) x

abbrev pub word_or_stray : Width → Option ℕ → Value
word_or_stray width (Some number) = Number width number
word_or_stray width None = stray

-- the word of these bytes, the lowest first
abbrev pub joined : Width → List Value → Value
joined width bytes = word_or_stray width (number_of_bytes (map byte_of bytes))

unfoldable pub binary_value : BinaryOperator → Value → Value → Value
binary_value binary.And x y = on_truths (λ a b. Truth (a && b)) x y
binary_value binary.Or x y = on_truths (λ a b. Truth (a || b)) x y
binary_value binary.Equal x y = equal_values x y
binary_value binary.Less x y = on_two_words (λ w a b. Truth (nat_lt a b)) x y
binary_value (binary.Word operator) x y = on_two_words (λ w a b. Number w (operation operator (bits w) a b)) x y
binary_value binary.Load m x = loaded m x
binary_value binary.Join x y = joined W16 (x ∷ y ∷ [])

-- the memory with the byte at one address changed
abbrev pub with_byte : (ℕ → ℕ) → ℕ → ℕ → (ℕ → ℕ)
with_byte bytes address byte = λ q. if q == address then byte else bytes q

abbrev pub stored : Value → Value → Value → Value
stored m x y = on_memory (λ bytes. on_address (λ address. on_byte (λ byte. Bytes (with_byte bytes (low_bits 32 address) byte)) y) x) m

abbrev pub chosen : Value → Value → Value → Value
chosen test x y = on_truth (λ holds. if holds then x else y) test

unfoldable pub ternary_value : TernaryOperator → Value → Value → Value → Value
ternary_value ternary.Choose test x y = chosen test x y
ternary_value ternary.Store m x y = stored m x y

-- the second memory at addresses from `from` to below `to`, else the first
abbrev pub overlaid : (ℕ → ℕ) → (ℕ → ℕ) → ℕ → ℕ → (ℕ → ℕ)
overlaid bytes zone from to = λ q. if nat_le from q && nat_lt q to then zone q else bytes q

abbrev pub laid_over : Value → Value → Value → Value → Value
laid_over m z x y = on_memory (λ bytes. on_memory (λ zone. on_address (λ from. on_address (λ to. Bytes (overlaid bytes zone from to)) y) x) z) m

unfoldable pub quaternary_value : QuaternaryOperator → Value → Value → Value → Value → Value
quaternary_value quaternary.Over m z x y = laid_over m z x y
quaternary_value quaternary.Join a b c d = joined W32 (a ∷ b ∷ c ∷ d ∷ [])

unfoldable pub value : Assignment → Term → Value
value assignment (Leaf atom) = value_of_atom assignment atom
value assignment (Unary operator a) = unary_value operator (value assignment a)
value assignment (Binary operator a b) = binary_value operator (value assignment a) (value assignment b)
value assignment (Ternary operator a b c) = ternary_value operator (value assignment a) (value assignment b) (value assignment c)
value assignment (Quaternary operator a b c d) =
    quaternary_value operator (value assignment a) (value assignment b) (value assignment c) (value assignment d)
value assignment (Octonary a b c d e f g h) =
    joined W64 (value assignment a ∷ value assignment b ∷ value assignment c ∷ value assignment d
    ∷ value assignment e ∷ value assignment f ∷ value assignment g ∷ value assignment h ∷ [])
