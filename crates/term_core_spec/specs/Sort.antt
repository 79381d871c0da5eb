-- The sort of a term, or none where it is not well sorted.
use Rattle.std.specs.Prelude.{ℕ, ◌*◌, ◌^◌, ◌==◌, ◌&&◌, not, nat_lt, nat_le, Bool, true, false, if◌then◌else◌, List, [], ◌∷◌, Option, Some, None, option_and_then}
use Rattle.term_core_spec.specs.declared.Width.{Width}
use Rattle.term_core_spec.specs.declared.Width.TheVariants.{W8, W16, W32, W64}
use Rattle.term_core_spec.specs.declared.Sort.{Sort}
use Rattle.term_core_spec.specs.declared.Sort.TheVariants.{Truth, Word, Memory}
use Rattle.term_core_spec.specs.declared.Atom.{Atom}
use Rattle.term_core_spec.specs.declared.Atom.TheVariants as atom
use Rattle.term_core_spec.specs.declared.UnaryOperator.{UnaryOperator}
use Rattle.term_core_spec.specs.declared.UnaryOperator.TheVariants as unary
use Rattle.term_core_spec.specs.declared.BinaryOperator.{BinaryOperator}
use Rattle.term_core_spec.specs.declared.BinaryOperator.TheVariants as binary
use Rattle.term_core_spec.specs.declared.TernaryOperator.{TernaryOperator}
use Rattle.term_core_spec.specs.declared.TernaryOperator.TheVariants as ternary
use Rattle.term_core_spec.specs.declared.QuaternaryOperator.{QuaternaryOperator}
use Rattle.term_core_spec.specs.declared.QuaternaryOperator.TheVariants as quaternary
use Rattle.term_core_spec.specs.Term.{Term, Leaf, Unary, Binary, Ternary, Quaternary, Octonary}

abbrev pub bits : Width → ℕ
bits W8 = 8
bits W16 = 16
bits W32 = 32
bits W64 = 64

abbrev pub same_width : Width → Width → Bool
same_width v w = bits v == bits w

abbrev pub same_sort : Sort → Sort → Bool
same_sort Truth Truth = true
same_sort (Word v) (Word w) = same_width v w
same_sort Memory Memory = true
same_sort s t = false

-- how many bits a word has; 0 for what is no word
abbrev pub bits_of : Sort → ℕ
bits_of (Word w) = bits w
bits_of Truth = 0
bits_of Memory = 0

abbrev pub is_word : Sort → Bool
is_word (Word w) = true
is_word Truth = false
is_word Memory = false

abbrev pub is_truth : Sort → Bool
is_truth s = same_sort s Truth

abbrev pub is_byte : Sort → Bool
is_byte s = same_sort s (Word W8)

abbrev pub is_address : Sort → Bool
is_address s = same_sort s (Word W32)

abbrev pub is_memory : Sort → Bool
is_memory s = same_sort s Memory

-- the sort where the test holds
abbrev pub sort_if : Bool → Sort → Option Sort
sort_if test sort = if test then Some sort else None

-- a constant is below 2 ^ width
unfoldable pub sort_of_atom : Atom → Option Sort
sort_of_atom (atom.Truth value) = Some Truth
sort_of_atom (atom.Constant width number) = sort_if (nat_lt number (2 ^ bits width)) (Word width)
sort_of_atom (atom.Open variable) = Some variable.sort

-- words are extended to a width from their own up, and cut to one up to it; a byte of a word is one that it has
unfoldable pub sort_of_unary : UnaryOperator → Sort → Option Sort
sort_of_unary unary.Not s = sort_if (is_truth s) Truth
sort_of_unary unary.Complement s = sort_if (is_word s) s
sort_of_unary (unary.ZeroExtend w) s = sort_if (is_word s && nat_le (bits_of s) (bits w)) (Word w)
sort_of_unary (unary.SignExtend w) s = sort_if (is_word s && nat_le (bits_of s) (bits w)) (Word w)
sort_of_unary (unary.Low w) s = sort_if (is_word s && nat_le (bits w) (bits_of s)) (Word w)
sort_of_unary (unary.Byte place) s = sort_if (is_word s && nat_lt (8 * place) (bits_of s)) (Word W8)

unfoldable pub sort_of_binary : BinaryOperator → Sort → Sort → Option Sort
sort_of_binary binary.And s t = sort_if (is_truth s && is_truth t) Truth
sort_of_binary binary.Or s t = sort_if (is_truth s && is_truth t) Truth
sort_of_binary binary.Equal s t = sort_if (not (is_memory s) && same_sort s t) Truth
sort_of_binary binary.Less s t = sort_if (is_word s && same_sort s t) Truth
sort_of_binary (binary.Word operator) s t = sort_if (is_word s && same_sort s t) s
sort_of_binary binary.Load s t = sort_if (is_memory s && is_address t) (Word W8)
sort_of_binary binary.Join s t = sort_if (is_byte s && is_byte t) (Word W16)

unfoldable pub sort_of_ternary : TernaryOperator → Sort → Sort → Sort → Option Sort
sort_of_ternary ternary.Choose s t u = sort_if (is_truth s && same_sort t u) t
sort_of_ternary ternary.Store s t u = sort_if (is_memory s && (is_address t && is_byte u)) Memory

unfoldable pub sort_of_quaternary : QuaternaryOperator → Sort → Sort → Sort → Sort → Option Sort
sort_of_quaternary quaternary.Over s t u v = sort_if (is_memory s && (is_memory t && (is_address u && is_address v))) Memory
sort_of_quaternary quaternary.Join s t u v = sort_if (is_byte s && (is_byte t && (is_byte u && is_byte v))) (Word W32)

-- whether all of these are sorts of bytes
abbrev pub all_bytes : List (Option Sort) → Bool
all_bytes [] = true
all_bytes (None ∷ rest) = false
all_bytes (Some s ∷ rest) = is_byte s && all_bytes rest

-- an operator whose sort depends on its arguments' sorts, where they have one
abbrev pub with_one : (Sort → Option Sort) → Option Sort → Option Sort
with_one f s = option_and_then f s

abbrev pub with_two : (Sort → Sort → Option Sort) → Option Sort → Option Sort → Option Sort
with_two f s t = option_and_then (λ a. option_and_then (f a) t) s

abbrev pub with_three : (Sort → Sort → Sort → Option Sort) → Option Sort → Option Sort → Option Sort → Option Sort
with_three f s t u = option_and_then (λ a. with_two (f a) t u) s

abbrev pub with_four : (Sort → Sort → Sort → Sort → Option Sort) → Option Sort → Option Sort → Option Sort → Option Sort → Option Sort
with_four f s t u v = option_and_then (λ a. with_three (f a) t u v) s

unfoldable pub sort_of : Term → Option Sort
sort_of (Leaf atom) = sort_of_atom atom
sort_of (Unary operator a) = with_one (sort_of_unary operator) (sort_of a)
sort_of (Binary operator a b) = with_two (sort_of_binary operator) (sort_of a) (sort_of b)
sort_of (Ternary operator a b c) = with_three (sort_of_ternary operator) (sort_of a) (sort_of b) (sort_of c)
sort_of (Quaternary operator a b c d) = with_four (sort_of_quaternary operator) (sort_of a) (sort_of b) (sort_of c) (sort_of d)
sort_of (Octonary a b c d e f g h) =
    sort_if (all_bytes (sort_of a ∷ sort_of b ∷ sort_of c ∷ sort_of d ∷ sort_of e ∷ sort_of f ∷ sort_of g ∷ sort_of h ∷ [])) (Word W64)
