-- Terms: trees of operators, grouped by how many arguments they have.
use Rattle.std.specs.Prelude.{◌≡◌, ℕ, Bool, ◌⊎◌}
use Rattle.term_core_spec.specs.declared.Width.{Width}
use Rattle.term_core_spec.specs.declared.Variable.{Variable}
use Rattle.term_core_spec.specs.declared.Atom.{Atom}
use Rattle.term_core_spec.specs.declared.Atom.TheVariants as atom
use Rattle.term_core_spec.specs.declared.UnaryOperator.{UnaryOperator}
use Rattle.term_core_spec.specs.declared.UnaryOperator.TheVariants as unary
use Rattle.term_core_spec.specs.declared.WordOperator.{WordOperator}
use Rattle.term_core_spec.specs.declared.WordOperator.TheVariants as word
use Rattle.term_core_spec.specs.declared.BinaryOperator.{BinaryOperator}
use Rattle.term_core_spec.specs.declared.BinaryOperator.TheVariants as binary
use Rattle.term_core_spec.specs.declared.TernaryOperator.{TernaryOperator}
use Rattle.term_core_spec.specs.declared.TernaryOperator.TheVariants as ternary
use Rattle.term_core_spec.specs.declared.QuaternaryOperator.{QuaternaryOperator}
use Rattle.term_core_spec.specs.declared.QuaternaryOperator.TheVariants as quaternary

pub data Term : Type 0 where
  Leaf : (atom : Atom) → Term
  Unary : (operator : UnaryOperator) → (first : Term) → Term
  Binary : (operator : BinaryOperator) → (first second : Term) → Term
  Ternary : (operator : TernaryOperator) → (first second third : Term) → Term
  Quaternary : (operator : QuaternaryOperator) → (first second third fourth : Term) → Term
  -- the word of eight bytes, the lowest first
  Octonary : (first second third fourth fifth sixth seventh eighth : Term) → Term

-- ---- terms by the names of their operators

abbrev pub truth : Bool → Term
truth value = Leaf (atom.Truth value)

abbrev pub constant : Width → ℕ → Term
constant width number = Leaf (atom.Constant width number)

abbrev pub open_term : Variable → Term
open_term variable = Leaf (atom.Open variable)

abbrev pub not_term : Term → Term
not_term x = Unary unary.Not x

abbrev pub complement : Term → Term
complement x = Unary unary.Complement x

abbrev pub zero_extend : Width → Term → Term
zero_extend width x = Unary (unary.ZeroExtend width) x

abbrev pub sign_extend : Width → Term → Term
sign_extend width x = Unary (unary.SignExtend width) x

abbrev pub low : Width → Term → Term
low width x = Unary (unary.Low width) x

abbrev pub byte : ℕ → Term → Term
byte place x = Unary (unary.Byte place) x

abbrev pub and_term : Term → Term → Term
and_term x y = Binary binary.And x y

abbrev pub or_term : Term → Term → Term
or_term x y = Binary binary.Or x y

abbrev pub equal : Term → Term → Term
equal x y = Binary binary.Equal x y

abbrev pub less : Term → Term → Term
less x y = Binary binary.Less x y

abbrev pub on_words : WordOperator → Term → Term → Term
on_words operator x y = Binary (binary.Word operator) x y

abbrev pub add : Term → Term → Term
add x y = on_words word.Add x y

abbrev pub subtract : Term → Term → Term
subtract x y = on_words word.Subtract x y

abbrev pub multiply : Term → Term → Term
multiply x y = on_words word.Multiply x y

abbrev pub bit_and : Term → Term → Term
bit_and x y = on_words word.And x y

abbrev pub bit_or : Term → Term → Term
bit_or x y = on_words word.Or x y

abbrev pub bit_xor : Term → Term → Term
bit_xor x y = on_words word.Xor x y

abbrev pub shift_left : Term → Term → Term
shift_left x y = on_words word.ShiftLeft x y

abbrev pub shift_right : Term → Term → Term
shift_right x y = on_words word.ShiftRight x y

abbrev pub shift_right_signed : Term → Term → Term
shift_right_signed x y = on_words word.ShiftRightSigned x y

abbrev pub divide : Term → Term → Term
divide x y = on_words word.Divide x y

abbrev pub remainder : Term → Term → Term
remainder x y = on_words word.Remainder x y

abbrev pub load : Term → Term → Term
load memory address = Binary binary.Load memory address

abbrev pub join_two : Term → Term → Term
join_two a b = Binary binary.Join a b

abbrev pub choose : Term → Term → Term → Term
choose test x y = Ternary ternary.Choose test x y

abbrev pub store : Term → Term → Term → Term
store memory address value = Ternary ternary.Store memory address value

abbrev pub over : Term → Term → Term → Term → Term
over memory zone from to = Quaternary quaternary.Over memory zone from to

abbrev pub join_four : Term → Term → Term → Term → Term
join_four a b c d = Quaternary quaternary.Join a b c d

-- ---- variables

abbrev pub OccursInAtom : Variable → Atom → Type 0
OccursInAtom v (atom.Truth value) = ⊥
OccursInAtom v (atom.Constant width number) = ⊥
OccursInAtom v (atom.Open variable) = v ≡ variable

-- the variable occurs in the term
unfoldable pub Occurs : Variable → Term → Type 0
Occurs v (Leaf atom) = OccursInAtom v atom
Occurs v (Unary operator a) = Occurs v a
Occurs v (Binary operator a b) = Occurs v a ⊎ Occurs v b
Occurs v (Ternary operator a b c) = Occurs v a ⊎ (Occurs v b ⊎ Occurs v c)
Occurs v (Quaternary operator a b c d) = Occurs v a ⊎ (Occurs v b ⊎ (Occurs v c ⊎ Occurs v d))
Occurs v (Octonary a b c d e f g h) =
    Occurs v a ⊎ (Occurs v b ⊎ (Occurs v c ⊎ (Occurs v d ⊎ (Occurs v e ⊎ (Occurs v f ⊎ (Occurs v g ⊎ Occurs v h))))))
