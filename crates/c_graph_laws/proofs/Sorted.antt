-- The terms of expressions are well sorted.
use Rattle.std.proofs.Common.{◌≡◌, ◌∙◌, ℕ, ◌^◌, ◌<◌, Bool, true, false, refl, ap, arith, [], ◌∷◌, Option, Some, All}
use Rattle.std.proofs.lemmas.Bool.{lt-ltb}
use Rattle.std.proofs.lemmas.List.Elements.{All-nil, All-cons}
use Rattle.term_core_spec.specs.declared.Width.{Width}
use Rattle.term_core_spec.specs.declared.Width.TheVariants.{W8, W16, W32, W64}
use Rattle.term_core_spec.specs.declared.Sort.{Sort}
use Rattle.term_core_spec.specs.declared.Sort.TheVariants.{Truth, Word, Memory}
use Rattle.term_core_spec.specs.declared.UnaryOperator.{UnaryOperator}
use Rattle.term_core_spec.specs.declared.BinaryOperator.{BinaryOperator}
use Rattle.term_core_spec.specs.declared.BinaryOperator.TheVariants as binary
use Rattle.term_core_spec.specs.declared.UnaryOperator.TheVariants as unary
use Rattle.term_core_spec.specs.declared.WordOperator.{WordOperator}
use Rattle.term_core_spec.specs.declared.TernaryOperator.{TernaryOperator}
use Rattle.term_core_spec.specs.declared.TernaryOperator.TheVariants as ternary
use Rattle.term_core_spec.specs.Term.{Term, Unary, Binary, Ternary, open_term, on_words, constant, not_term, and_term, or_term, equal, less, choose}
use Rattle.term_core_spec.specs.Sort.{bits, sort_of, sort_of_atom, sort_of_unary, sort_of_binary, sort_of_ternary, sort_of_quaternary, sort_if, with_one, with_two, with_three}
use Rattle.term_core_spec.proofs.Sorts.{same_width-same, same_sort-same}
use Rattle.c_types_spec.specs.declared.Scalar.{Scalar}
use Rattle.c_types_spec.specs.declared.Arithmetic.{Arithmetic}
use Rattle.c_types_spec.specs.declared.Arithmetic.TheVariants as arithmetic
use Rattle.c_types_spec.specs.declared.Comparison.{Comparison}
use Rattle.c_types_spec.specs.declared.Comparison.TheVariants as comparison
use Rattle.c_graph_spec.specs.State.{width_of, number, memory}
use Rattle.c_graph_spec.specs.Values.{Object, address_of, at_width, computed, compared, less_of, set_if, loaded, stored}
use Rattle.c_graph_spec.specs.Guards.{operator_tests, read_tests, is_accessible, avoids_zone, last_byte}
use Rattle.c_graph_laws.proofs.Extents.{IsPlain, byte, half, full, scalar}

abbrev pub IsTest : Term → Type 0
IsTest t = sort_of t ≡ Some Truth

abbrev pub IsOf : Term → Scalar → Type 0
IsOf t type = sort_of t ≡ Some (Word (width_of type))

abbrev pub Is32 : Term → Type 0
Is32 t = sort_of t ≡ Some (Word W32)

-- ---- operators, by the sorts of their arguments

pub unary_sorted : (o : UnaryOperator) (x : Term) (p s : Sort) → sort_of x ≡ Some p → sort_of_unary o p ≡ Some s → sort_of (Unary o x) ≡ Some s
unfolding sort_of
unary_sorted o x p s ex is = ap (with_one (sort_of_unary o)) ex ∙ is

binary_sorted : (o : BinaryOperator) (x y : Term) (p q s : Sort) → sort_of x ≡ Some p → sort_of y ≡ Some q → sort_of_binary o p q ≡ Some s → sort_of (Binary o x y) ≡ Some s
unfolding sort_of
binary_sorted o x y p q s ex ey is = ap (λ (a : Option Sort). with_two (sort_of_binary o) a (sort_of y)) ex ∙ ap (with_two (sort_of_binary o) (Some p)) ey ∙ is

ternary_sorted : (o : TernaryOperator) (x y z : Term) (p q r s : Sort) → sort_of x ≡ Some p → sort_of y ≡ Some q → sort_of z ≡ Some r → sort_of_ternary o p q r ≡ Some s → sort_of (Ternary o x y z) ≡ Some s
unfolding sort_of
ternary_sorted o x y z p q r s ex ey ez is =
    ap (λ (a : Option Sort). with_three (sort_of_ternary o) a (sort_of y) (sort_of z)) ex
    ∙ ap (λ (a : Option Sort). with_three (sort_of_ternary o) (Some p) a (sort_of z)) ey
    ∙ ap (with_three (sort_of_ternary o) (Some p) (Some q)) ez ∙ is

pub not_sorted : (x : Term) → IsTest x → IsTest (not_term x)
unfolding sort_of_unary
not_sorted x e = unary_sorted unary.Not x Truth Truth e refl

pub and_sorted : (x y : Term) → IsTest x → IsTest y → IsTest (and_term x y)
unfolding sort_of_binary
and_sorted x y e d = binary_sorted binary.And x y Truth Truth Truth e d refl

pub or_sorted : (x y : Term) → IsTest x → IsTest y → IsTest (or_term x y)
unfolding sort_of_binary
or_sorted x y e d = binary_sorted binary.Or x y Truth Truth Truth e d refl

pub words_sorted : (o : WordOperator) (width : Width) (x y : Term) → sort_of x ≡ Some (Word width) → sort_of y ≡ Some (Word width) → sort_of (on_words o x y) ≡ Some (Word width)
unfolding sort_of_binary
words_sorted o width x y e d = binary_sorted (binary.Word o) x y (Word width) (Word width) (Word width) e d (ap (λ b. sort_if b (Word width)) (same_width-same width))

pub equal_sorted : (width : Width) (x y : Term) → sort_of x ≡ Some (Word width) → sort_of y ≡ Some (Word width) → IsTest (equal x y)
unfolding sort_of_binary
equal_sorted width x y e d = binary_sorted binary.Equal x y (Word width) (Word width) Truth e d (ap (λ b. sort_if b Truth) (same_width-same width))

pub less_sorted : (width : Width) (x y : Term) → sort_of x ≡ Some (Word width) → sort_of y ≡ Some (Word width) → IsTest (less x y)
unfolding sort_of_binary
less_sorted width x y e d = binary_sorted binary.Less x y (Word width) (Word width) Truth e d (ap (λ b. sort_if b Truth) (same_width-same width))

pub constant_sorted : (width : Width) (n : ℕ) → n < 2 ^ bits width → sort_of (constant width n) ≡ Some (Word width)
unfolding sort_of sort_of_atom
constant_sorted width n below = ap (λ b. sort_if b (Word width)) (lt-ltb n (2 ^ bits width) below)

pub number_sorted : (n : ℕ) → n < 2 ^ 32 → Is32 (number n)
number_sorted n below = constant_sorted W32 n below

pub choose_sorted : (test x y : Term) (s : Sort) → IsTest test → sort_of x ≡ Some s → sort_of y ≡ Some s → sort_of (choose test x y) ≡ Some s
unfolding sort_of_ternary
choose_sorted test x y s et ex ey = ternary_sorted ternary.Choose test x y Truth s s s et ex ey (ap (λ b. sort_if b s) (same_sort-same s))

pub one : (t : Term) → IsTest t → All IsTest (t ∷ [])
one t h = All-cons IsTest t [] h (All-nil IsTest)

-- ---- each form

pub at_width_sorted : (source type : Scalar) → IsPlain source → IsPlain type → (x : Term) → IsOf x source → IsOf (at_width source (width_of type) x) type
unfolding sort_of_unary
at_width_sorted _ _ (byte false) (byte t) x e = e
at_width_sorted _ _ (byte false) (half t) x e = unary_sorted _ x _ _ e refl
at_width_sorted _ _ (byte false) (full t) x e = unary_sorted _ x _ _ e refl
at_width_sorted _ _ (byte true) (byte t) x e = e
at_width_sorted _ _ (byte true) (half t) x e = unary_sorted _ x _ _ e refl
at_width_sorted _ _ (byte true) (full t) x e = unary_sorted _ x _ _ e refl
at_width_sorted _ _ (half false) (byte t) x e = unary_sorted _ x _ _ e refl
at_width_sorted _ _ (half false) (half t) x e = e
at_width_sorted _ _ (half false) (full t) x e = unary_sorted _ x _ _ e refl
at_width_sorted _ _ (half true) (byte t) x e = unary_sorted _ x _ _ e refl
at_width_sorted _ _ (half true) (half t) x e = e
at_width_sorted _ _ (half true) (full t) x e = unary_sorted _ x _ _ e refl
at_width_sorted _ _ (full s) (byte t) x e = unary_sorted _ x _ _ e refl
at_width_sorted _ _ (full s) (half t) x e = unary_sorted _ x _ _ e refl
at_width_sorted _ _ (full s) (full t) x e = e

pub wide_sorted : (source : Scalar) → IsPlain source → (x : Term) → IsOf x source → sort_of (at_width source W64 x) ≡ Some (Word W64)
unfolding sort_of_unary
wide_sorted _ (byte false) x e = unary_sorted _ x _ _ e refl
wide_sorted _ (byte true) x e = unary_sorted _ x _ _ e refl
wide_sorted _ (half false) x e = unary_sorted _ x _ _ e refl
wide_sorted _ (half true) x e = unary_sorted _ x _ _ e refl
wide_sorted _ (full false) x e = unary_sorted _ x _ _ e refl
wide_sorted _ (full true) x e = unary_sorted _ x _ _ e refl

module _ (x y : Term) (ex : Is32 x) (ey : Is32 y) where
  pub computed_sorted : (operator : Arithmetic) (sign : Bool) → Is32 (computed operator (scalar 32 sign) x y)
  unfolding computed sort_of sort_of_atom sort_of_unary sort_of_binary sort_of_ternary
  computed_sorted arithmetic.Add sign = rw (ex, ey) refl
  computed_sorted arithmetic.Subtract sign = rw (ex, ey) refl
  computed_sorted arithmetic.Multiply sign = rw (ex, ey) refl
  computed_sorted arithmetic.Divide true = rw (ex, ey) refl
  computed_sorted arithmetic.Divide false = rw (ex, ey) refl
  computed_sorted arithmetic.Remainder true = rw (ex, ey) refl
  computed_sorted arithmetic.Remainder false = rw (ex, ey) refl
  computed_sorted arithmetic.ShiftLeft sign = rw (ex, ey) refl
  computed_sorted arithmetic.ShiftRight true = rw (ex, ey) refl
  computed_sorted arithmetic.ShiftRight false = rw (ex, ey) refl
  computed_sorted arithmetic.And sign = rw (ex, ey) refl
  computed_sorted arithmetic.Or sign = rw (ex, ey) refl
  computed_sorted arithmetic.Xor sign = rw (ex, ey) refl

  pub operator_tests_sorted : (operator : Arithmetic) (sign : Bool) → All IsTest (operator_tests operator (scalar 32 sign) (scalar 32 sign) x y)
  unfolding operator_tests sort_of sort_of_atom sort_of_unary sort_of_binary
  operator_tests_sorted arithmetic.Add true = one _ (rw (ex, ey) refl)
  operator_tests_sorted arithmetic.Add false = All-nil IsTest
  operator_tests_sorted arithmetic.Subtract true = one _ (rw (ex, ey) refl)
  operator_tests_sorted arithmetic.Subtract false = All-nil IsTest
  operator_tests_sorted arithmetic.Multiply true = one _ (rw (ex, ey) refl)
  operator_tests_sorted arithmetic.Multiply false = All-nil IsTest
  operator_tests_sorted arithmetic.Divide true = one _ (rw (ex, ey) refl)
  operator_tests_sorted arithmetic.Divide false = one _ (rw ey refl)
  operator_tests_sorted arithmetic.Remainder true = one _ (rw (ex, ey) refl)
  operator_tests_sorted arithmetic.Remainder false = one _ (rw ey refl)
  operator_tests_sorted arithmetic.ShiftLeft sign = one _ (rw ey refl)
  operator_tests_sorted arithmetic.ShiftRight sign = one _ (rw ey refl)
  operator_tests_sorted arithmetic.And sign = All-nil IsTest
  operator_tests_sorted arithmetic.Or sign = All-nil IsTest
  operator_tests_sorted arithmetic.Xor sign = All-nil IsTest

-- the test of a shift, whose count has a type of its own
pub count_sorted : (count : Scalar) → IsPlain count → (y : Term) → IsOf y count → IsTest (less y (constant (width_of count) 32))
count_sorted _ (byte s) y e = less_sorted W8 y (constant W8 32) e (constant_sorted W8 32 (omega arith))
count_sorted _ (half s) y e = less_sorted W16 y (constant W16 32) e (constant_sorted W16 32 (omega arith))
count_sorted _ (full s) y e = less_sorted W32 y (constant W32 32) e (constant_sorted W32 32 (omega arith))

less_of_sorted : (t : Scalar) → IsPlain t → (x y : Term) → IsOf x t → IsOf y t → IsTest (less_of t x y)
unfolding sort_of sort_of_atom sort_of_binary
less_of_sorted _ (byte true) x y ex ey = rw (ex, ey) refl
less_of_sorted _ (byte false) x y ex ey = rw (ex, ey) refl
less_of_sorted _ (half true) x y ex ey = rw (ex, ey) refl
less_of_sorted _ (half false) x y ex ey = rw (ex, ey) refl
less_of_sorted _ (full true) x y ex ey = rw (ex, ey) refl
less_of_sorted _ (full false) x y ex ey = rw (ex, ey) refl

pub compared_sorted : (operator : Comparison) (t : Scalar) → IsPlain t → (x y : Term) → IsOf x t → IsOf y t → IsTest (compared operator t x y)
unfolding compared sort_of sort_of_atom sort_of_unary sort_of_binary
compared_sorted comparison.Equal t plain x y ex ey = equal_sorted (width_of t) x y ex ey
compared_sorted comparison.NotEqual t plain x y ex ey = not_sorted (equal x y) (equal_sorted (width_of t) x y ex ey)
compared_sorted comparison.Less t plain x y ex ey = less_of_sorted t plain x y ex ey
compared_sorted comparison.Greater t plain x y ex ey = less_of_sorted t plain y x ey ex
compared_sorted comparison.LessOrEqual t plain x y ex ey = not_sorted (less_of t y x) (less_of_sorted t plain y x ey ex)
compared_sorted comparison.GreaterOrEqual t plain x y ex ey = not_sorted (less_of t x y) (less_of_sorted t plain x y ex ey)

pub set_if_sorted : (test : Term) → IsTest test → Is32 (set_if test)
set_if_sorted test e = choose_sorted test (number 1) (number 0) (Word W32) e (number_sorted 1 (omega arith)) (number_sorted 0 (omega arith))

-- ---- memory

open_memory : sort_of (open_term memory) ≡ Some Memory
unfolding sort_of sort_of_atom
open_memory = refl

pub address_sorted : (o : Object) → Is32 o.base → o.displacement < 2 ^ 32 → Is32 (address_of o)
address_sorted o e below = words_sorted _ W32 o.base (number o.displacement) e (number_sorted o.displacement below)

pub loaded_sorted : (t : Scalar) → IsPlain t → (o : Object) → Is32 o.base → o.displacement < 2 ^ 32 → IsOf (loaded t o) t
unfolding sort_of sort_of_atom sort_of_binary sort_of_quaternary
loaded_sorted _ (byte s) o e below = let a = address_sorted o e below in rw a refl
loaded_sorted _ (half s) o e below = let a = address_sorted o e below in rw a refl
loaded_sorted _ (full s) o e below = let a = address_sorted o e below in rw a refl

pub stored_sorted : (t : Scalar) → IsPlain t → (o : Object) (x : Term) → Is32 o.base → o.displacement < 2 ^ 32 → IsOf x t → sort_of (stored t o x) ≡ Some Memory
unfolding sort_of sort_of_atom sort_of_unary sort_of_binary sort_of_ternary
stored_sorted _ (byte s) o x e below ex = let a = address_sorted o e below in rw (a, ex) refl
stored_sorted _ (half s) o x e below ex = let a = address_sorted o e below in rw (a, ex) refl
stored_sorted _ (full s) o x e below ex = let a = address_sorted o e below in rw (a, ex) refl

pub read_tests_sorted : (t : Scalar) → IsPlain t → (o : Object) → Is32 o.base → o.displacement < 2 ^ 32 → All IsTest (read_tests t o)
unfolding sort_of sort_of_atom sort_of_unary sort_of_binary
read_tests_sorted t plain o e below = All-cons IsTest (is_accessible t o) (avoids_zone (address_of o) (last_byte t o) ∷ []) (accessible t plain) (one (avoids_zone (address_of o) (last_byte t o)) (avoids t plain))
  where
    a : Is32 (address_of o)
    a = address_sorted o e below

    accessible : (t : Scalar) → IsPlain t → IsTest (is_accessible t o)
    accessible _ (byte s) = rw (a, e) refl
    accessible _ (half s) = rw (a, e) refl
    accessible _ (full s) = rw (a, e) refl

    avoids : (t : Scalar) → IsPlain t → IsTest (avoids_zone (address_of o) (last_byte t o))
    avoids _ (byte s) = rw a refl
    avoids _ (half s) = rw a refl
    avoids _ (full s) = rw a refl
