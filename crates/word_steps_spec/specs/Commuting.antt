-- The rule `comm`: one operator over the same arguments in another order.
use Rattle.std.specs.Prelude.{ℕ, ◌&&◌, ◌||◌, nat_le, Bool, true, false, if◌then◌else◌, List, [], ◌∷◌, ◌++◌, length}
use Rattle.term_core_spec.specs.declared.BinaryOperator.{BinaryOperator}
use Rattle.term_core_spec.specs.declared.BinaryOperator.TheVariants as binary
use Rattle.term_core_spec.specs.declared.WordOperator.TheVariants as word
use Rattle.term_core_spec.specs.contracts.BinaryOperatorPartialEq.TheImpl as binary_test
use Rattle.term_core_spec.specs.Term.{Term, Binary}
use Rattle.term_core_spec.specs.Same.{same_term}
use Rattle.word_steps_spec.specs.Numbers.{is_bool}
use Rattle.word_steps_spec.specs.Polynomial.{same_atoms}

-- at most so many arguments are put in another order
abbrev pub ARGUMENTS : ℕ
ARGUMENTS = 48

unfoldable pub is_commutative : BinaryOperator → Bool
is_commutative binary.And = true
is_commutative binary.Or = true
is_commutative binary.Equal = true
is_commutative (binary.Word word.And) = true
is_commutative (binary.Word word.Or) = true
is_commutative (binary.Word word.Xor) = true
is_commutative (binary.Word word.Multiply) = true
is_commutative operator = false

-- `eq` may be nested in any way where all its arguments are truth values, but not over words
abbrev pub is_associative : BinaryOperator → Term → Bool
is_associative binary.Equal x = is_bool x
is_associative operator x = true

-- a term is the operator over two terms, of which x is the first
abbrev pub is_nested : BinaryOperator → BinaryOperator → Term → Bool
is_nested operator inner x = binary_test.ghosts.eq inner operator && is_associative inner x

-- the arguments of an operator, with those of nested ones in their place
unfoldable pub arguments_under : BinaryOperator → Term → List Term
arguments_under operator (Binary inner x y) =
    if is_nested operator inner x then arguments_under operator x ++ arguments_under operator y else Binary inner x y ∷ []
arguments_under operator t = t ∷ []

abbrev pub are_arguments_of_both : List Term → List Term → Bool
are_arguments_of_both ts us = nat_le (length ts) ARGUMENTS && same_atoms ts us

-- `comm X Y`
unfoldable pub same_up_to_order : Term → Term → Bool
same_up_to_order (Binary operator x y) (Binary other u v) =
    is_commutative operator && (binary_test.ghosts.eq operator other
    && ((same_term x v && same_term y u)
    || are_arguments_of_both (arguments_under operator (Binary operator x y)) (arguments_under operator (Binary operator u v))))
same_up_to_order t u = false
