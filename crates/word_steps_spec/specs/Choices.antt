-- The rule `lift`: choices by one condition moved out of joins, out of their arms, and out of an `eq`.
use Rattle.std.specs.Prelude.{◌&&◌, ◌||◌, not, Bool, true, false, if◌then◌else◌, List, [], ◌∷◌, Option, Some, None}
use Rattle.term_core_spec.specs.declared.BinaryOperator.TheVariants as binary
use Rattle.term_core_spec.specs.declared.TernaryOperator.TheVariants as ternary
use Rattle.term_core_spec.specs.declared.QuaternaryOperator.TheVariants as quaternary
use Rattle.term_core_spec.specs.Term.{Term, Binary, Ternary, Quaternary, Octonary, truth, constant, not_term, equal, choose}
use Rattle.term_core_spec.specs.Sort.{bits}
use Rattle.term_core_spec.specs.Same.{same_term}
use Rattle.term_norm_spec.specs.Patterns.{width_of, is_constant}
use Rattle.word_steps_spec.specs.Numbers.{operands, at_places, made, operation_of}
use Rattle.word_steps_spec.specs.Polynomial.{plus, is_empty}
use Rattle.word_steps_spec.specs.Sides.{are_words}
use Rattle.word_steps_spec.specs.Ring.{polynomial}

-- an `ite` taken apart
pub record Choice : Type 0 where
  pub test : Term
  pub first : Term
  pub second : Term

unfoldable pub choice_in : Term → Option Choice
choice_in (Ternary ternary.Choose test x y) = Some (record { test = test; first = x; second = y })
choice_in t = None

-- the arm of an `ite` by the condition c
abbrev pub arm_of : Term → Bool → Option Choice → Option Term
arm_of c b (Some k) = if same_term k.test c then Some (if b then k.first else k.second) else None
arm_of c b None = None

abbrev pub arm : Term → Bool → Term → Option Term
arm c b t = arm_of c b (choice_in t)

-- ---- joins of choices by one condition

abbrev pub is_some : Option Term → Bool
is_some (Some t) = true
is_some None = false

unfoldable pub are_choices : Term → List Term → Bool
are_choices c [] = true
are_choices c (t ∷ rest) = is_some (arm c true t) && are_choices c rest

unfoldable pub is_join : Term → Bool
is_join (Binary binary.Join x y) = true
is_join (Quaternary quaternary.Join w x y z) = true
is_join (Octonary s t u v w x y z) = true
is_join t = false

-- the arm of t where c is b: that of a choice by c, else t
abbrev pub arm_or_itself : Option Term → Term → Term
arm_or_itself (Some u) t = u
arm_or_itself None t = t

-- the operator over the arms of its arguments
abbrev pub with_arms : Term → Bool → Term → Term
with_arms c b t = made (at_places (λ i u. arm_or_itself (arm c b u) u) (operation_of t))

-- x is a join of choices by c, and y the choice of its arms by c
abbrev pub is_lifted_join : Term → Option Choice → Bool
is_lifted_join x (Some k) =
    is_join x && (are_choices k.test (operands (operation_of x))
    && (same_term (with_arms k.test true x) k.first && same_term (with_arms k.test false x) k.second))
is_lifted_join x None = false

-- ---- a choice in an arm under its own condition

abbrev pub without_inner : Choice → Term
without_inner k = choose k.test (arm_or_itself (arm k.test true k.first) k.first) (arm_or_itself (arm k.test false k.second) k.second)

abbrev pub is_without_inner : Option Choice → Term → Bool
is_without_inner (Some k) y = same_term (without_inner k) y
is_without_inner None y = false

-- ---- `eq` of a choice

-- `eq (ite c k l) n` of constants, where k isn't l: c, `not c` or `false`
abbrev pub equal_choice : Choice → Term → Term
equal_choice k n = if same_term k.first n then k.test else if same_term k.second n then not_term k.test else truth false

-- `eq (ite c x -x) 0` is `eq x 0`
abbrev pub are_opposite_words : Term → Term → Bool
are_opposite_words x y = are_words x y && is_empty (plus (bits (width_of x)) (polynomial x) (polynomial y))

abbrev pub is_equal_choice : Option Choice → (n y : Term) → Bool
is_equal_choice (Some k) n y =
    are_words k.first n && (are_words k.second n
    && ((is_constant n && (is_constant k.first && (is_constant k.second && (not (same_term k.first k.second) && same_term (equal_choice k n) y))))
    || (same_term n (constant (width_of k.first) 0) && (are_opposite_words k.first k.second && same_term (equal k.first n) y))))
is_equal_choice None n y = false

unfoldable pub is_lifted_equality : Term → Term → Bool
is_lifted_equality (Binary binary.Equal x n) y = is_equal_choice (choice_in x) n y
is_lifted_equality t y = false

-- ---- `lift X Y`

abbrev pub is_lifted : Term → Term → Bool
is_lifted x y = is_lifted_join x (choice_in y) || (is_without_inner (choice_in x) y || is_lifted_equality x y)

unfoldable pub same_by_lifting : Term → Term → Bool
same_by_lifting x y = is_lifted x y || is_lifted y x
