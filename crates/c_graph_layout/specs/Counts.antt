-- How many tests an expression has, and how many nodes a statement: they depend on the expression or statement alone.
use Rattle.std.specs.Prelude.{ℕ, ◌+◌, if◌then◌else◌, List, [], ◌∷◌, Some, None}
use Rattle.c_graph_spec.specs.Layout.{case_count}
use Rattle.c_types_spec.specs.declared.Scalar.{Scalar}
use Rattle.c_types_spec.specs.declared.Arithmetic.{Arithmetic}
use Rattle.c_types_spec.specs.declared.Arithmetic.TheVariants as arithmetic
use Rattle.c_types_spec.specs.declared.TestPlace.TheVariants.{Before, After}
use Rattle.c_types_spec.specs.Core.{Core, Constant, ReadLocal, GlobalAddress, Load, Target, Convert, Operate, Compare, Move, Within, Aligned, Choose, Action, Skip, Sequence, Evaluate, Set, Unset, Store, Call, If, Loop, Leave, Switch, Return, MissingReturn, Groups, no_groups, groups}

abbrev pub if_signed_count : Scalar → ℕ
if_signed_count type = if type.is_signed then 1 else 0

abbrev pub operator_count : Arithmetic → Scalar → ℕ
operator_count arithmetic.Add type = if_signed_count type
operator_count arithmetic.Subtract type = if_signed_count type
operator_count arithmetic.Multiply type = if_signed_count type
operator_count arithmetic.Divide type = 1
operator_count arithmetic.Remainder type = 1
operator_count arithmetic.ShiftLeft type = 1
operator_count arithmetic.ShiftRight type = 1
operator_count arithmetic.And type = 0
operator_count arithmetic.Or type = 0
operator_count arithmetic.Xor type = 0

unfoldable pub test_count : Core → ℕ
test_count (Constant type value) = 0
test_count (ReadLocal type local offset) = 1
test_count (GlobalAddress name) = 0
test_count (Load type address displacement offset) = test_count address + 2
test_count (Target type offset) = 2
test_count (Convert type operand) = test_count operand
test_count (Operate operator type left right offset) = test_count left + test_count right + operator_count operator type
test_count (Compare operator left right) = test_count left + test_count right
test_count (Move direction order size pointer index offset) = test_count pointer + test_count index + 1
test_count (Within bound index offset) = test_count index + 1
test_count (Aligned alignment pointer offset) = test_count pointer + 1
test_count (Choose type test first second) = test_count test + test_count first + test_count second

unfoldable pub argument_count : List Core → ℕ
argument_count [] = 0
argument_count (argument ∷ rest) = test_count argument + argument_count rest

unfoldable mutual
  pub size_of : Action → ℕ
  size_of Skip = 0
  size_of (Sequence a b) = size_of a + size_of b
  size_of (Evaluate x) = test_count x
  size_of (Set number x) = test_count x + 1
  size_of (Unset number) = 1
  size_of (Store type address displacement value offset) = test_count address + test_count value + 4
  size_of (Call number function arguments place) = argument_count arguments + 2
  size_of (If test a b) = test_count test + 1 + size_of a + size_of b
  size_of (Loop number Before test step body) = test_count test + 3 + size_of body + size_of step
  size_of (Loop number After test step body) = test_count test + 3 + size_of body
  size_of (Leave jump) = 0
  size_of (Switch test list) = test_count test + case_count list + groups_size_of list
  size_of (Return None) = 0
  size_of (Return (Some x)) = test_count x + 1
  size_of (MissingReturn offset) = 1

  pub groups_size_of : Groups → ℕ
  groups_size_of no_groups = 0
  groups_size_of (groups values body rest) = size_of body + groups_size_of rest
