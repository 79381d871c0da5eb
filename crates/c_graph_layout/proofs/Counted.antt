-- Tests and nodes are as many as is counted.
use Rattle.std.proofs.Common.{◌≡◌, ◌∙◌, ℕ, ◌+◌, suc, Result, Ok, Err, Bool, true, false, if◌then◌else◌, List, [], ◌∷◌, ◌++◌, length, map, Some, None, refl, ap, ap₂, arith, length-append}
use Rattle.std.specs.Prelude.{IfOk}
use Rattle.term_core_spec.specs.Term.{Term, not_term}
use Rattle.c_types_spec.specs.declared.Scalar.{Scalar}
use Rattle.c_types_spec.specs.declared.Arithmetic.{Arithmetic}
use Rattle.c_types_spec.specs.declared.Arithmetic.TheVariants as arithmetic
use Rattle.c_types_spec.specs.declared.Order.{Order}
use Rattle.c_types_spec.specs.declared.Order.TheVariants.{PointerFirst, IndexFirst}
use Rattle.c_types_spec.specs.declared.TestPlace.TheVariants.{Before, After}
use Rattle.c_types_spec.specs.Core.{Core, Constant, ReadLocal, GlobalAddress, Load, Target, Convert, Operate, Compare, Move, Within, Aligned, Choose, type_of, Action, Skip, Sequence, Evaluate, Set, Unset, Store, Call, If, Loop, Leave, Switch, Return, MissingReturn, Groups, no_groups, groups}
use Rattle.c_graph_spec.specs.Values.{Globals, Object, object, no_object, terms}
use Rattle.c_graph_spec.specs.Guards.{tests, operator_tests, in_order, under, write_tests}
use Rattle.c_graph_spec.specs.Layout.{Setting, argument_tests, case_count, store_tests, value_in}
use Rattle.c_graph_spec.specs.Layout as spec
use Rattle.c_types_core.specs.Counted.{IsCounted}
use Rattle.c_graph_layout.specs.Counts.{test_count, operator_count, if_signed_count, argument_count, size_of, groups_size_of}

-- a count of as many
pub as_many : {E : Type 0} (n k : ℕ) (result : Result ℕ E) → n ≡ k → IsCounted n result → IsCounted k result
as_many n k (Ok m) e counted = counted ∙ e
as_many n k (Err error) e counted = omega (arith, e, counted)

pub many_of : {E : Type 0} (n k : ℕ) (result : Result ℕ E) → n ≡ k → IsCounted n result → IfOk result (λ m. m ≡ k)
many_of n k (Ok m) e counted = counted ∙ e
many_of n k (Err error) e counted = tt

length-map : {X Y : Type 0} (f : X → Y) (xs : List X) → length (map f xs) ≡ length xs
length-map f [] = refl
length-map f (x ∷ xs) = ap suc (length-map f xs)

signed_by : (b : Bool) (test : Term) → length (if b then test ∷ [] else []) ≡ (if b then 1 else 0)
signed_by true test = refl
signed_by false test = refl

signed_counted : (type : Scalar) (test : Term) → length (if type.is_signed then test ∷ [] else []) ≡ if_signed_count type
signed_counted type test = signed_by type.is_signed test

operator_counted : (operator : Arithmetic) (type second : Scalar) (x y : Term) → length (operator_tests operator type second x y) ≡ operator_count operator type
unfolding operator_tests
operator_counted arithmetic.Add type second x y = signed_counted type _
operator_counted arithmetic.Subtract type second x y = signed_counted type _
operator_counted arithmetic.Multiply type second x y = signed_counted type _
operator_counted arithmetic.Divide type second x y = refl
operator_counted arithmetic.Remainder type second x y = refl
operator_counted arithmetic.ShiftLeft type second x y = refl
operator_counted arithmetic.ShiftRight type second x y = refl
operator_counted arithmetic.And type second x y = refl
operator_counted arithmetic.Or type second x y = refl
operator_counted arithmetic.Xor type second x y = refl

ordered_counted : (order : Order) (first second : List Term) → length (in_order order first second) ≡ length first + length second
ordered_counted PointerFirst first second = length-append first second
ordered_counted IndexFirst first second = length-append second first ∙ omega arith

two_lists : (a b : List Term) (m n : ℕ) → length a ≡ m → length b ≡ n → length (a ++ b) ≡ m + n
two_lists a b m n p q = length-append a b ∙ ap₂ (λ (i j : ℕ). i + j) p q

three_lists : (a b c : List Term) (m n k : ℕ) → length a ≡ m → length b ≡ n → length c ≡ k → length (a ++ (b ++ c)) ≡ m + n + k
three_lists a b c m n k p q r = two_lists a (b ++ c) m (n + k) p (two_lists b c n k q r) ∙ omega arith

pub counted : (g : Globals) (o : Object) (x : Core) → length (tests g o x) ≡ test_count x
unfolding tests test_count
counted g o (Constant type value) = refl
counted g o (ReadLocal type local offset) = refl
counted g o (GlobalAddress name) = refl
counted g o (Load type address displacement offset) = two_lists (tests g o address) _ (test_count address) 2 (counted g o address) refl
counted g o (Target type offset) = refl
counted g o (Convert type operand) = counted g o operand
counted g o (Operate operator type left right offset) =
    three_lists (tests g o left) (tests g o right) _ (test_count left) (test_count right) (operator_count operator type) (counted g o left) (counted g o right)
    (operator_counted operator type (type_of right) (terms g o left).word (terms g o right).word)
counted g o (Compare operator left right) = two_lists (tests g o left) (tests g o right) (test_count left) (test_count right) (counted g o left) (counted g o right)
counted g o (Move direction order size pointer index offset) =
    let operands : length (in_order order (tests g o pointer) (tests g o index)) ≡ test_count pointer + test_count index =
    ordered_counted order (tests g o pointer) (tests g o index) ∙ ap₂ (λ (i j : ℕ). i + j) (counted g o pointer) (counted g o index) in
    two_lists (in_order order (tests g o pointer) (tests g o index)) _ (test_count pointer + test_count index) 1 operands refl
counted g o (Within bound index offset) = two_lists (tests g o index) _ (test_count index) 1 (counted g o index) refl
counted g o (Aligned alignment pointer offset) = two_lists (tests g o pointer) _ (test_count pointer) 1 (counted g o pointer) refl
counted g o (Choose type test first second) =
    three_lists (tests g o test) (map (under (terms g o test).truth) (tests g o first)) (map (under (not_term (terms g o test).truth)) (tests g o second)) (test_count test) (test_count first) (test_count second) (counted g o test)
    (length-map (under (terms g o test).truth) (tests g o first) ∙ counted g o first) (length-map (under (not_term (terms g o test).truth)) (tests g o second) ∙ counted g o second)

pub count_is : (f : Setting) (x : Core) → spec.count f x ≡ test_count x
count_is f x = counted f.place.globals no_object x

pub arguments_counted : (f : Setting) (arguments : List Core) → length (argument_tests f arguments) ≡ argument_count arguments
unfolding argument_tests argument_count
arguments_counted f [] = refl
arguments_counted f (argument ∷ rest) = two_lists _ (argument_tests f rest) (test_count argument) (argument_count rest) (count_is f argument) (arguments_counted f rest)

store_counted : (f : Setting) (type : Scalar) (address : Core) (displacement : ℕ) (value : Core) → length (store_tests f type address displacement value) ≡ test_count address + test_count value + 3
store_counted f type address displacement value =
    let o : Object = object (value_in f address) displacement in
    three_lists _ (tests f.place.globals o value) (write_tests f.place.runs type o) (test_count address) (test_count value) 3 (count_is f address) (counted f.place.globals o value) refl

mutual
  unfolding spec.size size_of spec.groups_size groups_size_of

  pub size_is : (f : Setting) (a : Action) → spec.size f a ≡ size_of a
  size_is f Skip = refl
  size_is f (Sequence a b) = ap₂ (λ (i j : ℕ). i + j) (size_is f a) (size_is f b)
  size_is f (Evaluate x) = count_is f x
  size_is f (Set number x) = ap (λ (i : ℕ). i + 1) (count_is f x)
  size_is f (Unset number) = refl
  size_is f (Store type address displacement value offset) = omega (arith, store_counted f type address displacement value)
  size_is f (Call number function arguments place) = ap (λ (i : ℕ). i + 2) (arguments_counted f arguments)
  size_is f (If test a b) = omega (arith, count_is f test, size_is f a, size_is f b)
  size_is f (Loop number Before test step body) = omega (arith, count_is f test, size_is f body, size_is f step)
  size_is f (Loop number After test step body) = omega (arith, count_is f test, size_is f body)
  size_is f (Leave jump) = refl
  size_is f (Switch test list) = omega (arith, count_is f test, groups_size_is f list)
  size_is f (Return None) = refl
  size_is f (Return (Some x)) = ap (λ (i : ℕ). i + 1) (count_is f x)
  size_is f (MissingReturn offset) = refl

  pub groups_size_is : (f : Setting) (list : Groups) → spec.groups_size f list ≡ groups_size_of list
  groups_size_is f no_groups = refl
  groups_size_is f (groups values body rest) = ap₂ (λ (i j : ℕ). i + j) (size_is f body) (groups_size_is f rest)
