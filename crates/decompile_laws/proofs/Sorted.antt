-- The terms of instructions are well sorted.
use Rattle.std.proofs.Common.{◌≡◌, ◌∙◌, ℕ, ◌+◌, ◌-◌, ◌%◌, ◌^◌, ◌<◌, ◌≤◌, ◌==◌, Bool, true, false, cond, refl, ap, arith, length, Option, Some, ℤ, pos, negsuc}
use Rattle.std.proofs.lemmas.Bool.{lt-ltb}
use Rattle.rv_instr.specs.declared.ArithmeticOperation.{ArithmeticOperation}
use Rattle.rv_instr.specs.declared.ArithmeticOperation.TheVariants as op
use Rattle.rv_instr.specs.declared.BranchTest.{BranchTest}
use Rattle.rv_instr.specs.declared.BranchTest.TheVariants as branch
use Rattle.rv_instr.specs.declared.LoadKind.{LoadKind}
use Rattle.rv_instr.specs.declared.LoadKind.TheVariants as load_kind
use Rattle.rv_instr.specs.declared.StoreKind.{StoreKind}
use Rattle.rv_instr.specs.declared.StoreKind.TheVariants as store_kind
use Rattle.rv_machine_spec.specs.Arithmetic.{word}
use Rattle.memory_spec.specs.Runs.{Run}
use Rattle.term_core_spec.specs.declared.Width.TheVariants.{W32}
use Rattle.term_core_spec.specs.declared.Sort.{Sort}
use Rattle.term_core_spec.specs.declared.Sort.TheVariants.{Truth, Word, Memory}
use Rattle.term_core_spec.specs.declared.UnaryOperator.{UnaryOperator}
use Rattle.term_core_spec.specs.declared.BinaryOperator.{BinaryOperator}
use Rattle.term_core_spec.specs.declared.BinaryOperator.TheVariants as binary
use Rattle.term_core_spec.specs.declared.WordOperator.{WordOperator}
use Rattle.term_core_spec.specs.declared.TernaryOperator.{TernaryOperator}
use Rattle.term_core_spec.specs.declared.QuaternaryOperator.{QuaternaryOperator}
use Rattle.term_core_spec.specs.Term.{Term, Unary, Binary, Ternary, Quaternary, open_term, equal, on_words}
use Rattle.term_core_spec.specs.Sort.{sort_of, sort_of_atom, sort_of_unary, sort_of_binary, sort_of_ternary, sort_of_quaternary, sort_if, with_one, with_two, with_three, with_four}
use Rattle.decompile_spec.specs.State.{register, table_index, memory}
use Rattle.decompile_spec.specs.InstructionTerms.{number, operand, address, computed, taken, loaded, stored, is_multiple, avoids, last_written}

-- ---- operators, by the sorts of their arguments

IsSorted : Term → Sort → Type 0
IsSorted t s = sort_of t ≡ Some s

unary_sorted : (o : UnaryOperator) (x : Term) (p s : Sort) → sort_of x ≡ Some p → sort_of_unary o p ≡ Some s → sort_of (Unary o x) ≡ Some s
unfolding sort_of
unary_sorted o x p s ex is = ap (with_one (sort_of_unary o)) ex ∙ is

binary_sorted : (o : BinaryOperator) (x y : Term) (p q s : Sort) → sort_of x ≡ Some p → sort_of y ≡ Some q → sort_of_binary o p q ≡ Some s → sort_of (Binary o x y) ≡ Some s
unfolding sort_of
binary_sorted o x y p q s ex ey is = ap (λ (a : Option Sort). with_two (sort_of_binary o) a (sort_of y)) ex ∙ ap (with_two (sort_of_binary o) (Some p)) ey ∙ is

ternary_sorted : (o : TernaryOperator) (x y z : Term) (p q r s : Sort) → sort_of x ≡ Some p → sort_of y ≡ Some q → sort_of z ≡ Some r → sort_of_ternary o p q r ≡ Some s → sort_of (Ternary o x y z) ≡ Some s
unfolding sort_of
ternary_sorted o x y z p q r s ex ey ez is =
    ap (λ (a : Option Sort). with_three (sort_of_ternary o) a (sort_of y) (sort_of z)) ex
    ∙ ap (λ (a : Option Sort). with_three (sort_of_ternary o) (Some p) a (sort_of z)) ey
    ∙ ap (with_three (sort_of_ternary o) (Some p) (Some q)) ez ∙ is

quaternary_sorted : (o : QuaternaryOperator) (x y z u : Term) (p q r t s : Sort) → sort_of x ≡ Some p → sort_of y ≡ Some q → sort_of z ≡ Some r → sort_of u ≡ Some t
    → sort_of_quaternary o p q r t ≡ Some s → sort_of (Quaternary o x y z u) ≡ Some s
unfolding sort_of
quaternary_sorted o x y z u p q r t s ex ey ez eu is =
    ap (λ (a : Option Sort). with_four (sort_of_quaternary o) a (sort_of y) (sort_of z) (sort_of u)) ex
    ∙ ap (λ (a : Option Sort). with_four (sort_of_quaternary o) (Some p) a (sort_of z) (sort_of u)) ey
    ∙ ap (λ (a : Option Sort). with_four (sort_of_quaternary o) (Some p) (Some q) a (sort_of u)) ez
    ∙ ap (with_four (sort_of_quaternary o) (Some p) (Some q) (Some r)) eu ∙ is

abbrev pub Is32 : Term → Type 0
Is32 t = sort_of t ≡ Some (Word W32)

abbrev pub IsTest : Term → Type 0
IsTest t = sort_of t ≡ Some Truth

pub number_sorted : (n : ℕ) → n < 2 ^ 32 → Is32 (number n)
unfolding sort_of sort_of_atom
number_sorted n below = ap (λ b. sort_if b (Word W32)) (lt-ltb n (2 ^ 32) below)

pub word_sorted : (z : ℤ) → Is32 (number (word z))
word_sorted (pos n) = number_sorted (n % 2 ^ 32) (omega arith)
word_sorted (negsuc n) = number_sorted (2 ^ 32 - 1 - n % 2 ^ 32) (omega arith)

pub open_register : (r : ℕ) → Is32 (open_term (register r))
unfolding sort_of sort_of_atom
open_register r = refl

pub open_memory : sort_of (open_term memory) ≡ Some Memory
unfolding sort_of sort_of_atom
open_memory = refl

pub operand_sorted : (r : ℕ) → Is32 (operand r)
operand_sorted r = at (r == 0)
  where
    at : (b : Bool) → Is32 (cond b (number 0) (open_term (register r)))
    at true = number_sorted 0 (omega arith)
    at false = open_register r

on_words_sorted : (o : WordOperator) (x y : Term) → Is32 x → Is32 y → Is32 (on_words o x y)
unfolding sort_of_binary
on_words_sorted o x y ex ey = binary_sorted (binary.Word o) x y (Word W32) (Word W32) (Word W32) ex ey refl

-- the test of the index of a table
pub index_sorted : (n : ℕ) → n < 2 ^ 32 → IsTest (equal (open_term table_index) (number n))
unfolding sort_of_binary
index_sorted n below = binary_sorted binary.Equal (open_term table_index) (number n) (Word W32) (Word W32) Truth (open_register 32) (number_sorted n below) refl

pub address_sorted : (base : ℕ) (offset : ℤ) → Is32 (address base offset)
address_sorted base offset = on_words_sorted _ (operand base) (number (word offset)) (operand_sorted base) (word_sorted offset)

-- a term of operators that are written out is sorted by its arguments' sorts
module _ (x y : Term) (ex : Is32 x) (ey : Is32 y) where
  pub computed_sorted : (operation : ArithmeticOperation) → Is32 (computed operation x y)
  unfolding computed sort_of sort_of_atom sort_of_unary sort_of_binary sort_of_ternary sort_of_quaternary
  computed_sorted op.Add = rw (ex, ey) refl
  computed_sorted op.Subtract = rw (ex, ey) refl
  computed_sorted op.ShiftLeft = rw (ex, ey) refl
  computed_sorted op.SetLess = rw (ex, ey) refl
  computed_sorted op.SetLessUnsigned = rw (ex, ey) refl
  computed_sorted op.Xor = rw (ex, ey) refl
  computed_sorted op.ShiftRightLogical = rw (ex, ey) refl
  computed_sorted op.ShiftRightArithmetic = rw (ex, ey) refl
  computed_sorted op.Or = rw (ex, ey) refl
  computed_sorted op.And = rw (ex, ey) refl
  computed_sorted op.Multiply = rw (ex, ey) refl
  computed_sorted op.MultiplyHigh = rw (ex, ey) refl
  computed_sorted op.MultiplyHighSignedUnsigned = rw (ex, ey) refl
  computed_sorted op.MultiplyHighUnsigned = rw (ex, ey) refl
  computed_sorted op.Divide = rw (ex, ey) refl
  computed_sorted op.DivideUnsigned = rw (ex, ey) refl
  computed_sorted op.Remainder = rw (ex, ey) refl
  computed_sorted op.RemainderUnsigned = rw (ex, ey) refl

  pub taken_sorted : (test : BranchTest) → IsTest (taken test x y)
  unfolding taken sort_of sort_of_atom sort_of_unary sort_of_binary
  taken_sorted branch.Equal = rw (ex, ey) refl
  taken_sorted branch.NotEqual = rw (ex, ey) refl
  taken_sorted branch.Less = rw (ex, ey) refl
  taken_sorted branch.GreaterOrEqual = rw (ex, ey) refl
  taken_sorted branch.LessUnsigned = rw (ex, ey) refl
  taken_sorted branch.GreaterOrEqualUnsigned = rw (ex, ey) refl

  pub stored_sorted : (kind : StoreKind) → sort_of (stored kind x y) ≡ Some Memory
  unfolding stored sort_of sort_of_atom sort_of_unary sort_of_binary sort_of_ternary
  stored_sorted store_kind.Byte = rw (ex, ey) refl
  stored_sorted store_kind.Half = rw (ex, ey) refl
  stored_sorted store_kind.Word = rw (ex, ey) refl

module _ (x : Term) (ex : Is32 x) where
  pub loaded_sorted : (kind : LoadKind) → Is32 (loaded kind x)
  unfolding loaded sort_of sort_of_atom sort_of_unary sort_of_binary sort_of_quaternary
  loaded_sorted load_kind.Byte = rw ex refl
  loaded_sorted load_kind.Half = rw ex refl
  loaded_sorted load_kind.Word = rw ex refl
  loaded_sorted load_kind.ByteUnsigned = rw ex refl
  loaded_sorted load_kind.HalfUnsigned = rw ex refl

  pub last_sorted : (kind : StoreKind) → Is32 (last_written kind x)
  unfolding sort_of sort_of_atom sort_of_binary
  last_sorted store_kind.Byte = ex
  last_sorted store_kind.Half = rw ex refl
  last_sorted store_kind.Word = rw ex refl

  pub multiple_sorted : (mask : ℕ) → mask < 2 ^ 32 → IsTest (is_multiple mask x)
  unfolding sort_of_binary
  multiple_sorted mask below =
      binary_sorted binary.Equal _ (number 0) (Word W32) (Word W32) Truth (on_words_sorted _ x (number mask) ex (number_sorted mask below)) (number_sorted 0 (omega arith)) refl

pub avoids_sorted : (a e : Term) (run : Run) → Is32 a → Is32 e → run.start < 2 ^ 32 → run.start + length run.bytes ≤ 2 ^ 32 → IsTest (avoids a e run)
unfolding sort_of_binary
avoids_sorted a e run ea ee begins within =
    binary_sorted binary.Or _ _ Truth Truth Truth
    (binary_sorted binary.Less (number (run.start + length run.bytes - 1)) a (Word W32) (Word W32) Truth (number_sorted (run.start + length run.bytes - 1) (omega arith)) ea refl)
    (binary_sorted binary.Less e (number run.start) (Word W32) (Word W32) Truth ee (number_sorted run.start begins) refl) refl
