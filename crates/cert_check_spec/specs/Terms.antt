-- Terms of certificates as terms over the variables of a proof.
use Rattle.std.specs.Prelude.{◌≡◌, ℕ, ◌<◌, List, [], ◌∷◌, ◌++◌, length, map, Some, slice_get, Contains}
use Rattle.term_core_spec.specs.declared.Width.{Width}
use Rattle.term_core_spec.specs.declared.Width.TheVariants.{W32}
use Rattle.term_core_spec.specs.declared.Sort.{Sort}
use Rattle.term_core_spec.specs.declared.Sort.TheVariants.{Truth, Word, Memory}
use Rattle.term_core_spec.specs.declared.Family.{Family}
use Rattle.term_core_spec.specs.declared.Family.TheVariants as family
use Rattle.term_core_spec.specs.declared.Variable.{Variable}
use Rattle.term_core_spec.specs.declared.UnaryOperator.{UnaryOperator}
use Rattle.term_core_spec.specs.declared.UnaryOperator.TheVariants as unary
use Rattle.term_core_spec.specs.declared.WordOperator.TheVariants as word
use Rattle.term_core_spec.specs.declared.BinaryOperator.{BinaryOperator}
use Rattle.term_core_spec.specs.declared.BinaryOperator.TheVariants as binary
use Rattle.term_core_spec.specs.Term.{Term, Unary, Binary, Octonary, truth, constant, open_term, choose, join_four}
use Rattle.cert_text_spec.specs.declared.Operator.{Operator}
use Rattle.cert_text_spec.specs.declared.Operator.TheVariants as operator
use Rattle.cert_text_spec.specs.declared.Symbol.{Symbol}
use Rattle.cert_text_spec.specs.declared.Symbol.TheVariants as symbol
use Rattle.proof_tree_spec.specs.Scope.{Body, Setting}
use Rattle.term_core_spec.specs.Sort.{bits}

-- ---- variables

abbrev pub variable : Family → (index instance : ℕ) → Sort → Variable
variable f index instance sort = record { family = f; index = index; instance = instance; sort = sort }

abbrev pub memory : Family → Variable
memory f = variable f 0 0 Memory

-- the symbols are the spelling of a variable: of the function's own, or of a body's, after the numbers of the calls that
-- lead to it. Whether it is in scope is asked of the line
pub data IsVariable (s : Setting) : List Symbol → Variable → Type 0 where
  register : (n : ℕ) → IsVariable s (symbol.Register n ∷ []) (variable family.Register n 0 (Word W32))
  entry : (n : ℕ) → IsVariable s (symbol.Entry n ∷ []) (variable family.Entry n 0 (Word W32))
  parameter : (n : ℕ) (sort : Sort) → slice_get s.parameters n ≡ Some sort → IsVariable s (symbol.Parameter n ∷ []) (variable family.Parameter n 0 sort)
  local : (b : Body) (n : ℕ) (sort : Sort) → Contains s.bodies b → slice_get b.locals n ≡ Some sort
      → IsVariable s (map symbol.Inlined b.path ++ symbol.Local n ∷ []) (variable family.Local n b.instance sort)
  is_set : (b : Body) (n : ℕ) → Contains s.bodies b → n < length b.locals
      → IsVariable s (map symbol.Inlined b.path ++ symbol.IsSet n ∷ []) (variable family.IsSet n b.instance Truth)
  source_memory : IsVariable s (symbol.SourceMemory ∷ []) (memory family.SourceMemory)
  zone_memory : IsVariable s (symbol.ZoneMemory ∷ []) (memory family.ZoneMemory)
  binary_memory : IsVariable s (symbol.BinaryMemory ∷ []) (memory family.BinaryMemory)

-- ---- operators

pub data IsUnary : Operator → UnaryOperator → Type 0 where
  not : IsUnary operator.Not unary.Not
  complement : IsUnary operator.Complement unary.Complement
  zero_extend : (w : Width) → IsUnary (operator.ZeroExtend (bits w)) (unary.ZeroExtend w)
  sign_extend : (w : Width) → IsUnary (operator.SignExtend (bits w)) (unary.SignExtend w)
  low : (w : Width) → IsUnary (operator.Low (bits w)) (unary.Low w)
  byte : (place : ℕ) → IsUnary (operator.Byte place) (unary.Byte place)

pub data IsBinary : Operator → BinaryOperator → Type 0 where
  equal : IsBinary operator.Equal binary.Equal
  less : IsBinary operator.Less binary.Less
  and : IsBinary operator.And binary.And
  or : IsBinary operator.Or binary.Or
  add : IsBinary operator.Add (binary.Word word.Add)
  subtract : IsBinary operator.Subtract (binary.Word word.Subtract)
  multiply : IsBinary operator.Multiply (binary.Word word.Multiply)
  bit_and : IsBinary operator.BitAnd (binary.Word word.And)
  bit_or : IsBinary operator.BitOr (binary.Word word.Or)
  bit_xor : IsBinary operator.BitXor (binary.Word word.Xor)
  shift_left : IsBinary operator.ShiftLeft (binary.Word word.ShiftLeft)
  shift_right : IsBinary operator.ShiftRight (binary.Word word.ShiftRight)
  shift_right_signed : IsBinary operator.ShiftRightSigned (binary.Word word.ShiftRightSigned)
  divide : IsBinary operator.Divide (binary.Word word.Divide)
  remainder : IsBinary operator.Remainder (binary.Word word.Remainder)
  load : IsBinary operator.Load binary.Load
  join : IsBinary operator.Join binary.Join

-- ---- terms

-- an operator around its arguments
abbrev pub applied : Operator → List Symbol → List Symbol
applied o arguments = symbol.Open o ∷ (arguments ++ symbol.Close ∷ [])

-- the symbols are the spelling of the term
pub data IsTermOf (s : Setting) : List Symbol → Term → Type 0 where
  truth_value : (b : _) → IsTermOf s (symbol.Truth b ∷ []) (truth b)
  number : (w : Width) (n : ℕ) → IsTermOf s (symbol.Constant w n ∷ []) (constant w n)
  a_variable : (symbols : List Symbol) (v : Variable) → IsVariable s symbols v → IsTermOf s symbols (open_term v)
  one : (o : Operator) (u : UnaryOperator) (a : List Symbol) (x : Term) → IsUnary o u → IsTermOf s a x → IsTermOf s (applied o a) (Unary u x)
  two : (o : Operator) (b : BinaryOperator) (a1 a2 : List Symbol) (x1 x2 : Term) → IsBinary o b → IsTermOf s a1 x1 → IsTermOf s a2 x2
      → IsTermOf s (applied o (a1 ++ a2)) (Binary b x1 x2)
  three : (a1 a2 a3 : List Symbol) (x1 x2 x3 : Term) → IsTermOf s a1 x1 → IsTermOf s a2 x2 → IsTermOf s a3 x3
      → IsTermOf s (applied operator.Choose (a1 ++ (a2 ++ a3))) (choose x1 x2 x3)
  four : (a1 a2 a3 a4 : List Symbol) (x1 x2 x3 x4 : Term) → IsTermOf s a1 x1 → IsTermOf s a2 x2 → IsTermOf s a3 x3 → IsTermOf s a4 x4
      → IsTermOf s (applied operator.Join (a1 ++ (a2 ++ (a3 ++ a4)))) (join_four x1 x2 x3 x4)
  eight : (a1 a2 a3 a4 a5 a6 a7 a8 : List Symbol) (x1 x2 x3 x4 x5 x6 x7 x8 : Term) → IsTermOf s a1 x1 → IsTermOf s a2 x2 → IsTermOf s a3 x3 → IsTermOf s a4 x4
      → IsTermOf s a5 x5 → IsTermOf s a6 x6 → IsTermOf s a7 x7 → IsTermOf s a8 x8
      → IsTermOf s (applied operator.Join (a1 ++ (a2 ++ (a3 ++ (a4 ++ (a5 ++ (a6 ++ (a7 ++ a8)))))))) (Octonary x1 x2 x3 x4 x5 x6 x7 x8)
