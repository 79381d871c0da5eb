-- Terms of a certificate: which symbols are one, and their spelling.
use Rattle.std.specs.Prelude.{◌≡◌, ℕ, ◌<◌, ◌^◌, ◌-◌, nat_lt, Bool, true, false, List, [], ◌∷◌, ◌++◌, Option, Some, None, codes, decimal}
use Rattle.term_core_spec.specs.declared.Width.{Width}
use Rattle.term_core_spec.specs.declared.Width.TheVariants.{W8, W16, W32, W64}
use Rattle.tv_limits.specs.declared.TheConstants.{NESTING_LIMIT}
use Rattle.cert_text_spec.specs.declared.Operator.{Operator}
use Rattle.cert_text_spec.specs.declared.Operator.TheVariants as operator
use Rattle.cert_text_spec.specs.declared.Symbol.{Symbol}
use Rattle.cert_text_spec.specs.declared.Symbol.TheVariants as symbol
use Rattle.cert_text_spec.specs.Derivation.{Derives, spelled}

-- ---- the spelling of a symbol: a word, its number if it has one, and what ends that

abbrev pub operator_word : Operator → List ℕ
operator_word operator.Equal = codes "(eq"
operator_word operator.Less = codes "(ult"
operator_word operator.Choose = codes "(ite"
operator_word operator.Not = codes "(not"
operator_word operator.And = codes "(and"
operator_word operator.Or = codes "(or"
operator_word operator.Add = codes "(add"
operator_word operator.Subtract = codes "(sub"
operator_word operator.Multiply = codes "(mul"
operator_word operator.BitAnd = codes "(band"
operator_word operator.BitOr = codes "(bor"
operator_word operator.BitXor = codes "(bxor"
operator_word operator.Complement = codes "(bnot"
operator_word operator.ShiftLeft = codes "(shl"
operator_word operator.ShiftRight = codes "(shr"
operator_word operator.ShiftRightSigned = codes "(sar"
operator_word operator.Divide = codes "(udiv"
operator_word operator.Remainder = codes "(urem"
operator_word operator.Join = codes "(join"
operator_word operator.Load = codes "(load8"
operator_word (operator.ZeroExtend n) = codes "(zext "
operator_word (operator.SignExtend n) = codes "(sext "
operator_word (operator.Low n) = codes "(low "
operator_word (operator.Byte n) = codes "(byte "

abbrev pub width_word : Width → List ℕ
width_word W8 = codes "8:"
width_word W16 = codes "16:"
width_word W32 = codes "32:"
width_word W64 = codes "64:"

abbrev pub word : Symbol → List ℕ
word (symbol.Truth true) = codes "true"
word (symbol.Truth false) = codes "false"
word (symbol.Constant w n) = width_word w
word (symbol.Register n) = codes "x"
word (symbol.Entry n) = codes "e"
word (symbol.Inlined n) = codes "k"
word (symbol.Local n) = codes "v"
word (symbol.IsSet n) = codes "s"
word (symbol.Parameter n) = codes "p"
word symbol.SourceMemory = codes "m"
word symbol.ZoneMemory = codes "z"
word symbol.BinaryMemory = codes "am"
word (symbol.Open o) = operator_word o
word symbol.Close = codes ")"

-- a number that follows is below this
abbrev pub width_bound : Width → ℕ
width_bound W8 = 2 ^ 8
width_bound W16 = 2 ^ 16
width_bound W32 = 2 ^ 32
width_bound W64 = 2 ^ 64

-- the number of a symbol that has one, and the number that it is below
abbrev pub operator_number : Operator → Option (ℕ × ℕ)
operator_number (operator.ZeroExtend n) = Some (n, 2 ^ 32)
operator_number (operator.SignExtend n) = Some (n, 2 ^ 32)
operator_number (operator.Low n) = Some (n, 2 ^ 32)
operator_number (operator.Byte n) = Some (n, 2 ^ 32)
operator_number o = None

abbrev pub number : Symbol → Option (ℕ × ℕ)
number (symbol.Truth b) = None
number (symbol.Constant w n) = Some (n, width_bound w)
number (symbol.Register n) = Some (n, 2 ^ 32)
number (symbol.Entry n) = Some (n, 2 ^ 32)
number (symbol.Inlined n) = Some (n, 2 ^ 32)
number (symbol.Local n) = Some (n, 2 ^ 32)
number (symbol.IsSet n) = Some (n, 2 ^ 32)
number (symbol.Parameter n) = Some (n, 2 ^ 32)
number symbol.SourceMemory = None
number symbol.ZoneMemory = None
number symbol.BinaryMemory = None
number (symbol.Open o) = operator_number o
number symbol.Close = None

abbrev pub number_text : Option (ℕ × ℕ) → List ℕ
number_text None = []
number_text (Some (n, bound)) = decimal n

abbrev pub ending : Symbol → List ℕ
ending (symbol.Inlined n) = codes "/"
ending s = []

abbrev pub symbol_text : Symbol → List ℕ
symbol_text s = word s ++ (number_text (number s) ++ ending s)

abbrev pub IsBelow : Option (ℕ × ℕ) → Type 0
IsBelow None = Unit {0}
IsBelow (Some (n, bound)) = n < bound

-- ---- which symbols are a term

-- what is expected: a term with at most so many operators on a path, the variable after a call's number, or the arguments of
-- an operator and its closing bracket
pub data Expected : Type 0 where
  ATerm : (room : ℕ) → Expected
  AVariable : Expected
  Arguments : (room : ℕ) → Expected

-- whether a term can begin so: an operator needs room
abbrev pub begins_term : Symbol → (room : ℕ) → Bool
begins_term (symbol.Open o) room = nat_lt 0 room
begins_term symbol.Close room = false
begins_term s room = true

abbrev pub begins_variable : Symbol → Bool
begins_variable (symbol.Inlined n) = true
begins_variable (symbol.Local n) = true
begins_variable (symbol.IsSet n) = true
begins_variable (symbol.Parameter n) = true
begins_variable s = false

abbrev pub begins_argument : Symbol → (room : ℕ) → Bool
begins_argument symbol.Close room = true
begins_argument s room = begins_term s room

abbrev pub can_stand : Expected → Symbol → Bool
can_stand (ATerm room) s = begins_term s room
can_stand AVariable s = begins_variable s
can_stand (Arguments room) s = begins_argument s room

-- what is expected after a symbol that begins a term
abbrev pub after_first : Symbol → (room : ℕ) → List Expected
after_first (symbol.Open o) room = Arguments (room - 1) ∷ []
after_first (symbol.Inlined n) room = AVariable ∷ []
after_first s room = []

abbrev pub after_argument : Symbol → (room : ℕ) → List Expected
after_argument symbol.Close room = []
after_argument s room = after_first s room ++ Arguments room ∷ []

abbrev pub after : Expected → Symbol → List Expected
after (ATerm room) s = after_first s room
after AVariable s = after_first s 0
after (Arguments room) s = after_argument s room

-- before each argument is a space
abbrev pub argument_text : Symbol → List ℕ
argument_text symbol.Close = symbol_text symbol.Close
argument_text s = codes " " ++ symbol_text s

abbrev pub text_at : Expected → Symbol → List ℕ
text_at (ATerm room) s = symbol_text s
text_at AVariable s = symbol_text s
text_at (Arguments room) s = argument_text s

pub record Fits (e : Expected) (s : Symbol) : Type 0 where
  pub stands : can_stand e s ≡ true
  pub below : IsBelow (number s)

-- the symbols are a term, which nests at most so deep
abbrev pub IsTerm : List Symbol → Type 0
IsTerm symbols = Derives Fits after (ATerm NESTING_LIMIT ∷ []) symbols

unfoldable pub term_text : List Symbol → List ℕ
term_text symbols = spelled after text_at (ATerm NESTING_LIMIT ∷ []) symbols
