-- Readers of symbols and terms.
use Rattle.std.specs.Prelude.{ℕ, zero, suc, true, false, if◌then◌else◌, List, [], ◌∷◌, ◌++◌, map, Option, Some, None, codes}
use Rattle.exact_read.specs.Grammar.{read_then, read_map}
use Rattle.term_core_spec.specs.declared.Width.TheVariants.{W8, W16, W32, W64}
use Rattle.tv_limits.specs.declared.TheConstants.{NESTING_LIMIT}
use Rattle.cert_text_spec.specs.declared.Operator.{Operator}
use Rattle.cert_text_spec.specs.declared.Operator.TheVariants as operator
use Rattle.cert_text_spec.specs.declared.Symbol.{Symbol}
use Rattle.cert_text_spec.specs.declared.Symbol.TheVariants as symbol
use Rattle.cert_text_spec.specs.Terms.{Expected, ATerm, AVariable, Arguments, word, number, after}
use Rattle.cert_text_spec.specs.Lines.{is_digit}
use Rattle.cert_text_laws.specs.Readers.{Reader, refused, given, read_word, read_decimal, read_items}
use Rattle.cert_text_laws.specs.Parts.{read_ended, read_number}

-- ---- the words with which symbols begin; a number is 0 here

abbrev pub atoms : List Symbol
atoms =
    symbol.Truth true ∷ symbol.Truth false ∷ symbol.Constant W8 0 ∷ symbol.Constant W16 0 ∷ symbol.Constant W32 0 ∷ symbol.Constant W64 0 ∷ symbol.Register 0
    ∷ symbol.Entry 0 ∷ symbol.Inlined 0 ∷ symbol.Local 0 ∷ symbol.IsSet 0 ∷ symbol.Parameter 0 ∷ symbol.SourceMemory ∷ symbol.ZoneMemory ∷ symbol.BinaryMemory ∷ []

abbrev pub variables : List Symbol
variables = symbol.Inlined 0 ∷ symbol.Local 0 ∷ symbol.IsSet 0 ∷ symbol.Parameter 0 ∷ []

abbrev pub operators : List Operator
operators =
    operator.Equal ∷ operator.Less ∷ operator.Choose ∷ operator.Not ∷ operator.And ∷ operator.Or ∷ operator.Add ∷ operator.Subtract ∷ operator.Multiply
    ∷ operator.BitAnd ∷ operator.BitOr ∷ operator.BitXor ∷ operator.Complement ∷ operator.ShiftLeft ∷ operator.ShiftRight ∷ operator.ShiftRightSigned
    ∷ operator.Divide ∷ operator.Remainder ∷ operator.Join ∷ operator.Load ∷ operator.ZeroExtend 0 ∷ operator.SignExtend 0 ∷ operator.Low 0 ∷ operator.Byte 0 ∷ []

abbrev pub opens : List Symbol
opens = map symbol.Open operators

-- those after a text
abbrev pub words_of : (lead : List ℕ) → List Symbol → List (List ℕ × Symbol)
words_of lead symbols = map (λ s. (lead ++ word s, s)) symbols

abbrev pub firsts : (room : ℕ) → List Symbol
firsts zero = atoms
firsts (suc room) = atoms ++ opens

abbrev pub words_at : Expected → List (List ℕ × Symbol)
words_at (ATerm room) = words_of [] (firsts room)
words_at AVariable = words_of [] variables
words_at (Arguments room) = (word symbol.Close, symbol.Close) ∷ words_of (codes " ") (firsts room)

-- ---- the number after a word

-- no digit comes next
abbrev pub read_no_digit : Reader (Unit {0})
read_no_digit [] = given (tt {0}) []
read_no_digit (c ∷ more) = if is_digit c then refused (c ∷ more) else given (tt {0}) (c ∷ more)

abbrev pub read_optional : Option (ℕ × ℕ) → Reader ℕ
read_optional None = read_map (λ _. 0) read_no_digit
read_optional (Some (n, bound)) = read_decimal 0 bound

abbrev pub read_call : Reader ℕ
read_call = read_map (λ p. p.0) (read_then (read_ended read_number (codes "/")) (λ _. read_no_digit))

abbrev pub read_rest : Symbol → Reader ℕ
read_rest (symbol.Inlined n) = read_call
read_rest s = read_optional (number s)

abbrev pub numbered_operator : Operator → ℕ → Operator
numbered_operator (operator.ZeroExtend m) n = operator.ZeroExtend n
numbered_operator (operator.SignExtend m) n = operator.SignExtend n
numbered_operator (operator.Low m) n = operator.Low n
numbered_operator (operator.Byte m) n = operator.Byte n
numbered_operator o n = o

abbrev pub numbered : Symbol → ℕ → Symbol
numbered (symbol.Constant w m) n = symbol.Constant w n
numbered (symbol.Register m) n = symbol.Register n
numbered (symbol.Entry m) n = symbol.Entry n
numbered (symbol.Inlined m) n = symbol.Inlined n
numbered (symbol.Local m) n = symbol.Local n
numbered (symbol.IsSet m) n = symbol.IsSet n
numbered (symbol.Parameter m) n = symbol.Parameter n
numbered (symbol.Open o) n = symbol.Open (numbered_operator o n)
numbered s n = s

abbrev pub read_symbol : Expected → Reader Symbol
read_symbol e = read_map (λ p. numbered p.0 p.1) (read_then (read_word (words_at e)) read_rest)

abbrev pub read_term : Reader (List Symbol)
read_term = read_items read_symbol after (ATerm NESTING_LIMIT ∷ [])
