-- Parsers of calls, of what is assigned or returned, and of expression statements without their `;`
-- (ISO C11, 6.5.2.2, 6.5.16, 6.5.2.4, 6.5.3.1, 6.8.3). An expression is read first; what follows it then
-- goes on with it by the next token, where the tree so far is one that can.
use Rattle.std.specs.Prelude.{ℕ, suc, ◌+◌, ◌&&◌, Bool, true, false, Option, Some, None}
use Rattle.std.specs.Option.{is_some}
use Rattle.c_token_spec.specs.declared.token.Punctuator.{Punctuator}
use Rattle.c_token_spec.specs.declared.token.Punctuator.TheVariants as punctuator
use Rattle.c_token_spec.specs.Lexical.{Placed, Token, Name as name_token, Word, Number as number_token, Character as character_token, Mark}
use Rattle.c_syntax_spec.specs.declared.BinaryOperator.{BinaryOperator}
use Rattle.c_syntax_spec.specs.declared.BinaryOperator.TheVariants.{BitOr, BitXor, BitAnd, ShiftLeft, ShiftRight, Add, Subtract, Multiply, Divide, Remainder}
use Rattle.c_syntax_spec.specs.declared.StepOperator.{StepOperator}
use Rattle.c_syntax_spec.specs.declared.StepOperator.TheVariants.{Increment, Decrement}
use Rattle.c_syntax_spec.specs.Expression as tree
use Rattle.c_syntax_spec.specs.Unit as unit
use Rattle.c_parse_spec.specs.declared.Role.{Role}
use Rattle.c_parse_spec.specs.declared.Role.TheVariants.{Nothing, OperandEnd}
use Rattle.c_parse_spec.specs.Leaves.{plain, expected, operates}
use Rattle.c_parse_spec.specs.Expressions.{operators}
use Rattle.exact_read.specs.Reading.{Parser}
use Rattle.exact_read.specs.Grammar.{read_then, read_map, read_many, read_nothing}
use Rattle.c_parse_laws.specs.Classes.{is_mark, mark_offset, with_offset}
use Rattle.c_parse_laws.specs.Parsers.{Parsers, token, following, choose, read_open, read_bracketed}
use Rattle.c_parse_laws.specs.Types.{expressions_of}

-- what a tree is, by its outermost production
abbrev pub is_postfix : tree.Expression → Bool
is_postfix (tree.Named name) = true
is_postfix (tree.Number value type offset) = true
is_postfix (tree.Character value offset) = true
is_postfix (tree.Bracketed inner offset) = true
is_postfix (tree.Index base index offset) = true
is_postfix (tree.Member base access member offset) = true
is_postfix other = false

abbrev pub is_unary : tree.Expression → Bool
is_unary (tree.Unary operator operand offset) = true
is_unary (tree.Sizeof operand offset) = true
is_unary (tree.SizeofType type offset) = true
is_unary other = is_postfix other

abbrev pub name_of_tree : tree.Expression → Option tree.Name
name_of_tree (tree.Named name) = Some name
name_of_tree other = None

abbrev pub is_name : tree.Expression → Bool
is_name x = is_some (name_of_tree x)

-- the operators of assignments and of steps
abbrev pub assign_mark : Punctuator → Option BinaryOperator
assign_mark punctuator.StarAssign = Some Multiply
assign_mark punctuator.SlashAssign = Some Divide
assign_mark punctuator.PercentAssign = Some Remainder
assign_mark punctuator.PlusAssign = Some Add
assign_mark punctuator.MinusAssign = Some Subtract
assign_mark punctuator.ShiftLeftAssign = Some ShiftLeft
assign_mark punctuator.ShiftRightAssign = Some ShiftRight
assign_mark punctuator.AmpersandAssign = Some BitAnd
assign_mark punctuator.CaretAssign = Some BitXor
assign_mark punctuator.BarAssign = Some BitOr
assign_mark other = None

abbrev pub assign_operator : Token → Option BinaryOperator
assign_operator (Mark punctuator) = assign_mark punctuator
assign_operator (name_token spelling) = None
assign_operator (Word keyword) = None
assign_operator (number_token value type) = None
assign_operator (character_token value) = None

abbrev pub step_mark : Punctuator → Option StepOperator
step_mark punctuator.Increment = Some Increment
step_mark punctuator.Decrement = Some Decrement
step_mark other = None

abbrev pub step_operator : Token → Option StepOperator
step_operator (Mark punctuator) = step_mark punctuator
step_operator (name_token spelling) = None
step_operator (Word keyword) = None
step_operator (number_token value type) = None
step_operator (character_token value) = None

-- arguments after the `(` of a call, with its `)`
abbrev pub read_arguments : Parsers → (depth count : ℕ) → Parser Placed Role tree.Expressions
read_arguments inner depth count =
    read_map (λ made. tree.expressions made.0 (expressions_of made.1.0))
    (read_then (inner.conditional depth count)
    (λ first. read_then (read_many (λ (_ : ℕ) next. is_mark punctuator.Comma next.token) (λ so_far. following (token OperandEnd (expected OperandEnd) (mark_offset punctuator.Comma)) (λ _. inner.conditional depth so_far)) (λ so_far x. so_far + operators x) (count + operators first))
    (λ more. token OperandEnd (expected OperandEnd) (mark_offset punctuator.RightParenthesis))))

-- after the name of a call
abbrev pub read_call : Parsers → (depth count : ℕ) → (callee : tree.Name) → Parser Placed Role unit.Call
read_call inner depth count callee =
    following (read_open depth count) (λ _. choose (is_mark punctuator.RightParenthesis)
    (read_map (λ _. record { callee = callee; arguments = tree.no_expressions }) (token Nothing plain (mark_offset punctuator.RightParenthesis)))
    (read_map (λ arguments. record { callee = callee; arguments = arguments }) (read_arguments inner (suc depth) (suc count))))

-- after an expression: what makes it a call, where it is a name
abbrev pub read_called : Parsers → (depth count : ℕ) → tree.Expression → Parser Placed Role unit.Value
read_called inner depth count (tree.Named callee) = choose (is_mark punctuator.LeftParenthesis) (read_map (λ call. unit.Called call) (read_call inner depth count callee)) (read_nothing (unit.Computed (tree.Named callee)))
read_called inner depth count other = read_nothing (unit.Computed other)

-- a call or a conditional expression
abbrev pub read_value : Parsers → (depth count : ℕ) → Parser Placed Role unit.Value
read_value inner depth count = following (inner.conditional depth count) (λ x. read_called inner depth count x)

-- any unary expression
abbrev pub read_any_unary : Parsers → (depth count : ℕ) → Parser Placed Role tree.Expression
read_any_unary inner depth count =
    choose (is_mark punctuator.LeftParenthesis) (following (read_open depth count) (λ offset. read_bracketed inner depth count offset)) (inner.unary depth count)

-- `++target`, `--target`
abbrev pub read_step_before : Parsers → (depth : ℕ) → Parser Placed Role unit.Simple
read_step_before inner depth =
    following (token Nothing (operates 1) (with_offset step_operator)) (λ operator. read_map (λ target. unit.StepBefore operator.0 target operator.1) (read_any_unary inner depth 1))

-- after a target
abbrev pub read_assign : Parsers → (depth : ℕ) → (target : tree.Expression) → Parser Placed Role unit.Simple
read_assign inner depth target =
    following (token Nothing (operates (suc (operators target))) (mark_offset punctuator.Assign)) (λ offset. read_map (λ value. unit.Assign target value offset) (read_value inner depth (suc (operators target))))

abbrev pub read_assign_by : Parsers → (depth : ℕ) → (target : tree.Expression) → Parser Placed Role unit.Simple
read_assign_by inner depth target =
    following (token Nothing (operates (suc (operators target))) (with_offset assign_operator)) (λ operator. read_map (λ value. unit.AssignBy operator.0 target value operator.1) (inner.conditional depth (suc (operators target))))

abbrev pub read_step_after : (target : tree.Expression) → Parser Placed Role unit.Simple
read_step_after target = read_map (λ operator. unit.StepAfter operator.0 target operator.1) (token Nothing (operates (suc (operators target))) (with_offset step_operator))

-- after an expression that begins an expression statement
abbrev pub read_simple_after : Parsers → (depth : ℕ) → tree.Expression → Parser Placed Role unit.Simple
read_simple_after inner depth x =
    choose (λ next. is_unary x && is_mark punctuator.Assign next) (read_assign inner depth x)
    (choose (λ next. is_unary x && is_some (assign_operator next)) (read_assign_by inner depth x)
    (choose (λ next. is_postfix x && is_some (step_operator next)) (read_step_after x)
    (read_map (λ value. unit.Evaluate value) (read_called inner depth 0 x))))

-- an expression statement without its `;`, or a piece of a `for`
abbrev pub read_simple : Parsers → (depth : ℕ) → Parser Placed Role unit.Simple
read_simple inner depth =
    choose (λ next. is_some (step_operator next)) (read_step_before inner depth) (following (inner.conditional depth 0) (λ x. read_simple_after inner depth x))
