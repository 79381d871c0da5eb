-- The reference parsers of the program's functions, where `c_parse_laws` has no name for them.
use Rattle.std.specs.Prelude.{◌≡◌, ◌≤◌, ◌+◌, Result, ℕ, suc, Bool, true, false, List, [], ◌∷◌, ◌++◌, map, Option, Some, None, Ok, Err, Vec}
use Rattle.std.specs.declared.alloc.Global.{Global}
use Rattle.std.specs.declared.boxed.Box.{Box}
use Rattle.c_token_spec.specs.declared.token.Punctuator.{Punctuator}
use Rattle.c_token_spec.specs.declared.token.Punctuator.TheVariants as punctuator
use Rattle.c_token_spec.specs.Lexical.{Placed}
use Rattle.c_syntax_spec.specs.Expression as tree
use Rattle.c_parse_spec.specs.Limits.{nesting_limit, operator_limit}
use Rattle.c_parse_spec.specs.declared.Role.{Role}
use Rattle.c_parse_spec.specs.declared.Role.TheVariants.{Nothing, OperandEnd}
use Rattle.c_parse_spec.specs.Leaves.{expected, plain}
use Rattle.c_parse_spec.specs.Expressions.{Counting, Alone, Within, advance, count_at, member_end, operators, operators_of_specifiers, operators_of_declarator, operators_of_lengths, operators_of_constants}
use Rattle.exact_read.specs.Reading.{Outcome, Parser}
use Rattle.exact_read.specs.Grammar.{bind, read_map, read_then, read_many}
use Rattle.c_parse_laws.specs.Classes.{is_mark, mark_offset, name_at, begins_type}
use Rattle.c_parse_laws.specs.Parsers.{Parsers, token, following, before, choose, with_suffix, with_operation, read_operation, read_suffix, read_index, read_member, read_open, read_type, read_bracketed}
use Rattle.c_parse_laws.specs.Fuel.{parsers}
use Rattle.c_parse_laws.specs.Types as types
use Rattle.c_syntax.specs.declared.expression.TypeSpecifier.{TypeSpecifier}
use Rattle.c_syntax.specs.declared.expression.Constant.{Constant}
use Rattle.c_syntax.specs.declared.expression.Declarator.{Declarator}
use Rattle.c_syntax.specs.declared.expression.Dimensions.{Dimensions}
use Rattle.c_syntax.specs.declared.expression.Expression.{Expression}
use Rattle.c_syntax.specs.declared.expression.Member.{Member}
use Rattle.c_syntax.specs.declared.expression.Specifiers.{Specifiers}
use Rattle.c_syntax.specs.declared.expression.TypeName.{TypeName}
use Rattle.c_syntax.specs.Expressions.{unboxed, expression_of, type_name_of, specifiers_of, type_specifier_of, member_of, declarator_of, dimensions_of, constant_of, constants_of}
use Rattle.c_parse_token.specs.declared.names.TypedefNames.{TypedefNames}
use Rattle.attempt.specs.declared.refusal.Refusal.{Refusal}
use Rattle.c_parse_token.specs.declared.outcome.SyntaxFault.{SyntaxFault}
use Rattle.c_parse_token.specs.Lists.{list_of, names_of, Gives, IsCounted, IsNoLonger}
use Rattle.c_parse_token.specs.declared.tokens.Tokens.{Tokens}
use Rattle.c_parse_expression.specs.declared.expression.Scope.{Scope}

-- the reference parsers of parts, where these typedef names are in scope
abbrev pub inside : TypedefNames → (fuel : ℕ) → Parsers
inside names fuel = parsers (names_of names) fuel

-- those of a scope, and the typedef names in it
abbrev pub around : Scope → Parsers
around scope = inside scope.names.now scope.fuel

abbrev pub names_in : Scope → List (List ℕ)
names_in scope = names_of scope.names.now

-- the trees of the program
abbrev pub tree_of : Box Expression Global → tree.Expression
tree_of x = expression_of x.value

abbrev pub type_of : Box TypeName Global → tree.TypeName
type_of x = type_name_of x.value

-- What a parser of a part reads: the value and the tokens after it are those that the reference parser gives, `Moves`
-- relates the value to the operators that are counted after it, and `Shrinks` the tokens after it to those before.
pub record Took {X Y : Type 0} (outcome : Outcome Placed Role Y) (view : X → Y) (Moves : Y → ℕ → Type 0) (Shrinks : Tokens → Tokens → Type 0) (old new : Tokens) (x : X) : Type 0 where
  pub gives : outcome ≡ Ok (view x, list_of new.rest.now)
  pub counted : Moves (view x) new.count
  pub shorter : Shrinks new old

-- the same, or the fault that the reference parser gives, or out of memory
abbrev pub Given : {X Y : Type 0} → (outcome : Outcome Placed Role Y) → (view : X → Y) → (Moves : Y → ℕ → Type 0) → (Shrinks : Tokens → Tokens → Type 0) → (old new : Tokens) → Result X (Refusal SyntaxFault) → Type 0
Given outcome view Moves Shrinks old new (Ok x) = Took outcome view Moves Shrinks old new x
Given {X = X} outcome view Moves Shrinks old new (Err stopped) = Gives {X = X} outcome view new.rest.now (Err stopped)

abbrev pub Reads : {X Y : Type 0} → (reader : Parser Placed Role Y) → (view : X → Y) → (Moves : Y → ℕ → Type 0) → (Shrinks : Tokens → Tokens → Type 0) → (old new : Tokens) → Result X (Refusal SyntaxFault) → Type 0
Reads reader view Moves Shrinks old new result = Given (reader (list_of old.rest.now)) view Moves Shrinks old new result

-- no limit is exceeded yet
abbrev pub Fits : Scope → Tokens → Type 0
Fits scope tokens = (scope.depth ≤ nesting_limit) × (tokens.count ≤ operator_limit)

-- the operators of a part are counted after so many, or those of an expression after those of a part of it that was read before
abbrev pub Counts : {Y : Type 0} → (operators_of : Y → ℕ) → (before : ℕ) → Y → (after : ℕ) → Type 0
Counts operators_of before y after = IsCounted before (operators_of y) after

abbrev pub CountsAfter : (part : tree.Expression) → (before : ℕ) → tree.Expression → (after : ℕ) → Type 0
CountsAfter part before x after = (after + operators part ≡ before + operators x) × (after ≤ operator_limit)

-- an expression is read, and one that begins with a part that was read before
abbrev pub ReadsExpression : (reader : Parser Placed Role tree.Expression) → (before : ℕ) → (old new : Tokens) → Result (Box Expression Global) (Refusal SyntaxFault) → Type 0
ReadsExpression reader before old new result = Reads reader tree_of (Counts operators before) IsNoLonger old new result

abbrev pub ReadsAfter : (reader : Parser Placed Role tree.Expression) → (part : tree.Expression) → (Shrinks : Tokens → Tokens → Type 0) → (old new : Tokens) → Result (Box Expression Global) (Refusal SyntaxFault) → Type 0
ReadsAfter reader part Shrinks old new result = Reads reader tree_of (CountsAfter part old.count) Shrinks old new result

-- an expression and the punctuator that ends it
abbrev pub read_ended : Parsers → (depth count : ℕ) → (end : Punctuator) → Parser Placed Role tree.Expression
read_ended inner depth count end = before (inner.conditional depth count) (token OperandEnd (expected OperandEnd) (mark_offset end))

-- what is after a postfix expression, with it
abbrev pub read_suffix_after : Parsers → (depth count : ℕ) → (base : tree.Expression) → Parser Placed Role tree.Expression
read_suffix_after inner depth count base = read_map (with_suffix base) (read_suffix inner depth count)

abbrev pub read_index_after : Parsers → (depth count : ℕ) → (base : tree.Expression) → Parser Placed Role tree.Expression
read_index_after inner depth count base = read_map (with_suffix base) (read_index inner depth count)

abbrev pub read_member_after : (count : ℕ) → (base : tree.Expression) → Parser Placed Role tree.Expression
read_member_after count base = read_map (with_suffix base) (read_member count)

-- an operation after its left operand, with it
abbrev pub read_operation_after : Parsers → (depth level count : ℕ) → (left : tree.Expression) → Parser Placed Role tree.Expression
read_operation_after inner depth level count left = read_map (with_operation left) (read_operation inner depth level count)

-- what is after `sizeof` where it begins with `(`
abbrev pub read_sized_in_brackets : (names : List (List ℕ)) → Parsers → (depth count offset : ℕ) → Parser Placed Role tree.Expression
read_sized_in_brackets names inner depth count offset =
    following (read_open depth count) (λ opened. choose (begins_type names)
    (read_map (λ type. tree.SizeofType type offset) (read_type inner depth (suc count)))
    (read_map (λ x. tree.Sizeof x offset) (read_bracketed inner depth count opened)))

-- which whole expression the lengths and enumeration values of a type belong to
abbrev pub counting_of : (is_alone : Bool) → (count : ℕ) → Counting
counting_of true count = Alone
counting_of false count = Within count

-- where a part of an expression, or of a type, is parsed
abbrev pub expression_in : {Y : Type 0} → (Parsers → (depth count : ℕ) → Parser Placed Role Y) → Scope → Tokens → Parser Placed Role Y
expression_in parser scope tokens = parser (around scope) scope.depth tokens.count

abbrev pub counting_in : Scope → Tokens → Counting
counting_in scope tokens = counting_of scope.is_alone tokens.count

abbrev pub type_in : {Y : Type 0} → (Parsers → (depth : ℕ) → Counting → Parser Placed Role Y) → Scope → Tokens → Parser Placed Role Y
type_in parser scope tokens = parser (around scope) scope.depth (counting_in scope tokens)

-- so many operators more were read in a type
abbrev pub IsAdvanced : (is_alone : Bool) → (before more after : ℕ) → Type 0
IsAdvanced is_alone before more after = (advance (counting_of is_alone before) more ≡ counting_of is_alone after) × (after ≤ operator_limit)

-- the operators of a part of a type are counted after so many
abbrev pub Advances : {Y : Type 0} → (operators_of : Y → ℕ) → (is_alone : Bool) → (before : ℕ) → Y → (after : ℕ) → Type 0
Advances operators_of is_alone before y after = IsAdvanced is_alone before (operators_of y) after

-- a part of a type is read
abbrev pub ReadsPart : {X Y : Type 0} → (reader : Parsers → (depth : ℕ) → Counting → Parser Placed Role Y) → (view : X → Y) → (operators_of : Y → ℕ) → (Shrinks : Tokens → Tokens → Type 0) → Scope → (old new : Tokens) → Result X (Refusal SyntaxFault) → Type 0
ReadsPart reader view operators_of Shrinks scope old new result = Reads (type_in reader scope old) view (Advances operators_of scope.is_alone old.count) Shrinks old new result

-- the trees of parts of types, and of lists of them
abbrev pub specified_of : Box Specifiers Global → tree.Specifiers
specified_of x = specifiers_of x.value

abbrev pub specifier_of : Box TypeSpecifier Global → tree.TypeSpecifier
specifier_of x = type_specifier_of x.value

abbrev pub member_row : Box Member Global → tree.Specifiers × tree.Declarators
member_row x = member_of x.value

abbrev pub member_rows : Vec (Box Member Global) Global → List (tree.Specifiers × tree.Declarators)
member_rows rows = map member_of (unboxed rows)

abbrev pub declarator_row : Box Declarator Global → tree.Declarator
declarator_row x = declarator_of x.value

abbrev pub declarator_rows : Vec (Box Declarator Global) Global → List tree.Declarator
declarator_rows rows = map declarator_of (unboxed rows)

abbrev pub array_of : Box Dimensions Global → Bool × tree.Expressions
array_of x = dimensions_of x.value

abbrev pub length_rows : Vec (Box Expression Global) Global → List tree.Expression
length_rows rows = map expression_of (unboxed rows)

abbrev pub constant_row : Box Constant Global → tree.Name × Option tree.Expression
constant_row x = constant_of x.value

abbrev pub constant_rows : Vec (Box Constant Global) Global → List (tree.Name × Option tree.Expression)
constant_rows rows = map constant_of (unboxed rows)

-- the operators of an array, and of constants with what is expected after them
abbrev pub operators_of_array : Bool × tree.Expressions → ℕ
operators_of_array array = operators_of_lengths array.1

abbrev pub operators_of_rows : List (tree.Name × Option tree.Expression) × Role → ℕ
operators_of_rows read = operators_of_constants (constants_of read.0)

-- a declaration of members, and such declarations
abbrev pub read_member_row : Parsers → (depth : ℕ) → (counting : Counting) → Parser Placed Role (tree.Specifiers × tree.Declarators)
read_member_row inner depth counting = read_then (inner.specifiers depth counting) (λ specifiers. types.read_member_list inner depth (advance counting (operators_of_specifiers specifiers)))

abbrev pub starts_member : (names : List (List ℕ)) → Counting → Placed → Bool
starts_member names counting next = begins_type names next.token

abbrev pub after_member : Counting → tree.Specifiers × tree.Declarators → Counting
after_member counting member = advance counting (types.operators_of_member member)

abbrev pub read_all_members : (names : List (List ℕ)) → Parsers → (depth : ℕ) → (counting : Counting) → Parser Placed Role tree.Members
read_all_members names inner depth counting = read_map types.members_of (read_many (starts_member names) (read_member_row inner depth) after_member counting)

-- declarators of members, each after a comma
abbrev pub read_next_declarator : Parsers → (depth : ℕ) → (counting : Counting) → Parser Placed Role tree.Declarator
read_next_declarator inner depth counting = following (token Nothing plain (mark_offset punctuator.Comma)) (λ _. types.read_declarator name_at inner depth counting)

abbrev pub starts_declarator : Counting → Placed → Bool
starts_declarator counting next = is_mark punctuator.Comma next.token

abbrev pub after_declarator : Counting → tree.Declarator → Counting
after_declarator counting declarator = advance counting (operators_of_declarator declarator)

-- what is expected after declarators of members
abbrev pub list_end : List tree.Declarator → Role
list_end [] = Nothing
list_end (x ∷ xs) = member_end (types.last_of x xs)

-- the `;` after declarators of members
abbrev pub list_close : (rows : List tree.Declarator) → Parser Placed Role tree.Declarators
list_close rows after = bind (token (list_end rows) (expected (list_end rows)) (mark_offset punctuator.Semicolon) after) (λ _ last. Ok (types.declarators_of rows, last))

-- declarators of members after the first, and the `;` after them
abbrev pub read_more_declarators : Parsers → (depth : ℕ) → (counting : Counting) → (first : tree.Declarator) → Parser Placed Role tree.Declarators
read_more_declarators inner depth counting first tokens = bind (read_many starts_declarator (read_next_declarator inner depth) after_declarator counting tokens) (λ more. list_close (first ∷ more))

-- lengths of an array, after those given
abbrev pub starts_length : Counting → Placed → Bool
starts_length counting next = is_mark punctuator.LeftBracket next.token

abbrev pub after_length : Counting → tree.Expression → Counting
after_length counting length = advance counting (operators length)

abbrev pub read_lengths_from : (given : List tree.Expression) → Parsers → (depth : ℕ) → (counting : Counting) → Parser Placed Role tree.Expressions
read_lengths_from given inner depth counting = read_map (λ more. types.expressions_of (given ++ more)) (read_many starts_length (types.read_length inner depth) after_length counting)

-- after `[` an array whose first length is left out, and one whose first length is given
abbrev pub read_open_array : Parsers → (depth : ℕ) → (counting : Counting) → Parser Placed Role (Bool × tree.Expressions)
read_open_array inner depth counting = read_map (λ lengths. (true, lengths)) (following (token Nothing plain (mark_offset punctuator.RightBracket)) (λ _. types.read_lengths inner depth counting))

abbrev pub read_given_array : Parsers → (depth : ℕ) → (counting : Counting) → Parser Placed Role (Bool × tree.Expressions)
read_given_array inner depth counting =
    read_map (λ pair. (false, tree.expressions pair.0 pair.1))
    (read_then (read_ended inner (suc depth) (count_at counting) punctuator.RightBracket) (λ first. types.read_lengths inner depth (advance counting (operators first))))

-- the constants among some parts
abbrev pub given : List (Option (tree.Name × Option tree.Expression)) → List (tree.Name × Option tree.Expression)
given [] = []
given (None ∷ parts) = given parts
given (Some constant ∷ parts) = constant ∷ given parts

-- constants after those read, of which the last expects this, and what is expected after them
abbrev pub read_constants_from : (names : List (List ℕ)) → Parsers → (depth : ℕ) → (read : List (tree.Name × Option tree.Expression)) → types.After → Parser Placed Role (List (tree.Name × Option tree.Expression) × Role)
read_constants_from names inner depth read after =
    read_map (λ parts. (read ++ given parts, types.after_role (types.context_of after parts))) (read_many (types.constants_start names) (types.read_constants_part names inner depth) types.next_after after)
