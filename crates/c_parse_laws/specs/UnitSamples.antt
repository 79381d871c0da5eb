-- Worked samples: what the parser gives on a few tokens.
use Rattle.std.specs.Prelude.{◌≡◌, true, false, [], ◌∷◌, Ok, Err}
use Rattle.c_token_spec.specs.declared.token.Keyword.TheVariants.{Int, Typedef, Void}
use Rattle.c_token_spec.specs.declared.token.NumberType.TheVariants.{SignedInt}
use Rattle.c_token_spec.specs.declared.token.Punctuator.TheVariants as punctuator
use Rattle.c_syntax_spec.specs.declared.IntegerType.TheVariants as integer
use Rattle.c_syntax_spec.specs.Expression as tree
use Rattle.c_syntax_spec.specs.Unit as unit
use Rattle.c_parse_spec.specs.declared.Role.TheVariants.{Nothing, OperandEnd}
use Rattle.c_parse_spec.specs.Leaves.{mark, keyword_at, named, number}
use Rattle.exact_read.specs.Reading.{Wrong}
use Rattle.c_parse_laws.specs.Units.{read_unit}

abbrev pub t : tree.Name
t = record { spelling = 116 ∷ []; offset = 12 }

abbrev pub u : tree.Name
u = record { spelling = 116 ∷ []; offset = 15 }

abbrev pub a : tree.Name
a = record { spelling = 97 ∷ []; offset = 17 }

abbrev pub f : tree.Name
f = record { spelling = 102 ∷ []; offset = 4 }

abbrev pub plain_int : tree.Specifiers
plain_int = tree.Specified (record { is_typedef = false; is_static = false }) (tree.Integer integer.Int) 0

-- `typedef int t; t a = {1,};`: after its typedef the name is a typedef name, and no tree is kept of an initial value
abbrev pub ReadsTypedef : Type 0
ReadsTypedef =
    read_unit
    (keyword_at Typedef 0 ∷ keyword_at Int 8 ∷ named t ∷ mark punctuator.Semicolon 13 ∷ named u ∷ named a ∷ mark punctuator.Assign 19 ∷ mark punctuator.LeftBrace 21 ∷ number 1 SignedInt 22 ∷ mark punctuator.Comma 23 ∷ mark punctuator.RightBrace 24 ∷ mark punctuator.Semicolon 25 ∷ [])
    ≡ Ok
    (unit.Declaration (tree.Specified (record { is_typedef = true; is_static = false }) (tree.Integer integer.Int) 0) (unit.Object (tree.Declared 0 t false tree.no_expressions) ∷ [])
    ∷ unit.Declaration (tree.Specified (record { is_typedef = false; is_static = false }) (tree.TypedefName u) 15) (unit.Object (tree.Declared 0 a false tree.no_expressions) ∷ []) ∷ [])

-- `t a;`: a name that is no typedef name begins no external declaration
abbrev pub RefusesName : Type 0
RefusesName = read_unit (named u ∷ named a ∷ mark punctuator.Semicolon 18 ∷ []) ≡ Err (Wrong Nothing, named u ∷ named a ∷ mark punctuator.Semicolon 18 ∷ [])

-- `int f(void) {}`
abbrev pub ReadsFunction : Type 0
ReadsFunction =
    read_unit (keyword_at Int 0 ∷ named f ∷ mark punctuator.LeftParenthesis 5 ∷ keyword_at Void 6 ∷ mark punctuator.RightParenthesis 10 ∷ mark punctuator.LeftBrace 12 ∷ mark punctuator.RightBrace 13 ∷ [])
    ≡ Ok (unit.Definition plain_int (record { pointers = 0; name = f; parameters = [] }) unit.no_parts 13 ∷ [])

-- `int f = {1 2`: where the operand ended another is wrong
abbrev pub RefusesSecond : Type 0
RefusesSecond =
    read_unit (keyword_at Int 0 ∷ named f ∷ mark punctuator.Assign 6 ∷ mark punctuator.LeftBrace 8 ∷ number 1 SignedInt 9 ∷ number 2 SignedInt 11 ∷ [])
    ≡ Err (Wrong OperandEnd, number 2 SignedInt 11 ∷ [])
