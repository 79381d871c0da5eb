-- Worked samples: what parsers give on a few tokens.
use Rattle.std.specs.Prelude.{◌≡◌, true, false, [], ◌∷◌, None, Ok, Err}
use Rattle.c_token_spec.specs.declared.token.Keyword.TheVariants.{Const, Void}
use Rattle.c_token_spec.specs.declared.token.Punctuator.TheVariants as punctuator
use Rattle.c_syntax_spec.specs.Expression as tree
use Rattle.c_syntax_spec.specs.Unit as unit
use Rattle.c_parse_spec.specs.declared.Role.TheVariants.{DeclaredName}
use Rattle.c_parse_spec.specs.Leaves.{mark, keyword_at, named}
use Rattle.exact_read.specs.Reading.{Wrong}
use Rattle.c_parse_laws.specs.Fuel.{parsers}
use Rattle.c_parse_laws.specs.Parameters.{void_at, read_parameters, read_global}

-- `void)`: no parameter
abbrev pub ReadsVoid : Type 0
ReadsVoid = read_parameters [] (parsers [] 9) 1 (keyword_at Void 0 ∷ mark punctuator.RightParenthesis 4 ∷ []) ≡ Ok ([], [])

-- `void const)`: one
abbrev pub ReadsConst : Type 0
ReadsConst =
    read_parameters [] (parsers [] 9) 1 (keyword_at Void 0 ∷ keyword_at Const 5 ∷ mark punctuator.RightParenthesis 10 ∷ [])
    ≡ Ok (record { specifiers = void_at 0; pointers = 0; name = None; is_open = false; lengths = tree.no_expressions } ∷ [], [])

-- `void (`: where a parameter's name is expected
abbrev pub RefusesPointer : Type 0
RefusesPointer = read_parameters [] (parsers [] 9) 1 (keyword_at Void 0 ∷ mark punctuator.LeftParenthesis 5 ∷ []) ≡ Err (Wrong DeclaredName, mark punctuator.LeftParenthesis 5 ∷ [])

abbrev pub f : tree.Name
f = record { spelling = 102 ∷ []; offset = 0 }

-- of `f()` in a typedef the name alone is read: a typedef names no function
abbrev pub LeavesFunction : Type 0
LeavesFunction =
    read_global [] (parsers [] 9) true (named f ∷ mark punctuator.LeftParenthesis 1 ∷ mark punctuator.RightParenthesis 2 ∷ [])
    ≡ Ok (unit.Object (tree.Declared 0 f false tree.no_expressions), mark punctuator.LeftParenthesis 1 ∷ mark punctuator.RightParenthesis 2 ∷ [])
