-- Worked samples: what parsers give on a few tokens.
use Rattle.std.specs.Prelude.{◌≡◌, false, List, [], ◌∷◌, None, Ok, Err}
use Rattle.c_token_spec.specs.declared.token.Keyword.TheVariants.{Int, Long, Const, Enum}
use Rattle.c_token_spec.specs.declared.token.NumberType.TheVariants.{SignedInt}
use Rattle.c_token_spec.specs.declared.token.Punctuator.TheVariants as punctuator
use Rattle.c_token_spec.specs.Lexical.{Placed}
use Rattle.c_syntax_spec.specs.declared.IntegerType.TheVariants as integer
use Rattle.c_syntax_spec.specs.declared.BinaryOperator.TheVariants.{Add}
use Rattle.c_syntax_spec.specs.Expression as tree
use Rattle.c_parse_spec.specs.declared.Role.TheVariants.{Nothing}
use Rattle.c_parse_spec.specs.Leaves.{mark, keyword_at, named, number}
use Rattle.c_parse_spec.specs.Limits.{nesting_limit}
use Rattle.exact_read.specs.Reading.{LimitExceeded, Wrong}
use Rattle.c_parse_laws.specs.Fuel.{parsers}

-- `(int const *)0`
abbrev pub cast_tokens : List Placed
cast_tokens = mark punctuator.LeftParenthesis 0 ∷ keyword_at Int 1 ∷ keyword_at Const 5 ∷ mark punctuator.Star 11 ∷ mark punctuator.RightParenthesis 12 ∷ number 0 SignedInt 13 ∷ []

abbrev pub cast_tree : tree.Expression
cast_tree = tree.Cast (tree.Pointers (tree.Specified (record { is_typedef = false; is_static = false }) (tree.Integer integer.Int) 1) 1) (tree.Number 0 SignedInt 13) 0

abbrev pub ReadsCast : Type 0
ReadsCast = (parsers [] 9).conditional 0 0 cast_tokens ≡ Ok (cast_tree, [])

-- `(int const long)0`
abbrev pub word_tokens : List Placed
word_tokens = mark punctuator.LeftParenthesis 0 ∷ keyword_at Int 1 ∷ keyword_at Const 5 ∷ keyword_at Long 11 ∷ mark punctuator.RightParenthesis 15 ∷ number 0 SignedInt 16 ∷ []

abbrev pub RefusesWord : Type 0
RefusesWord = (parsers [] 9).conditional 0 0 word_tokens ≡ Err (Wrong Nothing, keyword_at Long 11 ∷ mark punctuator.RightParenthesis 15 ∷ number 0 SignedInt 16 ∷ [])

-- `(int)0`
abbrev pub depth_tokens : List Placed
depth_tokens = mark punctuator.LeftParenthesis 0 ∷ keyword_at Int 1 ∷ mark punctuator.RightParenthesis 4 ∷ number 0 SignedInt 5 ∷ []

abbrev pub RefusesDepth : Type 0
RefusesDepth = (parsers [] 9).conditional nesting_limit 0 depth_tokens ≡ Err (LimitExceeded, depth_tokens)

-- `(enum{A=1+1})0`
abbrev pub constant : tree.Name
constant = record { spelling = 65 ∷ []; offset = 6 }

abbrev pub value_rest : List Placed
value_rest = mark punctuator.Plus 9 ∷ number 1 SignedInt 10 ∷ mark punctuator.RightBrace 11 ∷ mark punctuator.RightParenthesis 12 ∷ number 0 SignedInt 13 ∷ []

abbrev pub value_tokens : List Placed
value_tokens = mark punctuator.LeftParenthesis 0 ∷ keyword_at Enum 1 ∷ mark punctuator.LeftBrace 5 ∷ named constant ∷ mark punctuator.Assign 7 ∷ number 1 SignedInt 8 ∷ value_rest

abbrev pub value_tree : tree.Expression
value_tree =
    tree.Cast (tree.Pointers (tree.Specified (record { is_typedef = false; is_static = false }) (tree.Enum None (tree.constants_with constant (tree.Binary Add (tree.Number 1 SignedInt 8) (tree.Number 1 SignedInt 10) 9) tree.no_constants)) 1) 0) (tree.Number 0 SignedInt 13) 0

-- the `(` is the 127th operator, the `+` the 128th
abbrev pub ReadsValue : Type 0
ReadsValue = (parsers [] 9).conditional 0 126 value_tokens ≡ Ok (value_tree, [])

-- the `(` is the 128th
abbrev pub RefusesValue : Type 0
RefusesValue = (parsers [] 9).conditional 0 127 value_tokens ≡ Err (LimitExceeded, value_rest)
