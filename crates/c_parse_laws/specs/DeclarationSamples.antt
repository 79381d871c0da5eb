-- Worked samples: what parsers give on a few tokens.
use Rattle.std.specs.Prelude.{◌≡◌, false, List, [], ◌∷◌, Some, Ok, Err}
use Rattle.c_token_spec.specs.declared.token.Keyword.TheVariants.{Int, Static}
use Rattle.c_token_spec.specs.declared.token.NumberType.TheVariants.{SignedInt}
use Rattle.c_token_spec.specs.declared.token.Punctuator.TheVariants as punctuator
use Rattle.c_token_spec.specs.Lexical.{Placed}
use Rattle.c_syntax_spec.specs.declared.BinaryOperator.TheVariants.{Add}
use Rattle.c_syntax_spec.specs.declared.IntegerType.TheVariants as integer
use Rattle.c_syntax_spec.specs.Expression as tree
use Rattle.c_syntax_spec.specs.Unit as unit
use Rattle.c_parse_spec.specs.declared.Role.TheVariants.{OperandEnd}
use Rattle.c_parse_spec.specs.Leaves.{mark, keyword_at, named, number}
use Rattle.exact_read.specs.Reading.{Wrong}
use Rattle.c_parse_laws.specs.Fuel.{parsers}
use Rattle.c_parse_laws.specs.Values.{read_simple}
use Rattle.c_parse_laws.specs.Declarations.{read_locals}

abbrev pub a : tree.Name
a = record { spelling = 97 ∷ []; offset = 0 }

abbrev pub f : tree.Name
f = record { spelling = 102 ∷ []; offset = 4 }

-- `a = f(1);`
abbrev pub assign_tokens : List Placed
assign_tokens = named a ∷ mark punctuator.Assign 2 ∷ named f ∷ mark punctuator.LeftParenthesis 5 ∷ number 1 SignedInt 6 ∷ mark punctuator.RightParenthesis 7 ∷ mark punctuator.Semicolon 8 ∷ []

abbrev pub ReadsAssignment : Type 0
ReadsAssignment =
    read_simple (parsers [] 9) 0 assign_tokens
    ≡ Ok (unit.Assign (tree.Named a) (unit.Called (record { callee = f; arguments = tree.expressions (tree.Number 1 SignedInt 6) tree.no_expressions })) 2, mark punctuator.Semicolon 8 ∷ [])

-- in `a + 1 = 2` the `=` is left: a sum is no target
abbrev pub sum_tokens : List Placed
sum_tokens = named a ∷ mark punctuator.Plus 2 ∷ number 1 SignedInt 4 ∷ mark punctuator.Assign 6 ∷ number 2 SignedInt 8 ∷ []

abbrev pub LeavesSum : Type 0
LeavesSum =
    read_simple (parsers [] 9) 0 sum_tokens
    ≡ Ok (unit.Evaluate (unit.Computed (tree.Binary Add (tree.Named a) (tree.Number 1 SignedInt 4) 2)), mark punctuator.Assign 6 ∷ number 2 SignedInt 8 ∷ [])

-- `int a = 1;`, and the same with `static` instead of `;`, which is wrong after an operand
abbrev pub ReadsLocals : Type 0
ReadsLocals =
    read_locals [] (parsers [] 9) 1 (keyword_at Int 10 ∷ named a ∷ mark punctuator.Assign 2 ∷ number 1 SignedInt 4 ∷ mark punctuator.Semicolon 5 ∷ [])
    ≡ Ok (record { specifiers = tree.Specified (record { is_typedef = false; is_static = false }) (tree.Integer integer.Int) 10; locals = record { declarator = tree.Declared 0 a false tree.no_expressions; value = Some (unit.Computed (tree.Number 1 SignedInt 4)) } ∷ [] }, [])

abbrev pub RefusesStatic : Type 0
RefusesStatic =
    read_locals [] (parsers [] 9) 1 (keyword_at Int 10 ∷ named a ∷ mark punctuator.Assign 2 ∷ number 1 SignedInt 4 ∷ keyword_at Static 5 ∷ [])
    ≡ Err (Wrong OperandEnd, keyword_at Static 5 ∷ [])
