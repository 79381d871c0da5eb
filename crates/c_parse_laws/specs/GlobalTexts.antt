-- The texts of parameters, and where a declarator in an external declaration ends.
use Rattle.std.specs.Prelude.{◌≡◌, ℕ, ◌&&◌, not, Bool, true, false, List, [], ◌∷◌, ◌++◌}
use Rattle.c_token_spec.specs.declared.token.Punctuator.TheVariants as punctuator
use Rattle.c_token_spec.specs.Lexical.{Placed}
use Rattle.c_syntax_spec.specs.Expression as tree
use Rattle.c_syntax_spec.specs.Unit as unit
use Rattle.c_parse_spec.specs.declared.Role.{Role}
use Rattle.c_parse_spec.specs.Leaves.{Leaf, expected, mark}
use Rattle.c_parse_spec.specs.Units as grammar
use Rattle.c_parse_laws.specs.Classes.{is_mark}

-- what follows the `(` of a function, with its `)`
pub record ParametersText (names : List (List ℕ)) (depth : ℕ) (list : List unit.Parameter) (text : List Leaf) : Type 0 where
  pub role : Role
  pub inside : List Leaf
  pub offset : ℕ
  pub derives : grammar.Parameters names depth list role inside
  pub cut : text ≡ inside ++ expected role (mark punctuator.RightParenthesis offset) ∷ []

-- the `(` of a function can follow a name where it is no typedef name
abbrev pub no_function : (is_typedef : Bool) → Placed → Bool
no_function is_typedef next = not (not is_typedef && is_mark punctuator.LeftParenthesis next.token)

-- a `[` continues a name, and lengths too
abbrev pub stop_lengths : (is_typedef : Bool) → (is_open : Bool) → tree.Expressions → Placed → Bool
stop_lengths is_typedef true lengths next = not (is_mark punctuator.LeftBracket next.token)
stop_lengths is_typedef false tree.no_expressions next = no_function is_typedef next && not (is_mark punctuator.LeftBracket next.token)
stop_lengths is_typedef false (tree.expressions x rest) next = not (is_mark punctuator.LeftBracket next.token)

abbrev pub stop_global : (is_typedef : Bool) → unit.Global → Placed → Bool
stop_global is_typedef (unit.Function function) next = true
stop_global is_typedef (unit.Object (tree.Declared pointers name is_open lengths)) next = stop_lengths is_typedef is_open lengths next
