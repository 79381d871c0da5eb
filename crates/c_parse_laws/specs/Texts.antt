-- The texts of declarations of locals.
use Rattle.std.specs.Prelude.{◌≡◌, ℕ, List, [], ◌∷◌, ◌++◌}
use Rattle.c_token_spec.specs.declared.token.Punctuator.TheVariants as punctuator
use Rattle.c_syntax_spec.specs.Unit as unit
use Rattle.c_parse_spec.specs.declared.Role.{Role}
use Rattle.c_parse_spec.specs.Leaves.{Leaf, expected, mark}
use Rattle.c_parse_spec.specs.Statements as grammar

-- a declaration of locals with the `;` after it
pub record LocalsText (names : List (List ℕ)) (depth : ℕ) (locals : unit.Locals) (text : List Leaf) : Type 0 where
  pub role : Role
  pub inside : List Leaf
  pub offset : ℕ
  pub derives : grammar.Locals names depth locals role inside
  pub cut : text ≡ inside ++ expected role (mark punctuator.Semicolon offset) ∷ []
