-- Structs and enums that are defined within initial values of globals (ISO C11, 6.7.9). What is defined there is in
-- scope up to the end of the unit (6.2.1p4), as in `int x = sizeof(struct s {int a;});`. But no tree is kept of these
-- values, so the typing rules don't see it, and a unit in which something is defined there is no C source here.
-- It is found in the tokens. In those of a unit an initial value of a global is what follows a `=` outside of all
-- brackets, up to a `,` or `;` outside of them (6.7p1); and a definition is `struct` or `enum`, a tag or none, and `{`
-- (6.7.2.1p1, 6.7.2.2p1). A tag without `{` defines nothing (6.7.2.3).
use Rattle.std.specs.Prelude.{◌≡◌, ℕ, ◌+◌, ◌-◌, ◌==◌, ◌&&◌, Bool, true, false, if◌then◌else◌, List, [], ◌∷◌, Option, Some, None}
use Rattle.c_token_spec.specs.declared.token.Keyword.TheVariants.{Struct, Enum}
use Rattle.c_token_spec.specs.declared.token.Punctuator.TheVariants.{LeftParenthesis, LeftBracket, LeftBrace, RightParenthesis, RightBracket, RightBrace, Assign, Comma, Semicolon}
use Rattle.c_token_spec.specs.Lexical.{Token, Name, Word, Mark, Placed, AreTokens}

-- how much of a definition the last tokens are
pub data Begun : Type 0 where
  Nothing : Begun
  -- `struct` or `enum`
  Keyword : Begun
  -- one of them and a tag
  Tagged : Begun

-- what is known at a place in the tokens of a unit
pub record Place : Type 0 where
  -- how many brackets are open
  pub depth : ℕ
  -- the place is within the initial value of a global
  pub in_value : Bool
  pub begun : Begun

abbrev pub start : Place
start = record { depth = 0; in_value = false; begun = Nothing }

abbrev pub depth_after : (depth : ℕ) → Token → ℕ
depth_after depth (Mark LeftParenthesis) = depth + 1
depth_after depth (Mark LeftBracket) = depth + 1
depth_after depth (Mark LeftBrace) = depth + 1
depth_after depth (Mark RightParenthesis) = depth - 1
depth_after depth (Mark RightBracket) = depth - 1
depth_after depth (Mark RightBrace) = depth - 1
depth_after depth other = depth

-- outside of all brackets
abbrev pub in_value_outside : (in_value : Bool) → Token → Bool
in_value_outside in_value (Mark Assign) = true
in_value_outside in_value (Mark Comma) = false
in_value_outside in_value (Mark Semicolon) = false
in_value_outside in_value other = in_value

abbrev pub begun_after : Begun → Token → Begun
begun_after begun (Word Struct) = Keyword
begun_after begun (Word Enum) = Keyword
begun_after Keyword (Name tag) = Tagged
begun_after begun other = Nothing

abbrev pub after : Place → Token → Place
after place token = record {
  depth = depth_after place.depth token;
  in_value = if place.depth == 0 then in_value_outside place.in_value token else place.in_value;
  begun = begun_after place.begun token;
}

abbrev pub completes : Begun → Token → Bool
completes Nothing token = false
completes begun (Mark LeftBrace) = true
completes begun other = false

-- the offset of the `{` of the first definition within an initial value
abbrev pub definition_from : Place → List Placed → Option ℕ
definition_from place [] = None
definition_from place (placed ∷ rest) =
    if place.in_value && completes place.begun placed.token then Some placed.offset
    else definition_from (after place placed.token) rest

unfoldable pub definition_in : List Placed → Option ℕ
definition_in tokens = definition_from start tokens

-- the text defines a struct or an enum within an initial value, first at this offset
pub record DefinesIn (text : List ℕ) (offset : ℕ) : Type 0 where
  pub tokens : List Placed
  pub lexes : AreTokens text tokens
  pub first : definition_in tokens ≡ Some offset

-- the text defines none there
pub record DefinesNothing (text : List ℕ) : Type 0 where
  pub tokens : List Placed
  pub lexes : AreTokens text tokens
  pub nowhere : definition_in tokens ≡ None
