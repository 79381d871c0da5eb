-- Punctuators (ISO C11, 6.4.6).
use Rattle.std.specs.Prelude.{ℕ, nat_eq, List, [], ◌∷◌, codes, Option, find}
use Rattle.std.specs.List.{starts_with}
use Rattle.c_token_spec.specs.declared.token.Punctuator.{Punctuator}
use Rattle.c_token_spec.specs.declared.token.Punctuator.TheVariants.{Ellipsis, ShiftLeftAssign, ShiftRightAssign, Arrow, Increment, Decrement, ShiftLeft, ShiftRight, LessOrEqual, GreaterOrEqual, Equals, NotEquals, LogicalAnd, LogicalOr, StarAssign, SlashAssign, PercentAssign, PlusAssign, MinusAssign, AmpersandAssign, CaretAssign, BarAssign, LeftParenthesis, RightParenthesis, LeftBracket, RightBracket, LeftBrace, RightBrace, Dot, Ampersand, Star, Plus, Minus, Tilde, Exclamation, Slash, Percent, LessThan, GreaterThan, Caret, Bar, Question, Colon, Semicolon, Assign, Comma}

-- the punctuators, longer ones first
abbrev pub punctuators : List (List ℕ × Punctuator)
punctuators =
    (codes "...", Ellipsis) ∷ (codes "<<=", ShiftLeftAssign) ∷ (codes ">>=", ShiftRightAssign) ∷
    (codes "->", Arrow) ∷ (codes "++", Increment) ∷ (codes "--", Decrement) ∷ (codes "<<", ShiftLeft) ∷
    (codes ">>", ShiftRight) ∷ (codes "<=", LessOrEqual) ∷ (codes ">=", GreaterOrEqual) ∷
    (codes "==", Equals) ∷ (codes "!=", NotEquals) ∷ (codes "&&", LogicalAnd) ∷ (codes "||", LogicalOr) ∷
    (codes "*=", StarAssign) ∷ (codes "/=", SlashAssign) ∷ (codes "%=", PercentAssign) ∷
    (codes "+=", PlusAssign) ∷ (codes "-=", MinusAssign) ∷ (codes "&=", AmpersandAssign) ∷
    (codes "^=", CaretAssign) ∷ (codes "|=", BarAssign) ∷ (codes "(", LeftParenthesis) ∷
    (codes ")", RightParenthesis) ∷ (codes "[", LeftBracket) ∷ (codes "]", RightBracket) ∷
    (codes "{", LeftBrace) ∷ (codes "}", RightBrace) ∷ (codes ".", Dot) ∷ (codes "&", Ampersand) ∷
    (codes "*", Star) ∷ (codes "+", Plus) ∷ (codes "-", Minus) ∷ (codes "~", Tilde) ∷
    (codes "!", Exclamation) ∷ (codes "/", Slash) ∷ (codes "%", Percent) ∷ (codes "<", LessThan) ∷
    (codes ">", GreaterThan) ∷ (codes "^", Caret) ∷ (codes "|", Bar) ∷ (codes "?", Question) ∷
    (codes ":", Colon) ∷ (codes ";", Semicolon) ∷ (codes "=", Assign) ∷ (codes ",", Comma) ∷ []

-- the first of a table's spellings that a text begins with
abbrev pub prefix_entry : {V : Type 0} → List (List ℕ × V) → List ℕ → Option (List ℕ × V)
prefix_entry table text = find (λ entry. starts_with nat_eq text entry.0) table

-- the longest punctuator that a text begins with, and its spelling
unfoldable pub punctuator_of : List ℕ → Option (List ℕ × Punctuator)
punctuator_of = prefix_entry punctuators
