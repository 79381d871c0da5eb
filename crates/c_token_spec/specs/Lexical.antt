-- The tokens of a text, by longest match, or the first fault (ISO C11, 6.4).
use Rattle.std.specs.Prelude.{◌≡◌, ℕ, suc, ◌+◌, ◌==◌, ◌&&◌, ◌||◌, nat_eq, Bool, true, false, if◌then◌else◌, List, [], ◌∷◌, codes, length, Option, Some, None, Result, Ok, Err, take, drop}
use Rattle.std.specs.Option.{option_map_or}
use Rattle.std.specs.List.{prefix_len, starts_with}
use Rattle.c_token_spec.specs.declared.token.Keyword.{Keyword}
use Rattle.c_token_spec.specs.declared.token.Punctuator.{Punctuator}
use Rattle.c_token_spec.specs.declared.token.NumberType.{NumberType}
use Rattle.c_token_spec.specs.declared.token.TokenFaultKind.{TokenFaultKind}
use Rattle.c_token_spec.specs.declared.token.TokenFaultKind.TheVariants.{Byte, Number as number_fault, Character as character_fault, Comment}
use Rattle.c_token_spec.specs.Words.{is_digit, begins_word, is_word_byte, keyword_of}
use Rattle.c_token_spec.specs.Punctuators.{punctuator_of}
use Rattle.c_token_spec.specs.Numbers.{number_len, number_of}
use Rattle.c_token_spec.specs.Characters.{character_of}
use Rattle.c_token_spec.specs.Blanks.{is_blank_byte, line_len, close_len, is_marker}

pub data Token : Type 0 where
  Name : (text : List ℕ) → Token
  Word : (keyword : Keyword) → Token
  Number : (value : ℕ) → (type : NumberType) → Token
  -- a character constant; its type is int
  Character : (value : ℕ) → Token
  Mark : (punctuator : Punctuator) → Token

-- a token and the offset of its first byte
pub record Placed : Type 0 where
  pub token : Token
  pub offset : ℕ

-- what a text begins with, and how many bytes it has
pub data Piece : Type 0 where
  -- blank space, and whether the line has nothing but blank bytes up to its end
  Blank : (count : ℕ) → (fresh : Bool) → Piece
  Lexeme : (token : Token) → (count : ℕ) → Piece
  Fault : (kind : TokenFaultKind) → Piece

abbrev pub word_token : List ℕ → Token
word_token text = option_map_or Word (keyword_of text) (Name text)

abbrev pub word_piece : (text : List ℕ) → Piece
word_piece text = let count = prefix_len is_word_byte text in Lexeme (word_token (take count text)) count

abbrev pub number_piece : (byte : ℕ) → (text : List ℕ) → Piece
number_piece byte text =
    let count = number_len byte text in
    option_map_or (λ number. Lexeme (Number number.0 number.1) (suc count)) (number_of (byte ∷ take count text)) (Fault number_fault)

abbrev pub character_piece : (text : List ℕ) → Piece
character_piece text = option_map_or (λ found. Lexeme (Character found.0) (suc found.1)) (character_of text) (Fault character_fault)

abbrev pub comment_piece : (text : List ℕ) → Piece
comment_piece text = option_map_or (λ count. Blank (2 + count) false) (close_len (drop 2 text)) (Fault Comment)

abbrev pub mark_piece : (text : List ℕ) → Piece
mark_piece text = option_map_or (λ found. Lexeme (Mark found.1) (length found.0)) (punctuator_of text) (Fault Byte)

-- what a text begins with; `fresh` says that nothing but blank bytes precedes it in its line
unfoldable pub first_piece : (fresh : Bool) → (byte : ℕ) → (text : List ℕ) → Piece
first_piece fresh byte text =
    if is_blank_byte byte then Blank 1 (fresh || (byte == 10))
    else if starts_with nat_eq (byte ∷ text) (codes "//") then Blank (line_len (byte ∷ text)) false
    else if starts_with nat_eq (byte ∷ text) (codes "/*") then comment_piece (byte ∷ text)
    else if fresh && (byte == 35) && is_marker text then Blank (line_len (byte ∷ text)) false
    else if begins_word byte then word_piece (byte ∷ text)
    else if is_digit byte then number_piece byte text
    else if byte == 39 then character_piece text
    else mark_piece (byte ∷ text)

abbrev pub with_token : Placed → Result (List Placed) (TokenFaultKind × ℕ) → Result (List Placed) (TokenFaultKind × ℕ)
with_token placed (Ok tokens) = Ok (placed ∷ tokens)
with_token placed (Err fault) = Err fault

-- the tokens of a text that begins at an offset, or its first fault and that fault's offset
pub data Lexes : (fresh : Bool) → (offset : ℕ) → (text : List ℕ) → Result (List Placed) (TokenFaultKind × ℕ) → Type 0 where
  ended : (fresh : Bool) (offset : ℕ) → Lexes fresh offset [] (Ok [])
  blank : (fresh after : Bool) (offset byte : ℕ) (text : List ℕ) (count : ℕ) (outcome : Result (List Placed) (TokenFaultKind × ℕ)) →
      first_piece fresh byte text ≡ Blank count after → Lexes after (offset + count) (drop count (byte ∷ text)) outcome → Lexes fresh offset (byte ∷ text) outcome
  lexeme : (fresh : Bool) (offset byte : ℕ) (text : List ℕ) (token : Token) (count : ℕ) (outcome : Result (List Placed) (TokenFaultKind × ℕ)) →
      first_piece fresh byte text ≡ Lexeme token count → Lexes false (offset + count) (drop count (byte ∷ text)) outcome →
      Lexes fresh offset (byte ∷ text) (with_token (record { token = token; offset = offset }) outcome)
  fault : (fresh : Bool) (offset byte : ℕ) (text : List ℕ) (kind : TokenFaultKind) →
      first_piece fresh byte text ≡ Fault kind → Lexes fresh offset (byte ∷ text) (Err (kind, offset))

-- the text has these tokens
abbrev pub AreTokens : (text : List ℕ) → List Placed → Type 0
AreTokens text tokens = Lexes true 0 text (Ok tokens)

-- the text has no tokens: this is its first fault
abbrev pub IsTokenFault : (text : List ℕ) → TokenFaultKind → (offset : ℕ) → Type 0
IsTokenFault text kind offset = Lexes true 0 text (Err (kind, offset))
