-- The tokens and pieces of the definition that the program's are.
use Rattle.std.specs.Prelude.{ℕ}
use Rattle.c_token_spec.specs.Lexical.{Token, Name, Word, Number, Character, Mark, Placed, Piece, Blank, Lexeme, Fault}
use Rattle.c_token.specs.declared.Kind.{Kind}
use Rattle.c_token.specs.declared.Kind.TheVariants.{Name as a_name, Word as a_word, Number as a_number, Character as a_character, Mark as a_mark}
use Rattle.c_token.specs.declared.Token.{Token as TokenRow}
use Rattle.c_token.specs.declared.piece.Piece.{Piece as PieceRow}
use Rattle.c_token.specs.declared.piece.Piece.TheVariants.{Blank as a_blank, Lexeme as a_lexeme, Fault as a_fault}

-- the token
abbrev pub token_of : Kind → Token
token_of (a_name text) = Name text.now
token_of (a_word keyword) = Word keyword
token_of (a_number value type) = Number value type
token_of (a_character value) = Character value
token_of (a_mark punctuator) = Mark punctuator

-- the token with its offset
abbrev pub placed_of : TokenRow → Placed
placed_of token = record { token = token_of token.kind; offset = token.offset }

-- the piece
abbrev pub piece_of : PieceRow → Piece
piece_of (a_blank count fresh) = Blank count fresh
piece_of (a_lexeme kind count) = Lexeme (token_of kind) count
piece_of (a_fault kind) = Fault kind

-- how many bytes a piece has; a fault has one
abbrev pub count_of : PieceRow → ℕ
count_of (a_blank count fresh) = count
count_of (a_lexeme kind count) = count
count_of (a_fault kind) = 1
