-- The tokens of a text, computed.
use Rattle.std.proofs.Common.{◌≡◌, ℕ, zero, suc, ◌+◌, Bool, true, false, List, [], ◌∷◌, drop, refl, ap, subst}
use Rattle.std.specs.Prelude.{option_map, Option, Some, None, Ok}
use Rattle.c_token_spec.specs.Lexical.{Placed, Token, Piece, Blank, Lexeme, Fault, first_piece, Lexes, ended, blank, lexeme, AreTokens}

abbrev placed : Token → ℕ → Placed
placed token offset = record { token = token; offset = offset }

-- the tokens after what a text begins with, where `rest` has those of the rest
abbrev after_piece : (rest : Bool → (offset : ℕ) → List ℕ → Option (List Placed)) → (offset : ℕ) → List ℕ → Piece → Option (List Placed)
after_piece rest offset text (Blank count after) = rest after (offset + count) (drop count text)
after_piece rest offset text (Lexeme token count) = option_map (λ tokens. placed token offset ∷ tokens) (rest false (offset + count) (drop count text))
after_piece rest offset text (Fault kind) = None

-- the tokens of a text of less than so many pieces
unfoldable pub lexed : (most : ℕ) → (fresh : Bool) → (offset : ℕ) → List ℕ → Option (List Placed)
lexed zero fresh offset text = None
lexed (suc most) fresh offset [] = Some []
lexed (suc most) fresh offset (byte ∷ text) = after_piece (λ f o t. lexed most f o t) offset (byte ∷ text) (first_piece fresh byte text)

-- what is there with one more token
some_more : (token : Placed) (rest : Option (List Placed)) (tokens : List Placed) → option_map (λ more. token ∷ more) rest ≡ Some tokens
    → (more : List Placed) × (rest ≡ Some more) × (token ∷ more ≡ tokens)
some_more token None tokens e = absurd (cc)
some_more token (Some more) tokens e = (more, refl, cc)

-- after a piece, where this is so of the rest
lexed_by : (most : ℕ) → ((fresh : Bool) (offset : ℕ) (text : List ℕ) (tokens : List Placed) → lexed most fresh offset text ≡ Some tokens → Lexes fresh offset text (Ok tokens))
    → (fresh : Bool) (offset byte : ℕ) (text : List ℕ) (tokens : List Placed) (piece : Piece) → first_piece fresh byte text ≡ piece
    → after_piece (λ f o t. lexed most f o t) offset (byte ∷ text) piece ≡ Some tokens → Lexes fresh offset (byte ∷ text) (Ok tokens)
lexed_by most known fresh offset byte text tokens (Blank count after) is e =
    blank fresh after offset byte text count (Ok tokens) is (known after (offset + count) (drop count (byte ∷ text)) tokens e)
lexed_by most known fresh offset byte text tokens (Lexeme token count) is e =
    let rest = some_more (placed token offset) (lexed most false (offset + count) (drop count (byte ∷ text))) tokens e in
    subst (λ t. Lexes fresh offset (byte ∷ text) (Ok t)) rest.2
    (lexeme fresh offset byte text token count (Ok rest.0) is (known false (offset + count) (drop count (byte ∷ text)) rest.0 rest.1))
lexed_by most known fresh offset byte text tokens (Fault kind) is e = absurd (cc)

lexed_is : (most : ℕ) (fresh : Bool) (offset : ℕ) (text : List ℕ) (tokens : List Placed) → lexed most fresh offset text ≡ Some tokens → Lexes fresh offset text (Ok tokens)
unfolding lexed
lexed_is zero fresh offset text tokens e = absurd (cc)
lexed_is (suc most) fresh offset [] tokens e = let none : [] ≡ tokens = cc in subst (λ t. Lexes fresh offset [] (Ok t)) none (ended fresh offset)
lexed_is (suc most) fresh offset (byte ∷ text) tokens e =
    lexed_by most (λ f o t more h. lexed_is most f o t more h) fresh offset byte text tokens (first_piece fresh byte text) refl e

pub tokens_are : (most : ℕ) (text : List ℕ) (tokens : List Placed) → lexed most true 0 text ≡ Some tokens → AreTokens text tokens
tokens_are most text tokens e = lexed_is most true 0 text tokens e
