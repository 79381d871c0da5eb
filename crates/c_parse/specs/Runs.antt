-- Items that are parsed one after the other.
use Rattle.std.specs.Prelude.{◌≡◌, ◌<◌, Bool, true, false, List, [], ◌∷◌, length, Result, Ok, Err}
use Rattle.c_token_spec.specs.Lexical.{Placed, Token}
use Rattle.c_token.specs.declared.Token.{Token as TokenRow}
use Rattle.c_parse_spec.specs.declared.Role.{Role}
use Rattle.exact_read.specs.Reading.{Parser}
use Rattle.c_parse_laws.specs.Parsers.{next_is}
use Rattle.attempt.specs.declared.refusal.Refusal.{Refusal}
use Rattle.attempt.specs.declared.refusal.Refusal.TheVariants.{Fault, NoMemory}
use Rattle.c_parse_token.specs.declared.outcome.SyntaxFault.{SyntaxFault}
use Rattle.c_parse_token.specs.Lists.{list_of, fault_of}

-- items one after the other, each of which begins with a token of a class and takes a token
pub data Run {X : Type 0} (starts : Token → Bool) (item : Parser Placed Role X) : List Placed → List X → List Placed → Type 0 where
  none : (tokens : List Placed) → Run starts item tokens [] tokens
  more : (tokens middle rest : List Placed) (x : X) (xs : List X) → next_is starts tokens ≡ true → item tokens ≡ Ok (x, middle) → length middle < length tokens → Run starts item middle xs rest → Run starts item tokens (x ∷ xs) rest

-- What a parser of items gives is all that come one after the other; or the fault of the one after them, and the
-- tokens from the one at fault on are left.
abbrev pub Runs : {A X : Type 0} → (starts : Token → Bool) → (item : Parser Placed Role X) → (view : A → List X) → (old left : List TokenRow) → Result A (Refusal SyntaxFault) → Type 0
Runs starts item view old left (Ok a) = Run starts item (list_of old) (view a) (list_of left) × (next_is starts (list_of left) ≡ false)
Runs starts item view old left (Err NoMemory) = Unit {0}
Runs {X = X} starts item view old left (Err (Fault fault)) = (xs : List X) × (middle : List Placed) × Run starts item (list_of old) xs middle × (next_is starts middle ≡ true) × (item middle ≡ Err (fault_of fault, list_of left))
