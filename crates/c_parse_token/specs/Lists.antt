-- What the program's tokens, typedef names and errors are as lists and outcomes, and what a parser ensures.
use Rattle.std.specs.Prelude.{◌≡◌, ◌+◌, ◌≤◌, ◌<◌, ℕ, suc, List, ◌∷◌, length, map, reverse, if◌then◌else◌, Result, Ok, Err}
use Rattle.c_token_spec.specs.Lexical.{Placed}
use Rattle.c_token.specs.Pieces.{placed_of}
use Rattle.c_token.specs.declared.Token.{Token}
use Rattle.c_parse_spec.specs.Limits.{operator_limit}
use Rattle.c_parse_spec.specs.Expressions.{is_typedef_name}
use Rattle.c_parse_spec.specs.declared.Role.{Role}
use Rattle.exact_read.specs.Reading.{Outcome, Parser, Fault, LimitExceeded, Wrong}
use Rattle.c_parse_token.specs.declared.outcome.SyntaxFault.{SyntaxFault as FaultRow}
use Rattle.c_parse_token.specs.declared.outcome.SyntaxFault.TheVariants.{LimitExceeded as a_deep, Wrong as a_wrong}
use Rattle.attempt.specs.declared.refusal.Refusal.{Refusal}
use Rattle.attempt.specs.declared.refusal.Refusal.TheVariants as refusal
use Rattle.c_parse_token.specs.declared.outcome.SyntaxFault.{SyntaxFault}
use Rattle.c_parse_token.specs.declared.names.TypedefNames.{TypedefNames}
use Rattle.c_parse_token.specs.declared.tokens.Tokens.{Tokens}

-- the tokens
abbrev pub list_of : List Token → List Placed
list_of tokens = map placed_of tokens

-- the typedef names, the one that came last of them first
unfoldable pub names_of : TypedefNames → List (List ℕ)
names_of names = reverse (map (λ name. name.now) names.names.keys)

-- the names after one is brought into scope
abbrev pub with_name : (name : List ℕ) → (names : List (List ℕ)) → List (List ℕ)
with_name name names = if is_typedef_name names name then names else name ∷ names

abbrev pub fault_of : FaultRow → Fault Role
fault_of a_deep = LimitExceeded
fault_of (a_wrong role) = Wrong role

-- What a parser gives is the outcome that the reference parser has: the value, and the tokens after it that are
-- left; or the fault, and the tokens from the one at fault on are left. Out of memory can always come.
abbrev pub Gives : {X Y : Type 0} → Outcome Placed Role Y → (view : X → Y) → (left : List Token) → Result X (Refusal SyntaxFault) → Type 0
Gives outcome view left (Ok x) = outcome ≡ Ok (view x, list_of left)
Gives outcome view left (Err refusal.NoMemory) = Unit {0}
Gives outcome view left (Err (refusal.Fault fault)) = outcome ≡ Err (fault_of fault, list_of left)

-- so many operators more were read, and they are not too many
abbrev pub IsCounted : (before more after : ℕ) → Type 0
IsCounted before more after = (after ≡ before + more) × (after ≤ operator_limit)

-- a parser that takes these tokens to those left gives what the reference parser gives
abbrev pub Parses : {X Y : Type 0} → (reader : Parser Placed Role Y) → (view : X → Y) → (old new : Tokens) → (result : Result X (Refusal SyntaxFault)) → Type 0
Parses reader view old new result = Gives (reader (list_of old.rest.now)) view new.rest.now result

-- one token was taken, one or more, or any number of them
abbrev pub TakesOne : (old new : Tokens) → Type 0
TakesOne old new = length old.rest.now ≡ suc (length new.rest.now)

abbrev pub IsShorter : (new old : Tokens) → Type 0
IsShorter new old = length new.rest.now < length old.rest.now

abbrev pub IsNoLonger : (new old : Tokens) → Type 0
IsNoLonger new old = length new.rest.now ≤ length old.rest.now
