-- What a parser of a part reads.
use Rattle.std.proofs.Common.{◌≡◌, ℕ, sym, subst, List, Err, Bool}
use Rattle.c_token_spec.specs.Lexical.{Placed}
use Rattle.c_token.specs.declared.Token.{Token}
use Rattle.c_parse_spec.specs.declared.Role.{Role}
use Rattle.exact_read.specs.Reading.{Fault, Outcome}
use Rattle.attempt.specs.declared.refusal.Refusal.{Refusal}
use Rattle.c_parse_token.specs.declared.outcome.SyntaxFault.{SyntaxFault}
use Rattle.c_parse_token.specs.Lists.{Gives}
use Rattle.c_parse_token.proofs.Errors.{gives-from}
use Rattle.c_parse_expression.specs.Steps.{IsAdvanced}

-- where a part stops, the whole does
pub stops : {X Y A B : Type 0} (part : Outcome Placed Role A) (whole : Outcome Placed Role B) (v : X → A) (w : Y → B) (left : List Token) (error : Refusal SyntaxFault) → Gives {X = X} part v left (Err error)
    → ((fault : Fault Role × List Placed) → part ≡ Err fault → whole ≡ Err fault) → Gives {X = Y} whole w left (Err error)
stops {X = X} {Y = Y} part whole v w left error gives same = gives-from {X = X} {Y = Y} part whole v w left error same gives

-- counting between the same numbers
pub recounted : (is_alone : Bool) (before start more end after : ℕ) → start ≡ before → after ≡ end → IsAdvanced is_alone start more end → IsAdvanced is_alone before more after
recounted is_alone before start more end after first last moved = subst (λ n. IsAdvanced is_alone n more after) first (subst (λ n. IsAdvanced is_alone start more n) (sym last) moved)
