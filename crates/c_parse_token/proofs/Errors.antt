-- A fault of a part is one of the whole.
use Rattle.std.proofs.Common.{◌≡◌, List, sym, subst, Result, Ok, Err, IsErrAnd}
use Rattle.c_token_spec.specs.Lexical.{Placed}
use Rattle.c_token.specs.declared.Token.{Token}
use Rattle.c_parse_spec.specs.declared.Role.{Role}
use Rattle.exact_read.specs.Reading.{Fault, Outcome}
use Rattle.attempt.specs.declared.refusal.Refusal.{Refusal}
use Rattle.attempt.specs.declared.refusal.Refusal.TheVariants as refusal
use Rattle.c_parse_token.specs.declared.outcome.SyntaxFault.{SyntaxFault}
use Rattle.c_parse_token.specs.Lists.{list_of, fault_of, Gives}

-- what the part answers, the whole does
pub gives-from : {X Y A B : Type 0} (part : Outcome Placed Role A) (whole : Outcome Placed Role B) (v : X → A) (w : Y → B) (left : List Token) (error : Refusal SyntaxFault) → ((fault : Fault Role × List Placed) → part ≡ Err fault → whole ≡ Err fault) → Gives {X = X} part v left (Err error) → Gives {X = Y} whole w left (Err error)
gives-from part whole v w left refusal.NoMemory same h = tt
gives-from part whole v w left (refusal.Fault fault) same h = same (fault_of fault, list_of left) h

-- where `?` passes it on
pub passed : {Y B : Type 0} (whole : Outcome Placed Role B) (w : Y → B) (left : List Token) (result : Result Y (Refusal SyntaxFault)) (error : Refusal SyntaxFault) → IsErrAnd result (λ e. e ≡ error) → Gives {X = Y} whole w left (Err error) → Gives whole w left result
passed whole w left (Ok x) error gives h = absurd gives
passed {Y = Y} whole w left (Err e) error gives h = subst (λ z. Gives {X = Y} whole w left (Err z)) (sym gives) h

-- both at once
pub failed : {A B X Y : Type 0} (part : Outcome Placed Role X) (whole : Outcome Placed Role Y) (view : A → X) (seen : B → Y) (left : List Token) (result : Result B (Refusal SyntaxFault)) (error : Refusal SyntaxFault)
    → IsErrAnd result (λ e. e ≡ error) → Gives {X = A} part view left (Err error) → ((fault : Fault Role × List Placed) → part ≡ Err fault → whole ≡ Err fault) → Gives whole seen left result
failed {A = A} {B = B} part whole view seen left result error is gives same = passed whole seen left result error is (gives-from {X = A} {Y = B} part whole view seen left error same gives)

-- nothing is said where there is no memory
pub no_memory : {B Y : Type 0} (whole : Outcome Placed Role Y) (seen : B → Y) (left : List Token) (result : Result B (Refusal SyntaxFault)) → IsErrAnd result (λ e. e ≡ refusal.NoMemory) → Gives whole seen left result
no_memory {B = B} whole seen left result is = passed {Y = B} whole seen left result refusal.NoMemory is (tt {0})
