-- A loop that gathers items in a list.
use Rattle.std.proofs.Common.{◌≡◌, ◌<◌, Bool, true, false, List, [], ◌∷◌, ◌++◌, length, map, refl, ap, ◌∙◌, subst, Ok, Err}
use Rattle.std.specs.declared.alloc.Global.{Global}
use Rattle.std.specs.declared.boxed.Box.{Box}
use Rattle.c_token_spec.specs.Lexical.{Placed}
use Rattle.c_token.specs.declared.Token.{Token as TokenRow}
use Rattle.c_parse_spec.specs.declared.Role.{Role}
use Rattle.exact_read.specs.Reading.{Fault, Outcome, Parser}
use Rattle.exact_read.specs.Grammar.{bind, read_many}
use Rattle.exact_read.specs.Going.{begins, Going}
use Rattle.exact_read.proofs.Loops.{going-start, going-step, going-fault, going-end, going-same}
use Rattle.c_parse_token.specs.Lists.{list_of}
use Rattle.c_parse_token.proofs.Steps.{fewer}

-- these items were read, and more are being read; `finish` goes on with all of them
pub Gathering : {X Y C : Type 0} → (starts : C → Placed → Bool) → (item : C → Parser Placed Role X) → (next : C → X → C) → (finish : List X → Parser Placed Role Y) → (whole : Outcome Placed Role Y) → (read : List X) → C → List Placed → Type 0
Gathering starts item next finish whole read context rest = Going starts item next whole (λ more. finish (read ++ more)) context rest

pub gathering-start : {X Y C : Type 0} (starts : C → Placed → Bool) (item : C → Parser Placed Role X) (next : C → X → C) (finish : List X → Parser Placed Role Y) (read : List X) (context : C) (tokens : List Placed) → Gathering starts item next finish (bind (read_many starts item next context tokens) (λ more. finish (read ++ more))) read context tokens
unfolding Gathering
gathering-start starts item next finish read context tokens = going-start

joined : {X : Type 0} (read : List X) (x : X) (more : List X) → read ++ x ∷ more ≡ (read ++ x ∷ []) ++ more
joined [] x more = refl
joined (y ∷ read) x more = ap (λ xs. y ∷ xs) (joined read x more)

alone : {X : Type 0} (read : List X) → read ++ [] ≡ read
alone [] = refl
alone (x ∷ read) = ap (λ xs. x ∷ xs) (alone read)

pub gathering-step : {X Y C : Type 0} (starts : C → Placed → Bool) (item : C → Parser Placed Role X) (next : C → X → C) (finish : List X → Parser Placed Role Y) (whole : Outcome Placed Role Y) (read : List X) (context after : C) (x : X) (tokens rest : List TokenRow) → Gathering starts item next finish whole read context (list_of tokens)
    → begins starts context (list_of tokens) ≡ true → item context (list_of tokens) ≡ Ok (x, list_of rest) → length rest < length tokens → next context x ≡ after → Gathering starts item next finish whole (read ++ x ∷ []) after (list_of rest)
unfolding Gathering
gathering-step starts item next finish whole read context after x tokens rest going was e less same =
    subst (λ c. Going starts item next whole (λ more. finish ((read ++ x ∷ []) ++ more)) c (list_of rest)) same
    (going-same (λ more. finish (read ++ x ∷ more)) (λ more. finish ((read ++ x ∷ []) ++ more)) (λ more last. ap (λ xs. finish xs last) (joined read x more))
    (going-step going was x (list_of rest) e (fewer rest tokens less)))

pub gathering-fault : {X Y C : Type 0} (starts : C → Placed → Bool) (item : C → Parser Placed Role X) (next : C → X → C) (finish : List X → Parser Placed Role Y) (whole : Outcome Placed Role Y) (read : List X) (context : C) (tokens : List Placed) → Gathering starts item next finish whole read context tokens
    → begins starts context tokens ≡ true → (fault : Fault Role × List Placed) → item context tokens ≡ Err fault → whole ≡ Err fault
unfolding Gathering
gathering-fault starts item next finish whole read context tokens going was fault e = going-fault going was fault e

pub gathering-end : {X Y C : Type 0} (starts : C → Placed → Bool) (item : C → Parser Placed Role X) (next : C → X → C) (finish : List X → Parser Placed Role Y) (whole : Outcome Placed Role Y) (read : List X) (context : C) (tokens : List Placed) → Gathering starts item next finish whole read context tokens
    → begins starts context tokens ≡ false → whole ≡ finish read tokens
unfolding Gathering
gathering-end starts item next finish whole read context tokens going ends = going-end going ends ∙ ap (λ xs. finish xs tokens) (alone read)

-- boxes with one more
pub boxes-more : {X Y : Type 0} (f : X → Y) (boxes : List (Box X Global)) (b : Box X Global) → map f (map (λ b. b.value) (boxes ++ b ∷ [])) ≡ map f (map (λ b. b.value) boxes) ++ f b.value ∷ []
boxes-more f [] b = refl
boxes-more f (a ∷ boxes) b = ap (λ xs. f a.value ∷ xs) (boxes-more f boxes b)
