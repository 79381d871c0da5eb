-- The operators of grammars: for each its parser, its texts, and the tokens at which it stops.
use Rattle.std.specs.Prelude.{◌≡◌, ℕ, Bool, true, ◌&&◌, ◌||◌, not, if◌then◌else◌, List, [], ◌∷◌, ◌++◌, length, Option, Some, Result, Ok, Err, suc, zero}
use Rattle.std.specs.Option.{option_map_or}
use Rattle.exact_read.specs.Reading.{Fault, LimitExceeded, Wrong, Outcome, Parser, Marks}

-- nothing: the value, and no token
abbrev pub read_nothing : {T K X : Type 0} → X → Parser T K X
read_nothing value before = Ok (value, before)

pub data Nothing {U X : Type 0} (value : X) : X → List U → Type 0 where
  nothing : Nothing value value []

-- no test is asked of the next token
abbrev pub anything : {T : Type 0} → T → Bool
anything token = true

-- a parser, and then the one that its value gives
abbrev pub bind : {T K X Y : Type 0} → Outcome T K X → (X → Parser T K Y) → Outcome T K Y
bind (Ok (value, rest)) next = next value rest
bind (Err fault) next = Err fault

-- one part and then another, which may depend on the value of the first
abbrev pub read_then : {T K X Y : Type 0} → Parser T K X → (X → Parser T K Y) → Parser T K (X × Y)
read_then first second before = bind (first before) (λ x rest. bind (second x rest) (λ y rest. Ok ((x, y), rest)))

pub record Then {U X Y : Type 0} (S1 : X → List U → Type 0) (S2 : X → Y → List U → Type 0) (pair : X × Y) (text : List U) : Type 0 where
  pub left : List U
  pub right : List U
  pub cut : text ≡ left ++ right
  pub first : S1 pair.0 left
  pub second : S2 pair.0 pair.1 right

abbrev pub stop_then : {T X Y : Type 0} → (X → Y → T → Bool) → X × Y → T → Bool
stop_then stop2 pair token = stop2 pair.0 pair.1 token

-- one token of a class: `class` gives its value, `as_leaf` its leaf
abbrev pub read_one : {T U K X : Type 0} → Marks T U → (as_leaf : T → U) → (class : T → Option X) → (kind : K) → Parser T K X
read_one marks as_leaf class kind [] = Err (Wrong kind, [])
read_one marks as_leaf class kind (token ∷ more) = option_map_or (λ x. if marks.over (as_leaf token) then Err (LimitExceeded, token ∷ more) else Ok (x, more)) (class token) (Err (Wrong kind, token ∷ more))

pub record One {T U X : Type 0} (as_leaf : T → U) (class : T → Option X) (value : X) (text : List U) : Type 0 where
  pub token : T
  pub is : class token ≡ Some value
  pub cut : text ≡ as_leaf token ∷ []

-- a part with its value changed
abbrev pub read_map : {T K X Y : Type 0} → (X → Y) → Parser T K X → Parser T K Y
read_map change read before = bind (read before) (λ x rest. Ok (change x, rest))

pub record Map {U X Y : Type 0} (change : X → Y) (S : X → List U → Type 0) (value : Y) (text : List U) : Type 0 where
  pub inner : X
  pub is : value ≡ change inner
  pub derives : S inner text

-- one of two parts, chosen by the next token: the second at the end
abbrev pub read_or : {T K X : Type 0} → (test : T → Bool) → Parser T K X → Parser T K X → Parser T K X
read_or test first second [] = second []
read_or test first second (token ∷ more) = if test token then first (token ∷ more) else second (token ∷ more)

pub data Or {U X : Type 0} (S1 S2 : X → List U → Type 0) (value : X) (text : List U) : Type 0 where
  first : S1 value text → Or S1 S2 value text
  second : S2 value text → Or S1 S2 value text

-- items one after the other, as long as the next token begins one; each hands a context to the next
abbrev pub read_at_most : {T K X C : Type 0} → (starts : C → T → Bool) → (item : C → Parser T K X) → (next : C → X → C) → ℕ → C → Parser T K (List X)
read_at_most starts item next zero context before = Ok ([], before)
read_at_most starts item next (suc n) context [] = Ok ([], [])
read_at_most starts item next (suc n) context (token ∷ more) =
    if starts context token
    then bind (item context (token ∷ more)) (λ x rest. bind (read_at_most starts item next n (next context x) rest) (λ xs after. Ok (x ∷ xs, after)))
    else Ok ([], token ∷ more)

-- no more items than tokens
abbrev pub read_many : {T K X C : Type 0} → (starts : C → T → Bool) → (item : C → Parser T K X) → (next : C → X → C) → C → Parser T K (List X)
read_many starts item next context before = read_at_most starts item next (length before) context before

pub data Many {U X C : Type 0} (next : C → X → C) (S : C → X → List U → Type 0) : C → List X → List U → Type 0 where
  none : (context : C) → Many next S context [] []
  some : (context : C) (x : X) (xs : List X) (left right : List U) → S context x left → Many next S (next context x) xs right → Many next S context (x ∷ xs) (left ++ right)

-- the context after some items
abbrev pub context_after : {X C : Type 0} → (next : C → X → C) → C → List X → C
context_after next context [] = context
context_after next context (x ∷ xs) = context_after next (next context x) xs

-- the tokens with which an item begins or the items may end, and those at which they do end
abbrev pub opens : {T C : Type 0} → (starts ends : C → T → Bool) → C → T → Bool
opens starts ends context token = starts context token || ends context token

abbrev pub stop_many : {T X C : Type 0} → (starts ends : C → T → Bool) → (next : C → X → C) → C → List X → T → Bool
stop_many starts ends next context xs token = ends (context_after next context xs) token && not (starts (context_after next context xs) token)

-- the value, if no token follows
abbrev pub at_end : {T K X : Type 0} → (kind : K) → Outcome T K X → Result X (Fault K × List T)
at_end kind (Ok (value, [])) = Ok value
at_end kind (Ok (value, token ∷ more)) = Err (Wrong kind, token ∷ more)
at_end kind (Err fault) = Err fault

-- a whole input: a token that follows is wrong
abbrev pub read_whole : {T K X : Type 0} → (kind : K) → Parser T K X → (before : List T) → Result X (Fault K × List T)
read_whole kind read before = at_end kind (read before)
