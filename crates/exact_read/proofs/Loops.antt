-- The steps of a loop that reads items, and of parts one after the other.
use Rattle.std.specs.Prelude.{fold}
use Rattle.std.proofs.Common.{◌≡◌, ℕ, zero, suc, ◌≤◌, ◌<◌, Bool, true, false, List, [], ◌∷◌, length, refl, ap, ◌∙◌, subst, Ok, Err, arith, cond}
use Rattle.exact_read.specs.Reading.{Fault, Outcome, Parser}
use Rattle.exact_read.specs.Grammar.{bind, read_map, read_at_most, read_many}
use Rattle.exact_read.proofs.Basics.{ok_parts}
use Rattle.exact_read.specs.Going.{begins, Going, Folding}

-- a part that gave a value, and one that gave a fault
pub bind-ok : {T K X Y : Type 0} (outcome : Outcome T K X) (next : X → Parser T K Y) (value : X) (rest : List T) → outcome ≡ Ok (value, rest) → bind outcome next ≡ next value rest
bind-ok outcome next value rest e = ap (λ o. bind o next) e

pub bind-err : {T K X Y : Type 0} (outcome : Outcome T K X) (next : X → Parser T K Y) (fault : Fault K × List T) → outcome ≡ Err fault → bind outcome next ≡ Err fault
bind-err outcome next fault e = ap (λ o. bind o next) e

-- parts may be taken together from either end
pub bind-bind : {T K X Y Z : Type 0} (outcome : Outcome T K X) (second : X → Parser T K Y) (third : Y → Parser T K Z) → bind (bind outcome second) third ≡ bind outcome (λ x rest. bind (second x rest) third)
bind-bind (Ok pair) second third = refl
bind-bind (Err fault) second third = refl

pub bind-same : {T K X Y : Type 0} (outcome : Outcome T K X) (one two : X → Parser T K Y) → ((x : X) (rest : List T) → one x rest ≡ two x rest) → bind outcome one ≡ bind outcome two
bind-same (Ok pair) one two same = same pair.0 pair.1
bind-same (Err fault) one two same = refl

-- a loop begins
pub going-start : {T K X Y C : Type 0} {starts : C → T → Bool} {item : C → Parser T K X} {next : C → X → C} {finish : List X → Parser T K Y} {context : C} {rest : List T} → Going starts item next (bind (read_many starts item next context rest) finish) finish context rest
going-start {rest = rest} = record { most = length rest; enough = omega arith; is = refl }

-- one item at most
taken : {T K X Y C : Type 0} (starts : C → T → Bool) (item : C → Parser T K X) (next : C → X → C) (finish : List X → Parser T K Y) (context : C) (most : ℕ) (rest : List T) → begins starts context rest ≡ true
    → bind (read_at_most starts item next (suc most) context rest) finish ≡ bind (item context rest) (λ x after. bind (read_at_most starts item next most (next context x) after) (λ xs. finish (x ∷ xs)))
taken starts item next finish context most [] b = absurd (cc)
taken {T} {K} {X} {Y} starts item next finish context most (token ∷ more) b =
    ap (λ o. bind o finish) (ap (λ s. cond s (bind (item context (token ∷ more)) (λ x after. bind (read_at_most starts item next most (next context x) after) (λ xs last. Ok (x ∷ xs, last)))) (Ok ([], token ∷ more))) b)
    ∙ bind-bind (item context (token ∷ more)) (λ x after. bind (read_at_most starts item next most (next context x) after) (λ xs last. Ok (x ∷ xs, last))) finish
    ∙ bind-same (item context (token ∷ more)) _ _ (λ x after. bind-bind (read_at_most starts item next most (next context x) after) (λ xs last. Ok (x ∷ xs, last)) finish)

not_empty : {T C : Type 0} (starts : C → T → Bool) (context : C) (rest : List T) → begins starts context rest ≡ true → 0 < length rest
not_empty starts context [] b = absurd (cc)
not_empty starts context (token ∷ more) b = omega arith

-- what a step that begins an item reads
pub going-item : {T K X Y C : Type 0} {starts : C → T → Bool} {item : C → Parser T K X} {next : C → X → C} {whole : Outcome T K Y} {finish : List X → Parser T K Y} {context : C} {rest : List T} → Going starts item next whole finish context rest → begins starts context rest ≡ true
    → (most : ℕ) × (length rest ≤ suc most) × (whole ≡ bind (item context rest) (λ x after. bind (read_at_most starts item next most (next context x) after) (λ xs. finish (x ∷ xs))))
going-item {starts = starts} {item = item} {next = next} {whole = whole} {finish = finish} {context = context} {rest = rest} going b = by_most going.most going.enough going.is
  where
    by_most : (most : ℕ) → length rest ≤ most → whole ≡ bind (read_at_most starts item next most context rest) finish → (left : ℕ) × (length rest ≤ suc left) × (whole ≡ bind (item context rest) (λ x after. bind (read_at_most starts item next left (next context x) after) (λ xs. finish (x ∷ xs))))
    by_most zero l e = absurd (omega (arith, not_empty starts context rest b))
    by_most (suc most) l e = (most, l, e ∙ taken starts item next finish context most rest b)

-- an item was taken
pub going-step : {T K X Y C : Type 0} {starts : C → T → Bool} {item : C → Parser T K X} {next : C → X → C} {whole : Outcome T K Y} {finish : List X → Parser T K Y} {context : C} {rest : List T} → Going starts item next whole finish context rest → begins starts context rest ≡ true
    → (x : X) (after : List T) → item context rest ≡ Ok (x, after) → length after < length rest → Going starts item next whole (λ xs. finish (x ∷ xs)) (next context x) after
going-step {starts = starts} {item = item} {next = next} {finish = finish} {context = context} {rest = rest} going b x after e less =
    let t = going-item going b in
    record { most = t.0; enough = omega (arith, t.1); is = t.2 ∙ bind-ok (item context rest) (λ y left. bind (read_at_most starts item next t.0 (next context y) left) (λ xs. finish (y ∷ xs))) x after e }

-- an item has a fault
pub going-fault : {T K X Y C : Type 0} {starts : C → T → Bool} {item : C → Parser T K X} {next : C → X → C} {whole : Outcome T K Y} {finish : List X → Parser T K Y} {context : C} {rest : List T} → Going starts item next whole finish context rest → begins starts context rest ≡ true
    → (fault : Fault K × List T) → item context rest ≡ Err fault → whole ≡ Err fault
going-fault {starts = starts} {item = item} {next = next} {finish = finish} {context = context} {rest = rest} going b fault e =
    let t = going-item going b in
    t.2 ∙ bind-err (item context rest) (λ y left. bind (read_at_most starts item next t.0 (next context y) left) (λ xs. finish (y ∷ xs))) fault e

-- no item more
pub going-end : {T K X Y C : Type 0} {starts : C → T → Bool} {item : C → Parser T K X} {next : C → X → C} {whole : Outcome T K Y} {finish : List X → Parser T K Y} {context : C} {rest : List T} → Going starts item next whole finish context rest → begins starts context rest ≡ false → whole ≡ finish [] rest
going-end {T} {K} {X} {Y} {C} {starts = starts} {item = item} {next = next} {finish = finish} {context = context} {rest = rest} going b = going.is ∙ ends going.most rest b
  where
    ends : (most : ℕ) (left : List T) → begins starts context left ≡ false → bind (read_at_most starts item next most context left) finish ≡ finish [] left
    ends zero left n = refl
    ends (suc most) [] n = refl
    ends (suc most) (token ∷ more) n = ap (λ s. bind (cond s (bind (item context (token ∷ more)) (λ x after. bind (read_at_most starts item next most (next context x) after) (λ xs last. Ok (x ∷ xs, last)))) (Ok ([], token ∷ more))) finish) n

-- what is made of the items, said otherwise
pub going-same : {T K X Y C : Type 0} {starts : C → T → Bool} {item : C → Parser T K X} {next : C → X → C} {whole : Outcome T K Y} {context : C} {rest : List T} (one two : List X → Parser T K Y) → ((xs : List X) (after : List T) → one xs after ≡ two xs after) → Going starts item next whole one context rest → Going starts item next whole two context rest
going-same {starts = starts} {item = item} {next = next} {context = context} {rest = rest} one two same going = record { most = going.most; enough = going.enough; is = going.is ∙ bind-same (read_at_most starts item next going.most context rest) one two same }

-- the next token begins an item, where this is asked of the token alone
pub begins-test : {T C : Type 0} (starts : C → T → Bool) (test : T → Bool) (context : C) → ((token : T) → starts context token ≡ test token) → (rest : List T) → begins starts context rest ≡ begins (λ (_ : C). test) context rest
begins-test starts test context same [] = refl
begins-test starts test context same (token ∷ more) = same token

-- a value that was changed was read, and so was a fault
pub map-ok : {T K X Y : Type 0} (change : X → Y) (read : Parser T K X) (tokens : List T) (y : Y) (rest : List T) → read_map change read tokens ≡ Ok (y, rest) → (x : X) × (read tokens ≡ Ok (x, rest)) × (change x ≡ y)
map-ok {T} {K} {X} {Y} change read tokens y rest e = by_outcome (read tokens) e
  where
    by_outcome : (o : Outcome T K X) → bind o (λ x after. Ok (change x, after)) ≡ Ok (y, rest) → (x : X) × (o ≡ Ok (x, rest)) × (change x ≡ y)
    by_outcome (Ok pair) h = let p : (change pair.0 ≡ y) × (pair.1 ≡ rest) = ok_parts {K = K} h in (pair.0, ap (λ r. Ok (pair.0, r)) p.1, p.0)
    by_outcome (Err fault) h = absurd (cc)

pub map-err : {T K X Y : Type 0} (change : X → Y) (read : Parser T K X) (tokens : List T) (fault : Fault K × List T) → read_map change read tokens ≡ Err fault → read tokens ≡ Err fault
map-err {T} {K} {X} {Y} change read tokens fault e = by_outcome (read tokens) e
  where
    by_outcome : (o : Outcome T K X) → bind {Y = Y} o (λ x after. Ok (change x, after)) ≡ Err fault → o ≡ Err fault
    by_outcome (Ok pair) h = absurd (cc)
    by_outcome (Err other) h = let p : other ≡ fault = cc in ap (λ f. Err f) p

-- an item was taken into the value
pub folding-step : {T K X I C : Type 0} {starts : C → T → Bool} {item : C → Parser T K I} {next : C → I → C} {apply : X → I → X} (context : X → C) {whole : Outcome T K X} (value : X) {rest : List T} → Folding starts item next apply context whole value rest → begins starts (context value) rest ≡ true
    → ((x : X) (i : I) → next (context x) i ≡ context (apply x i)) → (y : X) (after : List T) → read_map (apply value) (item (context value)) rest ≡ Ok (y, after) → length after < length rest → Folding starts item next apply context whole y after
folding-step {T} {K} {X} {I} {C} {starts} {item} {next} {apply} context {whole} value {rest} going b keeps y after e less =
    let i = map-ok (apply value) (item (context value)) rest y after e in
    let g : Going starts item next whole (λ items last. Ok (fold apply (apply value i.0) items, last)) (next (context value) i.0) after = going-step going b i.0 after i.1 less in
    let h : Folding starts item next apply context whole (apply value i.0) after = subst (λ c. Going starts item next whole (λ items last. Ok (fold apply (apply value i.0) items, last)) c after) (keeps value i.0) g in
    subst (λ z. Folding starts item next apply context whole z after) i.2 h

pub folding-fault : {T K X I C : Type 0} {starts : C → T → Bool} {item : C → Parser T K I} {next : C → I → C} {apply : X → I → X} (context : X → C) {whole : Outcome T K X} (value : X) {rest : List T} → Folding starts item next apply context whole value rest → begins starts (context value) rest ≡ true
    → (fault : Fault K × List T) → read_map (apply value) (item (context value)) rest ≡ Err fault → whole ≡ Err fault
folding-fault {item = item} {apply = apply} context value {rest = rest} going b fault e = going-fault going b fault (map-err (apply value) (item (context value)) rest fault e)
