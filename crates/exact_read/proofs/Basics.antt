-- The tokens of a text, its limit, and what comes next.
use Rattle.std.proofs.Common.{◌≡◌, Bool, true, false, List, [], ◌∷◌, ◌++◌, Ok, Err, refl, ap, sym, cond}
use Rattle.exact_read.specs.Reading.{Fault, LimitExceeded, Outcome, Parser, Marks, plains, Within, limit, Stops}
use Rattle.exact_read.specs.Grammar.{bind}

pub plains-append : {T U : Type 0} (marks : Marks T U) (left right : List U) → plains marks (left ++ right) ≡ plains marks left ++ plains marks right
plains-append marks [] right = refl
plains-append marks (u ∷ left) right = ap (λ t. marks.plain u ∷ t) (plains-append marks left right)

-- the tokens of two texts and what follows them
pub plains-two : {T U : Type 0} (marks : Marks T U) (left right : List U) (rest : List T) → plains marks (left ++ right) ++ rest ≡ plains marks left ++ (plains marks right ++ rest)
plains-two marks [] right rest = refl
plains-two marks (u ∷ left) right rest = ap (λ t. marks.plain u ∷ t) (plains-two marks left right rest)

pub Within-append : {T U : Type 0} (marks : Marks T U) (left right : List U) → Within marks left → Within marks right → Within marks (left ++ right)
Within-append marks [] right a b = b
Within-append marks (u ∷ left) right a b = (a.0, Within-append marks left right a.1 b)

pub limit-within : {T U K X : Type 0} (marks : Marks T U) (text : List U) (rest : List T) (outcome : Outcome T K X) → Within marks text → limit marks text rest outcome ≡ outcome
limit-within marks [] rest outcome w = refl
limit-within marks (u ∷ text) rest outcome w = rw w.0 (limit-within marks text rest outcome w.1)

-- the fault is at the first token at which a limit is exceeded
pub limit-over : {T U K X : Type 0} (marks : Marks T U) (prefix : List U) (u : U) (more : List U) (rest : List T) (outcome : Outcome T K X) → Within marks prefix → marks.over u ≡ true → limit marks (prefix ++ u ∷ more) rest outcome ≡ Err (LimitExceeded, marks.plain u ∷ plains marks more ++ rest)
limit-over marks [] u more rest outcome w over = rw over refl
limit-over marks (v ∷ prefix) u more rest outcome w over = rw w.0 (limit-over marks prefix u more rest outcome w.1 over)

-- two parts, one after the other
pub bind-limit : {T U K X Y : Type 0} (marks : Marks T U) (left right : List U) (rest : List T) (value : X) (next : X → Parser T K Y) (outcome : Outcome T K Y) → next value (plains marks right ++ rest) ≡ limit marks right rest outcome → bind (limit marks left (plains marks right ++ rest) (Ok (value, plains marks right ++ rest))) next ≡ limit marks (left ++ right) rest outcome
bind-limit marks [] right rest value next outcome e = e
bind-limit {T} {U} {K} {X} {Y} marks (u ∷ left) right rest value next outcome e = by_mark (marks.over u) (bind-limit marks left right rest value next outcome e)
  where
    by_mark : (over : Bool) → bind (limit marks left (plains marks right ++ rest) (Ok (value, plains marks right ++ rest))) next ≡ limit marks (left ++ right) rest outcome → bind {T = T} {K = K} (cond over (Err (LimitExceeded, marks.plain u ∷ plains marks left ++ (plains marks right ++ rest))) (limit marks left (plains marks right ++ rest) (Ok (value, plains marks right ++ rest)))) next ≡ cond over (Err (LimitExceeded, marks.plain u ∷ plains marks (left ++ right) ++ rest)) (limit marks (left ++ right) rest outcome)
    by_mark true h = ap (λ t. Err (LimitExceeded, marks.plain u ∷ t)) (sym (plains-two marks left right rest))
    by_mark false h = h

-- the next token does not depend on those after it
pub Stops-other : {T U : Type 0} (marks : Marks T U) (test : T → Bool) (prefix : List U) (token : T) (old new : List T) → Stops test (plains marks prefix ++ token ∷ old) → Stops test (plains marks prefix ++ token ∷ new)
Stops-other marks test [] token old new h = h
Stops-other marks test (u ∷ prefix) token old new h = h

-- what is done after a limit
pub limit-bind : {T U K X Y : Type 0} (marks : Marks T U) (text : List U) (rest : List T) (value : X) (next : X → Parser T K Y) → bind (limit marks text rest (Ok (value, rest))) next ≡ limit marks text rest (next value rest)
limit-bind marks [] rest value next = refl
limit-bind {T} {U} {K} {X} {Y} marks (u ∷ text) rest value next = by_mark (marks.over u) (limit-bind marks text rest value next)
  where
    by_mark : (over : Bool) → bind (limit marks text rest (Ok (value, rest))) next ≡ limit marks text rest (next value rest) → bind {T = T} {K = K} (cond over (Err (LimitExceeded, marks.plain u ∷ plains marks text ++ rest)) (limit marks text rest (Ok (value, rest)))) next ≡ cond over (Err (LimitExceeded, marks.plain u ∷ plains marks text ++ rest)) (limit marks text rest (next value rest))
    by_mark true h = refl
    by_mark false h = h

-- an outcome that is a value, and one that is a fault
abbrev pub ok : {T K X : Type 0} → X → List T → Outcome T K X
ok value rest = Ok (value, rest)

abbrev pub err : {T K X : Type 0} → Fault K → List T → Outcome T K X
err fault rest = Err (fault, rest)

-- what two equal outcomes hold
pub ok_parts : {T K X : Type 0} {x y : X} {left right : List T} → ok {T = T} {K = K} {X = X} x left ≡ ok {T = T} {K = K} {X = X} y right → (x ≡ y) × (left ≡ right)
ok_parts {T} {K} {X} {x} {y} {left} {right} e = let a : X × List T = (x, left) in let b : X × List T = (y, right) in let p : a ≡ b = cc in (ap (λ q. q.0) p, ap (λ q. q.1) p)

pub err_parts : {T K X : Type 0} {f g : Fault K} {left right : List T} → err {T = T} {K = K} {X = X} f left ≡ err {T = T} {K = K} {X = X} g right → (f ≡ g) × (left ≡ right)
err_parts {T} {K} {X} {f} {g} {left} {right} e = let a : Fault K × List T = (f, left) in let b : Fault K × List T = (g, right) in let p : a ≡ b = cc in (ap (λ q. q.0) p, ap (λ q. q.1) p)

-- a fault says nothing of the value that was not read
pub err_again : {T K X Y : Type 0} {f g : Fault K} {left right : List T} → err {T = T} {K = K} {X = Y} f left ≡ err {T = T} {K = K} {X = Y} g right → err {T = T} {K = K} {X = X} f left ≡ err {T = T} {K = K} {X = X} g right
err_again {T} {K} {X} {Y} {f} {g} {left} {right} e = let p : (f ≡ g) × (left ≡ right) = err_parts {X = Y} e in rw (p.0, p.1) refl
