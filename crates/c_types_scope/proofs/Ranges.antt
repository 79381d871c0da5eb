-- Declarations that are hidden one after the other, from the first on.
use Rattle.std.proofs.Common.{◌≡◌, ℕ, zero, suc, ◌+◌, ◌<◌, ◌≤◌, List, [], ◌∷◌, ◌++◌, length, map, take, drop, get_or, set, refl, sym, ◌∙◌, ap, arith, inl, inr}
use Rattle.std.specs.Prelude.{reverse}
use Rattle.std.proofs.lemmas.Bool.{cases_lt}
use Rattle.std.proofs.lemmas.List.{append-nil, append_assoc, map-append, reverse-append, reverse-reverse, length-reverse, length-take, length-append, length-map, length-take-le, length-drop, drop_more, take_more, drop-append-le, take-append-le, take_all, drop_all, set_at, get_or_at, take-append-drop}
use Rattle.c_types_scope.specs.declared.entries.Entry.{Entry}
use Rattle.c_types_scope.specs.Entries.{since, until, hide, hidden_since}
use Rattle.c_types_scope.proofs.Places.{reverse-cons, since-more, since-none, until-more, until-all}
use Rattle.c_types_scope.proofs.Hiding.{hidden-more, hidden-none}
use Rattle.c_types_scope.proofs.Changes.{reverse-push}

drop-nil : {A : Type 0} (n : ℕ) → drop {A = A} n [] ≡ []
drop-nil zero = refl
drop-nil (suc n) = refl

take-nil : {A : Type 0} (n : ℕ) → take {A = A} n [] ≡ []
take-nil zero = refl
take-nil (suc n) = refl

since-drop : {A : Type 0} (start : ℕ) (r : List A) → since start r ≡ reverse (drop start (reverse r))
since-drop start [] = sym (ap (λ l. reverse l) (drop-nil start))
since-drop start (x ∷ xs) = elim (cases_lt (length xs) start) [
  | inl k ↦ since-none start (x ∷ xs) (omega arith)
      ∙ sym (ap (λ l. reverse l) (drop_all start (reverse (x ∷ xs)) (let e = length-reverse (x ∷ xs) in omega arith)))
  | inr k ↦ since-more start x xs k
      ∙ ap (λ l. x ∷ l) (since-drop start xs)
      ∙ sym (ap (λ l. reverse (drop start l)) (reverse-cons x xs)
      ∙ ap (λ l. reverse l) (drop-append-le start (reverse xs) (x ∷ []) (let e = length-reverse xs in omega arith))
      ∙ reverse-push (drop start (reverse xs)) x)
]

until-take : {A : Type 0} (start : ℕ) (r : List A) → until start r ≡ reverse (take start (reverse r))
until-take start [] = sym (ap (λ l. reverse l) (take-nil start))
until-take start (x ∷ xs) = elim (cases_lt (length xs) start) [
  | inl k ↦ until-all start (x ∷ xs) (omega arith)
      ∙ sym (ap (λ l. reverse l) (take_all start (reverse (x ∷ xs)) (let e = length-reverse (x ∷ xs) in omega arith)) ∙ reverse-reverse (x ∷ xs))
  | inr k ↦ until-more start x xs k
      ∙ until-take start xs
      ∙ sym (ap (λ l. reverse (take start l)) (reverse-cons x xs)
      ∙ ap (λ l. reverse l) (take-append-le start (reverse xs) (x ∷ []) (let e = length-reverse xs in omega arith)))
]

hidden-parts : {M : Type 0} (start : ℕ) (r : List (Entry M)) → hidden_since start r ≡ map hide (since start r) ++ until start r
hidden-parts start [] = refl
hidden-parts start (x ∷ xs) = elim (cases_lt (length xs) start) [
  | inl k ↦ rw (hidden-none start (x ∷ xs) (omega arith), since-none start (x ∷ xs) (omega arith), until-all start (x ∷ xs) (omega arith)) refl
  | inr k ↦ rw (hidden-more start x xs k, since-more start x xs k, until-more start x xs k) (ap (λ l. hide x ∷ l) (hidden-parts start xs))
]

map-reverse : {A B : Type 0} (f : A → B) (xs : List A) → reverse (map f xs) ≡ map f (reverse xs)
map-reverse f [] = refl
map-reverse f (x ∷ xs) =
    reverse-cons (f x) (map f xs)
    ∙ ap (λ l. l ++ f x ∷ []) (map-reverse f xs)
    ∙ sym (ap (λ l. map f l) (reverse-cons x xs) ∙ map-append f (reverse xs) (x ∷ []))

-- what is hidden of the first so many
abbrev pub front_of : {M : Type 0} → (start i : ℕ) → List (Entry M) → List (Entry M)
front_of start i old = take start old ++ map hide (drop start (take i old))

pub front-start : {M : Type 0} (start : ℕ) (old : List (Entry M)) → front_of start start old ++ drop start old ≡ old
front-start start old =
    ap (λ l. (take start old ++ map hide l) ++ drop start old) (drop_all start (take start old) (short start old))
    ∙ ap (λ l. l ++ drop start old) (append-nil (take start old))
    ∙ take-append-drop start old
  where
    short : {A : Type 0} (n : ℕ) (l : List A) → length (take n l) ≤ n
    short n l = let e = length-take n l in omega arith

pub length-front : {M : Type 0} (start i : ℕ) (old : List (Entry M)) → start ≤ i → i ≤ length old → length (front_of start i old) ≡ i
length-front start i old h k =
    let a : length (take start old) ≡ start = length-take-le start old (omega arith) in
    let b : length (take i old) ≡ i = length-take-le i old k in
    let d = length-drop start (take i old) in
    let m = length-map (drop start (take i old)) hide in
    let s = length-append (take start old) (map hide (drop start (take i old))) in
    omega arith

front-more : {M : Type 0} (start i : ℕ) (old : List (Entry M)) (d : Entry M) → start ≤ i → i < length old → front_of start (i + 1) old ≡ front_of start i old ++ hide (get_or old i d) ∷ []
front-more start i old d h k =
    ap (λ l. take start old ++ map hide (drop start l)) (take_more old i d k)
    ∙ ap (λ l. take start old ++ map hide l) (drop-append-le start (take i old) (get_or old i d ∷ []) (let e = length-take-le i old (omega arith) in omega arith))
    ∙ ap (λ l. take start old ++ l) (map-append hide (drop start (take i old)) (get_or old i d ∷ []))
    ∙ sym (append_assoc (take start old) (map hide (drop start (take i old))) (hide (get_or old i d) ∷ []))

-- one more is hidden
pub range-more : {M : Type 0} (start i : ℕ) (old : List (Entry M)) (d : Entry M) → start ≤ i → i < length old
    → set (front_of start i old ++ drop i old) i (hide (get_or (front_of start i old ++ drop i old) i d)) ≡ front_of start (i + 1) old ++ drop (i + 1) old
range-more start i old d h k =
    let front = front_of start i old in
    let x = get_or old i d in
    let whole : front ++ drop i old ≡ front ++ x ∷ drop (i + 1) old = ap (λ l. front ++ l) (drop_more old i d k) in
    let size : length front ≡ i = length-front start i old h (omega arith) in
    ap (λ l. set l i (hide (get_or l i d))) whole
    ∙ ap (λ y. set (front ++ x ∷ drop (i + 1) old) i (hide y)) (get_or_at front x (drop (i + 1) old) d i size)
    ∙ set_at front x (drop (i + 1) old) (hide x) i size
    ∙ sym (append_assoc front (hide x ∷ []) (drop (i + 1) old))
    ∙ sym (ap (λ l. l ++ drop (i + 1) old) (front-more start i old d h k))

-- all are hidden
pub range-end : {M : Type 0} (start i : ℕ) (old : List (Entry M)) → length old ≤ i → reverse (front_of start i old ++ drop i old) ≡ hidden_since start (reverse old)
range-end start i old h =
    ap (λ l. reverse (front_of start i old ++ l)) (drop_all i old h)
    ∙ ap (λ l. reverse l) (append-nil (front_of start i old))
    ∙ ap (λ l. reverse (take start old ++ map hide (drop start l))) (take_all i old h)
    ∙ reverse-append (take start old) (map hide (drop start old))
    ∙ ap (λ l. l ++ reverse (take start old)) (map-reverse hide (drop start old))
    ∙ sym (hidden-parts start (reverse old)
    ∙ ap (λ l. map hide l ++ until start (reverse old)) (since-drop start (reverse old) ∙ ap (λ l. reverse (drop start l)) (reverse-reverse old))
    ∙ ap (λ l. map hide (reverse (drop start old)) ++ l) (until-take start (reverse old) ∙ ap (λ l. reverse (take start l)) (reverse-reverse old)))
