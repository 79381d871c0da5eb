-- What a name means in blocks, by the place of its last declaration.
use Rattle.std.proofs.Common.{◌≡◌, ℕ, suc, ◌<◌, ◌≤◌, List, [], ◌∷◌, length, map, refl, sym, ◌∙◌, ap, subst, arith, inl, inr}
use Rattle.std.specs.Prelude.{Bool, true, false, cond, if◌then◌else◌, nat_lt, bytes_eq, reverse, Option, Some, None, option_map, slice_get}
use Rattle.std.proofs.lemmas.Bool.{cases_Bool, cases_lt, lt-ltb, le-ltb, le-leb, lt-leb}
use Rattle.c_token_spec.specs.Words.{entry_of}
use Rattle.c_types_spec.specs.Names as names
use Rattle.c_types_scope.specs.declared.entries.Entry.{Entry}
use Rattle.c_types_scope.specs.Entries.{pair_of, since, until, blocks_of, newest_in, AreStarts}
use Rattle.c_types_scope.specs.Scopes.{Kept, scopes_of}
use Rattle.c_types_scope.proofs.Places.{at_place, at_place-last, at_place-before, since-more, since-none, until-more, until-all, slice_get-reverse}

-- what the declaration of a place says
abbrev pub said_at : {M : Type 0} → List (Entry M) → ℕ → Option (Option M)
said_at entries place = option_map (λ e. e.meaning) (at_place entries place)

abbrev pub said : {M : Type 0} → List (Entry M) → Option ℕ → Option (Option M)
said entries None = None
said entries (Some place) = said_at entries place

newest-below : {M : Type 0} (entries : List (Entry M)) (name : List ℕ) (place : ℕ) → newest_in entries name ≡ Some place → place < length entries
newest-below [] name place e = absurd cc
newest-below (entry ∷ entries) name place e = elim (cases_Bool (bytes_eq entry.name.now name)) [
  | inl h ↦ let last : Some (length entries) ≡ Some place = rw h at e in let same : length entries ≡ place = cc in omega arith
  | inr h ↦ let inner : place < length entries = newest-below entries name place (rw h at e) in omega arith
]

said-more : {M : Type 0} (entry : Entry M) (entries : List (Entry M)) (name : List ℕ) (found : Option ℕ) → newest_in entries name ≡ found → said entries found ≡ said (entry ∷ entries) found
said-more entry entries name None e = refl
said-more entry entries name (Some place) e = ap (λ x. option_map (λ e. e.meaning) x) (sym (at_place-before entry entries place (newest-below entries name place e)))

-- the last declaration of a name is the first one of the list
pub entry-newest : {M : Type 0} (entries : List (Entry M)) (name : List ℕ) → entry_of (map pair_of entries) name ≡ said entries (newest_in entries name)
entry-newest [] name = refl
entry-newest (entry ∷ entries) name = elim (cases_Bool (bytes_eq entry.name.now name)) [
  | inl h ↦ rw h (sym (ap (λ x. option_map (λ e. e.meaning) x) (at_place-last entry entries)))
  | inr h ↦ rw h (entry-newest entries name ∙ said-more entry entries name (newest_in entries name) refl)
]

abbrev pub or_else : {A : Type 0} → Option A → Option A → Option A
or_else None other = other
or_else (Some x) other = Some x

entry-split : {M : Type 0} (start : ℕ) (entries : List (Entry M)) (name : List ℕ) → entry_of (map pair_of entries) name ≡ or_else (entry_of (map pair_of (since start entries)) name) (entry_of (map pair_of (until start entries)) name)
entry-split start [] name = refl
entry-split start (entry ∷ entries) name = elim (cases_lt (length entries) start) [
  | inl k ↦ rw (since-none start (entry ∷ entries) (omega arith), until-all start (entry ∷ entries) (omega arith)) refl
  | inr k ↦ rw (since-more start entry entries k, until-more start entry entries k) (elim (cases_Bool (bytes_eq entry.name.now name)) [
    | inl h ↦ rw h refl
    | inr h ↦ rw h (entry-split start entries name)
  ])
]

pub in_blocks-cons : {M : Type 0} (block : names.Scope M) (blocks : List (names.Scope M)) (name : List ℕ) → names.in_blocks (block ∷ blocks) name ≡ or_else (entry_of block name) (names.in_blocks blocks name)
in_blocks-cons block blocks name = turn (entry_of block name) (names.in_blocks blocks name)
  where
    turn : {A : Type 0} (found other : Option A) → elim found [ Some x ↦ Some x | None ↦ other ] ≡ or_else found other
    turn None other = refl
    turn (Some x) other = refl

-- all declarations are in blocks
pub in_blocks-all : {M : Type 0} (starts : List ℕ) (entries : List (Entry M)) (name : List ℕ) → AreStarts starts entries → names.in_blocks (blocks_of starts entries) name ≡ entry_of (map pair_of entries) name
in_blocks-all [] entries name e = rw e refl
in_blocks-all (start ∷ starts) entries name h =
    in_blocks-cons (map pair_of (since start entries)) (blocks_of starts (until start entries)) name
    ∙ ap (λ found. or_else (entry_of (map pair_of (since start entries)) name) found) (in_blocks-all starts (until start entries) name h.1)
    ∙ sym (entry-split start entries name)

-- what a name means in scopes
abbrev pub said_in : {M : Type 0} → (file : names.Scope (Option M)) → List (Entry M) → List ℕ → Option ℕ → Option (Option M)
said_in file entries name None = entry_of file name
said_in file entries name (Some place) = option_map (λ e. e.meaning) (slice_get (reverse entries) place)

within : {M : Type 0} (entries : List (Entry M)) (place : ℕ) → place < length entries → (m : Option M) × (said_at entries place ≡ Some m)
within [] place h = absurd (omega arith)
within (entry ∷ entries) place h = elim (cases_lt place (length entries)) [
  | inl k ↦ (let inner = within entries place k in (inner.0, ap (λ x. option_map (λ e. e.meaning) x) (at_place-before entry entries place k) ∙ inner.1))
  | inr k ↦ (let e : place ≡ length entries = omega arith in (entry.meaning, rw e (ap (λ x. option_map (λ e. e.meaning) x) (at_place-last entry entries))))
]

pub in_scope-cons : {M : Type 0} (file : names.Scope M) (blocks : List (names.Scope M)) (name : List ℕ) → names.in_scope (record { file = file; blocks = blocks }) name ≡ or_else (names.in_blocks blocks name) (entry_of file name)
in_scope-cons file blocks name = turn (names.in_blocks blocks name) (entry_of file name)
  where
    turn : {A : Type 0} (found other : Option A) → elim found [ Some x ↦ Some x | None ↦ other ] ≡ or_else found other
    turn None other = refl
    turn (Some x) other = refl

said-found : {M : Type 0} (file : names.Scope (Option M)) (entries : List (Entry M)) (name : List ℕ) (found : Option ℕ) → newest_in entries name ≡ found → or_else (said entries found) (entry_of file name) ≡ said_in file entries name found
said-found file entries name None e = refl
said-found file entries name (Some place) e =
    let inner = within entries place (newest-below entries name place e) in
    ap (λ x. or_else x (entry_of file name)) inner.1
    ∙ sym (ap (λ x. option_map (λ e. e.meaning) x) (slice_get-reverse entries place) ∙ inner.1)

pub found-in_scope : {M : Type 0} (file : names.Scope (Option M)) (starts : List ℕ) (entries : List (Entry M)) (name : List ℕ) → AreStarts starts entries
    → names.in_scope (scopes_of (file, blocks_of starts entries)) name ≡ said_in file entries name (newest_in entries name)
found-in_scope file starts entries name h =
    in_scope-cons file (blocks_of starts entries) name
    ∙ ap (λ x. or_else x (entry_of file name)) (in_blocks-all starts entries name h ∙ entry-newest entries name)
    ∙ said-found file entries name (newest_in entries name) refl

-- ---- the innermost block

abbrev pub since_place : {M : Type 0} → (start : ℕ) → List (Entry M) → Option ℕ → Option (Option M)
since_place start entries None = None
since_place start entries (Some place) = if nat_lt place start then None else said_at entries place

since_place-more : {M : Type 0} (start : ℕ) (entry : Entry M) (entries : List (Entry M)) (name : List ℕ) (found : Option ℕ) → newest_in entries name ≡ found → since_place start entries found ≡ since_place start (entry ∷ entries) found
since_place-more start entry entries name None e = refl
since_place-more start entry entries name (Some place) e =
    ap (λ x. if nat_lt place start then None else option_map (λ e. e.meaning) x) (sym (at_place-before entry entries place (newest-below entries name place e)))

since_place-none : {M : Type 0} (start : ℕ) (entries : List (Entry M)) (name : List ℕ) (found : Option ℕ) → newest_in entries name ≡ found → length entries ≤ start → since_place start entries found ≡ None
since_place-none start entries name None e h = refl
since_place-none start entries name (Some place) e h =
    let below : place < length entries = newest-below entries name place e in
    rw (lt-ltb place start (omega arith)) refl

entry-since : {M : Type 0} (start : ℕ) (entries : List (Entry M)) (name : List ℕ) → entry_of (map pair_of (since start entries)) name ≡ since_place start entries (newest_in entries name)
entry-since start [] name = refl
entry-since start (entry ∷ entries) name = elim (cases_lt (length entries) start) [
  | inl k ↦ rw (since-none start (entry ∷ entries) (omega arith)) (sym (since_place-none start (entry ∷ entries) name (newest_in (entry ∷ entries) name) refl (omega arith)))
  | inr k ↦ rw (since-more start entry entries k) (elim (cases_Bool (bytes_eq entry.name.now name)) [
    | inl h ↦ rw (h, le-ltb (length entries) start k) (sym (ap (λ x. option_map (λ e. e.meaning) x) (at_place-last entry entries)))
    | inr h ↦ rw h (entry-since start entries name ∙ since_place-more start entry entries name (newest_in entries name) refl)
  ])
]

abbrev pub said_since : {M : Type 0} → (start : ℕ) → List (Entry M) → Option ℕ → Option (Option M)
said_since start entries None = None
said_since start entries (Some place) = if nat_lt place start then None else option_map (λ e. e.meaning) (slice_get (reverse entries) place)

said_since-is : {M : Type 0} (start : ℕ) (entries : List (Entry M)) (found : Option ℕ) → since_place start entries found ≡ said_since start entries found
said_since-is start entries None = refl
said_since-is start entries (Some place) = ap (λ x. if nat_lt place start then None else option_map (λ e. e.meaning) x) (sym (slice_get-reverse entries place))

pub found-innermost : {M : Type 0} (file : names.Scope (Option M)) (start : ℕ) (starts : List ℕ) (entries : List (Entry M)) (name : List ℕ)
    → names.in_innermost (scopes_of (file, blocks_of (start ∷ starts) entries)) name ≡ said_since start entries (newest_in entries name)
found-innermost file start starts entries name = entry-since start entries name ∙ said_since-is start entries (newest_in entries name)
