-- Declarations that are hidden.
use Rattle.std.proofs.Common.{◌≡◌, ℕ, suc, ◌<◌, ◌≤◌, List, [], ◌∷◌, ◌++◌, length, map, refl, sym, ◌∙◌, ap, subst, arith, inl, inr}
use Rattle.std.specs.Prelude.{Bool, true, false, cond, if◌then◌else◌, bytes_eq, Option, Some, None}
use Rattle.std.specs.Borrow.{Bor}
use Rattle.std.proofs.lemmas.Bool.{cases_Bool, cases_lt, le-leb, lt-leb}
use Rattle.c_types_spec.specs.Names as names
use Rattle.c_types_scope.specs.declared.entries.Entry.{Entry}
use Rattle.c_types_scope.specs.Entries.{pair_of, since, until, hide, hidden_since, blocks_of, newest_in, AreLinked, AreTied, AreStarts}
use Rattle.c_types_scope.proofs.Places.{since-more, since-none, until-more, until-all, length-until}

pub hidden-more : {M : Type 0} (start : ℕ) (entry : Entry M) (entries : List (Entry M)) → start ≤ length entries → hidden_since start (entry ∷ entries) ≡ hide entry ∷ hidden_since start entries
hidden-more start entry entries h = rw (le-leb start (length entries) h) refl

pub hidden-none : {M : Type 0} (start : ℕ) (entries : List (Entry M)) → length entries ≤ start → hidden_since start entries ≡ entries
hidden-none start [] h = refl
hidden-none start (entry ∷ entries) h = rw (lt-leb start (length entries) (omega arith)) refl

pub length-hidden : {M : Type 0} (start : ℕ) (entries : List (Entry M)) → length (hidden_since start entries) ≡ length entries
length-hidden start [] = refl
length-hidden start (entry ∷ entries) = elim (cases_lt (length entries) start) [
  | inl k ↦ rw (hidden-none start (entry ∷ entries) (omega arith)) refl
  | inr k ↦ rw (hidden-more start entry entries k) (ap suc (length-hidden start entries))
]

newest-hidden : {M : Type 0} (start : ℕ) (entries : List (Entry M)) (name : List ℕ) → newest_in (hidden_since start entries) name ≡ newest_in entries name
newest-hidden start [] name = refl
newest-hidden start (entry ∷ entries) name = elim (cases_lt (length entries) start) [
  | inl k ↦ rw (hidden-none start (entry ∷ entries) (omega arith)) refl
  | inr k ↦ rw (hidden-more start entry entries k) (
      ap (λ n. if bytes_eq entry.name.now name then Some n else newest_in (hidden_since start entries) name) (length-hidden start entries)
      ∙ ap (λ found. if bytes_eq entry.name.now name then Some (length entries) else found) (newest-hidden start entries name))
]

linked-hidden : {M : Type 0} (start : ℕ) (entries : List (Entry M)) → AreLinked entries → AreLinked (hidden_since start entries)
linked-hidden start [] h = h
linked-hidden start (entry ∷ entries) h = elim (cases_lt (length entries) start) [
  | inl k ↦ rw (hidden-none start (entry ∷ entries) (omega arith)) h
  | inr k ↦ rw (hidden-more start entry entries k) (h.0 ∙ sym (newest-hidden start entries entry.name.now), linked-hidden start entries h.1)
]

pub tied-hidden : {M : Type 0} (start : ℕ) (entries : List (Entry M)) (table : List (Bor (List ℕ) × Option ℕ)) → AreTied entries table → AreTied (hidden_since start entries) table
tied-hidden start entries table t = record {
  linked = linked-hidden start entries t.linked;
  newest = λ name. t.newest name ∙ sym (newest-hidden start entries name);
}

-- the outer block, with the hidden declarations of the inner one
pub since-hidden : {M : Type 0} (start outer : ℕ) (entries : List (Entry M)) → outer ≤ start → start ≤ length entries
    → map pair_of (since outer (hidden_since start entries)) ≡ names.all_mean None (map pair_of (since start entries)) ++ map pair_of (since outer (until start entries))
since-hidden start outer [] h k = refl
since-hidden start outer (entry ∷ entries) h k = elim (cases_lt (length entries) start) [
  | inl m ↦ rw (hidden-none start (entry ∷ entries) (omega arith), since-none start (entry ∷ entries) (omega arith), until-all start (entry ∷ entries) (omega arith)) refl
  | inr m ↦ rw (
    hidden-more start entry entries m,
    since-more start entry entries m,
    until-more start entry entries m,
    since-more outer (hide entry) (hidden_since start entries) (let e = length-hidden start entries in omega arith),
  )
      (ap (λ l. (entry.name.now, None) ∷ l) (since-hidden start outer entries h m))
]

pub until-hidden : {M : Type 0} (start outer : ℕ) (entries : List (Entry M)) → outer ≤ start → start ≤ length entries → until outer (hidden_since start entries) ≡ until outer (until start entries)
until-hidden start outer [] h k = refl
until-hidden start outer (entry ∷ entries) h k = elim (cases_lt (length entries) start) [
  | inl m ↦ rw (hidden-none start (entry ∷ entries) (omega arith), until-all start (entry ∷ entries) (omega arith)) refl
  | inr m ↦ rw (
    hidden-more start entry entries m,
    until-more start entry entries m,
    until-more outer (hide entry) (hidden_since start entries) (let e = length-hidden start entries in omega arith),
  )
      (until-hidden start outer entries h m)
]

outer-below : {M : Type 0} (start outer : ℕ) (starts : List ℕ) (entries : List (Entry M)) → AreStarts (start ∷ outer ∷ starts) entries → outer ≤ start
outer-below start outer starts entries h = let e = length-until start entries h.0 in let k : outer ≤ length (until start entries) = h.1.0 in omega arith

pub blocks-hidden : {M : Type 0} (start outer : ℕ) (starts : List ℕ) (entries : List (Entry M)) → AreStarts (start ∷ outer ∷ starts) entries
    → blocks_of (outer ∷ starts) (hidden_since start entries) ≡ names.inner_hidden None (blocks_of (start ∷ outer ∷ starts) entries)
blocks-hidden start outer starts entries h =
    let below = outer-below start outer starts entries h in
    ap (λ block. block ∷ blocks_of starts (until outer (hidden_since start entries))) (since-hidden start outer entries below h.0)
    ∙ ap (λ l. (names.all_mean None (map pair_of (since start entries)) ++ map pair_of (since outer (until start entries))) ∷ blocks_of starts l) (until-hidden start outer entries below h.0)

pub starts-hidden : {M : Type 0} (start outer : ℕ) (starts : List ℕ) (entries : List (Entry M)) → AreStarts (start ∷ outer ∷ starts) entries
    → AreStarts (outer ∷ starts) (hidden_since start entries)
starts-hidden start outer starts entries h =
    let below = outer-below start outer starts entries h in
    let e = length-hidden start entries in
    let k : start ≤ length entries = h.0 in
    (omega arith, subst (λ l. AreStarts starts l) (sym (until-hidden start outer entries below h.0)) h.1.1)
