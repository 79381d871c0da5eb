-- The table of places, where a declaration is added or taken back.
use Rattle.std.proofs.Common.{◌≡◌, ℕ, suc, ◌<◌, List, [], ◌∷◌, ◌++◌, length, refl, sym, ◌∙◌, ap, subst, arith, inl, inr}
use Rattle.std.specs.Prelude.{Bool, true, false, cond, if◌then◌else◌, bytes_eq, reverse, Option, Some, None, Result, Ok, Err, OnOk, OnErr}
use Rattle.std.specs.Borrow.{Bor}
use Rattle.std.proofs.lemmas.Bool.{cases_Bool}
use Rattle.std.proofs.lemmas.List.{reverse-append}
use Rattle.std.proofs.lemmas.Slice.Eq.{bytes_eq-Decides}
use Rattle.c_types_scope.specs.declared.entries.Entry.{Entry}
use Rattle.c_types_scope.specs.Entries.{newest_in, flat, held, SetsPlace, AreLinked, IsNewest, AreTied}

-- one more declaration, of which the table has the place
pub tied-more : {M : Type 0} (entries : List (Entry M)) (entry : Entry M) (old new : List (Bor (List ℕ) × Option ℕ))
    → AreTied entries old → entry.before ≡ held old entry.name.now → SetsPlace old new entry.name.now (Some (length entries)) → AreTied (entry ∷ entries) new
tied-more entries entry old new t before set = record {
  linked = (before ∙ t.newest entry.name.now, t.linked);
  newest = λ other. set other ∙ ap (λ (place : Option ℕ). if bytes_eq entry.name.now other then Some (length entries) else place) (t.newest other);
}

-- the last declaration is taken back, and the table has the place of the one that it hid
newest-less : {M : Type 0} (entries : List (Entry M)) (entry : Entry M) (old : List (Bor (List ℕ) × Option ℕ)) (other : List ℕ)
    → AreTied (entry ∷ entries) old → (if bytes_eq entry.name.now other then entry.before else held old other) ≡ newest_in entries other
newest-less entries entry old other t = elim (cases_Bool (bytes_eq entry.name.now other)) [
  | inl h ↦ rw h (t.linked.0 ∙ ap (λ name. newest_in entries name) ((bytes_eq-Decides entry.name.now other).0 h))
  | inr h ↦ rw h (t.newest other ∙ rw h refl)
]

pub tied-less : {M : Type 0} (entries : List (Entry M)) (entry : Entry M) (old new : List (Bor (List ℕ) × Option ℕ))
    → AreTied (entry ∷ entries) old → SetsPlace old new entry.name.now entry.before → AreTied entries new
tied-less entries entry old new t set = record {
  linked = t.linked.1;
  newest = λ other. set other ∙ newest-less entries entry old other t;
}

pub tied-held : {M : Type 0} (entries : List (Entry M)) (entry : Entry M) (table : List (Bor (List ℕ) × Option ℕ))
    → AreTied (entry ∷ entries) table → held table entry.name.now ≡ None → ⊥
tied-held entries entry table t e =
    let same : bytes_eq entry.name.now entry.name.now ≡ true = (bytes_eq-Decides entry.name.now entry.name.now).1 refl in
    let there : held table entry.name.now ≡ Some (length entries) = t.newest entry.name.now ∙ rw same refl in
    cc

pub flat-cond : (b : Bool) (place : Option ℕ) (found : Option (Option ℕ)) → flat (cond b (Some place) found) ≡ (if b then place else flat found)
flat-cond true place found = refl
flat-cond false place found = refl

taken-by : {M A E : Type 0} (rest : List (Entry M)) (entry : Entry M) (old new : List (Bor (List ℕ) × Option ℕ)) (r : Result A E)
    → OnOk r (SetsPlace old new entry.name.now entry.before) → OnErr r (held old entry.name.now ≡ None) → AreTied (entry ∷ rest) old → AreTied rest new
taken-by rest entry old new (Ok x) set absent k = tied-less rest entry old new k set
taken-by rest entry old new (Err error) set absent k = absurd (tied-held rest entry old k absent)

pub taken-tied : {M A E : Type 0} (r : Result A E) (items rest : List (Entry M)) (entry : Entry M) (old new : List (Bor (List ℕ) × Option ℕ))
    → items ≡ rest ++ entry ∷ [] → OnOk r (SetsPlace old new entry.name.now entry.before) → OnErr r (held old entry.name.now ≡ None)
    → AreTied (reverse items) old → AreTied (reverse rest) new
taken-tied r items rest entry old new e set absent t =
    let k : AreTied (entry ∷ reverse rest) old = subst (λ l. AreTied l old) (ap (λ l. reverse l) e ∙ reverse-append rest (entry ∷ [])) t in
    taken-by (reverse rest) entry old new r set absent k
