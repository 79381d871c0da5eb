-- What look-ups find, and what changes of the blocks make of them, by what is kept.
use Rattle.std.proofs.Common.{◌≡◌, ℕ, suc, ◌<◌, ◌≤◌, List, [], ◌∷◌, ◌++◌, length, map, refl, sym, ◌∙◌, ap, subst, arith, inl, inr}
use Rattle.std.specs.Prelude.{Bool, true, false, if◌then◌else◌, nat_lt, bytes_eq, reverse, Option, Some, None, option_map, slice_get}
use Rattle.std.specs.Borrow.{Bor}
use Rattle.std.proofs.lemmas.Bool.{lt-ltb, le-ltb}
use Rattle.std.proofs.lemmas.List.{reverse-reverse}
use Rattle.c_token_spec.specs.Words.{entry_of}
use Rattle.c_types_spec.specs.Names as names
use Rattle.c_types_scope.specs.declared.entries.Entry.{Entry}
use Rattle.c_types_scope.specs.Entries.{pair_of, since, until, blocks_of, newest_in, held, first_of, AreTied, AreStarts}
use Rattle.c_types_scope.specs.Scopes.{scopes_of}
use Rattle.c_types_scope.proofs.Places.{since-more, until-more, since-none, until-all}
use Rattle.c_types_scope.proofs.Blocks.{said_in, said_since, found-in_scope, found-innermost}

module _ {M : Type 0} (file : names.Scope (Option M)) (starts : List ℕ) (items : List (Entry M)) (table : List (Bor (List ℕ) × Option ℕ)) (name : List ℕ) where
  kept : names.Scopes (Option M)
  kept = scopes_of (file, blocks_of starts (reverse items))

  pub find-some : (place : ℕ) → AreTied (reverse items) table → AreStarts starts (reverse items) → Some place ≡ held table name → option_map (λ e. e.meaning) (slice_get items place) ≡ names.in_scope (scopes_of (file, blocks_of starts (reverse items))) name
  find-some place t h e =
      ap (λ l. option_map (λ e. e.meaning) (slice_get l place)) (sym (reverse-reverse items))
      ∙ ap (λ found. said_in file (reverse items) name found) (e ∙ t.newest name)
      ∙ sym (found-in_scope file starts (reverse items) name h)

  pub find-none : AreTied (reverse items) table → AreStarts starts (reverse items) → None ≡ held table name → entry_of file name ≡ names.in_scope (scopes_of (file, blocks_of starts (reverse items))) name
  find-none t h e =
      ap (λ found. said_in file (reverse items) name found) (e ∙ t.newest name)
      ∙ sym (found-in_scope file starts (reverse items) name h)

  pub inner-file : None ≡ first_of starts → entry_of file name ≡ names.in_innermost (scopes_of (file, blocks_of starts (reverse items))) name
  inner-file e = at_file starts e
    where
      at_file : (starts : List ℕ) → None ≡ first_of starts → entry_of file name ≡ names.in_innermost (scopes_of (file, blocks_of starts (reverse items))) name
      at_file [] e = refl
      at_file (start ∷ starts) e = absurd cc

  inner-found : (start : ℕ) → Some start ≡ first_of starts → names.in_innermost (scopes_of (file, blocks_of starts (reverse items))) name ≡ said_since start (reverse items) (newest_in (reverse items) name)
  inner-found start e = at_start starts e
    where
      at_start : (starts : List ℕ) → Some start ≡ first_of starts → names.in_innermost (scopes_of (file, blocks_of starts (reverse items))) name ≡ said_since start (reverse items) (newest_in (reverse items) name)
      at_start [] e = absurd cc
      at_start (first ∷ rest) e = let same : start ≡ first = cc in found-innermost file first rest (reverse items) name ∙ ap (λ n. said_since n (reverse items) (newest_in (reverse items) name)) (sym same)

  pub inner-none : (start : ℕ) → AreTied (reverse items) table → Some start ≡ first_of starts → None ≡ held table name → None ≡ names.in_innermost (scopes_of (file, blocks_of starts (reverse items))) name
  inner-none start t s e = ap (λ found. said_since start (reverse items) found) (e ∙ t.newest name) ∙ sym (inner-found start s)

  pub inner-before : (start place : ℕ) → AreTied (reverse items) table → Some start ≡ first_of starts → Some place ≡ held table name → place < start → None ≡ names.in_innermost (scopes_of (file, blocks_of starts (reverse items))) name
  inner-before start place t s e h =
      sym (ap (λ b. if b then None else option_map (λ e. e.meaning) (slice_get (reverse (reverse items)) place)) (lt-ltb place start h))
      ∙ ap (λ found. said_since start (reverse items) found) (e ∙ t.newest name) ∙ sym (inner-found start s)

  pub inner-some : (start place : ℕ) → AreTied (reverse items) table → Some start ≡ first_of starts → Some place ≡ held table name → start ≤ place → option_map (λ e. e.meaning) (slice_get items place) ≡ names.in_innermost (scopes_of (file, blocks_of starts (reverse items))) name
  inner-some start place t s e h =
      ap (λ l. option_map (λ e. e.meaning) (slice_get l place)) (sym (reverse-reverse items))
      ∙ sym (ap (λ b. if b then None else option_map (λ e. e.meaning) (slice_get (reverse (reverse items)) place)) (le-ltb place start h))
      ∙ ap (λ found. said_since start (reverse items) found) (e ∙ t.newest name) ∙ sym (inner-found start s)

-- ---- changes

-- one more declaration in the innermost block
pub blocks-more : {M : Type 0} (start : ℕ) (starts : List ℕ) (entry : Entry M) (entries : List (Entry M)) → start ≤ length entries
    → blocks_of (start ∷ starts) (entry ∷ entries) ≡ (pair_of entry ∷ map pair_of (since start entries)) ∷ blocks_of starts (until start entries)
blocks-more start starts entry entries h =
    ap (λ l. map pair_of l ∷ blocks_of starts (until start (entry ∷ entries))) (since-more start entry entries h)
    ∙ ap (λ l. (pair_of entry ∷ map pair_of (since start entries)) ∷ blocks_of starts l) (until-more start entry entries h)

pub starts-more : {M : Type 0} (start : ℕ) (starts : List ℕ) (entry : Entry M) (entries : List (Entry M)) → AreStarts (start ∷ starts) entries → AreStarts (start ∷ starts) (entry ∷ entries)
starts-more start starts entry entries h =
    let k : start ≤ length entries = h.0 in
    (omega arith, subst (λ l. AreStarts starts l) (sym (until-more start entry entries h.0)) h.1)

-- one more block
pub blocks-opened : {M : Type 0} (starts : List ℕ) (entries : List (Entry M)) → blocks_of (length entries ∷ starts) entries ≡ [] ∷ blocks_of starts entries
blocks-opened starts entries =
    ap (λ l. map pair_of l ∷ blocks_of starts (until (length entries) entries)) (since-none (length entries) entries (omega arith))
    ∙ ap (λ l. [] ∷ blocks_of starts l) (until-all (length entries) entries (omega arith))

pub starts-opened : {A : Type 0} (starts : List ℕ) (entries : List A) → AreStarts starts entries → AreStarts (length entries ∷ starts) entries
starts-opened starts entries h = (omega arith, subst (λ l. AreStarts starts l) (sym (until-all (length entries) entries (omega arith))) h)
