-- What a shelf holds after a file is begun, and after a piece is added.
use Rattle.std.proofs.Common.{◌≡◌, ℕ, List, [], ◌∷◌, ◌++◌, Some, bytes_eq, string_bytes, Bool, true, false, cond, refl, sym, ◌∙◌, ap, Decides}
use Rattle.std.proofs.lemmas.List.Sums.{fold-append}
use Rattle.std.proofs.lemmas.Slice.Eq.{bytes_eq-Decides}
use Rattle.tv_base.specs.Writing.{IsEmptied}
use Rattle.tv_base.specs.declared.shelf.Shelf.{Shelf}
use Rattle.tv_base.specs.declared.shelf.StoredFile.{StoredFile}
use Rattle.tv_base.specs.Shelf.{with_text, texts_of, on_shelf}

pub same_bytes : (name : List ℕ) → bytes_eq name name ≡ true
same_bytes name = (bytes_eq-Decides name name).1 refl

is_false : {P : Type 0} (b : Bool) → Decides b P → (P → ⊥) → b ≡ false
is_false true d h = absurd (h (d.0 refl))
is_false false d h = refl

pub other_bytes : (name other : List ℕ) → (other ≡ name → ⊥) → bytes_eq name other ≡ false
other_bytes name other h = is_false (bytes_eq name other) (bytes_eq-Decides name other) (λ e. h (sym e))

pub under_name : (name text : List ℕ) (earlier : List ℕ → List ℕ) → with_text name text earlier name ≡ text
under_name name text earlier = ap (λ b. cond b text (earlier name)) (same_bytes name)

pub under_other : (name other text : List ℕ) (earlier : List ℕ → List ℕ) → (other ≡ name → ⊥)
    → with_text name text earlier other ≡ earlier other
under_other name other text earlier h = ap (λ b. cond b text (earlier other)) (other_bytes name other h)

-- the file begun last is the last of all
begun_too : (files : List StoredFile) (last : StoredFile)
    → texts_of (files ++ last ∷ []) ≡ with_text (string_bytes last.name) last.text.items (texts_of files)
begun_too files last = fold-append _ _ files (last ∷ [])

pub begun_anew : (old new : Shelf) (name : List ℕ) → new.earlier.items ≡ old.earlier.items ++ old.last ∷ []
    → string_bytes new.last.name ≡ name → new.last.text.items ≡ [] → IsEmptied (on_shelf old) name (on_shelf new)
begun_anew old new name earlier named empty =
    let texts = texts_of new.earlier.items in
    record {
      there = ap Some (ap (λ n. with_text n new.last.text.items texts name) named ∙ under_name name new.last.text.items texts ∙ empty);
      elsewhere = λ other h. ap Some
          (ap (λ n. with_text n new.last.text.items texts other) named
          ∙ under_other name other new.last.text.items texts h
          ∙ ap (λ files. texts_of files other) earlier
          ∙ ap (λ f. f other) (begun_too old.earlier.items old.last));
    }
