-- The number of a name is its index.
use Rattle.std.proofs.Common.{◌≡◌, ◌⊎◌, ◌∙◌, ℕ, ◌<◌, ◌≤◌, List, [], ◌∷◌, length, map, get_or, Option, Some, None, refl, sym, ap, subst, inl, inr, arith, true≢false}
use Rattle.std.specs.Prelude.{Bool, true, false, bytes_eq, position, slice_get, option_map, IfSome}
use Rattle.std.specs.Borrow.{Bor}
use Rattle.std.specs.List.{IsDistinct, position_or_len}
use Rattle.std.proofs.lemmas.Bool.{cases_lt}
use Rattle.std.proofs.lemmas.List.{length-map}
use Rattle.std.proofs.lemmas.List.Sums.{fails_before_first}
use Rattle.std.proofs.lemmas.List.Quantifiers.{position-Some}
use Rattle.std.proofs.lemmas.Map.Keys.{apart_from_distinct}
use Rattle.std.proofs.lemmas.Option.{slice_get-map, slice_get-get_or, slice_get_within}
use Rattle.std.proofs.lemmas.Slice.Eq.{bytes_eq-Decides}
use Rattle.c_types_scope.specs.declared.meaning.Meaning.{Meaning}
use Rattle.pair_setup_calls.specs.Names.{IsNumber, AreApart}

abbrev pub Entries : Type 0
Entries = List (Bor (List ℕ) × Meaning)

abbrev pub keys_in : Entries → List (Bor (List ℕ))
keys_in entries = map (λ (e : Bor (List ℕ) × Meaning). e.0) entries

abbrev pub names_in : Entries → List (List ℕ)
names_in entries = map (λ (e : Bor (List ℕ) × Meaning). e.0.now) entries

none : Bor (List ℕ)
none = record { ref_ptr = (0, 0); now = [] }

names-keys : (entries : Entries) → names_in entries ≡ map (λ (k : Bor (List ℕ)). k.now) (keys_in entries)
names-keys [] = refl
names-keys (entry ∷ entries) = ap (λ l. entry.0.now ∷ l) (names-keys entries)

module _ (entries : Entries) (name : List ℕ) where
  -- what is at an index
  name-at : (i : ℕ) → i < length (keys_in entries) → slice_get (names_in entries) i ≡ Some (get_or (keys_in entries) i none).now
  name-at i below =
      ap (λ l. slice_get l i) (names-keys entries) ∙ slice_get-map (λ (k : Bor (List ℕ)). k.now) (keys_in entries) i
      ∙ ap (option_map (λ (k : Bor (List ℕ)). k.now)) (slice_get-get_or (keys_in entries) i none below)

  pub number-found : (i : ℕ) → position (λ (k : Bor (List ℕ)). bytes_eq name k.now) (keys_in entries) ≡ Some i → IsNumber (names_in entries) i name
  number-found i e =
      let first = position-Some (λ (k : Bor (List ℕ)). bytes_eq name k.now) (keys_in entries) i none e in
      let same : name ≡ (get_or (keys_in entries) i none).now = (bytes_eq-Decides name _).0 first.1 in
      name-at i first.0 ∙ ap Some (sym same)

  inside : (i : ℕ) → IsNumber (names_in entries) i name → i < length (keys_in entries)
  inside i is =
      subst (λ n. i < n) (length-map entries (λ (e : Bor (List ℕ) × Meaning). e.0.now) ∙ sym (length-map entries (λ (e : Bor (List ℕ) × Meaning). e.0)))
      (slice_get_within (names_in entries) i name is)

  named : (i : ℕ) → IsNumber (names_in entries) i name → name ≡ (get_or (keys_in entries) i none).now
  named i is = let there = name-at i (inside i is) in let one : Some name ≡ Some (get_or (keys_in entries) i none).now = sym is ∙ there in cc

pub found-some : (entries : Entries) (name : List ℕ) (r : Option ℕ) → r ≡ position (λ (k : Bor (List ℕ)). bytes_eq name k.now) (keys_in entries)
    → IfSome r (λ i. IsNumber (names_in entries) i name)
found-some entries name None e = tt
found-some entries name (Some i) e = number-found entries name i (sym e)

-- the name at an index
pub name-read : (entries : Entries) (i : ℕ) (o : Option (Bor (List ℕ) × Meaning)) → o ≡ slice_get entries i
    → option_map (λ (e : Bor (List ℕ) × Meaning). e.0.now) o ≡ slice_get (names_in entries) i
name-read entries i o e = ap (option_map (λ (e : Bor (List ℕ) × Meaning). e.0.now)) e ∙ sym (slice_get-map (λ (e : Bor (List ℕ) × Meaning). e.0.now) entries i)

module _ (entries : Entries) (distinct : IsDistinct (λ (a b : Bor (List ℕ)). bytes_eq a.now b.now) (keys_in entries)) where
  before : (j k : ℕ) (name : List ℕ) → IsNumber (names_in entries) j name → IsNumber (names_in entries) k name → j < k → ⊥
  before j k name one other lt =
      let never = apart_from_distinct (λ (a b : Bor (List ℕ)). bytes_eq a.now b.now) (keys_in entries) j k none distinct lt (inside entries name k other) in
      let same : bytes_eq (get_or (keys_in entries) j none).now (get_or (keys_in entries) k none).now ≡ true =
      (bytes_eq-Decides _ _).1 (sym (named entries name j one) ∙ named entries name k other) in
      cc

  -- each name has one number
  pub names-apart : AreApart (names_in entries)
  names-apart j k name one other = at (cases_lt j k) (cases_lt k j)
    where
      at : (j < k) ⊎ (k ≤ j) → (k < j) ⊎ (j ≤ k) → j ≡ k
      at (inl lt) _ = absurd (before j k name one other lt)
      at (inr _) (inl gt) = absurd (before k j name other one gt)
      at (inr from) (inr to) = omega (arith, from, to)

  pub number-only : (name : List ℕ) (i : ℕ) → IsNumber (names_in entries) i name → position (λ (k : Bor (List ℕ)). bytes_eq name k.now) (keys_in entries) ≡ Some i
  number-only name i is = at (position (λ (k : Bor (List ℕ)). bytes_eq name k.now) (keys_in entries)) refl
    where
      here : bytes_eq name (get_or (keys_in entries) i none).now ≡ true
      here = (bytes_eq-Decides name _).1 (named entries name i is)

      missing : position (λ (k : Bor (List ℕ)). bytes_eq name k.now) (keys_in entries) ≡ None → ⊥
      missing e =
          let never = fails_before_first (λ (k : Bor (List ℕ)). bytes_eq name k.now) (keys_in entries) i none (grind (arith, e, inside entries name i is)) in
          true≢false (sym here ∙ never)

      at : (o : Option ℕ) → position (λ (k : Bor (List ℕ)). bytes_eq name k.now) (keys_in entries) ≡ o → o ≡ Some i
      at None e = absurd (missing e)
      at (Some j) e = ap Some (names-apart j i name (number-found entries name j e) is)
