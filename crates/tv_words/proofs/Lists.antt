-- Lists that are separated by commas, and lists in which nothing occurs twice.
use Rattle.std.proofs.Common.{◌≡◌, ◌==◌, ◌<◌, ◌∙◌, ℕ, zero, suc, Bool, not, true, false, List, [], ◌∷◌, map, take, length, get_or, Bor, refl, sym, ap, subst, arith, inl, inr, bytes_eq}
use Rattle.std.specs.List.{All, list_all, list_any, slice_split, join_with_byte, IsDistinct, AllByRecursion}
use Rattle.std.proofs.lemmas.Bool.{and_parts, and_from, true_from_ne_false, not_from_false, or_right, or_cases, false_from_ne_true, eqb-true}
use Rattle.std.proofs.lemmas.Slice.Eq.{bytes_eq-Decides}
use Rattle.std.proofs.lemmas.List.Splits.{slice_split_none, slice_split_at, length-slice_split, join_with_byte-slice_split}
use Rattle.std.proofs.lemmas.List.Sums.{AllPass-from_list_all}
use Rattle.c_token_spec.specs.Words.{begins_word, is_word_byte}
use Rattle.tv_words.specs.Names.{is_name, IsList}

abbrev pub Text : Type 0
Text = List ℕ

abbrev pub same_text : Bor Text → Bor Text → Bool
same_text a b = bytes_eq a.now b.now

-- ---- nothing occurs twice

apart_after : (x : Bor Text) (xs : List (Bor Text)) → AllByRecursion (λ y. same_text x y ≡ false) xs → AllByRecursion (λ y. bytes_eq x.now y ≡ false) (map (λ t. t.now) xs)
apart_after x [] h = tt
apart_after x (y ∷ ys) h = (h.0, apart_after x ys h.1)

pub distinct_texts : (xs : List (Bor Text)) → IsDistinct same_text xs → IsDistinct bytes_eq (map (λ t. t.now) xs)
unfolding IsDistinct
distinct_texts [] h = tt
distinct_texts (x ∷ xs) h = (apart_after x xs h.0, distinct_texts xs h.1)

-- none of xs is x, so the one at i is not
not_among : (x : Text) (xs : List (Bor Text)) (i : ℕ) (d : Bor Text) → i < length xs → AllByRecursion (λ y. bytes_eq x y ≡ false) (map (λ t. t.now) xs) → (get_or xs i d).now ≡ x → ⊥
not_among x [] i d within apart e = absurd (omega arith)
not_among x (y ∷ ys) zero d within apart e = let same : bytes_eq x y.now ≡ true = (bytes_eq-Decides x y.now).1 (sym e) in let differs = apart.0 in cc
not_among x (y ∷ ys) (suc i) d within apart e = not_among x ys i d (omega arith) apart.1 e

-- the text at i occurs before i already
pub seen_twice : (xs : List (Bor Text)) (i : ℕ) (d : Bor Text) → i < length xs → list_any (same_text (get_or xs i d)) (take i xs) ≡ true → IsDistinct bytes_eq (map (λ t. t.now) xs) → ⊥
unfolding IsDistinct
seen_twice [] i d within seen apart = absurd (omega arith)
seen_twice (x ∷ xs) zero d within seen apart = let bad : false ≡ true = seen in cc
seen_twice (x ∷ xs) (suc i) d within seen apart = elim (or_cases _ _ seen) [
  | inl here ↦ not_among x.now xs i d (omega arith) apart.0 ((bytes_eq-Decides _ _).0 here)
  | inr before ↦ seen_twice xs i d (omega arith) before apart.1
]

-- ---- names and commas

no_comma : (byte : ℕ) → is_word_byte byte ≡ true → (byte == 44) ≡ false
no_comma byte h = false_from_ne_true _ (λ e. let bad : is_word_byte 44 ≡ true = subst (λ b. is_word_byte b ≡ true) (eqb-true _ _ e) h in let is : is_word_byte 44 ≡ false = refl in cc)

name_bytes : (byte : ℕ) (rest : List ℕ) → (begins_word byte ≡ true) × (list_all is_word_byte rest ≡ true) → list_all is_word_byte (byte ∷ rest) ≡ true
name_bytes byte rest h = and_from _ _ (or_right _ _ h.0) h.1

no_commas : (bytes : List ℕ) → list_all is_word_byte bytes ≡ true → All (λ b. (b == 44) ≡ false) bytes
no_commas bytes h = λ k d within. no_comma _ (AllPass-from_list_all is_word_byte bytes h k d within)

name_has_none : (name : Text) → is_name name ≡ true → All (λ b. (b == 44) ≡ false) name
name_has_none [] h = let bad : false ≡ true = h in cc
name_has_none (byte ∷ rest) h = no_commas (byte ∷ rest) (name_bytes byte rest (and_parts _ _ h))

pub parts_of : (names : List Text) → (names ≡ [] → ⊥) → list_all is_name names ≡ true → slice_split (λ b. b == 44) (join_with_byte 44 names) ≡ names
parts_of [] some h = absurd (some refl)
parts_of (name ∷ []) some h = slice_split_none (λ b. b == 44) name (name_has_none name (and_parts _ _ h).0)
parts_of (name ∷ more ∷ names) some h =
    slice_split_at (λ b. b == 44) name 44 (join_with_byte 44 (more ∷ names)) (name_has_none name (and_parts _ _ h).0) refl
    ∙ ap (λ (rest : List Text). name ∷ rest) (parts_of (more ∷ names) (λ e. cc) (and_parts _ _ h).1)

-- the names of a list are the pieces between its commas
pub parts_of_list : (text : Text) (names : List Text) → IsList text names → slice_split (λ b. b == 44) text ≡ names
parts_of_list text names list = ap (slice_split (λ b. b == 44)) list.spelled ∙ parts_of names list.some list.named

-- the pieces between the commas of a text are a list of names where each is a name, and none occurs twice
pub list_of_parts : (text : Text) (names : List Text) → names ≡ slice_split (λ b. b == 44) text → list_all is_name names ≡ true → IsDistinct bytes_eq names → IsList text names
list_of_parts text names parts named apart = record {
  spelled = sym (join_with_byte-slice_split 44 text) ∙ ap (join_with_byte 44) (sym parts);
  some = λ e. let n = length-slice_split (λ b. b == 44) text in let none : length (slice_split (λ b. b == 44) text) ≡ 0 = ap length (sym parts ∙ e) in omega arith;
  named = named;
  apart = apart;
}

-- what `insert` answers where the text was there
pub seen_by_answer : (keys xs : List (Bor Text)) (x : Bor Text) (answer : Bool) → answer ≡ not (list_any (same_text x) keys) → answer ≡ false → keys ≡ xs → list_any (same_text x) xs ≡ true
seen_by_answer keys xs x answer added is_false same = true_from_ne_false _ (λ e. let there : list_any (same_text x) keys ≡ false = ap (list_any (same_text x)) same ∙ e in let no : not (list_any (same_text x) keys) ≡ true = not_from_false _ there in cc)
