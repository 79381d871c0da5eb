-- The bytes that a word and a text have in common, counted one by one; and tables, entry by entry.
use Rattle.std.specs.Prelude.{◌==◌, max, map}
use Rattle.std.specs.Borrow.{Bor}
use Rattle.std.proofs.Common.{◌≡◌, ◌≢◌, ℕ, zero, suc, ◌+◌, ◌≤◌, ◌<◌, Bool, true, false, List, [], ◌∷◌, ◌++◌, length, get_or, take, drop, Option, Some, None, refl, ap, sym, ◌∙◌, subst, cond, arith, drop-cons, eqb-true, rules}
use Rattle.std.proofs.lemmas.Bool.Decides.{nat_tests}
use Rattle.cert_text_laws.specs.Readers.{begins_with, common, found_in, furthest}
use Rattle.cert_text_parse.specs.Outcomes.{entry_of, measured}

eqb_same : (c : ℕ) → (c == c) ≡ true
eqb_same c = search rules

eqb_differs : (c d : ℕ) → c ≢ d → (c == d) ≡ false
eqb_differs c d h = grind (arith, nat_tests)

pub common_step : (word text : List ℕ) (n : ℕ) → n < length word → n < length text → get_or word n 0 ≡ get_or text n 0 → common (drop n word) (drop n text) ≡ suc (common (drop (suc n) word) (drop (suc n) text))
common_step word text n l m same = rw (drop-cons word n 0, drop-cons text n 0, same, eqb_same) refl

pub common_differs : (word text : List ℕ) (n : ℕ) → n < length word → n < length text → get_or word n 0 ≢ get_or text n 0 → common (drop n word) (drop n text) ≡ 0
common_differs word text n l m differs = rw (drop-cons word n 0, drop-cons text n 0, eqb_differs (get_or word n 0) (get_or text n 0) differs) refl

none_left : (text : List ℕ) (n : ℕ) → length text ≤ n → drop n text ≡ []
none_left [] zero l = refl
none_left [] (suc n) l = refl
none_left (c ∷ text) zero l = absurd (omega arith)
none_left (c ∷ text) (suc n) l = none_left text n (omega arith)

common_nothing : (word : List ℕ) → common word [] ≡ 0
common_nothing [] = refl
common_nothing (c ∷ word) = refl

pub common_ended : (word text : List ℕ) (n : ℕ) → length text ≤ n → common (drop n word) (drop n text) ≡ 0
common_ended word text n l = ap (common (drop n word)) (none_left text n l) ∙ common_nothing (drop n word)

pub common_done : (word text : List ℕ) (n : ℕ) → length word ≤ n → common (drop n word) (drop n text) ≡ 0
common_done word text n l = ap (λ w. common w (drop n text)) (none_left word n l)

pub common_within : (word text : List ℕ) → common word text ≤ length text
common_within [] text = omega arith
common_within (c ∷ word) [] = omega arith
common_within (c ∷ word) (d ∷ text) = by_test (c == d) (common_within word text)
  where
    by_test : (b : Bool) → common word text ≤ length text → cond b (suc (common word text)) 0 ≤ suc (length text)
    by_test true h = omega arith
    by_test false h = omega arith

-- a text begins with a word where all its bytes are in common
zero_differs : (n : ℕ) → false ≡ (0 == suc n)
zero_differs n = grind (arith, nat_tests)

pub begins_common : (word text : List ℕ) → begins_with word text ≡ (common word text == length word)
begins_common [] text = refl
begins_common (c ∷ word) [] = zero_differs (length word)
begins_common (c ∷ word) (d ∷ text) = by_test (c == d) (begins_common word text)
  where
    both_more : (m n : ℕ) → (m == n) ≡ (suc m == suc n)
    both_more m n = grind (arith, nat_tests)

    by_test : (b : Bool) → begins_with word text ≡ (common word text == length word) → cond b (begins_with word text) false ≡ (cond b (suc (common word text)) 0 == suc (length word))
    by_test true h = h ∙ both_more (common word text) (length word)
    by_test false h = zero_differs (length word)

module _ {X : Type 0} where
  pub found_here : (entry : List ℕ × X) (table : List (List ℕ × X)) (text : List ℕ) → common entry.0 text ≡ length entry.0 → found_in (entry ∷ table) text ≡ Some entry
  found_here entry table text e = ap (λ b. cond b (Some entry) (found_in table text)) (begins_common entry.0 text ∙ ap (λ n. n == length entry.0) e ∙ eqb_same (length entry.0))

  pub found_later : (entry : List ℕ × X) (table : List (List ℕ × X)) (text : List ℕ) → common entry.0 text ≢ length entry.0 → found_in (entry ∷ table) text ≡ found_in table text
  found_later entry table text differs = ap (λ b. cond b (Some entry) (found_in table text)) (begins_common entry.0 text ∙ eqb_differs (common entry.0 text) (length entry.0) differs)

  pub further_step : (far : ℕ) (entry : List ℕ × X) (table : List (List ℕ × X)) (text : List ℕ) → max (max far (common entry.0 text)) (furthest table text) ≡ max far (furthest (entry ∷ table) text)
  further_step far entry table text = omega arith
