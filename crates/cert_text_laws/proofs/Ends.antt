-- Tables of words, of which none begins another; and parts with a word before or after them.
use Rattle.std.specs.Prelude.{◌==◌, if◌then◌else◌}
use Rattle.std.proofs.Common.{◌≡◌, ℕ, Bool, true, false, ◌&&◌, ◌||◌, not, List, [], ◌∷◌, ◌++◌, Some, refl, ap, sym, ◌∙◌, subst, cond, IsTrue, eqb-true, rules}
use Rattle.exact_read.specs.Reading.{Stops, plains}
use Rattle.exact_read.specs.Grammar.{anything, read_then, read_or, Or, first}
use Rattle.exact_read.proofs.Parts.{stops_anything, exact-or}
use Rattle.exact_read.proofs.Stop.{exact-enter}
use Rattle.cert_text_laws.specs.Readers.{bytes, Reader, Reads, begins_with, found_in, Word, here, there, read_word}
use Rattle.cert_text_laws.specs.Parts.{read_text, read_ended, read_led}
use Rattle.cert_text_laws.proofs.Bytes.{reads-then, reads-as, reads-same}
use Rattle.cert_text_laws.proofs.Words.{Apart, reads-word}

-- one of two words begins the other
abbrev pub clash : (one two : List ℕ) → Bool
clash one two = begins_with one two || begins_with two one

abbrev pub clear : {X : Type 0} → List ℕ → List (List ℕ × X) → Bool
clear word [] = true
clear word (entry ∷ table) = not (clash word entry.0) && clear word table

abbrev pub prefix_free : {X : Type 0} → List (List ℕ × X) → Bool
prefix_free [] = true
prefix_free (entry ∷ table) = clear entry.0 table && prefix_free table

eqb_same : (c : ℕ) → (c == c) ≡ true
eqb_same c = search rules

begins_itself : (word rest : List ℕ) → begins_with word (word ++ rest) ≡ true
begins_itself [] rest = refl
begins_itself (c ∷ word) rest = rw (eqb_same c) (begins_itself word rest)

-- a word that begins a text with another word at its front clashes with that
clashes : (one two rest : List ℕ) → begins_with one (two ++ rest) ≡ true → clash one two ≡ true
clashes [] two rest e = refl
clashes (c ∷ one) [] rest e = refl
clashes (c ∷ one) (d ∷ two) rest e = by_test (c == d) refl e (λ h. clashes one two rest h)
  where
    or_true : (a : Bool) → (a || true) ≡ true
    or_true true = refl
    or_true false = refl

    by_test : (b : Bool) → (c == d) ≡ b → cond b (begins_with one (two ++ rest)) false ≡ true → (begins_with one (two ++ rest) ≡ true → clash one two ≡ true) → (cond b (begins_with one two) false || (if d == c then begins_with two one else false)) ≡ true
    by_test false same h again = absurd (cc)
    by_test true same h again = let s : c ≡ d = eqb-true c d same in rw (sym s, eqb_same c) (again h)

and_parts : (a b : Bool) → (a && b) ≡ true → (a ≡ true) × (b ≡ true)
and_parts true true e = (refl, refl)
and_parts true false e = absurd (cc)
and_parts false b e = absurd (cc)

module _ {X : Type 0} where
  not_clash : (word : List ℕ) (value : X) (text : List ℕ) (table : List (List ℕ × X)) → clear word table ≡ true → Word value text table → clash word text ≡ false
  not_clash word value text table e (here rest) = by_clash (clash word text) (and_parts (not (clash word text)) (clear word rest) e).0
    where
      by_clash : (b : Bool) → not b ≡ true → b ≡ false
      by_clash true h = absurd (cc)
      by_clash false h = refl
  not_clash word value text table e (there entry rest w) = not_clash word value text rest (and_parts (not (clash word entry.0)) (clear word rest) e).1 w

  apart_at : (value : X) (text rest : List ℕ) (table : List (List ℕ × X)) → prefix_free table ≡ true → Word value text table → found_in table (text ++ rest) ≡ Some (text, value)
  apart_at value text rest table e (here others) = ap (λ b. cond b (Some (text, value)) (found_in others (text ++ rest))) (begins_itself text rest)
  apart_at value text rest table e (there entry others w) =
      let p = and_parts (clear entry.0 others) (prefix_free others) e in
      ap (λ b. cond b (Some entry) (found_in others (text ++ rest))) (other (begins_with entry.0 (text ++ rest)) refl (not_clash entry.0 value text others p.0 w)) ∙ apart_at value text rest others p.1 w
    where
      other : (b : Bool) → begins_with entry.0 (text ++ rest) ≡ b → clash entry.0 text ≡ false → begins_with entry.0 (text ++ rest) ≡ false
      other true h differs = let same : clash entry.0 text ≡ true = clashes entry.0 text rest h in let e : true ≡ false = sym same ∙ differs in absurd (cc)
      other false h differs = h

  pub apart : (table : List (List ℕ × X)) → prefix_free table ≡ true → Apart table
  apart table e value text rest w = apart_at value text rest table e w

  pub reads-table : (entry : List ℕ × X) (table : List (List ℕ × X)) → prefix_free (entry ∷ table) ≡ true → Reads (λ value text. Word value text (entry ∷ table)) anything (read_word (entry ∷ table))
  reads-table entry table e = reads-word entry table (apart (entry ∷ table) e)

  pub reads-listed : (table : List (List ℕ × X)) (value : X) (text : List ℕ) → Word value text table → prefix_free table ≡ true → Reads (λ v t. Word v t table) anything (read_word table)
  reads-listed [] value text w e = absurd (elim w [ ])
  reads-listed (entry ∷ table) value text w e = reads-table entry table e

-- a word alone
abbrev pub Text : List ℕ → Unit {0} → List ℕ → Type 0
Text word u text = text ≡ word

pub reads-text : (word : List ℕ) → Reads (Text word) anything (read_text word)
reads-text word = reads-same (Text word) (λ u text w. only u text w) (λ u text e. subst (λ t. Word (tt {0}) t ((word, tt {0}) ∷ [])) (sym e) (here [])) (reads-table (word, tt {0}) [] refl)
  where
    only : (u : Unit {0}) (text : List ℕ) → Word u text ((word, tt {0}) ∷ []) → text ≡ word
    only u text (here rest) = refl
    only u text (there entry rest w) = elim w [ ]

-- a part and the word after it
pub record Closed {X : Type 0} (S : X → List ℕ → Type 0) (end : List ℕ) (value : X) (text : List ℕ) : Type 0 where
  pub inside : List ℕ
  pub derives : S value inside
  pub cut : text ≡ inside ++ end

pub reads-ended : {X : Type 0} {S : X → List ℕ → Type 0} {stop : ℕ → Bool} {read : Reader X} (c : ℕ) (end : List ℕ) → IsTrue (stop c) → Reads S stop read → Reads (Closed S (c ∷ end)) anything (read_ended read (c ∷ end))
reads-ended {X} {S} {stop} {read} c end s is =
    reads-as (λ p. p.0) (Closed S (c ∷ end))
    (λ p text d. record { inside = d.left; derives = d.first; cut = d.cut ∙ ap (λ t. d.left ++ t) d.second })
    (λ x text d. ((x, tt {0}), refl, record { left = d.inside; right = c ∷ end; cut = d.cut; first = d.derives; second = refl }))
    (reads-then is (λ x. reads-text (c ∷ end)) (λ x u text rest e stops. subst (λ t. Stops stop (t ++ rest)) (sym e) s))

-- a part and the word before it
pub record Led {X : Type 0} (word : List ℕ) (S : X → List ℕ → Type 0) (value : X) (text : List ℕ) : Type 0 where
  pub inside : List ℕ
  pub derives : S value inside
  pub cut : text ≡ word ++ inside

pub reads-led : {X : Type 0} {S : X → List ℕ → Type 0} {stop : ℕ → Bool} {read : Reader X} (word : List ℕ) → Reads S stop read → Reads (Led word S) stop (read_led word read)
reads-led {X} {S} {stop} {read} word is =
    reads-as (λ p. p.1) (Led word S)
    (λ p text d. record { inside = d.right; derives = d.second; cut = d.cut ∙ ap (λ t. t ++ d.right) d.first })
    (λ x text d. ((tt {0}, x), refl, record { left = word; right = d.inside; cut = d.cut; first = refl; second = d.derives }))
    (reads-then (reads-text word) (λ u. is) (λ u x text rest d stops. stops_anything (text ++ rest)))

-- two parts, where the first ends by itself
pub record Both {X Y : Type 0} (S1 : X → List ℕ → Type 0) (S2 : Y → List ℕ → Type 0) (value : X × Y) (text : List ℕ) : Type 0 where
  pub left : List ℕ
  pub right : List ℕ
  pub first : S1 value.0 left
  pub second : S2 value.1 right
  pub cut : text ≡ left ++ right

pub reads-both : {X Y : Type 0} {S1 : X → List ℕ → Type 0} {S2 : Y → List ℕ → Type 0} {stop : ℕ → Bool} {one : Reader X} {two : Reader Y} → Reads S1 anything one → Reads S2 stop two → Reads (Both S1 S2) stop (read_then one (λ _. two))
reads-both {S1 = S1} {S2 = S2} a b =
    reads-same (Both S1 S2)
    (λ p text d. record { left = d.left; right = d.right; first = d.first; second = d.second; cut = d.cut })
    (λ p text d. record { left = d.left; right = d.right; cut = d.cut; first = d.first; second = d.second })
    (reads-then a (λ x. b) (λ x y text rest d stops. stops_anything (text ++ rest)))

-- one of two, chosen by the first byte
pub record Begins {X : Type 0} (test : ℕ → Bool) (answer : Bool) (S : X → List ℕ → Type 0) : Type 0 where
  pub first : (x : X) (text : List ℕ) → S x text → (c : ℕ) × (more : List ℕ) × (text ≡ c ∷ more) × (test c ≡ answer)

pub reads-or : {X : Type 0} {S1 S2 : X → List ℕ → Type 0} {stop : ℕ → Bool} {one two : Reader X} (test : ℕ → Bool) → Begins test true S1 → Begins test false S2 → Reads S1 stop one → Reads S2 stop two → Reads (Or S1 S2) stop (read_or test one two)
reads-or {X} {S1} {S2} {stop} {one} {two} test b1 b2 r1 r2 =
    record {
      exact = exact-or test (record {
        first_begins = λ x text s. b1.first x text s;
        second_begins = λ x text rest s stops. let f = b2.first x text s in
            subst (λ t. Stops (λ c. not (test c)) (plains bytes t ++ rest)) (sym f.2) (ap not f.3);
      }) (exact-enter _ r1.exact) (exact-enter _ r2.exact);
      sample = r1.sample;
      sample_text = r1.sample_text;
      derives = first r1.derives;
    }
