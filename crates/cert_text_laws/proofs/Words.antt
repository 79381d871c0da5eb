-- One of some words is read exactly.
use Rattle.std.specs.Prelude.{◌==◌, max, nat_le}
use Rattle.std.proofs.lemmas.Bool.Decides.{nat_tests}
use Rattle.std.specs.Option.{option_map_or}
use Rattle.std.proofs.Common.{◌≡◌, ℕ, zero, suc, ◌≤◌, Bool, true, false, List, [], ◌∷◌, ◌++◌, length, take, drop, Option, Some, None, Err, refl, ap, sym, ◌∙◌, subst, cond, arith, ◌⊎◌, inl, inr, eqb-true}
use Rattle.exact_read.specs.Reading.{LimitExceeded, Wrong, Outcome}
use Rattle.exact_read.specs.Grammar.{anything}
use Rattle.exact_read.proofs.Parts.{stops_anything}
use Rattle.cert_text_laws.specs.Readers.{refused, given, Reads, begins_with, common, found_in, furthest, read_word, Word, here, there}
use Rattle.exact_read.proofs.Basics.{err_parts}
use Rattle.cert_text_laws.proofs.Bytes.{Taken, Refused, Simply, exact-simply, given_parts, refused_rest}

-- a text that begins with a word
begins_cut : (word text : List ℕ) → begins_with word text ≡ true → text ≡ word ++ drop (length word) text
begins_cut [] text e = refl
begins_cut (c ∷ word) [] e = absurd (cc)
begins_cut (c ∷ word) (d ∷ text) e = by_test (c == d) refl e (λ h. begins_cut word text h)
  where
    by_test : (b : Bool) → (c == d) ≡ b → cond b (begins_with word text) false ≡ true → (begins_with word text ≡ true → text ≡ word ++ drop (length word) text) → d ∷ text ≡ c ∷ (word ++ drop (length word) text)
    by_test true same h again = let s : c ≡ d = eqb-true c d same in let t : text ≡ word ++ drop (length word) text = again h in cc
    by_test false same h again = absurd (cc)

-- the bytes in common
common_cut : (word text : List ℕ) → word ≡ take (common word text) text ++ drop (common word text) word
common_cut [] text = refl
common_cut (c ∷ word) [] = refl
common_cut (c ∷ word) (d ∷ text) = by_test (c == d) refl (common_cut word text)
  where
    by_test : (b : Bool) → (c == d) ≡ b → word ≡ take (common word text) text ++ drop (common word text) word → c ∷ word ≡ take (cond b (suc (common word text)) 0) (d ∷ text) ++ drop (cond b (suc (common word text)) 0) (c ∷ word)
    by_test true same t = let s : c ≡ d = eqb-true c d same in cc
    by_test false same t = refl

-- a word that goes no further than a prefix goes no further whatever follows the next byte
record Further (word before after : List ℕ) : Type 0 where
  pub same : common word after ≡ common word before
  pub no : begins_with word after ≡ false

further : (prefix word : List ℕ) (c : ℕ) (old new : List ℕ) → common word (prefix ++ c ∷ old) ≤ length prefix → begins_with word (prefix ++ c ∷ old) ≡ false → Further word (prefix ++ c ∷ old) (prefix ++ c ∷ new)
further prefix [] c old new short misses = absurd (cc)
further [] (d ∷ word) c old new short misses = let p = by_test (d == c) short in record { same = p.0; no = p.1 }
  where
    by_test : (b : Bool) → cond b (suc (common word old)) 0 ≤ 0 → (cond b (suc (common word new)) 0 ≡ cond b (suc (common word old)) 0) × (cond b (begins_with word new) false ≡ false)
    by_test true h = absurd (omega arith)
    by_test false h = (refl, refl)
further (a ∷ prefix) (d ∷ word) c old new short misses = let p = by_test (d == a) short misses (λ s n. further prefix word c old new s n) in record { same = p.0; no = p.1 }
  where
    by_test : (b : Bool) → cond b (suc (common word (prefix ++ c ∷ old))) 0 ≤ suc (length prefix) → cond b (begins_with word (prefix ++ c ∷ old)) false ≡ false
        → (common word (prefix ++ c ∷ old) ≤ length prefix → begins_with word (prefix ++ c ∷ old) ≡ false → Further word (prefix ++ c ∷ old) (prefix ++ c ∷ new))
        → (cond b (suc (common word (prefix ++ c ∷ new))) 0 ≡ cond b (suc (common word (prefix ++ c ∷ old))) 0) × (cond b (begins_with word (prefix ++ c ∷ new)) false ≡ false)
    by_test true h n again = let f = again (omega arith) n in (ap suc f.same, f.no)
    by_test false h n again = (refl, refl)

max_either : (m n : ℕ) → (max m n ≡ m) ⊎ (max m n ≡ n)
max_either m n = by_test (nat_le m n) refl
  where
    le_of : nat_le m n ≡ true → m ≤ n
    le_of e = grind (arith, nat_tests)

    gt_of : nat_le m n ≡ false → n ≤ m
    gt_of e = grind (arith, nat_tests)

    by_test : (b : Bool) → nat_le m n ≡ b → (max m n ≡ m) ⊎ (max m n ≡ n)
    by_test true e = let h = le_of e in inr (omega arith)
    by_test false e = let h = gt_of e in inl (omega arith)

module _ {X : Type 0} where
  -- an entry that was found
  pub record Found (table : List (List ℕ × X)) (text : List ℕ) (entry : List ℕ × X) : Type 0 where
    pub listed : Word entry.1 entry.0 table
    pub begins : begins_with entry.0 text ≡ true

  found : (table : List (List ℕ × X)) (text : List ℕ) (entry : List ℕ × X) → found_in table text ≡ Some entry → Found table text entry
  found [] text entry e = absurd (cc)
  found (first ∷ table) text entry e = by_test (begins_with first.0 text) refl e (λ h. found table text entry h)
    where
      by_test : (b : Bool) → begins_with first.0 text ≡ b → cond b (Some first) (found_in table text) ≡ Some entry → (found_in table text ≡ Some entry → Found table text entry) → Found (first ∷ table) text entry
      by_test true begins h again = let same : first ≡ entry = cc in subst (λ (f : List ℕ × X). Found (first ∷ table) text f) same (record { listed = here table; begins = begins })
      by_test false begins h again = let f = again h in record { listed = there first table f.listed; begins = f.begins }

  -- an entry that goes the furthest
  pub record Furthest (table : List (List ℕ × X)) (text : List ℕ) : Type 0 where
    pub entry : List ℕ × X
    pub listed : Word entry.1 entry.0 table
    pub far : common entry.0 text ≡ furthest table text

  furthest_entry : (first : List ℕ × X) (table : List (List ℕ × X)) (text : List ℕ) → Furthest (first ∷ table) text
  furthest_entry first [] text = record { entry = first; listed = here []; far = omega arith }
  furthest_entry first (second ∷ table) text = by_max (max_either (common first.0 text) (furthest (second ∷ table) text)) (furthest_entry second table text)
    where
      by_max : (max (common first.0 text) (furthest (second ∷ table) text) ≡ common first.0 text) ⊎ (max (common first.0 text) (furthest (second ∷ table) text) ≡ furthest (second ∷ table) text) → Furthest (second ∷ table) text → Furthest (first ∷ second ∷ table) text
      by_max (inl e) f = record { entry = first; listed = here (second ∷ table); far = sym e }
      by_max (inr e) f = record { entry = f.entry; listed = there first (second ∷ table) f.listed; far = f.far ∙ sym e }

  -- nothing is found whatever follows the next byte
  record Alike (table : List (List ℕ × X)) (before after : List ℕ) : Type 0 where
    pub same : furthest table after ≡ furthest table before
    pub none : found_in table after ≡ None

  alike : (table : List (List ℕ × X)) (prefix : List ℕ) (c : ℕ) (old new : List ℕ) → furthest table (prefix ++ c ∷ old) ≤ length prefix → found_in table (prefix ++ c ∷ old) ≡ None → Alike table (prefix ++ c ∷ old) (prefix ++ c ∷ new)
  alike [] prefix c old new short none = record { same = refl; none = refl }
  alike (first ∷ table) prefix c old new short none = by_test (begins_with first.0 (prefix ++ c ∷ old)) refl none (λ s n. alike table prefix c old new s n)
    where
      by_test : (b : Bool) → begins_with first.0 (prefix ++ c ∷ old) ≡ b → cond b (Some first) (found_in table (prefix ++ c ∷ old)) ≡ None
          → (furthest table (prefix ++ c ∷ old) ≤ length prefix → found_in table (prefix ++ c ∷ old) ≡ None → Alike table (prefix ++ c ∷ old) (prefix ++ c ∷ new)) → Alike (first ∷ table) (prefix ++ c ∷ old) (prefix ++ c ∷ new)
      by_test true begins h again = absurd (cc)
      by_test false begins h again =
          let f = further prefix first.0 c old new (omega arith) begins in
          let a = again (omega arith) h in
          record {
            same = rw (f.same, a.same) refl;
            none = rw f.no a.none;
          }

-- no word is the beginning of another: each is found where it occurs
abbrev pub Apart : {X : Type 0} → List (List ℕ × X) → Type 0
Apart {X} table = (value : X) (text rest : List ℕ) → Word value text table → found_in table (text ++ rest) ≡ Some (text, value)

take_drop : (n : ℕ) (text : List ℕ) → text ≡ take n text ++ drop n text
take_drop zero text = refl
take_drop (suc n) [] = refl
take_drop (suc n) (c ∷ text) = ap (λ t. c ∷ t) (take_drop n text)

length_take : (n : ℕ) (c : ℕ) (text more : List ℕ) → drop n text ≡ c ∷ more → length (take n text) ≡ n
length_take zero c text more e = refl
length_take (suc n) c [] more e = absurd (cc)
length_take (suc n) c (d ∷ text) more e = ap suc (length_take n c text more e)

drop_length : (text rest : List ℕ) → drop (length text) (text ++ rest) ≡ rest
drop_length [] rest = refl
drop_length (c ∷ text) rest = drop_length text rest

pub simply-word : {X : Type 0} (first : List ℕ × X) (table : List (List ℕ × X)) → Apart (first ∷ table) → Simply (λ value text. Word value text (first ∷ table)) anything (read_word (first ∷ table))
simply-word {X} first table apart =
    record {
      takes = λ before value rest e. taken before value rest (found_in (first ∷ table) before) refl e;
      again = λ value text rest listed stops.
          ap (λ o. option_map_or (λ (entry : List ℕ × X). given entry.1 (drop (length entry.0) (text ++ rest))) o (refused (drop (furthest (first ∷ table) (text ++ rest)) (text ++ rest)))) (apart value text rest listed)
          ∙ ap (λ r. given value r) (drop_length text rest);
      wrongs = λ before rest e. wrong before rest (found_in (first ∷ table) before) refl e;
      never = λ before rest e. none before rest (found_in (first ∷ table) before) e;
    }
  where
    outcome : (before : List ℕ) → Option (List ℕ × X) → Outcome ℕ (Unit {0}) X
    outcome before o = option_map_or (λ entry. given entry.1 (drop (length entry.0) before)) o (refused (drop (furthest (first ∷ table) before) before))

    taken : (before : List ℕ) (value : X) (rest : List ℕ) (o : Option (List ℕ × X)) → found_in (first ∷ table) before ≡ o → outcome before o ≡ given value rest → Taken (λ value text. Word value text (first ∷ table)) anything before value rest
    taken before value rest None e h = absurd (cc)
    taken before value rest (Some entry) e h =
        let f = found (first ∷ table) before entry e in
        let same : (entry.1 ≡ value) × (drop (length entry.0) before ≡ rest) = given_parts h in
        record {
          text = entry.0;
          cut = begins_cut entry.0 before f.begins ∙ ap (λ r. entry.0 ++ r) same.1;
          derives = subst (λ v. Word v entry.0 (first ∷ table)) same.0 f.listed;
          stops = stops_anything rest;
        }

    wrong : (before rest : List ℕ) (o : Option (List ℕ × X)) → found_in (first ∷ table) before ≡ o → outcome before o ≡ refused rest → Refused (λ value text. Word value text (first ∷ table)) (read_word (first ∷ table)) before rest
    wrong before rest (Some entry) e h = absurd (cc)
    wrong before rest None e h =
        let n : ℕ = furthest (first ∷ table) before in
        let far = furthest_entry first table before in
        let here_rest : drop n before ≡ rest = refused_rest h in
        record {
          prefix = take n before;
          cut = take_drop n before ∙ ap (λ r. take n before ++ r) here_rest;
          value = far.entry.1;
          more = drop n far.entry.0;
          derives = subst (λ t. Word far.entry.1 t (first ∷ table)) (subst (λ k. far.entry.0 ≡ take k before ++ drop k far.entry.0) far.far (common_cut far.entry.0 before)) far.listed;
          whatever = λ c old new is.
              let cut : before ≡ take n before ++ c ∷ old = take_drop n before ∙ ap (λ r. take n before ++ r) (here_rest ∙ is) in
              let long : length (take n before) ≡ n = length_take n c before old (here_rest ∙ is) in
              same_again before (take n before) c old new cut long e;
        }
      where
        same_again : (before prefix : List ℕ) (c : ℕ) (old new : List ℕ) → before ≡ prefix ++ c ∷ old → length prefix ≡ furthest (first ∷ table) before → found_in (first ∷ table) before ≡ None → read_word (first ∷ table) (prefix ++ c ∷ new) ≡ refused (c ∷ new)
        same_again before prefix c old new cut long none =
            let far : furthest (first ∷ table) (prefix ++ c ∷ old) ≡ length prefix = ap (furthest (first ∷ table)) (sym cut) ∙ sym long in
            let a = alike (first ∷ table) prefix c old new (omega arith) (ap (found_in (first ∷ table)) (sym cut) ∙ none) in
            ap (λ o. option_map_or (λ (entry : List ℕ × X). given entry.1 (drop (length entry.0) (prefix ++ c ∷ new))) o (refused (drop (furthest (first ∷ table) (prefix ++ c ∷ new)) (prefix ++ c ∷ new)))) a.none
            ∙ ap (λ k. refused (drop k (prefix ++ c ∷ new))) (a.same ∙ far)
            ∙ ap refused (drop_length prefix (c ∷ new))

    none : (before rest : List ℕ) (o : Option (List ℕ × X)) → outcome before o ≡ Err (LimitExceeded, rest) → ⊥
    none before rest None h = let p : Wrong (tt {0}) ≡ LimitExceeded = (err_parts {X = X} h).0 in cc
    none before rest (Some entry) h = cc

pub reads-word : {X : Type 0} (first : List ℕ × X) (table : List (List ℕ × X)) → Apart (first ∷ table) → Reads (λ value text. Word value text (first ∷ table)) anything (read_word (first ∷ table))
reads-word first table apart = record { exact = exact-simply (simply-word first table apart); sample = first.1; sample_text = first.0; derives = here table }
