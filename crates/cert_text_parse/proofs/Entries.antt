-- The keywords of the program are found where those of the reference parser are.
use Rattle.std.specs.Prelude.{max, map}
use Rattle.std.specs.Option.{option_map, option_map_or}
use Rattle.std.proofs.Common.{◌≡◌, ℕ, ◌<◌, zero, suc, Bool, true, false, cond, List, [], ◌∷◌, length, drop, Option, Some, None, Ok, Err, refl, ap, sym, ◌∙◌, arith}
use Rattle.exact_read.specs.Reading.{Outcome}
use Rattle.exact_read.specs.Grammar.{bind, read_map}
use Rattle.cert_text_spec.specs.Lines.{Line}
use Rattle.cert_text_spec.specs.Certificates as spec
use Rattle.cert_text_laws.specs.Readers.{given, refused, begins_with, common, found_in, furthest, read_word}
use Rattle.cert_text_laws.specs.Lines.{keyword_text, keywords_at, entries, read_fields, read_line}
use Rattle.cert_text_laws.specs.Lines as lines
use Rattle.cert_text_parse.specs.declared.keywords.Keyword.{Keyword}
use Rattle.cert_text_parse.specs.Keywords.{keyword_of, code_of, words}

module _ {X Y : Type 0} (f : X → Y) where
  abbrev entry_as : List ℕ × X → List ℕ × Y
  entry_as entry = (entry.0, f entry.1)

  furthest_as : (table : List (List ℕ × X)) (text : List ℕ) → furthest (map entry_as table) text ≡ furthest table text
  furthest_as [] text = refl
  furthest_as (entry ∷ table) text = ap (max (common entry.0 text)) (furthest_as table text)

  found_as : (table : List (List ℕ × X)) (text : List ℕ) → found_in (map entry_as table) text ≡ option_map entry_as (found_in table text)
  found_as [] text = refl
  found_as (entry ∷ table) text = by_test (begins_with entry.0 text) (found_as table text)
    where
      by_test : (b : Bool) → found_in (map entry_as table) text ≡ option_map entry_as (found_in table text)
          → cond b (Some (entry_as entry)) (found_in (map entry_as table) text) ≡ option_map entry_as (cond b (Some entry) (found_in table text))
      by_test true e = refl
      by_test false e = e

  -- a word of a table, whose values are changed
  word_as : (table : List (List ℕ × X)) (text : List ℕ) → read_word (map entry_as table) text ≡ read_map f (read_word table) text
  word_as table text =
      ap (λ n. option_map_or (λ entry. given entry.1 (drop (length entry.0) text)) (found_in (map entry_as table) text) (refused (drop n text))) (furthest_as table text)
      ∙ ap (λ found. option_map_or (λ entry. given entry.1 (drop (length entry.0) text)) found (refused (drop (furthest table text) text))) (found_as table text)
      ∙ by_found (found_in table text)
    where
      by_found : (found : Option (List ℕ × X)) → option_map_or (λ entry. given entry.1 (drop (length entry.0) text)) (option_map entry_as found) (refused (drop (furthest table text) text))
          ≡ bind (option_map_or (λ entry. given entry.1 (drop (length entry.0) text)) found (refused (drop (furthest table text) text))) (λ x rest. given (f x) rest)
      by_found None = refl
      by_found (Some entry) = refl

there_and_back : (k : lines.Keyword) → keyword_of (code_of k) ≡ k
there_and_back lines.KHeader = refl
there_and_back lines.KFunction = refl
there_and_back lines.KInlineBinary = refl
there_and_back lines.KInlineSource = refl
there_and_back lines.KLeaf = refl
there_and_back lines.KCase = refl
there_and_back lines.KRestrictBinary = refl
there_and_back lines.KRestrictSource = refl
there_and_back lines.KSplit = refl
there_and_back lines.KCall = refl
there_and_back lines.KRelation = refl
there_and_back lines.KLog = refl
there_and_back lines.KStep = refl
there_and_back lines.KEnd = refl

entries_are : (ks : List lines.Keyword) → map (λ (w : List ℕ × Keyword). (w.0, keyword_of w.1)) (map (λ k. (keyword_text k, code_of k)) ks) ≡ entries ks
entries_are [] = refl
entries_are (k ∷ ks) = ap (λ k'. (keyword_text k, k') ∷ map (λ (w : List ℕ × Keyword). (w.0, keyword_of w.1)) (map (λ k. (keyword_text k, code_of k)) ks)) (there_and_back k) ∙ ap (λ t. (keyword_text k, k) ∷ t) (entries_are ks)

words_read : (e : spec.Expected) (text : List ℕ) → read_word (entries (keywords_at e)) text ≡ read_map keyword_of (read_word (words e)) text
words_read e text = ap (λ table. read_word table text) (sym (entries_are (keywords_at e))) ∙ word_as keyword_of (words e) text

-- a keyword, and what follows it
abbrev fields_of : Outcome ℕ (Unit {0}) lines.Keyword → Outcome ℕ (Unit {0}) Line
fields_of o = bind {X = lines.Keyword × Line} (bind o (λ k r. bind (read_fields k r) (λ line l. Ok ((k, line), l)))) (λ p l. Ok (p.1, l))

fields_after : (k : lines.Keyword) (o : Outcome ℕ (Unit {0}) Line) → bind {X = lines.Keyword × Line} (bind o (λ line l. Ok ((k, line), l))) (λ p l. Ok (p.1, l)) ≡ bind o (λ line last. given line last)
fields_after k (Ok pair) = refl
fields_after k (Err fault) = refl

module _ (e : spec.Expected) (text rest : List ℕ) where
  -- a line whose keyword is found
  pub line_after : (k : Keyword) → read_word (words e) text ≡ given k rest → read_line e text ≡ bind (read_fields (keyword_of k) rest) (λ line last. given line last)
  line_after k h = ap fields_of (words_read e text ∙ ap (λ o. bind o (λ x r. given (keyword_of x) r)) h) ∙ fields_after (keyword_of k) (read_fields (keyword_of k) rest)

  -- a line that has none
  pub line_none : read_word (words e) text ≡ refused rest → read_line e text ≡ refused rest
  line_none h = ap fields_of (words_read e text ∙ ap (λ o. bind o (λ x r. given (keyword_of x) r)) h)

-- there is one
pub some_room : (room : ℕ) → 0 < room → words (spec.AProof 1) ≡ words (spec.AProof room)
some_room zero l = absurd (omega arith)
some_room (suc n) l = refl

pub no_room : (room : ℕ) → room ≡ 0 → words (spec.AProof 0) ≡ words (spec.AProof room)
no_room room e = ap (λ r. words (spec.AProof r)) (sym e)
