-- A line after its keyword.
use Rattle.std.specs.Prelude.{map, take}
use Rattle.std.proofs.Common.{◌≡◌, ℕ, false, List, [], ◌∷◌, length, Result, Ok, Err, refl, ap, sym, ◌∙◌, append-nil}
use Rattle.exact_read.specs.Grammar.{bind}
use Rattle.cert_text_spec.specs.Lines as spec
use Rattle.cert_text_spec.specs.Certificates as certificates
use Rattle.cert_text_laws.specs.Readers.{Reader, given, read_word}
use Rattle.cert_text_laws.specs.Parts.{read_literals, read_hints}
use Rattle.cert_text_laws.specs.Parts as parts
use Rattle.cert_text_laws.specs.Lines.{read_fields, read_line, KStep}
use Rattle.attempt.specs.declared.refusal.Refusal.{Refusal}
use Rattle.attempt.specs.declared.refusal.Refusal.TheVariants.{Fault, NoMemory}
use Rattle.cert_text_parse.specs.declared.stopped.TextFault.{TextFault}
use Rattle.cert_text_parse.specs.declared.stopped.TextFault.TheVariants.{Wrong}
use Rattle.cert_text_parse.specs.declared.cursor.Cursor.{Cursor}
use Rattle.cert_text_parse.specs.Outcomes.{Parses}
use Rattle.cert_text_parse.specs.declared.lines.Literal.{Literal}
use Rattle.cert_text_parse.specs.declared.lines.Logs.{Logs}
use Rattle.cert_text_parse.specs.declared.lines.Line.{Line}
use Rattle.cert_text_parse.specs.declared.lines.Line.TheVariants as code
use Rattle.cert_text_parse.specs.declared.keywords.Keyword.{Keyword}
use Rattle.cert_text_parse.specs.Keywords.{keyword_of, words}
use Rattle.cert_text_parse.specs.Views.{literal_of, line_of, line_at, step_of, is_step, literals_in, hints_in}
use Rattle.cert_text_parse.specs.LineOutcomes.{HasAdded, Adds, ParsesLine, AddsLine}
use Rattle.cert_text_parse.proofs.Entries.{line_after, line_none}

-- a line that is no step has no literals and no hints
record Bare (line : Line) : Type 0 where
  literals : 0 ≡ literals_in line
  hints : 0 ≡ hints_in line
  same : line_of line ≡ line_at line [] []

bare : (line : Line) → is_step line ≡ false → Bare line
bare (code.Step k h) e = absurd (cc)
bare code.Header e = record { literals = refl; hints = refl; same = refl }
bare (code.Function b) e = record { literals = refl; hints = refl; same = refl }
bare (code.InlineBinary b) e = record { literals = refl; hints = refl; same = refl }
bare (code.InlineSource b) e = record { literals = refl; hints = refl; same = refl }
bare (code.Leaf n) e = record { literals = refl; hints = refl; same = refl }
bare (code.Case b) e = record { literals = refl; hints = refl; same = refl }
bare (code.RestrictBinary b) e = record { literals = refl; hints = refl; same = refl }
bare (code.RestrictSource b) e = record { literals = refl; hints = refl; same = refl }
bare (code.Split b) e = record { literals = refl; hints = refl; same = refl }
bare (code.Call b) e = record { literals = refl; hints = refl; same = refl }
bare (code.Relation b) e = record { literals = refl; hints = refl; same = refl }
bare (code.Log n) e = record { literals = refl; hints = refl; same = refl }
bare code.End e = record { literals = refl; hints = refl; same = refl }

-- it is added with nothing
pub nothing_added : (reader : Reader spec.Line) (old new : Cursor) (logs : Logs) (result : Result Line (Refusal TextFault)) → ParsesLine reader old new result → AddsLine reader old new logs logs result
nothing_added reader old new logs (Ok line) h =
    let b = bare line h.1 in
    record {
      literals = [];
      hints = [];
      literals_are = sym (append-nil logs.literals.items);
      hints_are = sym (append-nil logs.hints.items);
      literals_count = b.literals;
      hints_count = b.hints;
      read = h.0 ∙ ap (λ l. given l new.rest.now) b.same;
    }
nothing_added reader old new logs (Err NoMemory) h = tt
nothing_added reader old new logs (Err (Fault Wrong)) h = h

take_all : {X : Type 0} (xs : List X) (n : ℕ) → length xs ≡ n → xs ≡ take n xs
take_all xs n e = all xs ∙ ap (λ k. take k xs) e
  where
    all : {X : Type 0} (xs : List X) → xs ≡ take (length xs) xs
    all [] = refl
    all (x ∷ xs) = ap (λ t. x ∷ t) (all xs)

map_same : (ns : List ℕ) → map (λ (n : ℕ). n) ns ≡ ns
map_same [] = refl
map_same (n ∷ ns) = ap (λ t. n ∷ t) (map_same ns)

-- a step, after its literals and its hints
module _ (old middle new : Cursor) (before after : Logs) (k h : ℕ) where
  pub step_added : HasAdded literal_of read_literals old middle before.literals.items after.literals.items k
      → HasAdded (λ (n : ℕ). n) read_hints middle new before.hints.items after.hints.items h → AddsLine (read_fields KStep) old new before after (Ok (code.Step k h))
  step_added a b = record {
    literals = a.added;
    hints = b.added;
    literals_are = a.is;
    hints_are = b.is;
    literals_count = a.counted;
    hints_count = b.counted;
    read =
        ap (λ o. bind (bind (bind o (λ ls r. bind (read_hints r) (λ hs l. Ok ((ls, hs), l)))) (λ p l. Ok (parts.step_of p, l))) (λ s l. Ok (spec.LogStep s, l))) a.read
        ∙ ap (λ o. bind (bind (bind o (λ hs l. Ok ((map literal_of a.added, hs), l))) (λ p l. Ok (parts.step_of p, l))) (λ s l. Ok (spec.LogStep s, l))) b.read
        ∙ ap (λ hs. given (step_of a.added hs) new.rest.now) (map_same b.added)
        ∙ ap (λ ls. given (step_of ls b.added) new.rest.now) (take_all a.added k a.counted)
        ∙ ap (λ hs. given (step_of (take k a.added) hs) new.rest.now) (take_all b.added h b.counted);
  }

-- the reader of a step has its literals first
pub step_fails : (old middle new : Cursor) (before after : Logs) (any : List Literal) (e : Refusal TextFault) → Adds literal_of read_literals old new before.literals.items any (Err e)
    → AddsLine (read_fields KStep) old new before after (Err e)
step_fails old middle new before after any NoMemory h = tt
step_fails old middle new before after any (Fault Wrong) h = ap (λ o. bind (bind (bind o (λ ls r. bind (read_hints r) (λ hs l. Ok ((ls, hs), l)))) (λ p l. Ok (parts.step_of p, l))) (λ s l. Ok (spec.LogStep s, l))) h

-- a line after its keyword is a line
module _ (e : certificates.Expected) (old middle new : Cursor) (before after : Logs) (k : Keyword) (h : read_word (words e) old.rest.now ≡ given k middle.rest.now) where
  pub with_keyword : (result : Result Line (Refusal TextFault)) → AddsLine (read_fields (keyword_of k)) middle new before after result → AddsLine (read_line e) old new before after result
  with_keyword (Ok line) a = record {
    literals = a.literals;
    hints = a.hints;
    literals_are = a.literals_are;
    hints_are = a.hints_are;
    literals_count = a.literals_count;
    hints_count = a.hints_count;
    read = line_after e old.rest.now middle.rest.now k h ∙ ap (λ o. bind o (λ line last. given line last)) a.read;
  }
  with_keyword (Err NoMemory) a = tt
  with_keyword (Err (Fault Wrong)) a = line_after e old.rest.now middle.rest.now k h ∙ ap (λ o. bind o (λ line last. given line last)) a

pub no_keyword : (e : certificates.Expected) (old new : Cursor) (logs : Logs) (s : Refusal TextFault) → Parses (read_word (words e)) old new (Err s) → AddsLine (read_line e) old new logs logs (Err s)
no_keyword e old new logs NoMemory h = tt
no_keyword e old new logs (Fault Wrong) h = line_none e old.rest.now new.rest.now h
