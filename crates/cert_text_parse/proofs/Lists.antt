-- The literals and the hints of a step.
use Rattle.std.specs.Prelude.{◌==◌, ◌-◌, map, if◌then◌else◌}
use Rattle.std.specs.Option.{option_map}
use Rattle.std.proofs.Common.{◌≡◌, ◌≢◌, ℕ, ◌<◌, ◌^◌, false, List, [], ◌∷◌, ◌++◌, length, Option, Some, None, Err, refl, ap, sym, ◌∙◌, subst, arith, length-append}
use Rattle.std.proofs.lemmas.Bool.Decides.{nat_tests}
use Rattle.clause_check_spec.specs.declared.Literal as clause
use Rattle.cert_text_laws.specs.Readers.{given, refused}
use Rattle.cert_text_laws.specs.Parts.{read_literal, after_literal, literals_in, read_hint, after_hint, hints_in, read_literals, read_hints, read_positive}
use Rattle.cert_text_laws.proofs.Bytes.{simply-exact}
use Rattle.cert_text_laws.proofs.Decimals.{reads-decimal}
use Rattle.cert_text_laws.proofs.Steps.{literal_shorter, hint_shorter}
use Rattle.attempt.specs.declared.refusal.Refusal.{Refusal}
use Rattle.attempt.specs.declared.refusal.Refusal.TheVariants.{Fault, NoMemory}
use Rattle.cert_text_parse.specs.declared.stopped.TextFault.{TextFault}
use Rattle.cert_text_parse.specs.declared.stopped.TextFault.TheVariants.{Wrong}
use Rattle.cert_text_parse.specs.declared.cursor.Cursor.{Cursor}
use Rattle.cert_text_parse.specs.Outcomes.{Parses}
use Rattle.cert_text_parse.specs.PartOutcomes.{ParsesAs}
use Rattle.cert_text_parse.specs.declared.lines.Literal.{Literal}
use Rattle.cert_text_parse.specs.Views.{literal_of}
use Rattle.cert_text_parse.specs.LineOutcomes.{HasAdded, Adds}
use Rattle.cert_text_parse.proofs.Runs.{RunLeft, run_start, run_step, run_end, run_fault}

-- numbers from 1 are below 2^32
pub positive_small : (text rest : List ℕ) (n : ℕ) → read_positive text ≡ given n rest → n < 2 ^ 32
positive_small text rest n e = ((simply-exact (reads-decimal 1 (2 ^ 32) (omega arith) (omega arith) (omega arith)).exact).takes text n rest e).derives.below

-- so many were added
count_added : {X : Type 0} (before added now : List X) (start end : ℕ) → now ≡ before ++ added → start ≡ length before → end ≡ length now → length added ≡ end - start
count_added before added now start end is s e = omega (arith, ap length is, length-append before added, s, e)

-- ---- literals

abbrev pub as_item : Literal → Option clause.Literal
as_item l = Some (literal_of l)

abbrev pub LiteralsLeft : (old : List ℕ) (before now : List Literal) (rest : List ℕ) → Type 0
LiteralsLeft old before now rest = RunLeft read_literal after_literal as_item literals_in literal_of old before now rest

pub literals_start : (old : List ℕ) (before : List Literal) → LiteralsLeft old before before old
literals_start old before = run_start read_literal after_literal as_item literals_in literal_of old before

module _ (old : List ℕ) (before now : List Literal) (rest middle : List ℕ) (r : LiteralsLeft old before now rest) where
  pub literals_next : (l : Literal) → read_literal (tt {0}) rest ≡ given (as_item l) middle → LiteralsLeft old before (now ++ l ∷ []) middle
  literals_next l e = run_step read_literal after_literal as_item literals_in literal_of old before now rest middle r l refl (λ more. refl) e (literal_shorter rest middle (as_item l) e)

  pub literals_end : read_literal (tt {0}) rest ≡ given None middle → (start end : ℕ) → start ≡ length before → end ≡ length now → (from new : Cursor) → from.rest.now ≡ old → new.rest.now ≡ middle
      → HasAdded literal_of read_literals from new before now (end - start)
  literals_end e start end s t from new f n = record {
    added = r.added;
    is = r.is;
    counted = count_added before r.added now start end r.is s t;
    read = ap read_literals f ∙ run_end read_literal after_literal as_item literals_in literal_of old before now rest middle r None refl refl e (literal_shorter rest middle None e) ∙ ap (λ m. given (map literal_of r.added) m) (sym n);
  }

  -- by what was read
  pub literals_more : (next : Option Literal) → read_literal (tt {0}) rest ≡ given (option_map literal_of next) middle → (l : Literal) → next ≡ Some l → (grown : List Literal) → grown ≡ now ++ l ∷ [] → LiteralsLeft old before grown middle
  literals_more next e l is grown g =
      subst (λ q. LiteralsLeft old before q middle) (sym g) (literals_next l (subst (λ o. read_literal (tt {0}) rest ≡ given (option_map literal_of o) middle) is e))

  pub literals_done : (next : Option Literal) → read_literal (tt {0}) rest ≡ given (option_map literal_of next) middle → next ≡ None → (start end : ℕ) → start ≡ length before → end ≡ length now
      → (from new : Cursor) → from.rest.now ≡ old → new.rest.now ≡ middle → HasAdded literal_of read_literals from new before now (end - start)
  literals_done next e is = literals_end (subst (λ o. read_literal (tt {0}) rest ≡ given (option_map literal_of o) middle) is e)

  pub literals_fault : read_literal (tt {0}) rest ≡ refused middle → read_literals old ≡ refused middle
  literals_fault e = run_fault read_literal after_literal as_item literals_in literal_of old before now rest middle r e

-- ---- hints

abbrev pub HintsLeft : (old before now rest : List ℕ) → Type 0
HintsLeft old before now rest = RunLeft read_hint after_hint (λ (n : ℕ). n) hints_in (λ (n : ℕ). n) old before now rest

pub hints_start : (old before : List ℕ) → HintsLeft old before before old
hints_start old before = run_start read_hint after_hint (λ (n : ℕ). n) hints_in (λ (n : ℕ). n) old before

no_zero : (n : ℕ) → n ≢ 0 → (n == 0) ≡ false
no_zero n h = grind (arith, nat_tests)

goes_on : (n : ℕ) → n ≢ 0 → after_hint (tt {0}) n ≡ tt {0} ∷ []
goes_on n h = ap (λ b. if b then [] else tt {0} ∷ []) (no_zero n h)

taken : (n : ℕ) → n ≢ 0 → (more : List ℕ) → hints_in (n ∷ more) ≡ n ∷ hints_in more
taken n h more = ap (λ b. if b then [] else n ∷ hints_in more) (no_zero n h)

module _ (old before now rest middle : List ℕ) (r : HintsLeft old before now rest) where
  pub hints_next : (n : ℕ) → n ≢ 0 → read_hint (tt {0}) rest ≡ given n middle → HintsLeft old before (now ++ n ∷ []) middle
  hints_next n h e = run_step read_hint after_hint (λ (n : ℕ). n) hints_in (λ (n : ℕ). n) old before now rest middle r n (goes_on n h) (taken n h) e (hint_shorter rest middle n e)

  pub hints_end : read_hint (tt {0}) rest ≡ given 0 middle → (start end : ℕ) → start ≡ length before → end ≡ length now → (from new : Cursor) → from.rest.now ≡ old → new.rest.now ≡ middle
      → HasAdded (λ (n : ℕ). n) read_hints from new before now (end - start)
  hints_end e start end s t from new f n = record {
    added = r.added;
    is = r.is;
    counted = count_added before r.added now start end r.is s t;
    read = ap read_hints f ∙ run_end read_hint after_hint (λ (n : ℕ). n) hints_in (λ (n : ℕ). n) old before now rest middle r 0 refl refl e (hint_shorter rest middle 0 e) ∙ ap (λ m. given (map (λ (n : ℕ). n) r.added) m) (sym n);
  }

  -- by what was read
  pub hints_more : (n : ℕ) → read_hint (tt {0}) rest ≡ given n middle → n ≢ 0 → (grown : List ℕ) → grown ≡ now ++ n ∷ [] → HintsLeft old before grown middle
  hints_more n e h grown g = subst (λ q. HintsLeft old before q middle) (sym g) (hints_next n h e)

  pub hints_done : (n : ℕ) → read_hint (tt {0}) rest ≡ given n middle → n ≡ 0 → (start end : ℕ) → start ≡ length before → end ≡ length now → (from new : Cursor) → from.rest.now ≡ old → new.rest.now ≡ middle
      → HasAdded (λ (n : ℕ). n) read_hints from new before now (end - start)
  hints_done n e is = hints_end (subst (λ k. read_hint (tt {0}) rest ≡ given k middle) is e)

  pub hints_fault : read_hint (tt {0}) rest ≡ refused middle → read_hints old ≡ refused middle
  hints_fault e = run_fault read_hint after_hint (λ (n : ℕ). n) hints_in (λ (n : ℕ). n) old before now rest middle r e

-- ---- faults, and a whole step

module _ (old : List ℕ) (from middle new : Cursor) (same : from.rest.now ≡ old) where
  pub literals_fail : (before now : List Literal) → LiteralsLeft old before now middle.rest.now → (e : Refusal TextFault) → ParsesAs (option_map literal_of) (read_literal (tt {0})) middle new (Err e) → (any : List Literal)
      → Adds literal_of read_literals from new before any (Err e)
  literals_fail before now r NoMemory h any = tt
  literals_fail before now r (Fault Wrong) h any = ap read_literals same ∙ literals_fault old before now middle.rest.now new.rest.now r h

  pub hints_fail : (before now : List ℕ) → HintsLeft old before now middle.rest.now → (e : Refusal TextFault) → Parses (read_hint (tt {0})) middle new (Err e) → (any : List ℕ)
      → Adds (λ (n : ℕ). n) read_hints from new before any (Err e)
  hints_fail before now r NoMemory h any = tt
  hints_fail before now r (Fault Wrong) h any = ap read_hints same ∙ hints_fault old before now middle.rest.now new.rest.now r h
