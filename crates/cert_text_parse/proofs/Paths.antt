-- The steps of a path, of which all but the last go on.
use Rattle.std.specs.Prelude.{map, codes}
use Rattle.std.proofs.Common.{◌≡◌, ℕ, ◌<◌, true, false, List, [], ◌∷◌, ◌++◌, length, Err, refl, ap, sym, ◌∙◌, subst}
use Rattle.std.proofs.lemmas.List.{map-append}
use Rattle.proof_tree_spec.specs.declared.Place.{Place}
use Rattle.proof_tree_spec.specs.Proofs.{BinaryPoint, SourcePoint}
use Rattle.exact_read.specs.Reading.{Outcome}
use Rattle.exact_read.specs.Grammar.{bind}
use Rattle.cert_text_laws.specs.Readers.{Reader, given, refused, read_items}
use Rattle.cert_text_laws.specs.Parts.{Stepped, after_step, read_address_step, read_place_step, read_binary, read_source, binary_of, source_of, place_number}
use Rattle.cert_text_laws.specs.Going.{ItemsLeft}
use Rattle.cert_text_laws.proofs.Loops.{items-start, items-step, items-fault, items-end}
use Rattle.cert_text_laws.proofs.Points.{address_step_shorter, place_step_shorter}
use Rattle.cert_text_parse.specs.declared.points.Ending.{Ending}
use Rattle.cert_text_parse.specs.declared.points.Ending.TheVariants as ending
use Rattle.attempt.specs.declared.refusal.Refusal.{Refusal}
use Rattle.attempt.specs.declared.refusal.Refusal.TheVariants.{Fault, NoMemory}
use Rattle.cert_text_parse.specs.declared.stopped.TextFault.{TextFault}
use Rattle.cert_text_parse.specs.declared.stopped.TextFault.TheVariants.{Wrong}
use Rattle.cert_text_parse.specs.declared.cursor.Cursor.{Cursor}
use Rattle.cert_text_parse.specs.Outcomes.{Parses}
use Rattle.cert_text_parse.specs.PartOutcomes.{ending_text, read_address_at, read_place_at, ParsesBinary, ParsesSource}

-- those that go on
abbrev pub going : {X : Type 0} → List X → List (Stepped X)
going xs = map (λ x. (x, false)) xs

-- the numbers so far are of values that go on
pub record PathLeft {X : Type 0} (item : Unit {0} → Reader (Stepped X)) (number : X → ℕ) (old : List ℕ) (path rest : List ℕ) : Type 0 where
  pub values : List X
  pub numbers : map number values ≡ path
  pub left : ItemsLeft item after_step (read_items item after_step (tt {0} ∷ []) old) (going values) (tt {0} ∷ []) rest

module _ {X : Type 0} (item : Unit {0} → Reader (Stepped X)) (number : X → ℕ) (old : List ℕ) where
  whole : Outcome ℕ (Unit {0}) (List (Stepped X))
  whole = read_items item after_step (tt {0} ∷ []) old

  pub path_start : PathLeft item number old [] old
  path_start = record { values = []; numbers = refl; left = items-start item after_step (tt {0} ∷ []) old }

  module _ (path rest middle : List ℕ) (p : PathLeft item number old path rest) where
    pub path_step : (x : X) → item (tt {0}) rest ≡ given (x, false) middle → length middle < length rest → PathLeft item number old (path ++ number x ∷ []) middle
    unfolding whole
    path_step x e less = record {
      values = p.values ++ x ∷ [];
      numbers = map-append number p.values (x ∷ []) ∙ ap (λ q. q ++ number x ∷ []) p.numbers;
      left = subst (λ before. ItemsLeft item after_step whole before (tt {0} ∷ []) middle) (sym (map-append (λ x. (x, false)) p.values (x ∷ [])))
          (items-step item after_step whole (going p.values) (tt {0}) [] rest middle (x, false) p.left e less);
    }

    pub path_end : (x : X) → item (tt {0}) rest ≡ given (x, true) middle → length middle < length rest → read_items item after_step (tt {0} ∷ []) old ≡ given (going p.values ++ (x, true) ∷ []) middle
    unfolding whole
    path_end x e less =
        items-end item after_step whole (going p.values ++ (x, true) ∷ []) middle (items-step item after_step whole (going p.values) (tt {0}) [] rest middle (x, true) p.left e less)

    pub path_fault : item (tt {0}) rest ≡ refused middle → read_items item after_step (tt {0} ∷ []) old ≡ refused middle
    unfolding whole
    path_fault e = items-fault item after_step whole (going p.values) (tt {0}) [] rest middle p.left e

-- ---- points of the binary

abbrev pub BinaryLeft : Ending → (old path rest : List ℕ) → Type 0
BinaryLeft end old path rest = PathLeft (read_address_step (ending_text end)) (λ n. n) old path rest

pub address_shorter : (end : Ending) (rest middle : List ℕ) (step : Stepped ℕ) → read_address_at end rest ≡ given step middle → length middle < length rest
address_shorter ending.Space rest middle step e = address_step_shorter (codes " ") refl rest middle step e
address_shorter ending.LineFeed rest middle step e = address_step_shorter (codes "\n") refl rest middle step e

point_of_path : (values : List ℕ) (a : ℕ) → binary_of (going values ++ (a, true) ∷ []) ≡ record { path = map (λ n. n) values; address = a }
point_of_path [] a = refl
point_of_path (x ∷ values) a = ap (λ (p : BinaryPoint). record { path = x ∷ p.path; address = p.address }) (point_of_path values a)

module _ (end : Ending) (old path rest middle : List ℕ) (p : BinaryLeft end old path rest) where
  pub binary_ends : (a : ℕ) → read_address_at end rest ≡ given (a, true) middle → read_binary (ending_text end) old ≡ given (record { path = path; address = a }) middle
  binary_ends a e =
      ap (λ o. bind o (λ steps rest. given (binary_of steps) rest)) (path_end (read_address_step (ending_text end)) (λ n. n) old path rest middle p a e (address_shorter end rest middle (a, true) e))
      ∙ ap (λ q. given q middle) (point_of_path p.values a ∙ ap (λ q. record { path = q; address = a }) p.numbers)

  pub binary_fault : read_address_at end rest ≡ refused middle → read_binary (ending_text end) old ≡ refused middle
  binary_fault e = ap (λ o. bind o (λ steps rest. given (binary_of steps) rest)) (path_fault (read_address_step (ending_text end)) (λ n. n) old path rest middle p e)

  pub binary_next : (a : ℕ) → read_address_at end rest ≡ given (a, false) middle → BinaryLeft end old (path ++ a ∷ []) middle
  binary_next a e = path_step (read_address_step (ending_text end)) (λ n. n) old path rest middle p a e (address_shorter end rest middle (a, false) e)

module _ (end : Ending) (old new : Cursor) (path rest : List ℕ) (p : BinaryLeft end old.rest.now path rest) where
  pub binary_fails : (e : Refusal TextFault) → (middle : Cursor) → middle.rest.now ≡ rest → Parses (read_address_at end) middle new (Err e) → ParsesBinary end path old new (Err e)
  binary_fails NoMemory middle same h = tt
  binary_fails (Fault Wrong) middle same h = binary_fault end old.rest.now path rest new.rest.now p (ap (read_address_at end) (sym same) ∙ h)

-- ---- points of the source

abbrev pub SourceLeft : Ending → (old path rest : List ℕ) → Type 0
SourceLeft end old path rest = PathLeft (read_place_step (ending_text end)) place_number old path rest

pub place_shorter : (end : Ending) (rest middle : List ℕ) (step : Stepped Place) → read_place_at end rest ≡ given step middle → length middle < length rest
place_shorter ending.Space rest middle step e = place_step_shorter 32 [] refl refl rest middle step e
place_shorter ending.LineFeed rest middle step e = place_step_shorter 10 [] refl refl rest middle step e

source_of_path : (values : List Place) (q : Place) → source_of (going values ++ (q, true) ∷ []) ≡ record { path = map place_number values; place = q }
source_of_path [] q = refl
source_of_path (x ∷ values) q = ap (λ (p : SourcePoint). record { path = place_number x ∷ p.path; place = p.place }) (source_of_path values q)

module _ (end : Ending) (old path rest middle : List ℕ) (p : SourceLeft end old path rest) where
  pub source_ends : (q : Place) → read_place_at end rest ≡ given (q, true) middle → read_source (ending_text end) old ≡ given (record { path = path; place = q }) middle
  source_ends q e =
      ap (λ o. bind o (λ steps rest. given (source_of steps) rest)) (path_end (read_place_step (ending_text end)) place_number old path rest middle p q e (place_shorter end rest middle (q, true) e))
      ∙ ap (λ r. given r middle) (source_of_path p.values q ∙ ap (λ r. record { path = r; place = q }) p.numbers)

  pub source_fault : read_place_at end rest ≡ refused middle → read_source (ending_text end) old ≡ refused middle
  source_fault e = ap (λ o. bind o (λ steps rest. given (source_of steps) rest)) (path_fault (read_place_step (ending_text end)) place_number old path rest middle p e)

  pub source_next : (q : Place) → read_place_at end rest ≡ given (q, false) middle → SourceLeft end old (path ++ place_number q ∷ []) middle
  source_next q e = path_step (read_place_step (ending_text end)) place_number old path rest middle p q e (place_shorter end rest middle (q, false) e)

module _ (end : Ending) (old new : Cursor) (path rest : List ℕ) (p : SourceLeft end old.rest.now path rest) where
  pub source_fails : (e : Refusal TextFault) → (middle : Cursor) → middle.rest.now ≡ rest → Parses (read_place_at end) middle new (Err e) → ParsesSource end path old new (Err e)
  source_fails NoMemory middle same h = tt
  source_fails (Fault Wrong) middle same h = source_fault end old.rest.now path rest new.rest.now p (ap (read_place_at end) (sym same) ∙ h)

-- a path begins
pub binary_starts : (end : Ending) (old path : List ℕ) → path ≡ [] → BinaryLeft end old path old
binary_starts end old path e = subst (λ q. BinaryLeft end old q old) (sym e) (path_start (read_address_step (ending_text end)) (λ n. n) old)

pub source_starts : (end : Ending) (old path : List ℕ) → path ≡ [] → SourceLeft end old path old
source_starts end old path e = subst (λ q. SourceLeft end old q old) (sym e) (path_start (read_place_step (ending_text end)) place_number old)

-- ---- by what was read

module _ (end : Ending) (old path rest middle : List ℕ) where
  pub binary_done : (step : Stepped ℕ) → BinaryLeft end old path rest → read_address_at end rest ≡ given step middle → step.1 ≡ true → read_binary (ending_text end) old ≡ given (record { path = path; address = step.0 }) middle
  binary_done (a, true) p e h = binary_ends end old path rest middle p a e
  binary_done (a, false) p e h = absurd (cc)

  pub binary_more : (step : Stepped ℕ) → BinaryLeft end old path rest → read_address_at end rest ≡ given step middle → step.1 ≡ false → BinaryLeft end old (path ++ step.0 ∷ []) middle
  binary_more (a, true) p e h = absurd (cc)
  binary_more (a, false) p e h = binary_next end old path rest middle p a e

  pub source_done : (step : Stepped Place) → SourceLeft end old path rest → read_place_at end rest ≡ given step middle → step.1 ≡ true → read_source (ending_text end) old ≡ given (record { path = path; place = step.0 }) middle
  source_done (q, true) p e h = source_ends end old path rest middle p q e
  source_done (q, false) p e h = absurd (cc)

  pub source_more : (step : Stepped Place) → SourceLeft end old path rest → read_place_at end rest ≡ given step middle → step.1 ≡ false → SourceLeft end old (path ++ place_number step.0 ∷ []) middle
  source_more (q, true) p e h = absurd (cc)
  source_more (q, false) p e h = source_next end old path rest middle p q e
