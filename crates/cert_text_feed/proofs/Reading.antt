-- What reading the bytes so far says of all that can follow.
use Rattle.std.specs.Prelude.{◌==◌, ◌-◌}
use Rattle.std.proofs.Common.{◌≡◌, ℕ, ◌+◌, Bool, true, false, ◌&&◌, not, List, [], ◌∷◌, ◌++◌, length, Ok, Err, refl, ap, sym, ◌∙◌, subst, append_assoc, append-nil, arith, length-append}
use Rattle.std.proofs.lemmas.List.Folds.{list_all-append}
use Rattle.std.proofs.lemmas.Grind.{flat_map-append}
use Rattle.exact_read.specs.Reading.{Wrong, LimitExceeded, Outcome}
use Rattle.exact_read.specs.Grammar.{anything, bind, at_end}
use Rattle.exact_read.proofs.Parts.{stops_anything}
use Rattle.cert_text_spec.specs.Derivation.{Derives, none, some}
use Rattle.cert_text_spec.specs.Lines.{Line, line_text}
use Rattle.cert_text_spec.specs.Certificates.{Expected, AHeader, after, Fits, IsFault}
use Rattle.cert_text_laws.specs.Readers.{given, refused, read_at_most, read_items}
use Rattle.cert_text_laws.specs.Lines.{read_line, read_certificate}
use Rattle.cert_text_laws.specs.Going.{ItemsLeft}
use Rattle.cert_text_laws.proofs.Bytes.{Simply, Refused, simply-exact, given_parts}
use Rattle.cert_text_laws.proofs.Items.{ItemText}
use Rattle.cert_text_laws.proofs.Loops.{items-start, items-step, items-fault, items-end}
use Rattle.cert_text_laws.proofs.Lines.{text_at, line_read}
use Rattle.cert_text_laws.proofs.Certificates.{only, refused_at, line_shorter, same_lines}
use Rattle.cert_text_feed.specs.Readings.{Leads, no_line, one_line, text_of, is_open, HasOneReading, GoesOnAsRead}
use Rattle.cert_text_feed.specs.Steps.{IsAmiss}
use Rattle.cert_text_feed.proofs.Endings.{EndsOnce, ends_once}

-- ---- one line

line_is : (e : Expected) → Simply (ItemText Fits text_at e) anything (read_line e)
line_is e = simply-exact (line_read e).exact

no_both : (o : Outcome ℕ (Unit {0}) Line) (line : Line) → o ≡ given line [] → o ≡ refused [] → ⊥
no_both o line good bad = cc

-- a line is read whatever follows
pub line_again : (e : Expected) (line : Line) → Fits e line → (more : List ℕ) → read_line e (line_text line ++ more) ≡ given line more
line_again e line fits more = (line_is e).again line (line_text line) more (record { fits = fits; is = refl }) (stops_anything more)

-- the only line feed of a text is its last byte
one_end : (front other left : List ℕ) → is_open front ≡ true → front ++ 10 ∷ [] ≡ (other ++ 10 ∷ []) ++ left → left ≡ []
one_end [] [] left h e = ap (λ t. drop_first t) (sym e)
  where
    drop_first : List ℕ → List ℕ
    drop_first [] = []
    drop_first (c ∷ t) = t
one_end [] (d ∷ other) left h e = absurd (omega (arith, ap length e, length-append ((d ∷ other) ++ 10 ∷ []) left, length-append (d ∷ other) (10 ∷ [])))
one_end (c ∷ front) [] left h e = absurd (no_feed c (heads e) h)
  where
    first : List ℕ → ℕ
    first [] = 0
    first (c ∷ t) = c

    heads : (c ∷ front) ++ 10 ∷ [] ≡ ([] ++ 10 ∷ []) ++ left → c ≡ 10
    heads e = ap first e

    no_feed : (c : ℕ) → c ≡ 10 → is_open (c ∷ front) ≡ true → ⊥
    no_feed c same h = let f : false ≡ true = ap (λ d. not (d == 10) && is_open front) (sym same) ∙ h in cc
one_end (c ∷ front) (d ∷ other) left h e = one_end front other left (rest_open (not (c == 10)) h) (ap rest e)
  where
    rest : List ℕ → List ℕ
    rest [] = []
    rest (c ∷ t) = t

    rest_open : (b : Bool) → (b && is_open front) ≡ true → is_open front ≡ true
    rest_open true h = h
    rest_open false h = absurd (cc)

-- where no line ends there is no line
pub no_line_inside : (line : Line) → EndsOnce (line_text line) → (text left : List ℕ) → is_open text ≡ true → text ≡ line_text line ++ left → ⊥
no_line_inside line ends text left h e =
    let f : is_open text ≡ false =
    ap is_open (e ∙ ap (λ t. t ++ left) ends.is ∙ append_assoc ends.front (10 ∷ []) left) ∙ list_all-append (λ byte. not (byte == 10)) ends.front (10 ∷ left) ∙ ap (λ t. t && false) ends.unended in
    cc

-- and so it is refused as one
pub no_line_in_rest : (e : Expected) (text : List ℕ) → is_open text ≡ true → (left : List ℕ) × (read_line e text ≡ refused left)
no_line_in_rest e text h = by_outcome (read_line e text) refl
  where
    by_outcome : (o : Outcome ℕ (Unit {0}) Line) → read_line e text ≡ o → (left : List ℕ) × (read_line e text ≡ refused left)
    by_outcome (Ok (line, left)) is =
        let t = (line_is e).takes text line left is in
        absurd (no_line_inside line (ends_once line t.derives.fits.is) text left h (t.cut ∙ ap (λ x. x ++ left) t.derives.is))
    by_outcome (Err (Wrong kind, left)) is = (left, is)
    by_outcome (Err (LimitExceeded, left)) is = absurd ((line_is e).never text left is)

-- where a byte is wrong
pub amiss_at : (e : Expected) (text left : List ℕ) (offset : ℕ) → read_line e text ≡ refused left → offset ≡ length text - length left → IsAmiss e text offset
amiss_at e text left offset read at =
    let w = (line_is e).wrongs text left read in
    record { left = left; read = read; sum = omega (arith, at, ap length w.cut, length-append w.prefix left) }

-- a text that ends where its line ends is the line
pub record IsLineOf (e : Expected) (text : List ℕ) (line : Line) (left : List ℕ) : Type 0 where
  pub fits : Fits e line
  pub is : text ≡ line_text line
  pub none_left : left ≡ []

pub whole_line : (e : Expected) (text left : List ℕ) (line : Line) → EndsOnce text → read_line e text ≡ given line left → IsLineOf e text line left
whole_line e text left line ends read =
    let t = (line_is e).takes text line left read in
    let fits = t.derives.fits in
    let once = ends_once line fits.is in
    let cut : text ≡ line_text line ++ left = t.cut ∙ ap (λ x. x ++ left) t.derives.is in
    let nothing : left ≡ [] = one_end ends.front once.front left ends.unended (sym ends.is ∙ cut ∙ ap (λ x. x ++ left) once.is) in
    record { fits = fits; is = cut ∙ ap (λ x. line_text line ++ x) nothing ∙ append-nil (line_text line); none_left = nothing }

-- what is wrong in a line that has ended is wrong whatever follows
pub wrong_line : (e : Expected) (text left : List ℕ) → EndsOnce text → read_line e text ≡ refused left → (more : List ℕ) → read_line e (text ++ more) ≡ refused (left ++ more)
wrong_line e text left ends read more = by_left left ((line_is e).wrongs text left read) read
  where
    by_left : (left : List ℕ) → Refused (ItemText Fits text_at e) (read_line e) text left → read_line e text ≡ refused left → read_line e (text ++ more) ≡ refused (left ++ more)
    by_left (c ∷ left) w read =
        ap (λ t. read_line e (t ++ more)) w.cut ∙ ap (read_line e) (append_assoc w.prefix (c ∷ left) more) ∙ w.whatever c left (left ++ more) refl
    by_left [] w read = absurd clash
      where
        same : text ≡ w.prefix
        same = w.cut ∙ append-nil w.prefix

        once : EndsOnce (line_text w.value)
        once = ends_once w.value w.derives.fits.is

        longer : line_text w.value ≡ text ++ w.more
        longer = sym w.derives.is ∙ ap (λ t. t ++ w.more) (sym same)

        no_more : w.more ≡ []
        no_more = one_end once.front ends.front w.more once.unended (sym once.is ∙ longer ∙ ap (λ t. t ++ w.more) ends.is)

        is_line : text ≡ line_text w.value
        is_line = sym (append-nil text) ∙ ap (λ t. text ++ t) (sym no_more) ∙ sym longer

        good : read_line e text ≡ given w.value []
        good = ap (read_line e) (is_line ∙ sym (append-nil (line_text w.value))) ∙ line_again e w.value w.derives.fits []

        clash : ⊥
        clash = no_both (read_line e text) w.value good read

-- ---- lines

pub more_lines : (lines : List Line) (line : Line) → text_of (lines ++ line ∷ []) ≡ text_of lines ++ line_text line
more_lines lines line = flat_map-append line_text lines (line ∷ []) ∙ ap (λ t. text_of lines ++ t) (append-nil (line_text line))

pub leads_on : (expected others : List Expected) (lines : List Line) (e : Expected) (line : Line) → Leads expected lines (e ∷ others) → Fits e line → Leads expected (lines ++ line ∷ []) (after e line ++ others)
leads_on expected others lines e line (no_line same) fits = one_line e others (after e line ++ others) line [] fits (no_line (after e line ++ others))
leads_on expected others lines e line (one_line d before final first rest fit leads) fits =
    one_line d before (after e line ++ others) first (rest ++ line ∷ []) fit (leads_on (after d first ++ before) others rest e line leads fits)

pub derives_all : (expected : List Expected) (lines : List Line) → Leads expected lines [] → Derives Fits after expected lines
derives_all expected lines (no_line same) = none
derives_all expected lines (one_line e others final line rest fits leads) = some e others line rest fits (derives_all (after e line ++ others) rest leads)

lines_left : (whole : Outcome ℕ (Unit {0}) (List Line)) (expected final : List Expected) (lines before : List Line) (more : List ℕ) → Leads expected lines final
    → ItemsLeft read_line after whole before expected (text_of lines ++ more) → ItemsLeft read_line after whole (before ++ lines) final more
lines_left whole expected final lines before more (no_line same) left = subst (λ b. ItemsLeft read_line after whole b expected more) (sym (append-nil before)) left
lines_left whole expected final lines before more (one_line e others last line rest fits leads) left =
    let read : read_line e (line_text line ++ (text_of rest ++ more)) ≡ given line (text_of rest ++ more) = line_again e line fits (text_of rest ++ more) in
    let here : ItemsLeft read_line after whole before (e ∷ others) (line_text line ++ (text_of rest ++ more)) =
    subst (λ t. ItemsLeft read_line after whole before (e ∷ others) t) (append_assoc (line_text line) (text_of rest) more) left in
    let next = items-step read_line after whole before e others (line_text line ++ (text_of rest ++ more)) (text_of rest ++ more) line here read
    (line_shorter e (line_text line ++ (text_of rest ++ more)) (text_of rest ++ more) line read) in
    subst (λ b. ItemsLeft read_line after whole b final more) (append_assoc before (line ∷ []) rest) (lines_left whole (after e line ++ others) final rest (before ++ line ∷ []) more leads next)

-- the lines of all bytes, after those that were read
pub all_lines : List ℕ → Outcome ℕ (Unit {0}) (List Line)
all_lines bytes = read_items read_line after (AHeader ∷ []) bytes

pub left_after : (lines : List Line) (expected : List Expected) (more : List ℕ) → Leads (AHeader ∷ []) lines expected → ItemsLeft read_line after (all_lines (text_of lines ++ more)) lines expected more
unfolding all_lines
left_after lines expected more leads =
    lines_left (read_items read_line after (AHeader ∷ []) (text_of lines ++ more)) (AHeader ∷ []) expected lines [] more leads (items-start read_line after (AHeader ∷ []) (text_of lines ++ more))

-- ---- faults

fault_there : (bytes wrong : List ℕ) (offset : ℕ) → all_lines bytes ≡ refused wrong → offset + length wrong ≡ length bytes → IsFault bytes offset
unfolding all_lines
fault_there bytes wrong offset e sum = refused_at bytes wrong (ap (at_end (tt {0})) e) offset sum

-- a byte is wrong where a line is expected
pub fault_in_line : (lines : List Line) (e : Expected) (others : List Expected) (text left : List ℕ) (offset : ℕ) → Leads (AHeader ∷ []) lines (e ∷ others)
    → read_line e text ≡ refused left → offset + length left ≡ length text → IsFault (text_of lines ++ text) (length (text_of lines) + offset)
fault_in_line lines e others text left offset leads read sum =
    fault_there (text_of lines ++ text) left (length (text_of lines) + offset)
    (items-fault read_line after (all_lines (text_of lines ++ text)) lines e others text left (left_after lines (e ∷ others) text leads) read)
    (omega (arith, sum, length-append (text_of lines) text))

-- bytes follow the last line
pub fault_at_end : (lines : List Line) (c : ℕ) (text : List ℕ) → Leads (AHeader ∷ []) lines [] → IsFault (text_of lines ++ c ∷ text) (length (text_of lines))
unfolding all_lines
fault_at_end lines c text leads =
    refused_at (text_of lines ++ c ∷ text) (c ∷ text)
    (ap (at_end (tt {0})) (items-end read_line after (all_lines (text_of lines ++ c ∷ text)) lines (c ∷ text) (left_after lines [] (c ∷ text) leads)))
    (length (text_of lines)) (omega (arith, length-append (text_of lines) (c ∷ text)))

-- ---- laws

pub one_reading : HasOneReading
one_reading bytes lines1 lines2 expected1 expected2 rest1 rest2 a b = same (AHeader ∷ []) lines1 lines2 expected1 expected2 rest1 rest2 a.leads b.leads a.unended b.unended (sym a.cut ∙ b.cut)
  where
    inside : (e : Expected) (line : Line) (lines : List Line) (text rest : List ℕ) → Fits e line → is_open text ≡ true → text ≡ (line_text line ++ text_of lines) ++ rest → ⊥
    inside e line lines text rest fits h is = no_line_inside line (ends_once line fits.is) text (text_of lines ++ rest) h (is ∙ append_assoc (line_text line) (text_of lines) rest)

    same : (expected : List Expected) (lines1 lines2 : List Line) (expected1 expected2 : List Expected) (rest1 rest2 : List ℕ) → Leads expected lines1 expected1 → Leads expected lines2 expected2
        → is_open rest1 ≡ true → is_open rest2 ≡ true → text_of lines1 ++ rest1 ≡ text_of lines2 ++ rest2 → (lines1 ≡ lines2) × (expected1 ≡ expected2) × (rest1 ≡ rest2)
    same expected lines1 lines2 expected1 expected2 rest1 rest2 (no_line final1) (no_line final2) h i e = (refl, refl, e)
    same expected lines1 lines2 expected1 expected2 rest1 rest2 (no_line final1) (one_line d others final line lines fits leads) h i e = absurd (inside d line lines rest1 rest2 fits h e)
    same expected lines1 lines2 expected1 expected2 rest1 rest2 (one_line d others final line lines fits leads) (no_line final2) h i e = absurd (inside d line lines rest2 rest1 fits i (sym e))
    same expected lines1 lines2 expected1 expected2 rest1 rest2 (one_line d others final1 line1 more1 fits1 leads1) (one_line d2 others2 final2 line2 more2 fits2 leads2) h i e =
        let read1 : read_line d ((line_text line1 ++ text_of more1) ++ rest1) ≡ given line1 (text_of more1 ++ rest1) =
        ap (read_line d) (append_assoc (line_text line1) (text_of more1) rest1) ∙ line_again d line1 fits1 (text_of more1 ++ rest1) in
        let read2 : read_line d ((line_text line2 ++ text_of more2) ++ rest2) ≡ given line2 (text_of more2 ++ rest2) =
        ap (read_line d) (append_assoc (line_text line2) (text_of more2) rest2) ∙ line_again d line2 fits2 (text_of more2 ++ rest2) in
        let parts : (line1 ≡ line2) × (text_of more1 ++ rest1 ≡ text_of more2 ++ rest2) = given_parts {X = Line} (sym read1 ∙ ap (read_line d) e ∙ read2) in
        let leads : Leads (after d line1 ++ others) more2 expected2 = subst (λ l. Leads (after d l ++ others) more2 expected2) (sym parts.0) leads2 in
        let rest = same (after d line1 ++ others) more1 more2 expected1 expected2 rest1 rest2 leads1 leads h i parts.1 in
        (ap (λ l. l ∷ more1) parts.0 ∙ ap (λ ls. line2 ∷ ls) rest.0, rest.1, rest.2)

pub goes_on : GoesOnAsRead
unfolding all_lines
goes_on bytes rest more lines all expected r c =
    let text : bytes ++ more ≡ text_of lines ++ (rest ++ more) = ap (λ t. t ++ more) r.cut ∙ append_assoc (text_of lines) rest more in
    let read : read_certificate (text_of lines ++ (rest ++ more)) ≡ Ok all = ap read_certificate (sym text) ∙ only (bytes ++ more) all c in
    let left = left_after lines expected (rest ++ more) r.leads in
    by_items (read_at_most read_line after left.fuel expected (rest ++ more)) (ap (at_end (tt {0})) (sym left.is) ∙ read)
  where
    first_lines : (items : List Line) (last : List ℕ) → at_end (tt {0}) (given (lines ++ items) last) ≡ Ok all → (later : List Line) × (all ≡ lines ++ later)
    first_lines items [] e = (items, same_lines all (lines ++ items) (at_end (tt {0}) (given (lines ++ items) [])) e refl)
    first_lines items (c ∷ last) e = absurd (cc)

    by_items : (o : Outcome ℕ (Unit {0}) (List Line)) → at_end (tt {0}) (bind o (λ items last. given (lines ++ items) last)) ≡ Ok all → (later : List Line) × (all ≡ lines ++ later)
    by_items (Ok (items, last)) e = first_lines items last e
    by_items (Err fault) e = absurd (cc)
