-- Certificates are read exactly.
use Rattle.std.specs.Prelude.{flat_map, take}
use Rattle.std.proofs.Common.{◌≡◌, ℕ, zero, suc, ◌+◌, ◌<◌, ◌≤◌, true, false, List, [], ◌∷◌, ◌++◌, length, Result, Ok, Err, refl, ap, sym, ◌∙◌, subst, append_assoc, IsTrue, arith, length-append}
use Rattle.std.proofs.lemmas.List.Elements.{All-nil}
use Rattle.exact_read.specs.Reading.{Fault, Wrong, LimitExceeded}
use Rattle.exact_read.specs.Grammar.{anything}
use Rattle.exact_read.specs.Whole.{IsLimitExceeded}
use Rattle.exact_read.proofs.Whole.{ExactWhole, exact-whole}
use Rattle.cert_text_spec.specs.Derivation.{Derives, none, some, spelled}
use Rattle.cert_text_spec.specs.Lines.{Line, Header, Function, InlineBinary, InlineSource, Leaf, Case, RestrictBinary, RestrictSource, Split, Call, Relation, Log, LogStep, End, line_text}
use Rattle.cert_text_spec.specs.Certificates.{Expected, AHeader, TheParts, BinaryInlines, SourceInlines, AProof, ARelation, ALog, AStep, after, Fits, IsCertificate, IsFault}
use Rattle.cert_text_spec.specs.declared.Symbol.TheVariants as symbol
use Rattle.cert_text_spec.specs.Terms.{ATerm}
use Rattle.tv_limits.specs.declared.TheConstants.{NESTING_LIMIT}
use Rattle.cert_text_laws.specs.Readers.{bytes, Reads, read_items, given}
use Rattle.cert_text_laws.specs.Lines.{read_line, read_certificate}
use Rattle.cert_text_laws.proofs.Bytes.{plains-bytes, within-bytes}
use Rattle.cert_text_laws.proofs.Items.{Each, ItemsText, Productions, reads-items}
use Rattle.cert_text_laws.proofs.Loops.{item-shorter}
use Rattle.cert_text_laws.proofs.Lines.{text_at, line_read}

-- nothing is asked of what comes later
always : Expected → Type 0
always e = Unit {0}

all_always : (expected : List Expected) → Each always expected
unfolding always
all_always [] = tt
all_always (e ∷ expected) = (tt, all_always expected)

first_byte : (line : Line) → (c : ℕ) × (more : List ℕ) × (line_text line ≡ c ∷ more) × (Unit {0} → IsTrue (anything c))
first_byte Header = (116, _, refl, λ l. refl)
first_byte (Function name stack) = (102, _, refl, λ l. refl)
first_byte (InlineBinary p) = (105, _, refl, λ l. refl)
first_byte (InlineSource p) = (105, _, refl, λ l. refl)
first_byte (Leaf n) = (108, _, refl, λ l. refl)
first_byte (Case t) = (99, _, refl, λ l. refl)
first_byte (RestrictBinary p n) = (114, _, refl, λ l. refl)
first_byte (RestrictSource p n) = (114, _, refl, λ l. refl)
first_byte (Split p enter step n) = (115, _, refl, λ l. refl)
first_byte (Call p counts before n) = (99, _, refl, λ l. refl)
first_byte (Relation t) = (114, _, refl, λ l. refl)
first_byte (Log n) = (108, _, refl, λ l. refl)
first_byte (LogStep step) = (115, _, refl, λ l. refl)
first_byte End = (101, _, refl, λ l. refl)

productions : Productions Fits after text_at always anything
unfolding always
productions =
    record {
      first = λ e line fits. first_byte line;
      later = λ e line. all_always (after e line);
      ends = ends;
    }
  where
    leaf : (e : Expected) → Fits e (Leaf 0) → after e (Leaf 0) ≡ [] → (lines : List Line) × Derives Fits after (e ∷ []) lines
    leaf e fits none_after = (Leaf 0 ∷ [], some e [] (Leaf 0) [] fits (subst (λ x. Derives Fits after (x ++ []) []) (sym none_after) none))

    ends : (e : Expected) → (lines : List Line) × Derives Fits after (e ∷ []) lines
    ends AHeader = (Header ∷ End ∷ [], some AHeader [] Header (End ∷ []) (record { stands = refl; is = tt }) (some TheParts [] End [] (record { stands = refl; is = tt }) none))
    ends TheParts = (End ∷ [], some TheParts [] End [] (record { stands = refl; is = tt }) none)
    ends BinaryInlines = leaf BinaryInlines (record { stands = refl; is = omega arith }) refl
    ends SourceInlines = leaf SourceInlines (record { stands = refl; is = omega arith }) refl
    ends (AProof room) = leaf (AProof room) (record { stands = refl; is = omega arith }) refl
    ends ARelation = (Relation (symbol.SourceMemory ∷ []) ∷ [], some ARelation [] (Relation (symbol.SourceMemory ∷ [])) [] (record { stands = refl; is = some (ATerm NESTING_LIMIT) [] symbol.SourceMemory [] (record { stands = refl; below = tt }) none }) none)
    ends ALog = (Log 0 ∷ [], some ALog [] (Log 0) [] (record { stands = refl; is = omega arith }) none)
    ends AStep = (LogStep (record { literals = []; hints = [] }) ∷ [], some AStep [] (LogStep (record { literals = []; hints = [] })) [] (record { stands = refl; is = record { literals = All-nil _; hints = All-nil _ } }) none)

-- lines are spelled one after the other
spelled_lines : (expected : List Expected) (lines : List Line) → Derives Fits after expected lines → spelled after text_at expected lines ≡ flat_map line_text lines
unfolding spelled
spelled_lines expected lines none = refl
spelled_lines expected lines (some e others line rest fits d) = ap (λ t. line_text line ++ t) (spelled_lines (after e line ++ others) rest d)

abbrev pub CertificateText : List Line → List ℕ → Type 0
CertificateText = ItemsText Fits after text_at (AHeader ∷ [])

certificates_read : Reads CertificateText anything (read_items read_line after (AHeader ∷ []))
certificates_read = reads-items Fits after text_at always anything read_line productions line_read AHeader

exact : ExactWhole bytes CertificateText read_certificate
exact = exact-whole (tt {0}) certificates_read.exact

certificate_of : (text : List ℕ) (lines : List Line) → CertificateText lines text → IsCertificate text lines
certificate_of text lines c = record { derives = c.derives; cut = c.is ∙ spelled_lines (AHeader ∷ []) lines c.derives }

text_of : (text : List ℕ) (lines : List Line) → IsCertificate text lines → CertificateText lines text
text_of text lines c = record { derives = c.derives; is = c.cut ∙ sym (spelled_lines (AHeader ∷ []) lines c.derives) }

pub found : (text : List ℕ) (lines : List Line) → read_certificate text ≡ Ok lines → IsCertificate text lines
found text lines e = let w = exact.found text lines e in certificate_of text lines (subst (CertificateText lines) (sym (w.cut ∙ plains-bytes w.text)) w.derives)

pub only : (text : List ℕ) (lines : List Line) → IsCertificate text lines → read_certificate text ≡ Ok lines
only text lines c = exact.only text lines (record { text = text; cut = sym (plains-bytes text); derives = text_of text lines c; within = within-bytes text })

take_prefix : (prefix rest : List ℕ) → take (length prefix) (prefix ++ rest) ≡ prefix
take_prefix [] rest = refl
take_prefix (c ∷ prefix) rest = ap (λ t. c ∷ t) (take_prefix prefix rest)

-- the bytes from a place on, where more are taken than the prefix
record Longer (n : ℕ) (prefix rest : List ℕ) : Type 0 where
  byte : ℕ
  old : List ℕ
  here : rest ≡ byte ∷ old
  more : List ℕ
  is : take n (prefix ++ rest) ≡ prefix ++ byte ∷ more

longer : (n : ℕ) (prefix rest : List ℕ) → length prefix < n → n ≤ length (prefix ++ rest) → Longer n prefix rest
longer zero prefix rest l m = absurd (omega arith)
longer (suc n) [] [] l m = absurd (omega arith)
longer (suc n) [] (c ∷ rest) l m = record { byte = c; old = rest; here = refl; more = take n rest; is = refl }
longer (suc n) (c ∷ prefix) rest l m = let g = longer n prefix rest (omega arith) (omega arith) in record { byte = g.byte; old = g.old; here = g.here; more = g.more; is = ap (λ t. c ∷ t) g.is }

pub refused_at : (text rest : List ℕ) → read_certificate text ≡ Err (Wrong (tt {0}), rest) → (offset : ℕ) → offset + length rest ≡ length text → IsFault text offset
refused_at text rest e offset sum =
    let w = exact.wrong text (tt {0}) rest e in
    let cut : text ≡ w.prefix ++ rest = w.cut ∙ ap (λ t. t ++ rest) (plains-bytes w.prefix) in
    let here : offset ≡ length w.prefix = omega (arith, ap length cut, length-append w.prefix rest) in
    let front : take offset text ≡ w.prefix = ap (λ t. take offset t) cut ∙ ap (λ n. take n (w.prefix ++ rest)) here ∙ take_prefix w.prefix rest in
    record {
      none = λ lines c. no_both lines rest (read_certificate text) (only text lines c) e;
      inside = omega arith;
      begins = record { more = w.more; lines = w.value; certificate = subst (λ t. IsCertificate (t ++ w.more) w.value) (sym front) (certificate_of (w.prefix ++ w.more) w.value w.derives) };
      longest = λ n above within b.
          let g = longer n w.prefix rest (omega arith) (subst (λ t. n ≤ length t) cut within) in
          let start : take n text ≡ w.prefix ++ g.byte ∷ g.more = ap (λ t. take n t) cut ∙ g.is in
          let whole : take n text ++ b.more ≡ w.prefix ++ g.byte ∷ (g.more ++ b.more) = ap (λ t. t ++ b.more) start ∙ append_assoc w.prefix (g.byte ∷ g.more) b.more in
          w.none.at_token b.lines (take n text ++ b.more) g.byte g.old (g.more ++ b.more) (text_of (take n text ++ b.more) b.lines b.certificate) g.here
          (plains-bytes (take n text ++ b.more) ∙ whole ∙ ap (λ t. t ++ g.byte ∷ (g.more ++ b.more)) (sym (plains-bytes w.prefix)));
    }
  where
    no_both : (lines : List Line) (rest : List ℕ) (read : Result (List Line) (Fault (Unit {0}) × List ℕ)) → read ≡ Ok lines → read ≡ Err (Wrong (tt {0}), rest) → ⊥
    no_both lines rest read good bad = cc

pub never_limited : (text rest : List ℕ) → read_certificate text ≡ Err (LimitExceeded, rest) → ⊥
never_limited text rest e = not_over (exact.exceeded text rest e)
  where
    not_over : IsLimitExceeded bytes CertificateText text rest → ⊥
    not_over one = let e : false ≡ true = one.over in cc

pub same_lines : (one two : List Line) (read : Result (List Line) (Fault (Unit {0}) × List ℕ)) → read ≡ Ok one → read ≡ Ok two → one ≡ two
same_lines one two read a b = cc

pub one_fault : (text : List ℕ) (one two : ℕ) → IsFault text one → IsFault text two → one ≡ two
one_fault text one two a b =
    let below : one < two → ⊥ = λ h. a.longest two h b.inside b.begins in
    let above : two < one → ⊥ = λ h. b.longest one h a.inside a.begins in
    omega arith

-- a line takes a byte at least
pub line_shorter : (e : Expected) (rest middle : List ℕ) (line : Line) → read_line e rest ≡ given line middle → length middle < length rest
line_shorter e rest middle line is = item-shorter read_line after productions line_read e rest middle line is
