-- The lines so far.
use Rattle.std.specs.Prelude.{take, drop}
use Rattle.std.proofs.Common.{◌≡◌, ℕ, ◌+◌, ◌≤◌, ◌<◌, List, [], ◌∷◌, ◌++◌, length, Ok, Err, refl, ap, sym, ◌∙◌, subst, arith, length-append, length-drop}
use Rattle.std.proofs.lemmas.List.{take-append-le, drop-append-le}
use Rattle.exact_read.specs.Reading as reading
use Rattle.exact_read.specs.Grammar.{at_end}
use Rattle.cert_text_spec.specs.Lines as spec
use Rattle.cert_text_spec.specs.Certificates as certificates
use Rattle.cert_text_laws.specs.Readers.{given, refused, read_items}
use Rattle.cert_text_laws.specs.Lines.{read_line, read_certificate}
use Rattle.cert_text_laws.specs.Going.{ItemsLeft}
use Rattle.cert_text_laws.proofs.Bytes.{simply-exact}
use Rattle.cert_text_laws.proofs.Loops.{items-start, items-step, items-fault, items-end}
use Rattle.cert_text_laws.proofs.Lines.{line_read}
use Rattle.cert_text_laws.proofs.Certificates.{line_shorter}
use Rattle.attempt.specs.declared.refusal.Refusal.{Refusal}
use Rattle.attempt.specs.declared.refusal.Refusal.TheVariants.{Fault, NoMemory}
use Rattle.cert_text_parse.specs.declared.stopped.TextFault.{TextFault}
use Rattle.cert_text_parse.specs.declared.stopped.TextFault.TheVariants.{Wrong}
use Rattle.cert_text_parse.specs.declared.cursor.Cursor.{Cursor}
use Rattle.cert_text_parse.specs.declared.lines.Literal.{Literal}
use Rattle.cert_text_parse.specs.declared.lines.Line.{Line}
use Rattle.cert_text_parse.specs.declared.lines.Line.TheVariants as code
use Rattle.cert_text_parse.specs.declared.keywords.Expected.{Expected}
use Rattle.cert_text_parse.specs.Keywords.{expected_of}
use Rattle.cert_text_parse.specs.Views.{line_of, line_at, step_of, literals_in, hints_in}
use Rattle.cert_text.specs.declared.certificates.Cert.{Cert}
use Rattle.cert_text.specs.declared.stack.Group.{Group}
use Rattle.cert_text.specs.Certificates.{lines_of, certificate_of, all_literals, all_hints, IsEmpty}
use Rattle.cert_text.specs.Stack.{stack_of}
use Rattle.cert_text.specs.Outcomes.{OneAdded, AddsOne, ReadsLines, ReadsWhole}

-- ---- a line more

pub literals_more : (lines : List Line) (line : Line) → all_literals (lines ++ line ∷ []) ≡ all_literals lines + literals_in line
literals_more [] line = omega arith
literals_more (l ∷ lines) line = omega (arith, literals_more lines line)

pub hints_more : (lines : List Line) (line : Line) → all_hints (lines ++ line ∷ []) ≡ all_hints lines + hints_in line
hints_more [] line = omega arith
hints_more (l ∷ lines) line = omega (arith, hints_more lines line)

-- a line looks at its own literals and hints alone
at_front : (line : Line) (literals more_literals : List Literal) (hints more_hints : List ℕ) → literals_in line ≤ length literals → hints_in line ≤ length hints
    → line_at line (literals ++ more_literals) (hints ++ more_hints) ≡ line_at line literals hints
at_front (code.Step k h) literals more_literals hints more_hints l m =
    ap (λ t. step_of t (take h (hints ++ more_hints))) (take-append-le k literals more_literals l) ∙ ap (λ t. step_of (take k literals) t) (take-append-le h hints more_hints m)
at_front code.Header literals more_literals hints more_hints l m = refl
at_front (code.Function b) literals more_literals hints more_hints l m = refl
at_front (code.InlineBinary b) literals more_literals hints more_hints l m = refl
at_front (code.InlineSource b) literals more_literals hints more_hints l m = refl
at_front (code.Leaf n) literals more_literals hints more_hints l m = refl
at_front (code.Case b) literals more_literals hints more_hints l m = refl
at_front (code.RestrictBinary b) literals more_literals hints more_hints l m = refl
at_front (code.RestrictSource b) literals more_literals hints more_hints l m = refl
at_front (code.Split b) literals more_literals hints more_hints l m = refl
at_front (code.Call b) literals more_literals hints more_hints l m = refl
at_front (code.Relation b) literals more_literals hints more_hints l m = refl
at_front (code.Log n) literals more_literals hints more_hints l m = refl
at_front code.End literals more_literals hints more_hints l m = refl

pub one_more : (lines : List Line) (line : Line) (literals more_literals : List Literal) (hints more_hints : List ℕ) → all_literals lines ≡ length literals → all_hints lines ≡ length hints
    → lines_of (lines ++ line ∷ []) (literals ++ more_literals) (hints ++ more_hints) ≡ lines_of lines literals hints ++ line_at line more_literals more_hints ∷ []
unfolding lines_of
one_more [] line [] more_literals [] more_hints l h = refl
one_more [] line (x ∷ literals) more_literals hints more_hints l h = absurd (omega (arith, l))
one_more [] line [] more_literals (n ∷ hints) more_hints l h = absurd (omega (arith, h))
one_more (first ∷ lines) line literals more_literals hints more_hints l h =
    let less : literals_in first ≤ length literals = omega (arith, l) in
    let fewer : hints_in first ≤ length hints = omega (arith, h) in
    ap (λ x. x ∷ lines_of (lines ++ line ∷ []) (drop (literals_in first) (literals ++ more_literals)) (drop (hints_in first) (hints ++ more_hints))) (at_front first literals more_literals hints more_hints less fewer)
    ∙ ap (λ t. line_at first literals hints ∷ lines_of (lines ++ line ∷ []) t (drop (hints_in first) (hints ++ more_hints))) (drop-append-le (literals_in first) literals more_literals less)
    ∙ ap (λ t. line_at first literals hints ∷ lines_of (lines ++ line ∷ []) (drop (literals_in first) literals ++ more_literals) t) (drop-append-le (hints_in first) hints more_hints fewer)
    ∙ ap (λ t. line_at first literals hints ∷ t)
    (one_more lines line (drop (literals_in first) literals) more_literals (drop (hints_in first) hints) more_hints (omega (arith, l, length-drop (literals_in first) literals)) (omega (arith, h, length-drop (hints_in first) hints)))

-- what is expected after a line depends on none of its literals and hints
step_after : (e : certificates.Expected) (ones twos : List Literal) (m n : List ℕ) → certificates.after e (step_of ones m) ≡ certificates.after e (step_of twos n)
step_after certificates.AHeader ones twos m n = refl
step_after certificates.TheParts ones twos m n = refl
step_after certificates.BinaryInlines ones twos m n = refl
step_after certificates.SourceInlines ones twos m n = refl
step_after (certificates.AProof room) ones twos m n = refl
step_after certificates.ARelation ones twos m n = refl
step_after certificates.ALog ones twos m n = refl
step_after certificates.AStep ones twos m n = refl

after_same : (e : certificates.Expected) (line : Line) (literals : List Literal) (hints : List ℕ) → certificates.after e (line_at line literals hints) ≡ certificates.after e (line_of line)
after_same e (code.Step k h) literals hints = step_after e (take k literals) [] (take h hints) []
after_same e code.Header literals hints = refl
after_same e (code.Function b) literals hints = refl
after_same e (code.InlineBinary b) literals hints = refl
after_same e (code.InlineSource b) literals hints = refl
after_same e (code.Leaf n) literals hints = refl
after_same e (code.Case b) literals hints = refl
after_same e (code.RestrictBinary b) literals hints = refl
after_same e (code.RestrictSource b) literals hints = refl
after_same e (code.Split b) literals hints = refl
after_same e (code.Call b) literals hints = refl
after_same e (code.Relation b) literals hints = refl
after_same e (code.Log n) literals hints = refl
after_same e code.End literals hints = refl

-- ---- the loop

pub record LinesLeft (expected : List certificates.Expected) (old : List ℕ) (cert : Cert) (stack : List Group) (rest : List ℕ) : Type 0 where
  pub left : ItemsLeft read_line certificates.after (read_items read_line certificates.after expected old) (certificate_of cert) (stack_of stack) rest
  pub literals : all_literals cert.lines.items ≡ length cert.logs.literals.items
  pub hints : all_hints cert.lines.items ≡ length cert.logs.hints.items
  pub within : length rest ≤ length old

no_lines : (cert : Cert) → IsEmpty cert → certificate_of cert ≡ []
unfolding lines_of
no_lines cert e = ap (λ ls. lines_of ls cert.logs.literals.items cert.logs.hints.items) e.lines

pub lines_start : (expected : List certificates.Expected) (old : List ℕ) (cert : Cert) (stack : List Group) → IsEmpty cert → expected ≡ stack_of stack → LinesLeft expected old cert stack old
lines_start expected old cert stack e s = record {
  left = subst (λ before. ItemsLeft read_line certificates.after (read_items read_line certificates.after expected old) before (stack_of stack) old) (sym (no_lines cert e))
      (subst (λ x. ItemsLeft read_line certificates.after (read_items read_line certificates.after expected old) [] x old) s (items-start read_line certificates.after expected old));
  literals = ap all_literals e.lines ∙ ap length (sym e.literals);
  hints = ap all_hints e.lines ∙ ap length (sym e.hints);
  within = omega arith;
}

module _ (expected : List certificates.Expected) (old : List ℕ) (cert : Cert) (stack : List Group) (rest : List ℕ) (l : LinesLeft expected old cert stack rest) where
  pub lines_end : stack_of stack ≡ [] → read_items read_line certificates.after expected old ≡ given (certificate_of cert) rest
  lines_end e = items-end read_line certificates.after (read_items read_line certificates.after expected old) (certificate_of cert) rest
      (subst (λ s. ItemsLeft read_line certificates.after (read_items read_line certificates.after expected old) (certificate_of cert) s rest) e l.left)

  module _ (e : Expected) (others : List Group) (top : stack_of stack ≡ expected_of e ∷ stack_of others) where
    at_top : ItemsLeft read_line certificates.after (read_items read_line certificates.after expected old) (certificate_of cert) (expected_of e ∷ stack_of others) rest
    at_top = subst (λ s. ItemsLeft read_line certificates.after (read_items read_line certificates.after expected old) (certificate_of cert) s rest) top l.left

    pub lines_fault : (middle : List ℕ) → read_line (expected_of e) rest ≡ refused middle → read_items read_line certificates.after expected old ≡ refused middle
    lines_fault middle h = items-fault read_line certificates.after (read_items read_line certificates.after expected old) (certificate_of cert) (expected_of e) (stack_of others) rest middle at_top h

    -- the bytes from the wrong one on are not more
    pub fault_within : (middle : List ℕ) → read_line (expected_of e) rest ≡ refused middle → length middle ≤ length old
    fault_within middle h =
        let w = (simply-exact (line_read (expected_of e)).exact).wrongs rest middle h in
        omega (arith, ap length w.cut, length-append w.prefix middle, l.within)

    pub lines_next : (from new : Cursor) → from.rest.now ≡ rest → (next : Cert) (after : List Group) → OneAdded (expected_of e) from new others after cert next → LinesLeft expected old next after new.rest.now
    lines_next from new same next after a =
        let line = line_at a.line a.added.literals a.added.hints in
        let read : read_line (expected_of e) rest ≡ given line new.rest.now = ap (read_line (expected_of e)) (sym same) ∙ a.added.read in
        let shorter = line_shorter (expected_of e) rest new.rest.now line read in
        let grown : certificate_of next ≡ certificate_of cert ++ line ∷ [] =
        ap (λ ls. lines_of ls next.logs.literals.items next.logs.hints.items) a.lines
        ∙ ap (λ xs. lines_of (cert.lines.items ++ a.line ∷ []) xs next.logs.hints.items) a.added.literals_are
        ∙ ap (λ xs. lines_of (cert.lines.items ++ a.line ∷ []) (cert.logs.literals.items ++ a.added.literals) xs) a.added.hints_are
        ∙ one_more cert.lines.items a.line cert.logs.literals.items a.added.literals cert.logs.hints.items a.added.hints l.literals l.hints in
        let stacked : certificates.after (expected_of e) line ++ stack_of others ≡ stack_of after =
        ap (λ s. s ++ stack_of others) (after_same (expected_of e) a.line a.added.literals a.added.hints) ∙ sym a.expected in
        record {
          left = subst (λ before. ItemsLeft read_line certificates.after (read_items read_line certificates.after expected old) before (stack_of after) new.rest.now) (sym grown)
              (subst (λ s. ItemsLeft read_line certificates.after (read_items read_line certificates.after expected old) (certificate_of cert ++ line ∷ []) s new.rest.now) stacked
              (items-step read_line certificates.after (read_items read_line certificates.after expected old) (certificate_of cert) (expected_of e) (stack_of others) rest new.rest.now line at_top read shorter));
          literals = ap all_literals a.lines ∙ literals_more cert.lines.items a.line
              ∙ omega (arith, l.literals, a.added.literals_count, ap length a.added.literals_are, length-append cert.logs.literals.items a.added.literals);
          hints = ap all_hints a.lines ∙ hints_more cert.lines.items a.line
              ∙ omega (arith, l.hints, a.added.hints_count, ap length a.added.hints_are, length-append cert.logs.hints.items a.added.hints);
          within = omega (arith, shorter, l.within);
        }

    pub next_shorter : (from new : Cursor) → from.rest.now ≡ rest → (next : Cert) (after : List Group) → OneAdded (expected_of e) from new others after cert next → length new.rest.now < length rest
    next_shorter from new same next after a =
        line_shorter (expected_of e) rest new.rest.now (line_at a.line a.added.literals a.added.hints) (ap (read_line (expected_of e)) (sym same) ∙ a.added.read)

    pub lines_fail : (first from new : Cursor) → first.rest.now ≡ old → from.rest.now ≡ rest → (any : Cert) (s : Refusal TextFault) (stack_old stack_new : List Group) (before after : Cert)
        → AddsOne (expected_of e) from new stack_old stack_new before after (Err s) → ReadsLines (read_items read_line certificates.after expected) first new any (Err s)
    lines_fail first from new begin same any NoMemory stack_old stack_new before after h = tt
    lines_fail first from new begin same any (Fault Wrong) stack_old stack_new before after h =
        let read : read_line (expected_of e) rest ≡ refused new.rest.now = ap (read_line (expected_of e)) (sym same) ∙ h in (
          ap (read_items read_line certificates.after expected) begin ∙ lines_fault new.rest.now read,
          subst (λ o. length new.rest.now ≤ length o) (sym begin) (fault_within new.rest.now read),
        )

-- ---- the end of the bytes

abbrev lines : List ℕ → reading.Outcome ℕ (Unit {0}) (List spec.Line)
lines = read_items read_line certificates.after (certificates.AHeader ∷ [])

pub whole_fails : (old new : Cursor) (cert any : Cert) (s : Refusal TextFault) → ReadsLines lines old new cert (Err s) → ReadsWhole old new any (Err s)
whole_fails old new cert any NoMemory h = tt
whole_fails old new cert any (Fault Wrong) h = (ap (at_end (tt {0})) h.0, h.1)

pub whole_ends : (old new : Cursor) (cert : Cert) → ReadsLines lines old new cert (Ok tt) → new.rest.now ≡ [] → read_certificate old.rest.now ≡ Ok (certificate_of cert)
whole_ends old new cert h e = ap (at_end (tt {0})) (h.0 ∙ ap (given (certificate_of cert)) e)

pub whole_goes_on : (old new : Cursor) (cert : Cert) → ReadsLines lines old new cert (Ok tt) → 0 < length new.rest.now → read_certificate old.rest.now ≡ Err (reading.Wrong (tt {0}), new.rest.now)
whole_goes_on old new cert h l = ap (at_end (tt {0})) h.0 ∙ by_rest new.rest.now l
  where
    by_rest : (rest : List ℕ) → 0 < length rest → at_end (tt {0}) (given (certificate_of cert) rest) ≡ Err (reading.Wrong (tt {0}), rest)
    by_rest [] l = absurd (omega arith)
    by_rest (c ∷ rest) l = refl
