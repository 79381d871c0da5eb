-- What the bytes that came so far have become after one call more.
use Rattle.std.specs.Prelude.{◌-◌, ◌^◌, min, take, drop}
use Rattle.std.proofs.Common.{◌≡◌, ℕ, ◌+◌, ◌<◌, ◌≤◌, true, List, [], ◌∷◌, ◌++◌, length, Option, Some, None, Err, refl, ap, sym, ◌∙◌, subst, append_assoc, append-nil, arith, length-append, ◌⊎◌, inl, inr}
use Rattle.std.proofs.lemmas.List.{length-take-le, take-append-drop, take_rest}
use Rattle.std.proofs.Math.Nat.{min-le_left, le-min}
use Rattle.tv_limits.specs.declared.TheConstants.{MAX_CERTIFICATE_BYTES}
use Rattle.cert_text_spec.specs.Lines as spec
use Rattle.cert_text_spec.specs.Certificates.{Expected, AHeader, TheParts, BinaryInlines, SourceInlines, AProof, ARelation, ALog, AStep, after, IsCertificate, IsFault}
use Rattle.cert_text_laws.specs.Readers.{refused}
use Rattle.cert_text_laws.specs.Lines.{read_line}
use Rattle.cert_text_parse.specs.declared.lines.Literal.{Literal}
use Rattle.cert_text_parse.specs.declared.lines.Logs.{Logs}
use Rattle.cert_text_parse.specs.declared.lines.Line.{Line}
use Rattle.cert_text_parse.specs.declared.lines.Line.TheVariants as code
use Rattle.cert_text_parse.specs.Views.{line_at, line_of}
use Rattle.cert_text.specs.declared.stack.Group.{Group}
use Rattle.cert_text.specs.Stack.{stack_of}
use Rattle.cert_text.proofs.Groups.{none_stacked}
use Rattle.attempt.specs.declared.refusal.Refusal.{Refusal}
use Rattle.attempt.specs.declared.refusal.Refusal.TheVariants.{Fault, NoMemory}
use Rattle.cert_text_feed.specs.declared.faults.FeedFault.{FeedFault}
use Rattle.cert_text_feed.specs.declared.faults.FeedFault.TheVariants.{TooLong, Refused}
use Rattle.cert_text_feed.specs.declared.feed.TextLine.{TextLine}
use Rattle.cert_text_feed.specs.Readings.{Leads, no_line, text_of, is_open, IsWrong}
use Rattle.cert_text_feed.specs.Feeds.{Progress, IsGoing, IsAt, IsFed, line_in, GivesLine, TakesAll, IsEnd}
use Rattle.cert_text_feed.specs.Steps.{Parses, Takes, IsLineEnd, IsParsed, IsBad, nothing_more, is_amiss, IsGiven, IsLater, Refuses}
use Rattle.cert_text_feed.proofs.Endings.{EndsOnce, open-append}
use Rattle.cert_text_feed.proofs.Reading.{IsLineOf, whole_line, wrong_line, no_line_in_rest, more_lines, leads_on, derives_all, fault_in_line, fault_at_end}

pub going : (bytes : List ℕ) (lines : List spec.Line) (p : Progress) → p.fault ≡ None → IsFed bytes lines p → IsGoing bytes lines p
going bytes lines p e h = subst (λ f. IsAt f bytes lines p) e h

pub fed : (bytes : List ℕ) (lines : List spec.Line) (p : Progress) (fault : Option FeedFault) → p.fault ≡ fault → IsAt fault bytes lines p → IsFed bytes lines p
fed bytes lines p fault e h = subst (λ f. IsAt f bytes lines p) (sym e) h

-- ---- no bytes

pub nothing_yet : (stack old : List Group) (line : List ℕ) → stack_of stack ≡ AHeader ∷ stack_of old → old ≡ [] → line ≡ []
    → IsGoing [] [] (record { expected = stack_of stack; rest = line; taken = 0; fault = None })
nothing_yet stack old line e o l =
    record {
      counted = refl;
      within = omega arith;
      reading = record {
        leads = subst (λ x. Leads (AHeader ∷ []) [] x) (sym (e ∙ ap (λ s. AHeader ∷ stack_of s) o ∙ ap (λ s. AHeader ∷ s) none_stacked)) (no_line (AHeader ∷ []));
        cut = sym l;
        unended = ap is_open l;
      };
    }

-- ---- after a fault

-- a fault of the bytes with the piece, if they are not too many
abbrev pub IsCause : FeedFault → (bytes piece : List ℕ) → (taken : ℕ) → Type 0
IsCause TooLong bytes piece taken = MAX_CERTIFICATE_BYTES < length bytes + length piece
IsCause (Refused offset) bytes piece taken = (taken ≡ length bytes) × (length bytes ≤ MAX_CERTIFICATE_BYTES) × IsWrong (bytes ++ piece) offset

pub takes_refused : (fault later : FeedFault) (bytes : List ℕ) (lines : List spec.Line) (piece left : List ℕ) (old new : Progress) → Refuses fault piece left old new later
    → IsCause fault bytes piece old.taken → TakesAll bytes lines (Some later) piece left new
takes_refused fault later bytes lines piece left old new r cause =
    record { used = r.used; fed = fed (bytes ++ piece) lines new (Some later) r.kept (by_later fault later r.is cause); is = r.kept }
  where
    by_later : (fault later : FeedFault) → IsLater fault old.taken (length piece) later → IsCause fault bytes piece old.taken → IsAt (Some later) (bytes ++ piece) lines new
    by_later TooLong later (inl h) cause = subst (λ f. IsAt (Some f) (bytes ++ piece) lines new) (sym h.0) (omega (arith, cause, length-append bytes piece))
    by_later TooLong later (inr h) cause = subst (λ f. IsAt (Some f) (bytes ++ piece) lines new) (sym h.0) (omega (arith, cause, length-append bytes piece))
    by_later (Refused offset) later (inl h) cause = subst (λ f. IsAt (Some f) (bytes ++ piece) lines new) (sym h.0) (omega (arith, cause.0, h.1, length-append bytes piece))
    by_later (Refused offset) later (inr h) cause =
        subst (λ f. IsAt (Some f) (bytes ++ piece) lines new) (sym h.0)
        (record {
          counted = r.counted (omega (arith, cause.0, cause.1, h.1)) ∙ ap (λ n. n + length piece) cause.0 ∙ sym (length-append bytes piece);
          within = omega (arith, cause.0, cause.1, h.1, length-append bytes piece);
          wrong = cause.2;
        })

-- the fault that is kept
pub cause_kept : (fault : FeedFault) (bytes : List ℕ) (lines : List spec.Line) (piece : List ℕ) (p : Progress) → p.fault ≡ Some fault → IsFed bytes lines p → IsCause fault bytes piece p.taken
cause_kept fault bytes lines piece p e h = by_fault fault (subst (λ f. IsAt f bytes lines p) e h)
  where
    by_fault : (fault : FeedFault) → IsAt (Some fault) bytes lines p → IsCause fault bytes piece p.taken
    by_fault TooLong h = omega (arith, h)
    by_fault (Refused offset) h = (h.counted, h.within, λ more. subst (λ t. IsFault t offset) (sym (append_assoc bytes piece more)) (h.wrong (piece ++ more)))

pub again : (fault later : FeedFault) (taken more : ℕ) → IsLater fault taken more later → (later ≡ fault) ⊎ (later ≡ TooLong)
again fault later taken more (inl h) = inr h.0
again fault later taken more (inr h) = inl h.0

-- ---- a piece in which no line ends

pub takes_part : (bytes : List ℕ) (lines : List spec.Line) (piece left : List ℕ) (old new : Progress) → IsGoing bytes lines old → length bytes + length piece ≤ MAX_CERTIFICATE_BYTES → is_open piece ≡ true
    → new.expected ≡ old.expected → new.rest ≡ old.rest ++ piece → new.taken ≡ old.taken + length piece → new.fault ≡ None → left ≡ [] → TakesAll bytes lines None piece left new
takes_part bytes lines piece left old new g within no_end e r t f used =
    record {
      used = used;
      fed = fed (bytes ++ piece) lines new None f
          (record {
            counted = t ∙ ap (λ n. n + length piece) g.counted ∙ sym (length-append bytes piece);
            within = omega (arith, within, length-append bytes piece);
            reading = record {
              leads = subst (λ x. Leads (AHeader ∷ []) lines x) (sym e) g.reading.leads;
              cut = ap (λ b. b ++ piece) g.reading.cut ∙ append_assoc (text_of lines) old.rest piece ∙ ap (λ x. text_of lines ++ x) (sym r);
              unended = ap is_open r ∙ open-append old.rest piece g.reading.unended no_end;
            };
          });
      is = f;
    }

-- ---- a line

-- what follows a line does not depend on literals and hints
after_same : (e : Expected) (line : Line) (literals : List Literal) (hints : List ℕ) → after e (line_at line literals hints) ≡ after e (line_of line)
after_same AHeader (code.Step k h) literals hints = refl
after_same TheParts (code.Step k h) literals hints = refl
after_same BinaryInlines (code.Step k h) literals hints = refl
after_same SourceInlines (code.Step k h) literals hints = refl
after_same (AProof room) (code.Step k h) literals hints = refl
after_same ARelation (code.Step k h) literals hints = refl
after_same ALog (code.Step k h) literals hints = refl
after_same AStep (code.Step k h) literals hints = refl
after_same e code.Header literals hints = refl
after_same e (code.Function b) literals hints = refl
after_same e (code.InlineBinary b) literals hints = refl
after_same e (code.InlineSource b) literals hints = refl
after_same e (code.Leaf n) literals hints = refl
after_same e (code.Case b) literals hints = refl
after_same e (code.RestrictBinary b) literals hints = refl
after_same e (code.RestrictSource b) literals hints = refl
after_same e (code.Split b) literals hints = refl
after_same e (code.Call b) literals hints = refl
after_same e (code.Relation b) literals hints = refl
after_same e (code.Log n) literals hints = refl
after_same e code.End literals hints = refl

-- the text of a line that had begun before the piece
pub ended : (piece rest : List ℕ) (n : ℕ) → IsLineEnd piece (Some n) → is_open rest ≡ true → EndsOnce (rest ++ take n piece)
ended piece rest n h o =
    record { front = rest ++ h.0; is = ap (λ t. rest ++ t) h.1 ∙ sym (append_assoc rest h.0 (10 ∷ [])); unended = open-append rest h.0 o h.2 }

pub gives_line : (bytes : List ℕ) (lines : List spec.Line) (piece front left text kept : List ℕ) (one : TextLine) (start : ℕ) (stack_old stack_new : List Group) (old new : Progress) → IsGoing bytes lines old
    → length bytes + length front ≤ MAX_CERTIFICATE_BYTES → piece ≡ front ++ left → 0 < length front → text ≡ old.rest ++ front → EndsOnce text → start ≡ old.taken - length old.rest
    → IsGiven start text kept stack_old stack_new one → stack_of stack_old ≡ old.expected → new.expected ≡ stack_of stack_new → new.rest ≡ kept → new.taken ≡ old.taken + length front → new.fault ≡ None
    → GivesLine bytes lines one piece left new
gives_line bytes lines piece front left text kept one start stack_old stack_new old new g within cut some is ends begin given_one was e r t f =
    record {
      front = front;
      cut = cut;
      some = some;
      placed = record { offset = given_one.offset ∙ at_start; literals = p.literals; hints = p.hints };
      fed = fed (bytes ++ front) (lines ++ line_in one ∷ []) new None f
          (record {
            counted = t ∙ ap (λ n. n + length front) g.counted ∙ sym (length-append bytes front);
            within = omega (arith, within, length-append bytes front);
            reading = record { leads = leads; cut = bytes_cut; unended = ap is_open nothing };
          });
      going = f;
      ended = nothing;
    }
  where
    p : IsParsed given_one.taken.e text one.logs one.line
    p = given_one.taken.parsed

    nothing : new.rest ≡ []
    nothing = r ∙ given_one.gone

    at_start : start ≡ length (text_of lines)
    at_start = omega (arith, begin, g.counted, ap length g.reading.cut, length-append (text_of lines) old.rest)

    line : IsLineOf given_one.taken.e text (line_in one) p.left
    line = whole_line given_one.taken.e text p.left (line_in one) ends p.read

    here : Leads (AHeader ∷ []) lines (given_one.taken.e ∷ given_one.taken.others)
    here = subst (λ x. Leads (AHeader ∷ []) lines x) (sym was ∙ given_one.taken.was) g.reading.leads

    leads : Leads (AHeader ∷ []) (lines ++ line_in one ∷ []) new.expected
    leads =
        subst (λ x. Leads (AHeader ∷ []) (lines ++ line_in one ∷ []) x)
        (ap (λ a. a ++ given_one.taken.others) (after_same given_one.taken.e one.line one.logs.literals.items one.logs.hints.items) ∙ sym given_one.taken.now ∙ sym e)
        (leads_on (AHeader ∷ []) given_one.taken.others lines given_one.taken.e (line_in one) here line.fits)

    bytes_cut : bytes ++ front ≡ text_of (lines ++ line_in one ∷ []) ++ new.rest
    bytes_cut =
        ap (λ b. b ++ front) g.reading.cut ∙ append_assoc (text_of lines) old.rest front ∙ ap (λ x. text_of lines ++ x) (sym is ∙ line.is) ∙ sym (more_lines lines (line_in one))
        ∙ sym (append-nil (text_of (lines ++ line_in one ∷ []))) ∙ ap (λ x. text_of (lines ++ line_in one ∷ []) ++ x) (sym nothing)

-- a line that has ended is wrong, and so are the bytes whatever follows
pub cause_found : (bytes : List ℕ) (lines : List spec.Line) (piece front left text : List ℕ) (start offset : ℕ) (stack : List Group) (old : Progress) → IsGoing bytes lines old
    → piece ≡ front ++ left → text ≡ old.rest ++ front → EndsOnce text → start ≡ old.taken - length old.rest → stack_of stack ≡ old.expected → IsBad text stack offset
    → (place : ℕ) → place ≡ start + offset → (taken : ℕ) → taken ≡ old.taken → IsCause (Refused place) bytes piece taken
cause_found bytes lines piece front left text start offset stack old g cut is ends begin was bad place there taken same =
    (same ∙ g.counted, g.within, λ more. subst (λ t. IsFault t place) (sym (whole more)) (subst (λ n. IsFault (text_of lines ++ (text ++ (left ++ more))) n) (sym (there ∙ ap (λ n. n + offset) at_start)) (by_bad bad (left ++ more))))
  where
    at_start : start ≡ length (text_of lines)
    at_start = omega (arith, begin, g.counted, ap length g.reading.cut, length-append (text_of lines) old.rest)

    whole : (more : List ℕ) → (bytes ++ piece) ++ more ≡ text_of lines ++ (text ++ (left ++ more))
    whole more =
        ap (λ t. (bytes ++ t) ++ more) cut ∙ ap (λ t. (t ++ (front ++ left)) ++ more) g.reading.cut ∙ parts (text_of lines) old.rest front left more
        ∙ ap (λ t. text_of lines ++ (t ++ (left ++ more))) (sym is)
      where
        parts : (a b c d e : List ℕ) → ((a ++ b) ++ (c ++ d)) ++ e ≡ a ++ ((b ++ c) ++ (d ++ e))
        parts a b c d e = simp append_assoc

    some_byte : (tail : List ℕ) → 0 < length (text ++ tail)
    some_byte tail = omega (arith, ap length ends.is, length-append ends.front (10 ∷ []), length-append text tail)

    at_byte : (rest : List ℕ) → 0 < length rest → Leads (AHeader ∷ []) lines [] → IsFault (text_of lines ++ rest) (length (text_of lines) + 0)
    at_byte [] long leads = absurd (omega arith)
    at_byte (c ∷ rest) long leads = subst (λ n. IsFault (text_of lines ++ c ∷ rest) n) (omega arith) (fault_at_end lines c rest leads)

    by_bad : IsBad text stack offset → (tail : List ℕ) → IsFault (text_of lines ++ (text ++ tail)) (length (text_of lines) + offset)
    by_bad (nothing_more none zero) tail =
        subst (λ n. IsFault (text_of lines ++ (text ++ tail)) (length (text_of lines) + n)) (sym zero)
        (at_byte (text ++ tail) (some_byte tail) (subst (λ x. Leads (AHeader ∷ []) lines x) (sym was ∙ none) g.reading.leads))
    by_bad (is_amiss e others at amiss) tail =
        fault_in_line lines e others (text ++ tail) (amiss.left ++ tail) offset (subst (λ x. Leads (AHeader ∷ []) lines x) (sym was ∙ at) g.reading.leads)
        (wrong_line e text amiss.left ends amiss.read tail) (omega (arith, amiss.sum, length-append amiss.left tail, length-append text tail))

-- ---- the same at a place of the piece

-- a count that does not reach the end of words
pub added_small : (taken more sum : ℕ) → sum ≡ min (taken + more) (2 ^ 64 - 1) → taken + more ≤ MAX_CERTIFICATE_BYTES → sum ≡ taken + more
added_small taken more sum e h =
    let low : taken + more ≤ min (taken + more) (2 ^ 64 - 1) = le-min (omega arith) (omega arith) in
    omega (arith, e, low, min-le_left (taken + more) (2 ^ 64 - 1))

piece_cut : (piece : List ℕ) (n : ℕ) → piece ≡ take n piece ++ take (length piece - n) (drop n piece)
piece_cut piece n = sym (take-append-drop n piece) ∙ ap (λ t. take n piece ++ t) (sym (take_rest piece n))

pub gives_at : (bytes : List ℕ) (lines : List spec.Line) (piece : List ℕ) (n : ℕ) (text kept : List ℕ) (one : TextLine) (start : ℕ) (stack_old stack_new : List Group) (old new : Progress) → IsGoing bytes lines old
    → length bytes + n ≤ MAX_CERTIFICATE_BYTES → IsLineEnd piece (Some n) → text ≡ old.rest ++ take n piece → start ≡ old.taken - length old.rest
    → IsGiven start text kept stack_old stack_new one → stack_of stack_old ≡ old.expected → new.expected ≡ stack_of stack_new → new.rest ≡ kept → new.taken ≡ min (old.taken + n) (2 ^ 64 - 1) → new.fault ≡ None
    → GivesLine bytes lines one piece (take (length piece - n) (drop n piece)) new
gives_at bytes lines piece n text kept one start stack_old stack_new old new g within h is begin given_one was e r t f =
    let long : length (take n piece) ≡ n = length-take-le n piece h.3 in
    gives_line bytes lines piece (take n piece) (take (length piece - n) (drop n piece)) text kept one start stack_old stack_new old new g (omega (arith, within, long)) (piece_cut piece n)
    (omega (arith, ap length h.1, length-append h.0 (10 ∷ []))) is
    (subst EndsOnce (sym is) (ended piece old.rest n h g.reading.unended)) begin given_one was e r
    (added_small old.taken n new.taken t (omega (arith, within, g.counted)) ∙ ap (λ k. old.taken + k) (sym long)) f

pub cause_at : (bytes : List ℕ) (lines : List spec.Line) (piece : List ℕ) (n : ℕ) (text : List ℕ) (start offset : ℕ) (stack : List Group) (old : Progress) → IsGoing bytes lines old
    → length bytes + n ≤ MAX_CERTIFICATE_BYTES → IsLineEnd piece (Some n) → text ≡ old.rest ++ take n piece → start ≡ old.taken - length old.rest → stack_of stack ≡ old.expected → IsBad text stack offset
    → (place taken : ℕ) → place ≡ min (start + offset) (2 ^ 64 - 1) → taken ≡ old.taken → IsCause (Refused place) bytes piece taken
cause_at bytes lines piece n text start offset stack old g within h is begin was bad place taken there same =
    cause_found bytes lines piece (take n piece) (take (length piece - n) (drop n piece)) text start offset stack old g (piece_cut piece n) is
    (subst EndsOnce (sym is) (ended piece old.rest n h g.reading.unended)) begin was bad place (added_small start offset place there small) taken same
  where
    offset_within : IsBad text stack offset → offset ≤ length text
    offset_within (nothing_more none zero) = omega (arith, zero)
    offset_within (is_amiss e others at amiss) = omega (arith, amiss.sum)

    small : start + offset ≤ MAX_CERTIFICATE_BYTES
    small =
        omega (arith, offset_within bad, ap length is, length-append old.rest (take n piece), length-take-le n piece h.3, within, begin, g.counted, ap length g.reading.cut, length-append (text_of lines) old.rest)

-- ---- the end

pub ends_whole : (bytes : List ℕ) (lines : List spec.Line) (p : Progress) → IsGoing bytes lines p → p.expected ≡ [] → p.rest ≡ [] → (length bytes ≤ MAX_CERTIFICATE_BYTES) × IsCertificate bytes lines
ends_whole bytes lines p g e r = (
  g.within,
  record {
    derives = derives_all (AHeader ∷ []) lines (subst (λ x. Leads (AHeader ∷ []) lines x) e g.reading.leads);
    cut = g.reading.cut ∙ ap (λ t. text_of lines ++ t) r ∙ append-nil (text_of lines);
  },
)

starts : (bytes : List ℕ) (lines : List spec.Line) (p : Progress) → IsGoing bytes lines p → p.taken - length p.rest ≡ length (text_of lines)
starts bytes lines p g = omega (arith, g.counted, ap length g.reading.cut, length-append (text_of lines) p.rest)

-- bytes follow the last line
pub ends_late : (bytes : List ℕ) (lines : List spec.Line) (p : Progress) → IsGoing bytes lines p → p.expected ≡ [] → 0 < length p.rest
    → (length bytes ≤ MAX_CERTIFICATE_BYTES) × IsFault bytes (p.taken - length p.rest)
ends_late bytes lines p g e long =
    (g.within, subst (λ t. IsFault t (p.taken - length p.rest)) (sym g.reading.cut) (subst (λ n. IsFault (text_of lines ++ p.rest) n) (sym (starts bytes lines p g)) (at_byte p.rest long)))
  where
    leads : Leads (AHeader ∷ []) lines []
    leads = subst (λ x. Leads (AHeader ∷ []) lines x) e g.reading.leads

    at_byte : (rest : List ℕ) → 0 < length rest → IsFault (text_of lines ++ rest) (length (text_of lines))
    at_byte [] long = absurd (omega arith)
    at_byte (c ∷ rest) long = fault_at_end lines c rest leads

-- a line is missing, or has not ended
pub ends_early : (bytes : List ℕ) (lines : List spec.Line) (p : Progress) (e : Expected) (others : List Expected) (offset place : ℕ) → IsGoing bytes lines p → p.expected ≡ e ∷ others
    → ((left : List ℕ) → read_line e p.rest ≡ refused left → offset + length left ≡ length p.rest) → place ≡ p.taken - length p.rest + offset
    → (length bytes ≤ MAX_CERTIFICATE_BYTES) × IsFault bytes place
ends_early bytes lines p e others offset place g is missing there =
    let w = no_line_in_rest e p.rest g.reading.unended in (
      g.within,
      subst (λ t. IsFault t place) (sym g.reading.cut)
          (subst (λ n. IsFault (text_of lines ++ p.rest) n) (sym (there ∙ ap (λ n. n + offset) (starts bytes lines p g)))
          (fault_in_line lines e others p.rest w.0 offset (subst (λ x. Leads (AHeader ∷ []) lines x) is g.reading.leads) w.1 (missing w.0 w.1))),
    )

-- the same at a sum that does not reach the end of words
pub ends_at : (bytes : List ℕ) (lines : List spec.Line) (p : Progress) (e : Expected) (others : List Expected) (start offset place : ℕ) → IsGoing bytes lines p → p.expected ≡ e ∷ others
    → ((left : List ℕ) → read_line e p.rest ≡ refused left → offset + length left ≡ length p.rest) → start ≡ p.taken - length p.rest → place ≡ min (start + offset) (2 ^ 64 - 1)
    → (length bytes ≤ MAX_CERTIFICATE_BYTES) × IsFault bytes place
ends_at bytes lines p e others start offset place g is missing begin there =
    let w = no_line_in_rest e p.rest g.reading.unended in
    let inside : offset ≤ length p.rest = omega (arith, missing w.0 w.1) in
    let small : start + offset ≤ MAX_CERTIFICATE_BYTES = omega (arith, inside, begin, g.within, g.counted, ap length g.reading.cut, length-append (text_of lines) p.rest) in
    ends_early bytes lines p e others offset place g is missing (added_small start offset place there small ∙ ap (λ n. n + offset) begin)

-- a fault that was kept is the end's
pub ends_kept : (bytes : List ℕ) (lines : List spec.Line) (p : Progress) (fault : FeedFault) → p.fault ≡ Some fault → IsFed bytes lines p → IsEnd bytes lines (Err (Fault fault))
ends_kept bytes lines p fault e h = by_fault fault (subst (λ f. IsAt f bytes lines p) e h)
  where
    by_fault : (fault : FeedFault) → IsAt (Some fault) bytes lines p → IsEnd bytes lines (Err (Fault fault))
    by_fault TooLong h = h
    by_fault (Refused offset) h = (h.within, subst (λ t. IsFault t offset) (append-nil bytes) (h.wrong []))

pub none_of : (o : Option FeedFault) → ((fault : FeedFault) → o ≡ Some fault → ⊥) → o ≡ None
none_of None h = refl
none_of (Some fault) h = absurd (h fault refl)

-- an error of parsing is that of the line
pub takes_error : (text : List ℕ) (stack : List Group) (logs : Logs) (e : Expected) (others : List Expected) (error : Refusal ℕ) → stack_of stack ≡ e ∷ others → Parses e text logs (Err error) → Takes text stack stack logs (Err error)
takes_error text stack logs e others NoMemory was h = refl
takes_error text stack logs e others (Fault offset) was h = is_amiss e others was h
