-- A certificate that is a proof shows that its functions are valid.
use Rattle.std.proofs.Common.{◌≡◌, ℕ, true, List, [], ◌∷◌, ◌++◌, map, refl, sym, ap, subst, append_assoc}
use Rattle.std.specs.Prelude.{All}
use Rattle.std.proofs.lemmas.List.Elements.{All-nil, All-cons, All-head, All-tail}
use Rattle.cert_text_spec.specs.Derivation as derivation
use Rattle.cert_text_spec.specs.Derivation.{Derives}
use Rattle.cert_text_spec.specs.Lines.{Line, Header, Function as Begin, InlineBinary, InlineSource, Leaf, Case, RestrictBinary, RestrictSource, Split, Call, Relation, Log, LogStep, End}
use Rattle.cert_text_spec.specs.Certificates.{Expected, AHeader, TheParts, BinaryInlines, Fits, after, can_stand}
use Rattle.agreement_laws.specs.EntryFrame.{Pair}
use Rattle.cert_check_lines_spec.specs.Parts.{Member, Between, AreAccepted, IsPlainLine}
use Rattle.cert_check_lines_spec.specs.Members.{members_of}
use Rattle.cert_check_lines_spec.specs.Walk.{IsProof}
use Rattle.cert_check_lines_spec.specs.Known.{is_known}
use Rattle.cert_check_lines_spec.proofs.Members.{no_functions}
use Rattle.cert_check_lines_spec.proofs.Going.{going_is_accepted}
use Rattle.validity_laws.specs.Derivation.{Function}
use Rattle.validity_laws.specs.CheckStatements.{AreLines, listed_of, ProofsGiveValidity}
use Rattle.validity_laws.specs.Accepted.{member_for}
use Rattle.validity_laws.proofs.Accepted.{accepted_is_valid}

-- ---- the last line is the end

record EndsSo (lines : List Line) : Type 0 where
  before : List Line
  is : lines ≡ before ++ End ∷ []

one_more : (line : Line) (lines : List Line) → EndsSo lines → EndsSo (line ∷ lines)
one_more line lines so = record { before = line ∷ so.before; is = ap (λ (l : List Line). line ∷ l) so.is }

nothing_left : (lines : List Line) → Derives Fits after [] lines → lines ≡ []
nothing_left _ derivation.none = refl

cons_nothing : {X : Type 0} (xs : List X) (x : X) (ys : List X) → xs ++ x ∷ ys ≡ [] → ⊥
cons_nothing [] x ys e = absurd (cc)
cons_nothing (y ∷ xs) x ys e = absurd (cc)

at_part : (line : Line) (lines : List Line) → can_stand TheParts line ≡ true
    → ((es : List Expected) → Derives Fits after (es ++ TheParts ∷ []) lines → EndsSo lines) → Derives Fits after (after TheParts line ++ []) lines → EndsSo (line ∷ lines)
at_part (Begin name stack) lines allowed more derives = one_more (Begin name stack) lines (more (BinaryInlines ∷ []) derives)
at_part End lines allowed more derives = record { before = []; is = ap (λ (l : List Line). End ∷ l) (nothing_left lines derives) }
at_part Header lines allowed more derives = absurd (cc)
at_part (InlineBinary point) lines allowed more derives = absurd (cc)
at_part (InlineSource point) lines allowed more derives = absurd (cc)
at_part (Leaf logs) lines allowed more derives = absurd (cc)
at_part (Case symbols) lines allowed more derives = absurd (cc)
at_part (RestrictBinary point count) lines allowed more derives = absurd (cc)
at_part (RestrictSource point count) lines allowed more derives = absurd (cc)
at_part (Split points enter step relations) lines allowed more derives = absurd (cc)
at_part (Call points counts before later) lines allowed more derives = absurd (cc)
at_part (Relation t) lines allowed more derives = absurd (cc)
at_part (Log steps) lines allowed more derives = absurd (cc)
at_part (LogStep l) lines allowed more derives = absurd (cc)

record First (e : Expected) (others : List Expected) (line : Line) (lines : List Line) : Type 0 where
  stands : can_stand e line ≡ true
  rest : Derives Fits after (after e line ++ others) lines

first_line : (e : Expected) (others : List Expected) (line : Line) (lines : List Line) → Derives Fits after (e ∷ others) (line ∷ lines) → First e others line lines
first_line _ _ _ _ (derivation.some e others line lines fits derives) = record { stands = fits.stands; rest = derives }

none_at_all : (e : Expected) (others : List Expected) → Derives Fits after (e ∷ others) [] → ⊥
none_at_all e others derives = elim derives [ ]

ends_so : (lines : List Line) (es : List Expected) → Derives Fits after (es ++ TheParts ∷ []) lines → EndsSo lines
ends_so [] [] derives = absurd (none_at_all TheParts [] derives)
ends_so [] (e ∷ es) derives = absurd (none_at_all e (es ++ TheParts ∷ []) derives)
ends_so (line ∷ lines) [] derives =
    let first = first_line TheParts [] line lines derives in
    at_part line lines first.stands (λ es more. ends_so lines es more) first.rest
ends_so (line ∷ lines) (e ∷ es) derives =
    let first = first_line e (es ++ TheParts ∷ []) line lines derives in
    one_more line lines (ends_so lines (after e line ++ es) (subst (λ (l : List Expected). Derives Fits after l lines) (sym (append_assoc (after e line) es (TheParts ∷ []))) first.rest))

certificate_ends : (lines : List Line) → AreLines lines → EndsSo lines
certificate_ends [] derives = absurd (none_at_all AHeader [] derives)
certificate_ends (line ∷ lines) derives = one_more line lines (ends_so lines [] (first_line AHeader [] line lines derives).rest)

-- ---- its lines inline no call

IsKnownLine : Line → Type 0
IsKnownLine line = is_known line ≡ true

plain_line : (line : Line) → is_known line ≡ true → IsPlainLine line
plain_line (InlineBinary point) known = absurd (cc)
plain_line (InlineSource point) known = absurd (cc)
plain_line Header known = tt
plain_line (Begin name stack) known = tt
plain_line (Leaf logs) known = tt
plain_line (Case symbols) known = tt
plain_line (RestrictBinary point count) known = tt
plain_line (RestrictSource point count) known = tt
plain_line (Split points enter step relations) known = tt
plain_line (Call points counts before later) known = tt
plain_line (Relation t) known = tt
plain_line (Log steps) known = tt
plain_line (LogStep l) known = tt
plain_line End known = tt

abbrev Known : Line → Type 0
Known line = is_known line ≡ true

plain_before : (lines more : List Line) → All Known (lines ++ more) → All IsPlainLine lines
plain_before [] more known = All-nil IsPlainLine
plain_before (line ∷ lines) more known =
    All-cons IsPlainLine line lines (plain_line line (All-head Known line (lines ++ more) known)) (plain_before lines more (All-tail Known line (lines ++ more) known))

-- ---- the functions

members_are : (q : Pair) (firsts : List (List (ℕ × ℕ))) (functions : List Function) → members_of (map (listed_of q firsts) functions) ≡ map (member_for q firsts) functions
members_are q firsts [] = refl
members_are q firsts (g ∷ functions) = ap (λ (l : List Member). member_for q firsts g ∷ l) (members_are q firsts functions)

pub proofs_give_validity : ProofsGiveValidity
proofs_give_validity q firsts functions lines sides file are named spelled proof g among stack =
    let members = map (member_for q firsts) functions in
    let takes = subst (λ (ms : List Member). IsProof no_functions ms is_known lines) (members_are q firsts functions) (proof no_functions) in
    let accepted = going_is_accepted no_functions members is_known lines takes.0 (Between takes.1) takes.2 in
    let so = certificate_ends lines spelled in
    accepted_is_valid q firsts functions no_functions so.before (Between takes.1) sides file are named
    (plain_before so.before (End ∷ []) (subst (All Known) so.is accepted.1))
    (subst (λ (l : List Line). AreAccepted no_functions members 0 (Between []) l (Between takes.1)) so.is accepted.0) g among stack
