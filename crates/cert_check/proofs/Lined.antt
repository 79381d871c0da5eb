-- The lines of a certificate one after the other, and what a checker that is given them has come to.
use Rattle.std.proofs.Common.{◌≡◌, ◌∙◌, ◌⊎◌, inl, inr, ℕ, zero, suc, ◌+◌, ◌<◌, ◌≤◌, true, List, [], ◌∷◌, ◌++◌, length, get_or, take, drop, Option, Some, Ok, Err, refl, sym, ap, subst, arith, length-append, append-nil, take-append-drop}
use Rattle.std.specs.Prelude.{slice_get, option_map, option_and_then, replicate}
use Rattle.std.specs.Borrow.{Bor}
use Rattle.std.proofs.lemmas.Option.{slice_get-get_or, same_Some}
use Rattle.std.proofs.lemmas.List.{drop_all, drop_more, flat_map_more}
use Rattle.cert_text_parse.specs.declared.lines.Literal.{Literal}
use Rattle.cert_text_parse.specs.declared.lines.Line.{Line as CodeLine}
use Rattle.cert_text_parse.specs.declared.lines.Line.TheVariants as code
use Rattle.cert_text_parse.specs.Views.{line_at, literals_in, hints_in}
use Rattle.cert_text.specs.declared.certificates.Cert.{Cert}
use Rattle.cert_text.specs.Certificates.{lines_of, certificate_of, text_of}
use Rattle.cert_text.specs.Laws.{AreLines}
use Rattle.cert_text_spec.specs.Derivation.{Derives}
use Rattle.cert_text_spec.specs.Lines.{Line, Function, End, line_text}
use Rattle.cert_text_spec.specs.Certificates.{Expected, AHeader, AStep, Fits, after, can_stand, is_step}
use Rattle.tv_limits.specs.declared.Quantity.{Quantity}
use Rattle.cert_check_spec.specs.declared.RuleWord.{RuleWord}
use Rattle.cert_check_spec.specs.Verdict as spec
use Rattle.cert_check_lines_spec.specs.Sites.{Part}
use Rattle.cert_check_lines_spec.specs.Jobs.{Job}
use Rattle.cert_check_lines_spec.specs.LineRules as passing
use Rattle.cert_check_lines_spec.specs.LineRules.{Fault, Breaks, Above}
use Rattle.cert_check_lines_spec.specs.Parts as rules
use Rattle.cert_check_lines_spec.specs.Parts.{Functions, Member, State, Between}
use Rattle.cert_check_lines_spec.specs.Walk.{Progress, Going, Stopped, before_all, Takes, goes_on, stays, TakesAll, no_line, one_line}
use Rattle.cert_check_lines_spec.specs.Members.{members_of}
use Rattle.cert_check_lines_spec.specs.Known.{is_known, IsProof}
use Rattle.cert_check_lines_spec.proofs.Members.{no_functions}
use Rattle.cert_check.proofs.Picked.{members_listed}
use Rattle.attempt.specs.declared.refusal.Refusal.{Refusal}
use Rattle.attempt.specs.declared.refusal.Refusal.TheVariants as refusal
use Rattle.cert_check.specs.declared.fault.Named.{Named}
use Rattle.cert_check.specs.declared.fault.Named.TheVariants as named
use Rattle.cert_check.specs.declared.fault.NamedFault.{NamedFault}
use Rattle.cert_check.specs.declared.fault.NamedFault.TheVariants as broken
use Rattle.cert_check.specs.declared.fault.Placed.{Placed}
use Rattle.cert_check.specs.declared.logs.OpenLine.{OpenLine}
use Rattle.cert_check.specs.declared.checker.Checker.{Checker}
use Rattle.cert_check_frames.specs.declared.listed.Listed.{Listed}
use Rattle.cert_check_frames.specs.Listed.{AreListed}
use Rattle.cert_check.specs.Members.{AreMembers}
use Rattle.cert_check.specs.Walks.{between, Expecting, at_header, IsFaultName}
use Rattle.cert_check.specs.Logs.{no_log}
use Rattle.cert_check.specs.Checkers.{IsReady, steps_left, Expects, IsHere, IsNextLine, StopsAt, IsBegunBefore, Goes, IsNew}
use Rattle.cert_check.specs.Outcomes.{part_name, name_in, offset_of, IsFaultAt, IsChecked}
use Rattle.cert_check.proofs.Expected.{expected_at, never_none, nothing_left, ends, never_nothing}
use Rattle.cert_check.proofs.Checking.{shut}

-- ---- lines of the definition

-- a line is the first of those that are left
pub record IsAt (lines : List Line) (i : ℕ) (line : Line) : Type 0 where
  pub left : drop i lines ≡ line ∷ drop (i + 1) lines
  pub taken : take (i + 1) lines ≡ take i lines ++ line ∷ []

text_longer : (lines : List Line) (i : ℕ) (line : Line) → IsAt lines i line → length (text_of (take (i + 1) lines)) ≡ length (text_of (take i lines)) + length (line_text line)
text_longer lines i line at =
    ap (λ (l : List Line). length (text_of l)) at.taken
    ∙ ap length (sym (flat_map_more line_text [] (take i lines) line))
    ∙ length-append (text_of (take i lines)) (line_text line)

-- ---- the lines of the program

-- the lines from an index on take these literals and hints
abbrev pub AreLeft : Cert → (literals : List Literal) → (hints : List ℕ) → (i : ℕ) → Type 0
AreLeft cert literals hints i = drop i (certificate_of cert) ≡ lines_of (drop i cert.lines.items) literals hints

drop_next : (lines : List Line) (i : ℕ) (x : Line) (rest : List Line) → drop i lines ≡ x ∷ rest → (drop (i + 1) lines ≡ rest) × (take (i + 1) lines ≡ take i lines ++ x ∷ [])
drop_next [] i x rest is = absurd (omega (arith, sym (ap length (sym (drop_all i [] (omega arith)) ∙ is))))
drop_next (line ∷ lines) zero x rest is = ((cc), (cc))
drop_next (line ∷ lines) (suc i) x rest is =
    let more : suc (i + 1) ≡ suc i + 1 = omega arith in
    let next = drop_next lines i x rest is in (
      subst (λ (n : ℕ). drop n (line ∷ lines) ≡ rest) more next.0,
      subst (λ (n : ℕ). take n (line ∷ lines) ≡ take (suc i) (line ∷ lines) ++ x ∷ []) more (ap (λ (l : List Line). line ∷ l) next.1),
    )

-- the line of an index, with the literals and hints that are next
pub record IsLineAt (cert : Cert) (literals : List Literal) (hints : List ℕ) (i : ℕ) (line : CodeLine) : Type 0 where
  pub at : IsAt (certificate_of cert) i (line_at line literals hints)
  pub left : AreLeft cert (drop (literals_in line) literals) (drop (hints_in line) hints) (i + 1)

line_there : (cert : Cert) (literals : List Literal) (hints : List ℕ) (i : ℕ) (d : CodeLine) → i < length cert.lines.items → AreLeft cert literals hints i
    → IsLineAt cert literals hints i (get_or cert.lines.items i d)
unfolding lines_of
line_there cert literals hints i d within left =
    let line = get_or cert.lines.items i d in
    let here : drop i (certificate_of cert)
    ≡ line_at line literals hints ∷ lines_of (drop (i + 1) cert.lines.items) (drop (literals_in line) literals) (drop (hints_in line) hints) =
    left ∙ ap (λ (lines : List CodeLine). lines_of lines literals hints) (drop_more cert.lines.items i d within) in
    let next = drop_next (certificate_of cert) i (line_at line literals hints)
    (lines_of (drop (i + 1) cert.lines.items) (drop (literals_in line) literals) (drop (hints_in line) hints)) here in
    record { at = record { left = here ∙ ap (λ (l : List Line). line_at line literals hints ∷ l) (sym next.0); taken = next.1 }; left = next.0 }

-- the line that is read there
pub line_read : (cert : Cert) (literals : List Literal) (hints : List ℕ) (i : ℕ) (line : CodeLine) → i < length cert.lines.items → line ≡ get_or cert.lines.items i line
    → AreLeft cert literals hints i → IsLineAt cert literals hints i line
line_read cert literals hints i line within is left = subst (IsLineAt cert literals hints i) (sym is) (line_there cert literals hints i line within left)

all_lines : (cert : Cert) (literals : List Literal) (hints : List ℕ) (i : ℕ) → length cert.lines.items ≤ i → AreLeft cert literals hints i → drop i (certificate_of cert) ≡ []
unfolding lines_of
all_lines cert literals hints i past left = left ∙ ap (λ (lines : List CodeLine). lines_of lines literals hints) (drop_all i cert.lines.items past)

-- ---- lines that are taken

-- the last line is none inside a proof
never_end : (p : Part) (at : ℕ) (jobs : List Job) (line : Line) (more : List Job) → line ≡ End → passing.Passes p at jobs line more → ⊥
never_end p at _ _ _ is (passing.leaf origin f jobs terms leaves) = absurd (cc)
never_end p at _ _ _ is (passing.case origin f jobs symbols test read) = absurd (cc)
never_end p at _ _ _ is (passing.restrict_binary origin f jobs point node count terms is_point some leaves) = absurd (cc)
never_end p at _ _ _ is (passing.restrict_source origin f jobs point node count terms is_point some leaves) = absurd (cc)
never_end p at _ _ _ is (passing.split origin f jobs points nodes enter step relations are enters steps lets) = absurd (cc)
never_end p at _ _ _ is (passing.call origin f jobs points counts before later call binary source callee crosses) = absurd (cc)
never_end p at _ _ _ is (passing.relation origin f draft lines left jobs symbols t read) = absurd (cc)
never_end p at _ _ _ is (passing.no_log goal jobs small plain) = absurd (cc)
never_end p at _ _ _ is (passing.log goal jobs left small few) = absurd (cc)
never_end p at _ _ _ is (passing.step offset variables clauses left jobs one follows) = absurd (cc)
never_end p at _ _ _ is (passing.last_step offset variables clauses jobs one follows empty) = absurd (cc)

module _ (fs : Functions) (members : List Member) where
  abbrev All_taken : Progress → List Line → Progress → Type 0
  All_taken p lines q = TakesAll fs members is_known p lines q

  pub taken_then : (p q r : Progress) (lines more : List Line) → All_taken p lines q → All_taken q more r → All_taken p (lines ++ more) r
  taken_then p q r _ more (no_line _) rest = rest
  taken_then p q r _ more (one_line _ middle _ one lines first takes) rest = one_line p middle r one (lines ++ more) first (taken_then middle q r lines more takes rest)

  pub taken_one : (p q r : Progress) (lines : List Line) (one : Line) → All_taken p lines q → Takes fs members is_known q one r → All_taken p (lines ++ one ∷ []) r
  taken_one p q r lines one takes last = taken_then p q r lines (one ∷ []) takes (one_line q r r one [] last (no_line r))

  -- what has stopped stays so
  pub stay : (offset : ℕ) (name : List ℕ) (wrong : Fault) (lines : List Line) → All_taken (Stopped offset name wrong) lines (Stopped offset name wrong)
  stay offset name wrong [] = no_line (Stopped offset name wrong)
  stay offset name wrong (one ∷ lines) =
      one_line (Stopped offset name wrong) (Stopped offset name wrong) (Stopped offset name wrong) one lines (stays offset name wrong one) (stay offset name wrong lines)

  -- after the last line nothing is open
  pub ended : (line : Line) (at to : ℕ) (s next : State) → line ≡ End → Takes fs members is_known (Going at s) line (Going to next) → (parts : List Member) × (next ≡ Between parts)
  ended line at to s next is (goes_on _ _ _ _ known accepts) = by s line next is accepts
    where
      by : (s : State) (line : Line) (next : State) → line ≡ End → rules.Accepts fs members at s line next → (parts : List Member) × (next ≡ Between parts)
      by _ _ _ is rules.header = absurd (cc)
      by _ _ _ is (rules.function _ parts f has free) = absurd (cc)
      by _ _ _ is (rules.inline_code parts f u point node callee new calls is_new small) = absurd (cc)
      by _ _ _ is (rules.inline_source parts f u path call node callee new calls is_new small) = absurd (cc)
      by _ _ _ is (rules.first parts f u one jobs passes) = absurd (never_end _ at _ one _ is passes)
      by _ _ _ is (rules.next parts f u jobs more one passes) = absurd (never_end _ at _ one _ is passes)
      by _ _ _ is (rules.last _ parts has none) = (parts, refl)

-- the function that a fault names has the name
part_named : (line : CodeLine) (literals : List Literal) (hints : List ℕ) (name : List ℕ) (stack : ℕ) → line_at line literals hints ≡ Function name stack → part_name line ≡ Some name
part_named (code.Function part) literals hints name stack is = ap Some (ap name_of is)
  where
    name_of : Line → List ℕ
    name_of (Function n s) = n
    name_of other = []
part_named code.Header literals hints name stack is = absurd (cc)
part_named (code.InlineBinary p) literals hints name stack is = absurd (cc)
part_named (code.InlineSource p) literals hints name stack is = absurd (cc)
part_named (code.Leaf n) literals hints name stack is = absurd (cc)
part_named (code.Case t) literals hints name stack is = absurd (cc)
part_named (code.RestrictBinary r) literals hints name stack is = absurd (cc)
part_named (code.RestrictSource r) literals hints name stack is = absurd (cc)
part_named (code.Split s) literals hints name stack is = absurd (cc)
part_named (code.Call c) literals hints name stack is = absurd (cc)
part_named (code.Relation t) literals hints name stack is = absurd (cc)
part_named (code.Log n) literals hints name stack is = absurd (cc)
part_named (code.Step k h) literals hints name stack is = absurd (cc)
part_named code.End literals hints name stack is = absurd (cc)

pub fault_name : (codes : List Listed) (lines : List CodeLine) (i : ℕ) (line : CodeLine) (literals : List Literal) (hints : List ℕ) → i < length lines → line ≡ get_or lines i line
    → (function : Named) (name : List ℕ) → IsFaultName codes (line_at line literals hints) i function name → name_in codes lines function ≡ Some name
fault_name codes lines i line literals hints within there (named.Listed k) name is = ap (option_map (λ (f : Listed). f.name.now)) is.there ∙ ap Some is.named
fault_name codes lines i line literals hints within there (named.Line n) name is =
    ap (λ (k : ℕ). option_and_then part_name (slice_get lines k)) is.0
    ∙ (ap (option_and_then part_name) (slice_get-get_or lines i line within ∙ ap Some (sym there)) ∙ part_named line literals hints name is.1 is.2)

-- ---- what it has come to

-- it goes on, and what is expected derives the lines that are left; or the last line was given
pub data IsThere (codes : List Listed) (cert : Cert) (c : Checker) (i : ℕ) : Type 0 where
  going_on : (expected : List Expected) → Expects c expected → Derives Fits after expected (drop i (certificate_of cert))
      → ((fs : Functions) (members : List Member) → AreMembers codes members → (s : State) × IsHere members (offset_of cert) c s
      × All_taken fs members before_all (take i (certificate_of cert)) (Going (offset_of cert i) s)) → IsThere codes cert c i
  at_end : drop i (certificate_of cert) ≡ []
      → ((fs : Functions) (members : List Member) → AreMembers codes members → (parts : List Member)
      × All_taken fs members before_all (take i (certificate_of cert)) (Going (offset_of cert i) (Between parts))) → IsThere codes cert c i

pub record IsGiven (codes : List Listed) (cert : Cert) (c : Checker) (literals : List Literal) (hints : List ℕ) (i : ℕ) : Type 0 where
  pub listed : c.listed.now ≡ codes
  pub ready : IsReady c
  pub begun : IsBegunBefore i c
  pub left : AreLeft cert literals hints i
  pub there : IsThere codes cert c i

pub at_start : (codes : List Listed) (cert : Cert) (c : Checker) (literals : List Literal) (hints : List ℕ) → c.listed.now ≡ codes → IsNew c → AreLines (certificate_of cert)
    → literals ≡ cert.logs.literals.items → hints ≡ cert.logs.hints.items → IsGiven codes cert c literals hints 0
at_start codes cert c literals hints same new are literals_are hints_are = record {
  listed = same;
  ready = record {
    walk = record {
      indices = λ k d within. absurd (omega (arith, within, ap length new.parts));
      kept = λ before k function is there. absurd (omega (arith, ap length (sym new.parts ∙ is), length-append before (k ∷ [])));
    };
    log = λ current is. absurd (let both = sym new.log ∙ is in cc);
  };
  begun = λ current is. absurd (let both = sym new.log ∙ is in cc);
  left = sym (λ i. lines_of cert.lines.items (literals_are i) (hints_are i));
  there = going_on (AHeader ∷ [])
      (record { others = AHeader ∷ []; walk = at_header new.parts; is = sym (ap (λ log. replicate (steps_left log) AStep ++ AHeader ∷ []) new.log) }) are
      (λ fs members is. (Between [], no_log (Between []) new.log (between new.parts), no_line before_all));
}

module _ (codes : List Listed) (cert : Cert) (c : Checker) (literals : List Literal) (hints : List ℕ) (i : ℕ) (line : CodeLine) (given : IsGiven codes cert c literals hints i)
    (at_line : IsLineAt cert literals hints i line) where
  abbrev one : Line
  one = line_at line literals hints

  abbrev rest : List Line
  rest = drop (i + 1) (certificate_of cert)

  nothing_more : {X : Type 0} (x : X) (xs : List X) → x ∷ xs ≡ [] → ⊥
  nothing_more x xs e = absurd (cc)

  -- what is known before the line
  record Before : Type 0 where
    first : Expected
    others : List Expected
    allowed : can_stand first one ≡ true
    derives : Derives Fits after (after first one ++ others) rest
    expects : Expects c (first ∷ others)
    taken : (fs : Functions) (members : List Member) → AreMembers codes members → (s : State) × IsHere members (offset_of cert) c s
        × All_taken fs members before_all (take i (certificate_of cert)) (Going (offset_of cert i) s)

  before : Before
  before = by given.there
    where
      by : IsThere codes cert c i → Before
      by (at_end none taken) = absurd (nothing_more one rest (sym at_line.at.left ∙ none))
      by (going_on expected expects derives taken) =
          let e = expected_at expected one rest (subst (Derives Fits after expected) at_line.at.left derives) in
          record { first = e.first; others = e.others; allowed = e.allowed; derives = e.derives; expects = subst (Expects c) e.is expects; taken = taken }

  pub can_be_next : IsNextLine c one
  can_be_next = record { ready = given.ready; expected = before.first; others = before.others; expects = before.expects; allowed = before.allowed }

  are_here : (members : List Member) → AreMembers codes members → AreMembers c.listed.now members
  are_here members are = subst (λ (list : List Listed). AreMembers list members) (sym given.listed) are

  -- ---- it passes

  no_step_at_end : one ≡ End → is_step one ≡ true → ⊥
  no_step_at_end is h = let none : is_step End ≡ true = subst (λ (l : Line). is_step l ≡ true) is h in absurd (cc)

  -- after the last line nothing is expected
  none_expected : one ≡ End → after before.first one ++ before.others ≡ []
  none_expected is =
      ap (λ (l : Line). after before.first l ++ before.others) is
      ∙ ends c.walk before.first before.others (shut c one before.first before.others (no_step_at_end is) before.allowed before.expects).expecting
      (subst (λ (l : Line). can_stand before.first l ≡ true) is before.allowed)

  none_left : one ≡ End → rest ≡ []
  none_left is = nothing_left rest (subst (λ (l : List Expected). Derives Fits after l rest) (none_expected is) before.derives)

  module _ (now : Checker) (goes : Goes c now one i (Ok (tt {0}))) where
    not_ended : Expects now (after before.first one ++ before.others) → one ≡ End → ⊥
    not_ended expects is = by now.log (subst (Expects now) (none_expected is) expects)
      where
        by : (log : Option OpenLine) → Expects now [] → ⊥
        by log e = by_steps (steps_left now.log) e.is
          where
            by_steps : (n : ℕ) → [] ≡ replicate n AStep ++ e.others → ⊥
            by_steps zero none = never_nothing now.walk (subst (Expecting now.walk) (sym none) e.walk)
            by_steps (suc n) none = nothing_more AStep (replicate n AStep ++ e.others) (sym none)

    -- the line is taken too
    record After (fs : Functions) (members : List Member) : Type 0 where
      before_line : State
      state : State
      takes : Takes fs members is_known (Going (offset_of cert i) before_line) one (Going (offset_of cert i + length (line_text one)) state)
      here : (one ≡ End) ⊎ IsHere members (offset_of cert) now state
      all : All_taken fs members before_all (take (i + 1) (certificate_of cert)) (Going (offset_of cert (i + 1)) state)

    after_one : (fs : Functions) (members : List Member) → AreMembers codes members → After fs members
    after_one fs members are =
        let was = before.taken fs members are in
        let to = goes.leads fs members (offset_of cert) (are_here members are) was.0 was.1 in
        let all = taken_one fs members before_all (Going (offset_of cert i) was.0) (Going (offset_of cert i + length (line_text one)) to.0) (take i (certificate_of cert)) one was.2 to.1 in
        record {
          before_line = was.0;
          state = to.0;
          takes = to.1;
          here = to.2;
          all =
              subst (λ (l : List Line). All_taken fs members before_all l (Going (offset_of cert (i + 1)) to.0)) (sym at_line.at.taken)
              (subst (λ (n : ℕ). All_taken fs members before_all (take i (certificate_of cert) ++ one ∷ []) (Going n to.0)) (sym (text_longer (certificate_of cert) i one at_line.at)) all);
        }

    last_state : one ≡ End → (fs : Functions) (members : List Member) → AreMembers codes members → (parts : List Member)
        × All_taken fs members before_all (take (i + 1) (certificate_of cert)) (Going (offset_of cert (i + 1)) (Between parts))
    last_state is fs members are =
        let x = after_one fs members are in
        let end = ended fs members one (offset_of cert i) (offset_of cert i + length (line_text one)) x.before_line x.state is x.takes in
        (end.0, subst (λ (s : State). All_taken fs members before_all (take (i + 1) (certificate_of cert)) (Going (offset_of cert (i + 1)) s)) end.1 x.all)

    next_state : Expects now (after before.first one ++ before.others) → (fs : Functions) (members : List Member) → AreMembers codes members
        → (s : State) × IsHere members (offset_of cert) now s × All_taken fs members before_all (take (i + 1) (certificate_of cert)) (Going (offset_of cert (i + 1)) s)
    next_state expects fs members are = by (after_one fs members are)
      where
        of_here : (x : After fs members) → (one ≡ End) ⊎ IsHere members (offset_of cert) now x.state → IsHere members (offset_of cert) now x.state
        of_here x (inl last) = absurd (not_ended expects last)
        of_here x (inr here) = here

        by : After fs members
            → (s : State) × IsHere members (offset_of cert) now s × All_taken fs members before_all (take (i + 1) (certificate_of cert)) (Going (offset_of cert (i + 1)) s)
        by x = (x.state, of_here x x.here, x.all)

    there_next : (one ≡ End) ⊎ Expects now (after before.first one ++ before.others) → IsThere codes cert now (i + 1)
    there_next (inl last) = at_end (none_left last) (last_state last)
    there_next (inr expects) = going_on (after before.first one ++ before.others) expects before.derives (next_state expects)

    pub given_more : (ls : List Literal) (hs : List ℕ) → ls ≡ drop (literals_in line) literals → hs ≡ drop (hints_in line) hints → IsGiven codes cert now ls hs (i + 1)
    given_more ls hs ls_are hs_are = record {
      listed = ap (λ (b : Bor (List Listed)). b.now) goes.listed ∙ given.listed;
      ready = goes.ready;
      begun = goes.begun (i + 1) (omega arith) (λ current is. let earlier = given.begun current is in omega (arith, earlier));
      left = subst (λ (l : List Literal). AreLeft cert l hs (i + 1)) (sym ls_are) (subst (λ (l : List ℕ). AreLeft cert (drop (literals_in line) literals) l (i + 1)) (sym hs_are) at_line.left);
      there = there_next (goes.follows before.first before.others before.expects before.allowed);
    }

  -- ---- it doesn't

  all_cut : certificate_of cert ≡ take i (certificate_of cert) ++ one ∷ rest
  all_cut = sym (take-append-drop i (certificate_of cert)) ∙ ap (λ (l : List Line). take i (certificate_of cert) ++ l) at_line.at.left

  stopped : (fs : Functions) (members : List Member) (s : State) (offset : ℕ) (name : List ℕ) (wrong : Fault)
      → All_taken fs members before_all (take i (certificate_of cert)) (Going (offset_of cert i) s) → Takes fs members is_known (Going (offset_of cert i) s) one (Stopped offset name wrong)
      → All_taken fs members before_all (certificate_of cert) (Stopped offset name wrong)
  stopped fs members s offset name wrong taken takes =
      let stop = Stopped offset name wrong in
      subst (λ (l : List Line). All_taken fs members before_all l stop) (sym all_cut)
      (taken_then fs members before_all (Going (offset_of cert i) s) stop (take i (certificate_of cert)) (one ∷ rest) taken
      (one_line (Going (offset_of cert i) s) stop stop one rest takes (stay fs members offset name wrong rest)))

  module _ (now : Checker) (within : i < length cert.lines.items) (named_so : (function : Named) (name : List ℕ) → IsFaultName codes one i function name → name_in codes cert.lines.items function ≡ Some name)
      (placed : Placed) (goes : Goes c now one i (Err (refusal.Fault placed))) where
    stops_there : (fs : Functions) (members : List Member) → AreMembers codes members → (s : State) × All_taken fs members before_all (take i (certificate_of cert)) (Going (offset_of cert i) s)
        × StopsAt fs members (offset_of cert) c s one i placed.place placed.fault
    stops_there fs members are =
        let was = before.taken fs members are in
        (was.0, was.2, goes.leads fs members (offset_of cert) (are_here members are) was.0 was.1)

    of_listed : (listed : List spec.Listed) → AreListed codes listed → AreMembers codes (members_of listed)
    of_listed listed are = members_listed codes listed are

    broken_name : (function : Named) (rule : RuleWord) → placed.fault ≡ broken.Broken function rule → (fs : Functions) (members : List Member) → AreMembers codes members
        → (name : List ℕ) × (name_in codes cert.lines.items function ≡ Some name)
        × All_taken fs members before_all (certificate_of cert) (Stopped (offset_of cert placed.place) name (Breaks rule))
    broken_name function rule is fs members are =
        let x = stops_there fs members are in
        let stop = subst (StopsAt fs members (offset_of cert) c x.0 one i placed.place) is x.2 in
        let is_named = subst (λ (list : List Listed). IsFaultName list one i function stop.0) given.listed stop.1 in
        (stop.0, named_so function stop.0 is_named, stopped fs members x.0 (offset_of cert placed.place) stop.0 (Breaks rule) x.1 stop.2)

    broken_rule : (function : Named) (rule : RuleWord) → placed.fault ≡ broken.Broken function rule → (listed : List spec.Listed) → AreListed codes listed
        → IsFaultAt codes cert listed placed.place (broken.Broken function rule)
    broken_rule function rule is listed are =
        let some = broken_name function rule is no_functions (members_of listed) (of_listed listed are) in (
          some.0,
          some.1,
          λ fs.
              let x = broken_name function rule is fs (members_of listed) (of_listed listed are) in
              let one_name : x.0 ≡ some.0 = same_Some x.0 some.0 (sym x.1 ∙ some.1) in
              subst (λ (name : List ℕ). All_taken fs (members_of listed) before_all (certificate_of cert) (Stopped (offset_of cert placed.place) name (Breaks rule))) one_name x.2,
        )

    above_maximum : (q : Quantity) → placed.fault ≡ broken.Above q → (listed : List spec.Listed) → AreListed codes listed → IsFaultAt codes cert listed placed.place (broken.Above q)
    above_maximum q is listed are = λ fs.
        let members = members_of listed in
        let x = stops_there fs members (of_listed listed are) in
        let stop = subst (StopsAt fs members (offset_of cert) c x.0 one i placed.place) is x.2 in
        (stop.0, stopped fs members x.0 (offset_of cert placed.place) stop.0 (Above q) x.1 stop.1)

    fault_at : (fault : NamedFault) → placed.fault ≡ fault → (listed : List spec.Listed) → AreListed codes listed → IsFaultAt codes cert listed placed.place fault
    fault_at (broken.Broken function rule) is listed are = broken_rule function rule is listed are
    fault_at (broken.Above q) is listed are = above_maximum q is listed are

    is_fault : IsChecked codes cert (Err (refusal.Fault placed))
    is_fault = (
      goes.within (length cert.lines.items) within (λ current is. let earlier = given.begun current is in omega (arith, earlier, within)),
      λ listed are. fault_at placed.fault refl listed are,
    )

  pub is_wrong : (now : Checker) (within : i < length cert.lines.items) → line ≡ get_or cert.lines.items i line → (error : Refusal Placed) → Goes c now one i (Err error)
      → IsChecked codes cert (Err error)
  is_wrong now within is (refusal.Fault placed) goes =
      is_fault now within (fault_name codes cert.lines.items i line literals hints within is) placed goes
  is_wrong now within is refusal.NoMemory goes = tt

-- all lines were given
pub all_given : (codes : List Listed) (cert : Cert) (c : Checker) (literals : List Literal) (hints : List ℕ) (i : ℕ) → length cert.lines.items ≤ i → IsGiven codes cert c literals hints i
    → (listed : List spec.Listed) → AreListed codes listed → IsProof listed (certificate_of cert)
all_given codes cert c literals hints i past given listed are = λ fs. by fs (members_of listed) (members_listed codes listed are) given.there
  where
    none : drop i (certificate_of cert) ≡ []
    none = all_lines cert literals hints i past given.left

    whole : take i (certificate_of cert) ≡ certificate_of cert
    whole = sym (append-nil (take i (certificate_of cert))) ∙ ap (λ (l : List Line). take i (certificate_of cert) ++ l) (sym none) ∙ take-append-drop i (certificate_of cert)

    -- where something is expected a line is left
    never_going : (expected : List Expected) → Expects c expected → Derives Fits after expected [] → ⊥
    never_going [] expects derives = by_steps (steps_left c.log) expects.is
      where
        by_steps : (n : ℕ) → [] ≡ replicate n AStep ++ expects.others → ⊥
        by_steps zero is = never_nothing c.walk (subst (Expecting c.walk) (sym is) expects.walk)
        by_steps (suc n) is = absurd (cc)
    never_going (e ∷ others) expects derives = never_none e others derives

    by : (fs : Functions) (members : List Member) → AreMembers codes members → IsThere codes cert c i
        → (at : ℕ) × (parts : List Member) × TakesAll fs members is_known before_all (certificate_of cert) (Going at (Between parts))
    by fs members here (going_on expected expects derives taken) = absurd (never_going expected expects (subst (Derives Fits after expected) none derives))
    by fs members here (at_end _ taken) =
        let x = taken fs members here in
        (offset_of cert i, x.0, subst (λ (l : List Line). All_taken fs members before_all l (Going (offset_of cert i) (Between x.0))) whole x.1)
