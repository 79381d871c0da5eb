-- The certificate of functions that a Leaf proves with its logs is a proof of them.
use Rattle.std.proofs.Common.{◌≡◌, ◌≢◌, ◌∙◌, ◌+◌, ◌<◌, ◌^◌, ℕ, suc, true, false, List, [], ◌∷◌, ◌++◌, length, map, refl, sym, ap, subst, arith, append_assoc, append-nil, length-append, bytes_eq}
use Rattle.std.specs.Prelude.{All, Contains, replicate, flat_map}
use Rattle.std.specs.List.{IsDistinct, AllByRecursion}
use Rattle.std.proofs.lemmas.List.Elements.{All-nil, All-cons, All-head, All-tail, All-append}
use Rattle.std.proofs.lemmas.Slice.Eq.{bytes_eq-Decides}
use Rattle.std.proofs.lemmas.Bool.{both_ways}
use Rattle.memory_spec.specs.Runs.{Run}
use Rattle.term_core_spec.specs.Term.{Term}
use Rattle.clause_check_spec.specs.Log as clauses
use Rattle.cert_text_spec.specs.Derivation as derivation
use Rattle.cert_text_spec.specs.Derivation.{Derives}
use Rattle.cert_text_spec.specs.Lines.{Line, Header, Function, Leaf, Log, LogStep, End, IsStep, line_text}
use Rattle.cert_text_spec.specs.Certificates.{IsCertificate, Expected, AHeader, TheParts, BinaryInlines, ALog, AStep, Fits, after}
use Rattle.cert_check_spec.specs.declared.RuleWord.TheVariants.{Missing}
use Rattle.cert_check_spec.specs.Verdict.{Listed, IsMissing}
use Rattle.cert_check_lines_spec.specs.Sites.{Part as PartOf}
use Rattle.cert_check_lines_spec.specs.Jobs.{AtEntry, Job, Prove, Close}
use Rattle.cert_check_lines_spec.specs.LineRules as rules
use Rattle.cert_check_lines_spec.specs.LineRules.{Breaks, Passes}
use Rattle.cert_check_lines_spec.specs.Shown.{Pass, none, some}
use Rattle.cert_check_lines_spec.specs.Parts as walk
use Rattle.cert_check_lines_spec.specs.Parts.{Functions, Member, unfolded, part_of, State, Between, Unfolding, Inside, HasParts, at_start, at_close, LacksPart, Accepts}
use Rattle.cert_check_lines_spec.specs.Walk as walks
use Rattle.cert_check_lines_spec.specs.Walk.{Progress, Going, Stopped, before_all, TakesAll}
use Rattle.cert_check_lines_spec.specs.Members.{members_of}
use Rattle.cert_check_lines_spec.specs.Known.{is_known, IsProof, IsFault}
use Rattle.cert_check_lines_spec.proofs.Members.{are_members}
use Rattle.cert_check_lines_spec.proofs.Stepping.{closing_passes}
use Rattle.prove_run_spec.specs.Proofs.{HasProof, AreClosedBy}
use Rattle.cert_run_spec.specs.Verdict.{IsOutcome, Broken, broken, proof, Part, log_lines, proof_lines, proofs_lines, written_lines, end_offset}
use Rattle.cert_run_spec.specs.Laws.{CanWrite, LoggedIsProof, LoggedMissesOthers}
use Rattle.cert_run_spec.proofs.Apart.{mapped_from}

unfoldable pub Distinct : List Listed → Type 0
Distinct [] = Unit {0}
Distinct (f ∷ left) = All (λ (g : Listed). f.name ≢ g.name) left × Distinct left

abbrev pub function_of : Part → Listed
function_of p = p.function

abbrev pub IsProved : Part → Type 0
IsProved p = HasProof p.function p.logs

-- ---- logs

same_length : (runs : List Run) (terms : List Term) (logs : List (List clauses.Step)) → AreClosedBy runs terms logs → length terms ≡ length logs
unfolding AreClosedBy
same_length runs [] [] closed = refl
same_length runs [] (log ∷ logs) closed = absurd closed
same_length runs (t ∷ terms) [] closed = absurd closed
same_length runs (t ∷ terms) (log ∷ logs) closed = ap suc (same_length runs terms logs closed.1)

size_of : (line : Line) (lines : List Line) → length (flat_map line_text (line ∷ lines)) ≡ length (line_text line) + length (flat_map line_text lines)
size_of line lines = length-append (line_text line) (flat_map line_text lines)

-- after these lines
abbrev past : (at : ℕ) → List Line → ℕ
past at lines = at + length (flat_map line_text lines)

past_more : (at : ℕ) (line : Line) (lines : List Line) → past (at + length (line_text line)) lines ≡ past at (line ∷ lines)
past_more at line lines = let size = size_of line lines in omega (arith, size)

past_both : (at : ℕ) (lines more : List Line) → past (past at lines) more ≡ past at (lines ++ more)
past_both at [] more = omega arith
past_both at (line ∷ lines) more =
    let size = size_of line lines in
    let whole = size_of line (lines ++ more) in
    let rest = past_both (at + length (line_text line)) lines more in
    omega (arith, size, whole, rest)

pass_both : (p : PartOf) (at : ℕ) (jobs middle last : List Job) (lines more : List Line) → Pass p at jobs lines middle → Pass p (past at lines) middle more last → Pass p at jobs (lines ++ more) last
pass_both p at jobs _ last _ more (none _ _) rest =
    let same : at + 0 ≡ at = omega arith in
    subst (λ (n : ℕ). Pass p n jobs more last) same rest
pass_both p at jobs middle last _ more (some _ _ next _ line lines passes left) rest =
    some at jobs next last line (lines ++ more) passes
    (pass_both p (at + length (line_text line)) next middle last lines more left (subst (λ (n : ℕ). Pass p n middle more last) (sym (past_more at line lines)) rest))

-- logs that close the obligations pass one after the other
logs_pass : (p : PartOf) (at : ℕ) (terms : List Term) (logs : List (List clauses.Step)) → AreClosedBy p.runs terms logs → Pass p at (map Close terms ++ []) (flat_map log_lines logs) []
unfolding AreClosedBy
logs_pass p at [] [] closed = none at []
logs_pass p at [] (log ∷ logs) closed = absurd closed
logs_pass p at (t ∷ terms) [] closed = absurd closed
logs_pass p at (t ∷ terms) (log ∷ logs) closed =
    pass_both p at (Close t ∷ (map Close terms ++ [])) (map Close terms ++ []) [] (log_lines log) (flat_map log_lines logs) (closing_passes p at t (map Close terms ++ []) log closed.0)
    (logs_pass p (past at (log_lines log)) terms logs closed.1)

-- ---- lines that are taken

abbrev IsKnownLine : Line → Type 0
IsKnownLine line = is_known line ≡ true

steps_known : (log : List clauses.Step) → All IsKnownLine (map LogStep log)
steps_known [] = All-nil IsKnownLine
steps_known (x ∷ log) = All-cons IsKnownLine (LogStep x) (map LogStep log) refl (steps_known log)

logs_known : (logs : List (List clauses.Step)) → All IsKnownLine (flat_map log_lines logs)
logs_known [] = All-nil IsKnownLine
logs_known (log ∷ logs) =
    All-append IsKnownLine (log_lines log) (flat_map log_lines logs) (All-cons IsKnownLine (Log (length log)) (map LogStep log) refl (steps_known log)) (logs_known logs)

module _ (fs : Functions) (members : List Member) where
  abbrev Leads : (at : ℕ) → State → List Line → State → Type 0
  Leads at s lines end = TakesAll fs members is_known (Going at s) lines (Going (past at lines) end)

  leads_none : (at : ℕ) (s : State) → Leads at s [] s
  leads_none at s =
      let same : at + 0 ≡ at = omega arith in
      subst (λ (n : ℕ). TakesAll fs members is_known (Going at s) [] (Going n s)) (sym same) (walks.no_line (Going at s))

  leads_one : (at : ℕ) (s between end : State) (line : Line) (lines : List Line) → is_known line ≡ true → Accepts fs members at s line between
      → Leads (at + length (line_text line)) between lines end → Leads at s (line ∷ lines) end
  leads_one at s between end line lines known accepts rest =
      walks.one_line (Going at s) (Going (at + length (line_text line)) between) (Going (past at (line ∷ lines)) end) line lines (walks.goes_on at s between line known accepts)
      (subst (λ (n : ℕ). TakesAll fs members is_known (Going (at + length (line_text line)) between) lines (Going n end)) (past_more at line lines) rest)

  taken_both : (p q r : Progress) (lines more : List Line) → TakesAll fs members is_known p lines q → TakesAll fs members is_known q more r → TakesAll fs members is_known p (lines ++ more) r
  taken_both p q r _ more (walks.no_line _) rest = rest
  taken_both p q r _ more (walks.one_line _ middle _ one lines first takes) rest = walks.one_line p middle r one (lines ++ more) first (taken_both middle q r lines more takes rest)

  leads_both : (at : ℕ) (s between end : State) (lines more : List Line) → Leads at s lines between → Leads (past at lines) between more end → Leads at s (lines ++ more) end
  leads_both at s between end lines more x y =
      subst (λ (n : ℕ). TakesAll fs members is_known (Going at s) (lines ++ more) (Going n end)) (past_both at lines more)
      (taken_both (Going at s) (Going (past at lines) between) (Going (past (past at lines) more) end) lines more x y)

  pass_leads : (parts : List Member) (f : Member) (at : ℕ) (jobs last : List Job) (lines : List Line) → All IsKnownLine lines
      → Pass (part_of parts f (unfolded f)) at jobs lines last → Leads at (Inside parts f (unfolded f) jobs) lines (Inside parts f (unfolded f) last)
  pass_leads parts f at jobs _ _ known (none _ _) = leads_none at (Inside parts f (unfolded f) jobs)
  pass_leads parts f at jobs last _ known (some _ _ next _ line lines passes rest) =
      leads_one at (Inside parts f (unfolded f) jobs) (Inside parts f (unfolded f) next) (Inside parts f (unfolded f) last) line lines (All-head IsKnownLine line lines known)
      (walk.next parts f (unfolded f) jobs next line passes)
      (pass_leads parts f (at + length (line_text line)) next last lines (All-tail IsKnownLine line lines known) rest)

-- ---- the walk

pub middle : (done left : List Listed) (f : Listed) → Contains (done ++ f ∷ left) f
middle [] left f = (0, omega arith, refl)
middle (g ∷ done) left f = let (k, below, is) = middle done left f in (suc k, omega (arith, below), is)

pub proofs_are : (left : List Part) → proofs_lines left ≡ flat_map proof_lines left ++ End ∷ []
unfolding proofs_lines
proofs_are [] = refl
proofs_are (p ∷ left) =
    ap (λ (l : List Line). proof_lines p ++ l) (proofs_are left) ∙ sym (append_assoc (proof_lines p) (flat_map proof_lines left) (End ∷ []))

abbrev listed_in : Member → Listed
listed_in m = m.listed

-- the member of a listed function
record IsMember (members : List Member) (f : Listed) : Type 0 where
  member : Member
  among : Contains members member
  is : member.listed ≡ f

member_in : (members : List Member) (f : Listed) → Contains (map listed_in members) f → IsMember members f
member_in members f there = let (m, among, is) = mapped_from listed_in members f there in record { member = m; among = among; is = is }

module _ (listed : List Listed) where
  abbrev IsAmong : Part → Type 0
  IsAmong p = Contains listed p.function

  all_among : (done : List Listed) (left : List Part) → done ++ map function_of left ≡ listed → All IsAmong left
  all_among done [] whole = All-nil IsAmong
  all_among done (p ∷ left) whole =
      All-cons IsAmong p left (subst (λ (l : List Listed). Contains l p.function) whole (middle done (map function_of left) p.function))
      (all_among (done ++ p.function ∷ []) left (append_assoc done (p.function ∷ []) (map function_of left) ∙ whole))

  none_missing : (parts : List Listed) (f : Listed) → parts ≡ listed → IsMissing listed parts f → ⊥
  none_missing parts f all is =
      missing (subst (λ (l : List Listed). Contains l f) (sym (all ∙ is.cut)) (middle is.before is.after f))
    where
      missing : Contains parts f → ⊥
      missing (k, below, same) = is.none k f below (ap (λ (g : Listed). g.name) same)

  module _ (fs : Functions) (members : List Member) (are : map listed_in members ≡ listed) where
    -- a part of a function that has none yet
    record Led (at : ℕ) (s : State) (p : Part) (parts : List Member) : Type 0 where
      member : Member
      is : member.listed ≡ p.function
      leads : Leads fs members at s (proof_lines p) (Inside parts member (unfolded member) [])

    free_names : (parts : List Member) (name : List ℕ) → All (λ (other : Listed). other.name ≢ name) (map listed_in parts) → All (λ (other : Member). other.listed.name ≢ name) parts
    free_names [] name free = All-nil (λ (other : Member). other.listed.name ≢ name)
    free_names (m ∷ parts) name free =
        All-cons (λ (other : Member). other.listed.name ≢ name) m parts (All-head (λ (other : Listed). other.name ≢ name) m.listed (map listed_in parts) free)
        (free_names parts name (All-tail (λ (other : Listed). other.name ≢ name) m.listed (map listed_in parts) free))

    part_leads : (at : ℕ) (s : State) (p : Part) (parts : List Member) → HasParts s parts → Contains listed p.function
        → All (λ (other : Listed). other.name ≢ p.function.name) (map listed_in parts) → IsProved p → Led at s p parts
    part_leads at s p parts has among free is =
        let m = member_in members p.function (subst (λ (l : List Listed). Contains l p.function) (sym are) among) in
        record { member = m.member; is = m.is; leads = by m.member m.among m.is }
      where
        by : (f : Member) → Contains members f → f.listed ≡ p.function → Leads fs members at s (proof_lines p) (Inside parts f (unfolded f) [])
        by f there same =
            let proof_of : HasProof f.listed p.logs = subst (λ (g : Listed). HasProof g p.logs) (sym same) is in
            let logs = flat_map log_lines p.logs in
            let opened = Unfolding parts f (unfolded f) in
            let jobs = map Close proof_of.terms ++ [] in
            let first = at + length (line_text (Function p.function.name p.function.stack)) in
            let second = first + length (line_text (Leaf (length p.logs))) in
            let part = part_of parts f (unfolded f) in
            let free_here : All (λ (other : Member). other.listed.name ≢ f.listed.name) parts =
            subst (λ (name : List ℕ). All (λ (other : Member). other.listed.name ≢ name) parts) (sym (ap (λ (g : Listed). g.name) same)) (free_names parts p.function.name free) in
            let begins : Accepts fs members at s (Function p.function.name p.function.stack) opened =
            subst (λ (g : Listed). Accepts fs members at s (Function g.name g.stack) opened) same
            (walk.function s parts f has (record { is_listed = there; named = refl; free = free_here })) in
            let passes : Passes part first (Prove AtEntry f.listed.frame ∷ []) (Leaf (length p.logs)) jobs =
            subst (λ (n : ℕ). Passes part first (Prove AtEntry f.listed.frame ∷ []) (Leaf n) jobs) (same_length f.listed.runs proof_of.terms p.logs proof_of.closed)
            (rules.leaf AtEntry f.listed.frame [] proof_of.terms (record { acyclic = proof_of.acyclic; small = proof_of.small; obligations = proof_of.are })) in
            leads_one fs members at s opened (Inside parts f (unfolded f) []) (Function p.function.name p.function.stack) (Leaf (length p.logs) ∷ logs) refl begins
            (leads_one fs members first opened (Inside parts f (unfolded f) jobs) (Inside parts f (unfolded f) []) (Leaf (length p.logs)) logs refl
            (walk.first parts f (unfolded f) (Leaf (length p.logs)) jobs passes)
            (pass_leads fs members parts f second jobs [] logs (logs_known p.logs) (logs_pass part second proof_of.terms p.logs proof_of.closed)))

    -- after these parts
    record Walked (done : List Listed) (left : List Part) (at : ℕ) (s : State) : Type 0 where
      state : State
      parts : List Member
      has : HasParts state parts
      parts_are : map listed_in parts ≡ done ++ map function_of left
      leads : Leads fs members at s (flat_map proof_lines left) state

    pushed : (parts : List Member) (m : Member) → map listed_in (parts ++ m ∷ []) ≡ map listed_in parts ++ m.listed ∷ []
    pushed [] m = refl
    pushed (x ∷ parts) m = ap (λ (l : List Listed). x.listed ∷ l) (pushed parts m)

    parts_lead : (done : List Listed) (left : List Part) (at : ℕ) (s : State) (parts : List Member) → HasParts s parts → map listed_in parts ≡ done → All IsAmong left → All IsProved left
        → Distinct (map function_of left) → ((f : Listed) → Contains (map function_of left) f → All (λ (other : Listed). other.name ≢ f.name) done) → Walked done left at s
    unfolding Distinct
    parts_lead done [] at s parts has are_done among each apart free =
        record { state = s; parts = parts; has = has; parts_are = are_done ∙ sym (append-nil done); leads = leads_none fs members at s }
    parts_lead done (p ∷ left) at s parts has are_done among each apart free =
        let f = p.function in
        let led = part_leads at s p parts has (All-head IsAmong p left among)
        (subst (All (λ (other : Listed). other.name ≢ f.name)) (sym are_done) (free f (0, omega arith, refl))) (All-head IsProved p left each) in
        let inside = Inside parts led.member (unfolded led.member) [] in
        let more : map listed_in (parts ++ led.member ∷ []) ≡ done ++ f ∷ [] =
        pushed parts led.member ∙ (ap (λ (l : List Listed). l ++ led.member.listed ∷ []) are_done ∙ ap (λ (g : Listed). done ++ g ∷ []) led.is) in
        let rest = parts_lead (done ++ f ∷ []) left (past at (proof_lines p)) inside (parts ++ led.member ∷ []) (at_close parts led.member (unfolded led.member)) more
        (All-tail IsAmong p left among) (All-tail IsProved p left each) apart.1 later in
        record {
          state = rest.state;
          parts = rest.parts;
          has = rest.has;
          parts_are = rest.parts_are ∙ append_assoc done (f ∷ []) (map function_of left);
          leads = leads_both fs members at s inside rest.state (proof_lines p) (flat_map proof_lines left) led.leads rest.leads;
        }
      where
        later : (g : Listed) → Contains (map function_of left) g → All (λ (other : Listed). other.name ≢ g.name) (done ++ p.function ∷ [])
        later g (k, below, is) =
            All-append (λ (other : Listed). other.name ≢ g.name) done (p.function ∷ []) (free g (suc k, omega (arith, below), is))
            (All-cons (λ (other : Listed). other.name ≢ g.name) p.function [] (λ same. apart.0 k g below (same ∙ ap (λ (h : Listed). h.name) (sym is)))
            (All-nil (λ (other : Listed). other.name ≢ g.name)))

    abbrev start : ℕ
    start = 0 + length (line_text Header)

    -- from the first line on
    all_lead : (left : List Part) → All IsAmong left → All IsProved left → Distinct (map function_of left) → Walked [] left start (Between [])
    all_lead left among each apart =
        parts_lead [] left start (Between []) [] (at_start []) refl among each apart (λ f inside. All-nil (λ (other : Listed). other.name ≢ f.name))

    header_first : (left : List Part) (q : Progress) → TakesAll fs members is_known (Going start (Between [])) (flat_map proof_lines left ++ End ∷ []) q
        → TakesAll fs members is_known before_all (written_lines left) q
    header_first left q rest =
        walks.one_line before_all (Going start (Between [])) q Header (proofs_lines left) (walks.goes_on 0 (Between []) (Between []) Header refl walk.header)
        (subst (λ (l : List Line). TakesAll fs members is_known (Going start (Between [])) l q) (sym (proofs_are left)) rest)

    proves_there : (left : List Part) → map function_of left ≡ listed → All IsProved left → Distinct (map function_of left) → walks.IsProof fs members is_known (written_lines left)
    proves_there left whole each apart =
        let walked = all_lead left (all_among [] left whole) each apart in
        let lines = flat_map proof_lines left in
        let end = past start lines + length (line_text End) in
        let no_lack : (f : Listed) → LacksPart members walked.parts f → ⊥ = λ f is.
        none_missing (map listed_in walked.parts) f (walked.parts_are ∙ whole) (subst (λ (l : List Listed). IsMissing l (map listed_in walked.parts) f) are is) in (
          end,
          walked.parts,
          header_first left (Going end (Between walked.parts))
              (taken_both fs members (Going start (Between [])) (Going (past start lines) walked.state) (Going end (Between walked.parts)) lines (End ∷ []) walked.leads
              (walks.one_line (Going (past start lines) walked.state) (Going end (Between walked.parts)) (Going end (Between walked.parts)) End []
              (walks.goes_on (past start lines) walked.state (Between walked.parts) End refl (walk.last walked.state walked.parts walked.has no_lack))
              (walks.no_line (Going end (Between walked.parts))))),
        )

    misses_there : (left : List Part) (f : Listed) → All IsAmong left → All IsProved left → Distinct (map function_of left) → IsMissing listed (map function_of left) f
        → walks.IsFault fs members is_known (written_lines left) (end_offset left) f.name (Breaks Missing)
    misses_there left f among each apart missing =
        let walked = all_lead left among each apart in
        let lines = flat_map proof_lines left in
        let at = past start lines in
        let size = size_of Header lines in
        let same : at ≡ end_offset left = omega (arith, size) in
        let stop = Stopped (end_offset left) f.name (Breaks Missing) in
        let lacks : LacksPart members walked.parts f =
        subst (λ (l : List Listed). IsMissing l (map listed_in walked.parts) f) (sym are) (subst (λ (l : List Listed). IsMissing listed l f) (sym walked.parts_are) missing) in
        header_first left stop
        (taken_both fs members (Going start (Between [])) (Going at walked.state) stop lines (End ∷ []) walked.leads
        (subst (λ (n : ℕ). TakesAll fs members is_known (Going at walked.state) (End ∷ []) (Stopped n f.name (Breaks Missing))) same
        (walks.one_line (Going at walked.state) (Stopped at f.name (Breaks Missing)) (Stopped at f.name (Breaks Missing)) End []
        (walks.stops at walked.state End at f.name (Breaks Missing) refl (walk.lacking walked.state walked.parts f walked.has lacks)) (walks.no_line (Stopped at f.name (Breaks Missing))))))

  pub proves_parts : (left : List Part) → map function_of left ≡ listed → All IsProved left → Distinct (map function_of left) → IsProof listed (written_lines left)
  proves_parts left whole each apart = λ fs. proves_there fs (members_of listed) (are_members listed) left whole each apart

  pub misses_parts : (left : List Part) (f : Listed) → All IsAmong left → All IsProved left → Distinct (map function_of left) → IsMissing listed (map function_of left) f
      → IsFault listed (written_lines left) (end_offset left) f.name Missing
  misses_parts left f among each apart missing = λ fs. misses_there fs (members_of listed) (are_members listed) left f among each apart missing

-- ---- its spelling

steps_derive : (log : List clauses.Step) (others : List Expected) (lines : List Line) → All IsStep log → Derives Fits after others lines
    → Derives Fits after (replicate (length log) AStep ++ others) (map LogStep log ++ lines)
steps_derive [] others lines each more = more
steps_derive (x ∷ log) others lines each more =
    derivation.some AStep (replicate (length log) AStep ++ others) (LogStep x) (map LogStep log ++ lines) (record { stands = refl; is = All-head IsStep x log each })
    (steps_derive log others lines (All-tail IsStep x log each) more)

abbrev IsSmall : List clauses.Step → Type 0
IsSmall log = length log < 2 ^ 32

abbrev AreOfSteps : List clauses.Step → Type 0
AreOfSteps log = All IsStep log

logs_derive : (logs : List (List clauses.Step)) (others : List Expected) (lines : List Line) → All IsSmall logs → All AreOfSteps logs → Derives Fits after others lines
    → Derives Fits after (replicate (length logs) ALog ++ others) (flat_map log_lines logs ++ lines)
logs_derive [] others lines small each more = more
logs_derive (log ∷ logs) others lines small each more =
    let expected = replicate (length logs) ALog ++ others in
    let rest = flat_map log_lines logs ++ lines in
    subst (λ (l : List Line). Derives Fits after (ALog ∷ expected) (Log (length log) ∷ l)) (sym (append_assoc (map LogStep log) (flat_map log_lines logs) lines))
    (derivation.some ALog expected (Log (length log)) (map LogStep log ++ rest) (record { stands = refl; is = All-head IsSmall log logs small })
    (steps_derive log expected rest (All-head AreOfSteps log logs each)
    (logs_derive logs others lines (All-tail IsSmall log logs small) (All-tail AreOfSteps log logs each) more)))

derives_parts : (left : List Part) → All CanWrite left → Derives Fits after (TheParts ∷ []) (proofs_lines left)
unfolding proofs_lines
derives_parts [] each = derivation.some TheParts [] End [] (record { stands = refl; is = tt }) derivation.none
derives_parts (p ∷ left) each =
    let can = All-head CanWrite p left each in
    derivation.some TheParts [] (Function p.function.name p.function.stack) _ (record { stands = refl; is = (can.named, can.small) })
    (derivation.some BinaryInlines (TheParts ∷ []) (Leaf (length p.logs)) _ (record { stands = refl; is = can.counted })
    (logs_derive p.logs (TheParts ∷ []) (proofs_lines left) can.sizes can.each (derives_parts left (All-tail CanWrite p left each))))

-- ---- the law

apart_from : (f : Listed) (left : List Listed) → AllByRecursion (λ (name : List ℕ). bytes_eq f.name name ≡ false) (map (λ (g : Listed). g.name) left)
    → All (λ (g : Listed). f.name ≢ g.name) left
apart_from f [] apart = All-nil (λ (g : Listed). f.name ≢ g.name)
apart_from f (g ∷ left) apart =
    All-cons (λ (h : Listed). f.name ≢ h.name) g left (λ same. both_ways (bytes_eq f.name g.name) apart.0 ((bytes_eq-Decides f.name g.name).1 same))
    (apart_from f left apart.1)

pub distinct : (listed : List Listed) → IsDistinct bytes_eq (map (λ (f : Listed). f.name) listed) → Distinct listed
unfolding IsDistinct Distinct
distinct [] apart = tt
distinct (f ∷ listed) apart = (apart_from f listed apart.0, distinct listed apart.1)

names_of : (parts : List Part) → map (λ (p : Part). p.function.name) parts ≡ map (λ (f : Listed). f.name) (map function_of parts)
names_of [] = refl
names_of (p ∷ parts) = ap (λ (names : List (List ℕ)). p.function.name ∷ names) (names_of parts)

-- the lines are those of a certificate
is_certificate : (parts : List Part) → All CanWrite parts → IsCertificate (flat_map line_text (written_lines parts)) (written_lines parts)
is_certificate parts can =
    record { derives = derivation.some AHeader [] Header (proofs_lines parts) (record { stands = refl; is = tt }) (derives_parts parts can); cut = refl }

functions_distinct : (parts : List Part) → IsDistinct bytes_eq (map (λ (p : Part). p.function.name) parts) → Distinct (map function_of parts)
functions_distinct parts apart = distinct (map function_of parts) (subst (IsDistinct bytes_eq) (names_of parts) apart)

pub logged_is_proof : LoggedIsProof
logged_is_proof parts apart each can =
    proof (written_lines parts) (is_certificate parts can) (proves_parts (map function_of parts) parts refl each (functions_distinct parts apart))

pub logged_misses : (listed : List Listed) (parts : List Part) (f : Listed) → All (IsAmong listed) parts → Distinct (map function_of parts) → All IsProved parts → All CanWrite parts
    → IsMissing listed (map function_of parts) f → IsOutcome listed (flat_map line_text (written_lines parts)) (Broken f.name (end_offset parts) Missing)
logged_misses listed parts f among apart each can missing =
    broken (written_lines parts) f.name (end_offset parts) Missing (is_certificate parts can) (misses_parts listed parts f among each apart missing)

pub logged_misses_others : LoggedMissesOthers
logged_misses_others listed parts f among apart each can missing = logged_misses listed parts f among (functions_distinct parts apart) each can missing
