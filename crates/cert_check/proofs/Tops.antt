-- What the grammar expects before and after a line inside a part.
use Rattle.std.proofs.Common.{◌≡◌, ◌∙◌, ℕ, ◌-◌, true, false, zero, suc, Box, Vec, Global, List, [], ◌∷◌, ◌++◌, length, refl, sym, ap, subst, arith, append_assoc, append-nil}
use Rattle.std.specs.Prelude.{replicate}
use Rattle.std.proofs.lemmas.List.{same_from_push}
use Rattle.cert_text_spec.specs.declared.Symbol.{Symbol}
use Rattle.cert_text_spec.specs.Lines.{Line, Leaf, Case, Log, RestrictBinary, RestrictSource, Split, Relation}
use Rattle.cert_text_spec.specs.Certificates.{Expected, TheParts, AProof, ARelation, ALog, after, can_stand, root_room}
use Rattle.proof_tree_spec.specs.declared.Counts.{Counts}
use Rattle.cert_check_jobs.specs.declared.drafts.Draft.{Draft}
use Rattle.cert_check_jobs.specs.declared.drafts.Reading.{Reading}
use Rattle.cert_check_jobs.specs.declared.extra.Extra.{Extra}
use Rattle.cert_check_jobs.specs.declared.jobs.Job.{Job}
use Rattle.cert_check_jobs.specs.declared.jobs.Job.TheVariants.{Prove, Relate, Close}
use Rattle.cert_check_jobs.specs.Jobs.{IsProofOnTop, IsDraftOnTop, IsGoalOnTop, HasBranches, logs_last}
use Rattle.cert_check_jobs.specs.Drafts.{AreReading}
use Rattle.proof_tree_spec.specs.Proofs.{BinaryPoint, SourcePoint, Points}
use Rattle.cert_check.specs.Steps.{HasOneLog}
use Rattle.cert_check.specs.Expectations.{IsOfProof, of_binary, of_source, of_proof, AreOf, no_job, a_proof, a_relation, a_log, IsNext, AreAfter}

from_false : {A : Type 0} → false ≡ true → A
from_false e = absurd (cc)

-- a line of a rule stands where a proof is expected
pub record IsOfRule (line : Line) : Type 0 where
  pub no_log : can_stand ALog line ≡ true → ⊥
  pub no_part : can_stand TheParts line ≡ true → ⊥
  pub no_relation : can_stand ARelation line ≡ true → ⊥

leaf_rule : (logs : ℕ) → IsOfRule (Leaf logs)
leaf_rule logs = record { no_log = λ h. from_false h; no_part = λ h. from_false h; no_relation = λ h. from_false h }

case_rule : (symbols : List Symbol) → IsOfRule (Case symbols)
case_rule symbols = record { no_log = λ h. from_false h; no_part = λ h. from_false h; no_relation = λ h. from_false h }

binary_rule : (point : BinaryPoint) (count : ℕ) → IsOfRule (RestrictBinary point count)
binary_rule point count = record { no_log = λ h. from_false h; no_part = λ h. from_false h; no_relation = λ h. from_false h }

source_rule : (point : SourcePoint) (count : ℕ) → IsOfRule (RestrictSource point count)
source_rule point count = record { no_log = λ h. from_false h; no_part = λ h. from_false h; no_relation = λ h. from_false h }

-- ---- what is on top

-- at a rule a proof is
proof_top : (line : Line) (e : Expected) (others : List Expected) (jobs : List Job) → IsOfRule line → AreOf (e ∷ others) jobs → can_stand e line ≡ true → IsProofOnTop jobs
proof_top line _ _ _ rule no_job allowed = absurd (rule.no_part allowed)
proof_top line e others jobs rule (a_proof _ _ below _ x of are is) allowed = (below, x, is)
proof_top line _ others jobs rule (a_relation _ more room below _ reading are rest is) allowed = absurd (rule.no_relation allowed)
proof_top line _ others jobs rule (a_log _ below _ goal are is) allowed = absurd (rule.no_log allowed)

pub leaf_top : (logs : ℕ) (jobs : List Job) → IsNext jobs (Leaf logs) → IsProofOnTop jobs
leaf_top logs jobs next = proof_top (Leaf logs) next.expected next.others jobs (leaf_rule logs) next.are next.allowed

pub case_top : (symbols : List Symbol) (jobs : List Job) → IsNext jobs (Case symbols) → IsProofOnTop jobs
case_top symbols jobs next = proof_top (Case symbols) next.expected next.others jobs (case_rule symbols) next.are next.allowed

never_log : (e : Expected) → IsOfProof e → (steps : ℕ) → can_stand e (Log steps) ≡ true → ⊥
never_log _ of_binary steps h = from_false h
never_log _ of_source steps h = from_false h
never_log _ (of_proof room) steps h = from_false h

pub log_top : (steps : ℕ) (jobs : List Job) → IsNext jobs (Log steps) → IsGoalOnTop jobs
log_top steps jobs next = by next.expected next.others jobs next.are next.allowed
  where
    by : (e : Expected) (others : List Expected) (jobs : List Job) → AreOf (e ∷ others) jobs → can_stand e (Log steps) ≡ true → IsGoalOnTop jobs
    by _ _ _ no_job allowed = from_false allowed
    by e others jobs (a_proof _ _ below _ x of are is) allowed = absurd (never_log e of steps allowed)
    by _ others jobs (a_relation _ more room below _ reading are rest is) allowed = from_false allowed
    by _ others jobs (a_log _ below _ goal are is) allowed = (below, goal, is)

-- ---- what is expected after a rule

after_leaf : (e : Expected) → IsOfProof e → (logs : ℕ) → after e (Leaf logs) ≡ replicate logs ALog
after_leaf _ of_binary logs = refl
after_leaf _ of_source logs = refl
after_leaf _ (of_proof room) logs = refl

after_case : (e : Expected) → IsOfProof e → (symbols : List Symbol) → (room : ℕ) × (after e (Case symbols) ≡ AProof room ∷ AProof room ∷ [])
after_case _ of_binary symbols = (root_room - 1, refl)
after_case _ of_source symbols = (root_room - 1, refl)
after_case _ (of_proof room) symbols = (room - 1, refl)

-- what is below a proof that is on top, at a line of a rule
below_proof : (e : Expected) (others : List Expected) (all below : List Job) (x : Box Extra Global) (line : Line) → IsOfRule line → AreOf (e ∷ others) all → can_stand e line ≡ true
    → all ≡ below ++ Prove x ∷ [] → IsOfProof e × AreOf others below
below_proof _ _ _ below x line rule no_job allowed is = absurd (rule.no_part allowed)
below_proof e others all below x line rule (a_proof _ _ found _ q of are same) allowed is =
    (of, subst (AreOf others) (same_from_push found below (Prove q) (Prove x) (sym same ∙ is)).0 are)
below_proof _ others all below x line rule (a_relation _ more room found _ reading are rest same) allowed is = absurd (rule.no_relation allowed)
below_proof _ others all below x line rule (a_log _ found _ goal are same) allowed is = absurd (rule.no_log allowed)

logs_follow : (others : List Expected) (below : List Job) (goals : List ℕ) → AreOf others below → AreOf (replicate (length goals) ALog ++ others) (below ++ logs_last goals)
unfolding logs_last
logs_follow others below [] are = subst (AreOf others) (sym (append-nil below)) are
logs_follow others below (g ∷ goals) are =
    a_log (replicate (length goals) ALog ++ others) (below ++ logs_last goals) (below ++ (logs_last goals ++ Close g ∷ [])) g (logs_follow others below goals are)
    (sym (append_assoc below (logs_last goals) (Close g ∷ [])))

pub leaf_follows : (logs : ℕ) (old below new : List Job) (x : Box Extra Global) (goals : List ℕ) → old ≡ below ++ Prove x ∷ [] → length goals ≡ logs
    → new ≡ below ++ logs_last goals → AreAfter old (Leaf logs) new
leaf_follows logs old below new x goals is count now = λ e others are allowed.
    let proof = below_proof e others old below x (Leaf logs) (leaf_rule logs) are allowed is in
    subst (λ (list : List Expected). AreOf (list ++ others) new) (ap (λ (n : ℕ). replicate n ALog) count ∙ sym (after_leaf e proof.0 logs))
    (subst (AreOf (replicate (length goals) ALog ++ others)) (sym now) (logs_follow others below goals proof.1))

pub case_follows : (symbols : List Symbol) (old below new : List Job) (x : Box Extra Global) (of : Extra) (test : ℕ) → old ≡ below ++ Prove x ∷ []
    → HasBranches below new of test → AreAfter old (Case symbols) new
case_follows symbols old below new x of test is has = λ e others are allowed.
    let proof = below_proof e others old below x (Case symbols) (case_rule symbols) are allowed is in
    let room = after_case e proof.0 symbols in
    subst (λ (list : List Expected). AreOf (list ++ others) new) (sym room.1)
    (a_proof (AProof room.0) (AProof room.0 ∷ others) (below ++ Prove has.fails ∷ []) new has.holds (of_proof room.0)
    (a_proof (AProof room.0) others below (below ++ Prove has.fails ∷ []) has.fails (of_proof room.0) proof.1 refl) has.now)

never_a_log : (e : Expected) → IsOfProof e → e ≡ ALog → ⊥
never_a_log _ of_binary is = absurd (cc)
never_a_log _ of_source is = absurd (cc)
never_a_log _ (of_proof room) is = absurd (cc)

-- below the obligation that is on top
pub log_below : (old new : List Job) (goal : ℕ) → old ≡ new ++ Close goal ∷ [] → (e : Expected) (others : List Expected) → e ≡ ALog → AreOf (e ∷ others) old → AreOf others new
log_below _ new goal is _ _ of no_job = absurd (cc)
log_below old new goal is e others of (a_proof _ _ below _ premises proof are same) = absurd (never_a_log e proof of)
log_below old new goal is _ others of (a_relation _ more room below _ reading are rest same) = absurd (cc)
log_below old new goal is _ others of (a_log _ below _ g are same) = subst (AreOf others) (same_from_push below new (Close g) (Close goal) (sym same ∙ is)).0 are

-- ---- Restrict

pub binary_top : (point : BinaryPoint) (count : ℕ) (jobs : List Job) → IsNext jobs (RestrictBinary point count) → IsProofOnTop jobs
binary_top point count jobs next = proof_top (RestrictBinary point count) next.expected next.others jobs (binary_rule point count) next.are next.allowed

pub source_top : (point : SourcePoint) (count : ℕ) (jobs : List Job) → IsNext jobs (RestrictSource point count) → IsProofOnTop jobs
source_top point count jobs next = proof_top (RestrictSource point count) next.expected next.others jobs (source_rule point count) next.are next.allowed

after_binary : (e : Expected) → IsOfProof e → (point : BinaryPoint) (count : ℕ) → (room : ℕ) × (after e (RestrictBinary point count) ≡ ALog ∷ AProof room ∷ [])
after_binary _ of_binary point count = (root_room - 1, refl)
after_binary _ of_source point count = (root_room - 1, refl)
after_binary _ (of_proof room) point count = (room - 1, refl)

after_source : (e : Expected) → IsOfProof e → (point : SourcePoint) (count : ℕ) → (room : ℕ) × (after e (RestrictSource point count) ≡ ALog ∷ AProof room ∷ [])
after_source _ of_binary point count = (root_room - 1, refl)
after_source _ of_source point count = (root_room - 1, refl)
after_source _ (of_proof room) point count = (room - 1, refl)

-- one log, and then one proof
one_log : (line : Line) (old new : List Job) → HasOneLog old new → IsOfRule line → ((e : Expected) → IsOfProof e → (room : ℕ) × (after e line ≡ ALog ∷ AProof room ∷ [])) → AreAfter old line new
one_log line old new has rule follows = λ e others are allowed.
    let proof = below_proof e others old has.below has.old line rule are allowed has.first in
    let room = follows e proof.0 in
    subst (λ (list : List Expected). AreOf (list ++ others) new) (sym room.1)
    (a_log (AProof room.0 ∷ others) (has.below ++ Prove has.new ∷ []) new has.goal
    (a_proof (AProof room.0) others has.below (has.below ++ Prove has.new ∷ []) has.new (of_proof room.0) proof.1 refl) has.now)

pub binary_follows : (point : BinaryPoint) (count : ℕ) (old new : List Job) → HasOneLog old new → AreAfter old (RestrictBinary point count) new
binary_follows point count old new has =
    one_log (RestrictBinary point count) old new has (binary_rule point count) (λ e of. after_binary e of point count)

pub source_follows : (point : SourcePoint) (count : ℕ) (old new : List Job) → HasOneLog old new → AreAfter old (RestrictSource point count) new
source_follows point count old new has =
    one_log (RestrictSource point count) old new has (source_rule point count) (λ e of. after_source e of point count)

-- a line of a list of one goal
pub one_goal : (goals : List ℕ) → length goals ≡ 1 → (goal : ℕ) × (goals ≡ goal ∷ [])
one_goal [] is = absurd (cc)
one_goal (g ∷ []) is = (g, refl)
one_goal (g ∷ h ∷ goals) is = absurd (omega (arith, is))

pub one_logged : (old below new : List Job) (first second : Box Extra Global) (goals : List ℕ) → old ≡ below ++ Prove first ∷ [] → length goals ≡ 1
    → new ≡ (below ++ Prove second ∷ []) ++ logs_last goals → HasOneLog old new
unfolding logs_last
one_logged old below new first second goals is count now =
    let one = one_goal goals count in
    record {
      below = below;
      old = first;
      new = second;
      goal = one.0;
      first = is;
      now = now ∙ ap (λ (l : List ℕ). (below ++ Prove second ∷ []) ++ logs_last l) one.1;
    }

-- ---- Split, and lines of relations

split_rule : (points : Points) (enter step : Counts) (relations : ℕ) → IsOfRule (Split points enter step relations)
split_rule points enter step relations = record { no_log = λ h. from_false h; no_part = λ h. from_false h; no_relation = λ h. from_false h }

pub split_top : (points : Points) (enter step : Counts) (relations : ℕ) (jobs : List Job) → IsNext jobs (Split points enter step relations) → IsProofOnTop jobs
split_top points enter step relations jobs next =
    proof_top (Split points enter step relations) next.expected next.others jobs (split_rule points enter step relations) next.are next.allowed

-- so many lines, and two proofs
abbrev cut_expected : (room : ℕ) → (lines : ℕ) → List Expected
cut_expected room lines = replicate lines ARelation ++ (AProof room ∷ AProof room ∷ [])

after_split : (e : Expected) → IsOfProof e → (points : Points) (enter step : Counts) (relations : ℕ) → (room : ℕ) × (after e (Split points enter step relations) ≡ cut_expected room relations)
after_split _ of_binary points enter step relations = (root_room - 1, refl)
after_split _ of_source points enter step relations = (root_room - 1, refl)
after_split _ (of_proof room) points enter step relations = (room - 1, refl)

-- what is expected of a cut's draft
reading_follows : (room : ℕ) (others : List Expected) (d : Box Draft Global) (lines : Vec ℕ Global) (left : ℕ) (below new : List Job) → AreOf others below → AreReading d lines left below new
    → AreOf (replicate left ARelation ++ (AProof room ∷ AProof room ∷ others)) new
reading_follows room others d lines zero below new are has =
    a_proof (AProof room) (AProof room ∷ others) (below ++ Prove has.later ∷ []) new has.first (of_proof room)
    (a_proof (AProof room) others below (below ++ Prove has.later ∷ []) has.later (of_proof room) are refl) has.now
reading_follows room others d lines (suc left) below new are has =
    a_relation (replicate left ARelation ++ (AProof room ∷ AProof room ∷ others)) others room below new (record { draft = d; lines = lines; left = left }) are refl has

pub split_follows : (points : Points) (enter step : Counts) (relations : ℕ) (old below new : List Job) (x : Box Extra Global) (d : Box Draft Global) (lines : Vec ℕ Global)
    → old ≡ below ++ Prove x ∷ [] → AreReading d lines relations below new → AreAfter old (Split points enter step relations) new
split_follows points enter step relations old below new x d lines is has = λ e others are allowed.
    let line = Split points enter step relations in
    let proof = below_proof e others old below x line (split_rule points enter step relations) are allowed is in
    let room = after_split e proof.0 points enter step relations in
    subst (λ (list : List Expected). AreOf list new)
    (sym (append_assoc (replicate relations ARelation) (AProof room.0 ∷ AProof room.0 ∷ []) others) ∙ ap (λ (list : List Expected). list ++ others) (sym room.1))
    (reading_follows room.0 others d lines relations below new proof.1 has)

-- at a line of a relation a draft is on top
never_relation : (e : Expected) → IsOfProof e → (symbols : List Symbol) → can_stand e (Relation symbols) ≡ true → ⊥
never_relation _ of_binary symbols h = from_false h
never_relation _ of_source symbols h = from_false h
never_relation _ (of_proof room) symbols h = from_false h

relation_top_of : (symbols : List Symbol) (e : Expected) (others : List Expected) (jobs : List Job) → AreOf (e ∷ others) jobs → can_stand e (Relation symbols) ≡ true → IsDraftOnTop jobs
relation_top_of symbols _ _ _ no_job allowed = from_false allowed
relation_top_of symbols e others jobs (a_proof _ _ below _ x of are is) allowed = absurd (never_relation e of symbols allowed)
relation_top_of symbols _ others jobs (a_relation _ more room below _ reading are rest is) allowed = (below, reading, is)
relation_top_of symbols _ others jobs (a_log _ below _ goal are is) allowed = from_false allowed

pub relation_top : (symbols : List Symbol) (jobs : List Job) → IsNext jobs (Relation symbols) → IsDraftOnTop jobs
relation_top symbols jobs next = relation_top_of symbols next.expected next.others jobs next.are next.allowed

after_relation : (symbols : List Symbol) (e : Expected) (others : List Expected) (old below new : List Job) (r : Reading) (lines : Vec ℕ Global) → AreOf (e ∷ others) old
    → can_stand e (Relation symbols) ≡ true → old ≡ below ++ Relate r ∷ [] → AreReading r.draft lines r.left below new → AreOf (after e (Relation symbols) ++ others) new
after_relation symbols _ _ _ below new r lines no_job allowed is has = from_false allowed
after_relation symbols e others old below new r lines (a_proof _ _ found _ x of are same) allowed is has = absurd (never_relation e of symbols allowed)
after_relation symbols _ others old below new r lines (a_relation _ more room found _ reading are rest same) allowed is has =
    let there = same_from_push found below (Relate reading) (Relate r) (sym same ∙ is) in
    let reading_is : reading ≡ r = same_relate reading r there.1 in
    subst (λ (list : List Expected). AreOf list new)
    (sym (rest ∙ ap (λ (x : Reading). replicate x.left ARelation ++ (AProof room ∷ AProof room ∷ more)) reading_is))
    (reading_follows room more r.draft lines r.left below new (subst (AreOf more) there.0 are) has)
  where
    same_relate : (a b : Reading) → Relate a ≡ Relate b → a ≡ b
    same_relate a b same = cc
after_relation symbols _ others old below new r lines (a_log _ found _ goal are same) allowed is has = from_false allowed

pub relation_follows : (symbols : List Symbol) (old below new : List Job) (r : Reading) (lines : Vec ℕ Global) → old ≡ below ++ Relate r ∷ [] → AreReading r.draft lines r.left below new
    → AreAfter old (Relation symbols) new
relation_follows symbols old below new r lines is has = λ e others are allowed. after_relation symbols e others old below new r lines are allowed is has
