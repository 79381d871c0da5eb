-- Jobs, as they are made.
use Rattle.std.proofs.Common.{◌≡◌, ◌∙◌, ℕ, ◌+◌, ◌<◌, ◌≤◌, suc, true, false, Box, Vec, Global, List, [], ◌∷◌, ◌++◌, length, map, take, get_or, refl, sym, ap, ap₂, subst, arith, length-append, append_assoc, append-nil}
use Rattle.std.proofs.lemmas.List.{map_more, same_from_push, take_all}
use Rattle.cert_check_frames.specs.declared.jobs.Branch.{Branch}
use Rattle.cert_check_jobs.specs.declared.drafts.Draft.{Draft}
use Rattle.cert_check_jobs.specs.declared.extra.Extra.{Extra}
use Rattle.cert_check_jobs.specs.declared.jobs.Job.{Job}
use Rattle.cert_check_jobs.specs.declared.jobs.Job.TheVariants.{Prove, Relate, Close}
use Rattle.cert_check_jobs.specs.Drafts.{AreFinished, AreReading, IsAfter, IsBefore, holding, line_holds}
use Rattle.cert_check_jobs.specs.Extras.{HasPremise}
use Rattle.cert_check_jobs.specs.Jobs.{HasBranches, logs_last}

-- ---- logs

pub log_added : (first old new : List Job) (left right : List ℕ) (goal : ℕ) → old ≡ first ++ logs_last right → new ≡ old ++ Close goal ∷ [] → left ≡ goal ∷ right → new ≡ first ++ logs_last left
unfolding logs_last
log_added first old new left right goal before now is =
    now ∙ ap (λ (l : List Job). l ++ Close goal ∷ []) before ∙ append_assoc first (logs_last right) (Close goal ∷ [])
    ∙ ap (λ (l : List ℕ). first ++ logs_last l) (sym is)

pub no_log : (first : List Job) (goals : List ℕ) → goals ≡ [] → first ≡ first ++ logs_last goals
unfolding logs_last
no_log first goals none = sym (ap (λ (l : List ℕ). first ++ logs_last l) none ∙ append-nil first)

-- ---- two proofs

pub has_branches : (old one two : List Job) (x : Extra) (test : ℕ) (fails holds : Box Extra Global) → HasPremise x (record { test = test; holds = false }) fails.value
    → HasPremise x (record { test = test; holds = true }) holds.value → one ≡ old ++ Prove fails ∷ [] → two ≡ one ++ Prove holds ∷ [] → HasBranches old two x test
has_branches old one two x test fails holds fails_are holds_are first second = record {
  fails = fails;
  holds = holds;
  fails_are = fails_are;
  holds_are = holds_are;
  now = second ∙ ap (λ (l : List Job). l ++ Prove holds ∷ []) first;
}

-- ---- what is taken

pub never_empty : (jobs below : List Job) (job : Job) → length jobs ≡ 0 → jobs ≡ below ++ job ∷ [] → ⊥
never_empty jobs below job none is = absurd (omega (arith, none, ap length is, length-append below (job ∷ [])))

-- ---- cuts

-- lines that hold are added
pub holding_added : (first old new : List Branch) (lines : List ℕ) (i d : ℕ) (b : Branch) → i < length lines → old ≡ first ++ holding (take i lines) → new ≡ old ++ b ∷ []
    → b ≡ line_holds (get_or lines i d) → new ≡ first ++ holding (take (i + 1) lines)
holding_added first old new lines i d b within before now is =
    now ∙ ap₂ (λ (l : List Branch) (c : Branch). l ++ c ∷ []) before is
    ∙ append_assoc first (holding (take i lines)) (line_holds (get_or lines i d) ∷ [])
    ∙ ap (λ (l : List Branch). first ++ l) (sym (map_more line_holds lines i d within))

pub none_holding : (first : List Branch) (lines : List ℕ) → lines ≡ [] → first ≡ first ++ holding lines
none_holding first lines none = sym (ap (λ (l : List ℕ). first ++ holding l) none ∙ append-nil first)

pub all_holding : (first all : List Branch) (lines : List ℕ) (i : ℕ) → length lines ≤ i → all ≡ first ++ holding (take i lines) → all ≡ first ++ holding lines
all_holding first all lines i past are = are ∙ ap (λ (l : List ℕ). first ++ holding l) (take_all i lines past)

pub is_finished : (d : Draft) (lines : List ℕ) (old one two : List Job) (later first : Box Extra Global) → IsAfter d lines later.value → IsBefore d lines first.value
    → one ≡ old ++ Prove later ∷ [] → two ≡ one ++ Prove first ∷ [] → AreFinished d lines old two
is_finished d lines old one two later first later_is first_is before now = record {
  later = later;
  first = first;
  later_is = later_is;
  first_is = first_is;
  now = now ∙ ap (λ (l : List Job). l ++ Prove first ∷ []) before;
}

pub reading_done : (d : Box Draft Global) (lines : Vec ℕ Global) (left : ℕ) (old new : List Job) → left ≡ 0 → AreFinished d.value lines.items old new → AreReading d lines left old new
reading_done d lines left old new none has = subst (λ (n : ℕ). AreReading d lines n old new) (sym none) has

pub reading_next : (d : Box Draft Global) (lines : Vec ℕ Global) (left less : ℕ) (old new : List Job) → left ≡ less + 1
    → new ≡ old ++ Relate (record { draft = d; lines = lines; left = less }) ∷ [] → AreReading d lines left old new
reading_next d lines left less old new more now =
    let is : left ≡ suc less = omega (arith, more) in
    subst (λ (n : ℕ). AreReading d lines n old new) (sym is) now
