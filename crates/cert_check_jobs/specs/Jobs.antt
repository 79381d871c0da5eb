-- What is expected inside a part of a certificate: proofs, lines of relations and logs, the first of them last.
use Rattle.std.specs.Prelude.{◌≡◌, ℕ, ◌<◌, true, false, Box, List, [], ◌∷◌, ◌++◌, All}
use Rattle.std.specs.Global.{Global}
use Rattle.cert_check_jobs.specs.declared.drafts.Reading.{Reading}
use Rattle.cert_check_jobs.specs.declared.extra.Extra.{Extra}
use Rattle.cert_check_jobs.specs.declared.jobs.Job.{Job}
use Rattle.cert_check_jobs.specs.declared.jobs.Job.TheVariants.{Prove, Relate, Close}
use Rattle.cert_check_jobs.specs.Cuts.{AreIds}
use Rattle.cert_check_jobs.specs.Extras.{HasPremise, IsBelow}

-- logs of obligations, the first of them last
unfoldable pub logs_last : (goals : List ℕ) → List Job
logs_last [] = []
logs_last (goal ∷ goals) = logs_last goals ++ Close goal ∷ []

-- a proof, a line of a relation, or a log comes first
abbrev pub IsProofOnTop : List Job → Type 0
IsProofOnTop jobs = (below : List Job) × (x : Box Extra Global) × (jobs ≡ below ++ Prove x ∷ [])

abbrev pub IsDraftOnTop : List Job → Type 0
IsDraftOnTop jobs = (below : List Job) × (r : Reading) × (jobs ≡ below ++ Relate r ∷ [])

abbrev pub IsGoalOnTop : List Job → Type 0
IsGoalOnTop jobs = (below : List Job) × (goal : ℕ) × (jobs ≡ below ++ Close goal ∷ [])

-- two proofs more, first the one where the test holds
pub record HasBranches (old new : List Job) (x : Extra) (test : ℕ) : Type 0 where
  pub fails : Box Extra Global
  pub holds : Box Extra Global
  pub fails_are : HasPremise x (record { test = test; holds = false }) fails.value
  pub holds_are : HasPremise x (record { test = test; holds = true }) holds.value
  pub now : new ≡ (old ++ Prove fails ∷ []) ++ Prove holds ∷ []

-- the ids of a cut's frame and of its lines are of a bank of so many terms
pub record IsDraftBelow (n : ℕ) (r : Reading) : Type 0 where
  pub extra : IsBelow n r.draft.value.extra.value
  pub lines : AreIds n r.lines.items

-- so are a job's
abbrev pub IsInside : ℕ → Job → Type 0
IsInside n (Prove x) = IsBelow n x.value
IsInside n (Relate r) = IsDraftBelow n r
IsInside n (Close goal) = goal < n

abbrev pub AreInside : ℕ → List Job → Type 0
AreInside n jobs = All (IsInside n) jobs
