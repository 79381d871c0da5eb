-- What the grammar of certificates expects where these are the jobs of a part.
use Rattle.std.specs.Prelude.{◌≡◌, ℕ, true, Box, List, [], ◌∷◌, ◌++◌, replicate}
use Rattle.std.specs.Global.{Global}
use Rattle.cert_text_spec.specs.Lines.{Line}
use Rattle.cert_text_spec.specs.Certificates.{Expected, TheParts, BinaryInlines, SourceInlines, AProof, ARelation, ALog, after, can_stand}
use Rattle.cert_check_jobs.specs.declared.drafts.Reading.{Reading}
use Rattle.cert_check_jobs.specs.declared.extra.Extra.{Extra}
use Rattle.cert_check_jobs.specs.declared.jobs.Job.{Job}
use Rattle.cert_check_jobs.specs.declared.jobs.Job.TheVariants.{Prove, Relate, Close}

-- a proof is expected, perhaps after calls that are inlined
pub data IsOfProof : Expected → Type 0 where
  of_binary : IsOfProof BinaryInlines
  of_source : IsOfProof SourceInlines
  of_proof : (room : ℕ) → IsOfProof (AProof room)

-- the first job is the last of the list; after the lines of a cut there are two proofs, and after all jobs the next part
pub data AreOf : List Expected → List Job → Type 0 where
  no_job : AreOf (TheParts ∷ []) []
  a_proof : (e : Expected) (others : List Expected) (below all : List Job) (x : Box Extra Global) → IsOfProof e → AreOf others below
      → all ≡ below ++ Prove x ∷ [] → AreOf (e ∷ others) all
  a_relation : (others more : List Expected) (room : ℕ) (below all : List Job) (r : Reading) → AreOf more below
      → others ≡ replicate r.left ARelation ++ (AProof room ∷ AProof room ∷ more) → all ≡ below ++ Relate r ∷ [] → AreOf (ARelation ∷ others) all
  a_log : (others : List Expected) (below all : List Job) (goal : ℕ) → AreOf others below → all ≡ below ++ Close goal ∷ [] → AreOf (ALog ∷ others) all

-- a line can be the next
pub record IsNext (jobs : List Job) (line : Line) : Type 0 where
  pub expected : Expected
  pub others : List Expected
  pub are : AreOf (expected ∷ others) jobs
  pub allowed : can_stand expected line ≡ true

-- after the line these are the jobs
abbrev pub AreAfter : (before : List Job) → Line → (now : List Job) → Type 0
AreAfter before line now = (e : Expected) (others : List Expected) → AreOf (e ∷ others) before → can_stand e line ≡ true → AreOf (after e line ++ others) now
