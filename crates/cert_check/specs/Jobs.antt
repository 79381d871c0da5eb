-- What is expected inside a part, of the program as the definitions have it.
use Rattle.std.specs.Prelude.{ℕ, List, [], ◌∷◌}
use Rattle.term_core_spec.specs.Term.{Term}
use Rattle.term_bank.specs.Nodes.{tree_at}
use Rattle.proof_tree_spec.specs.Frames.{Frame}
use Rattle.cert_check_lines_spec.specs.Jobs as spec
use Rattle.cert_check_lines_spec.specs.Jobs.{Origin, OfSplit}
use Rattle.cert_check_jobs.specs.declared.drafts.Draft.{Draft}
use Rattle.cert_check_jobs.specs.declared.extra.Extra.{Extra}
use Rattle.cert_check_jobs.specs.declared.jobs.Job.{Job}
use Rattle.cert_check_jobs.specs.declared.jobs.Job.TheVariants.{Prove, Relate, Close}
use Rattle.cert_check_jobs.specs.Cuts.{lines_at, start_seen}
use Rattle.cert_check_jobs.specs.Extras.{added_at, frame_added, origin_of, started}

-- where a frame that has this more starts
abbrev pub origin_at : Extra → Origin
origin_at x = origin_of (start_seen x.cuts.value.start)

-- and the path of the source body there
abbrev pub start_path : Frame → Extra → List ℕ
start_path f x = (started f (start_seen x.cuts.value.start)).path

abbrev pub draft_of : Draft → spec.Draft
draft_of d = OfSplit d.nodes d.path.items d.enter d.step

abbrev pub job_of : (trees : List Term) → Frame → Job → spec.Job
job_of trees f (Prove x) = spec.Prove (origin_at x.value) (frame_added f (added_at trees x.value))
job_of trees f (Relate r) =
    spec.Relate (origin_at r.draft.value.extra.value) (frame_added f (added_at trees r.draft.value.extra.value)) (draft_of r.draft.value)
    (lines_at trees r.lines.items) r.left
job_of trees f (Close goal) = spec.Close (tree_at trees goal)

-- jobs, before those below
unfoldable pub stacked : (trees : List Term) → Frame → (below : List spec.Job) → List Job → List spec.Job
stacked trees f below [] = below
stacked trees f below (job ∷ jobs) = stacked trees f (job_of trees f job ∷ below) jobs

abbrev pub jobs_of : (trees : List Term) → Frame → List Job → List spec.Job
jobs_of trees f jobs = stacked trees f [] jobs
