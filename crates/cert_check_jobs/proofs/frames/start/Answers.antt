use Rattle.std.proofs.Common.{◌∙◌, ◌++◌, List, map, ap}
use Rattle.graph_core.specs.Graphs.{boxed_term}
use Rattle.proof_tree.specs.Frames.{terms_of}
use Rattle.cert_check_frames.specs.declared.jobs.Branch.{Branch}
use Rattle.cert_check_frames.specs.Jobs.{premises_with}
use Rattle.cert_check_frames.specs.Listed.{frame_at}
use Rattle.cert_check_jobs.specs.declared.cuts.Cuts.{Cuts}
use Rattle.cert_check_jobs.specs.Cuts.{start_seen}
use Rattle.cert_check_jobs.specs.Extras.{started}
use Rattle.cert_check_jobs.proofs.Framed.{start_there}
use Rattle.cert_check_jobs.proofs.frames.start.Goals as goal

pub returns-6-clause-start : goal.returns-6-clause-start
returns-6-clause-start c =
    start_there c.args.function.now c.args.extra.now (map boxed_term c.args.tests.now) _ _ _ _ c.in-Ok-attempt-binary_bounds.field-0.items c.in-Ok-attempt-source_bounds.field-0.items
    c.nodes-nodes.result (c.nodes-nodes.ensures ∙ ap (λ (x : Cuts). (started (frame_at c.args.function.now) (start_seen x.start)).nodes) c.deref.ensures)
    c.in-Ok-attempt.ensures.from c.in-Ok-attempt-source.ensures.from
    (c.start_path.ensures ∙ ap (λ (x : Cuts). (started (frame_at c.args.function.now) (start_seen x.start)).path) c.deref-2.ensures)
    (c.in-Ok-attempt-premises.ensures
    ∙ ap (λ (l : List Branch). terms_of c.args.function.now.entry.now ++ premises_with l (map boxed_term c.args.tests.now)) c.as_slice-3.ensures.value)
    (c.in-Ok-attempt-binary_bounds.ensures ∙ c.as_slice.ensures.value) (c.in-Ok-attempt-source_bounds.ensures ∙ c.as_slice-2.ensures.value)
