use Rattle.std.proofs.Common.{subst}
use Rattle.std.specs.Prelude.{◌↔◌, IsTrue}
use Rattle.proof_tree_spec.specs.Frames.{Frame, IsAllowed}
use Rattle.cert_check_jobs.proofs.Framed.{same_tests}
use Rattle.cert_check_jobs.proofs.allowed.is_allowed.Goals as goal

pub frame_with-requires : goal.frame_with-requires
frame_with-requires c = same_tests c.args.bank.now c.args.extra.now c.in-Ok-attempt.field-0 c.in-Ok-attempt.ensures

pub returns-3 : goal.returns-3
returns-3 c =
    subst (λ (frame : Frame). IsTrue c.cut_allowed.result ↔ IsAllowed frame c.args.cut) (c.in-Ok-attempt-frame.ensures.frame c.args.bank.now c.in-Ok-attempt.ensures)
    (c.cut_allowed.ensures c.in-Ok-attempt-frame.ensures.paths)
