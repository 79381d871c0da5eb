use Rattle.std.proofs.Common.{sym, ◌∙◌}
use Rattle.cert_check_jobs.specs.declared.jobs.Job.TheVariants.{Prove}
use Rattle.cert_check_jobs.proofs.Made.{never_empty}
use Rattle.cert_check_jobs.proofs.jobs.take_proof.Goals as goal

pub unreachable-requires-in-None : goal.unreachable-requires-in-None
unreachable-requires-in-None c = never_empty c.args.jobs.now.items c.requires.0 (Prove c.requires.1) (sym c.args.jobs.now.ok.0 ∙ c.in-None.ensures.cases.0) c.requires.2
