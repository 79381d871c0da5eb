use Rattle.std.proofs.Common.{◌∙◌, ◌++◌, ◌∷◌, [], List, ap, refl}
use Rattle.std.proofs.lemmas.Result.{on_ok_weaker}
use Rattle.cert_check_jobs.specs.declared.jobs.Job.{Job}
use Rattle.cert_check_jobs.specs.declared.jobs.Job.TheVariants.{Prove}
use Rattle.cert_check.proofs.Opened.{opened}
use Rattle.cert_check.proofs.walk.open.Goals as goal

pub returns-4 : goal.returns-4
returns-4 c =
    on_ok_weaker c.push_proof.result
    (λ h.
    opened c.args.function.now c.args.walk.now _ c.known.new.bank c.in-Ok-attempt-extra.field-0 refl c.in-Ok-attempt-extra.ensures
    (h ∙ ap (λ (l : List Job). l ++ Prove c.in-Ok-attempt-extra.field-0 ∷ []) c.clear.ensures.items) c.in-Ok-attempt.ensures.terms c.known-2.ensures.extends c.in-Ok-attempt-2.ensures.terms)
    c.push_proof.ensures
