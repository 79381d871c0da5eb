use Rattle.std.proofs.Common.{◌≡◌}
use Rattle.tv_words.specs.Jobs.{job_of}
use Rattle.attempt.specs.declared.refusal.Refusal.TheVariants.{NoMemory}
use Rattle.tv_words.proofs.Commands.{job_commanded, job_alone, refused_alike}
use Rattle.tv_words.proofs.command.Goals as goal

pub returns-clause-found : goal.returns-clause-found
returns-clause-found c =
    job_commanded job_of _ _ c.in_ok-matches.ensures.found c.found_job.result c.in_ok-matches.ensures.taken
    c.found_job.ensures.found

pub returns-clause-fields : goal.returns-clause-fields
returns-clause-fields c =
    job_alone job_of _ _ c.in_ok-matches.ensures.found c.found_job.result (returns-clause-found c)

pub returns-clause-only : goal.returns-clause-only
returns-clause-only c =
    refused_alike job_of _ _ c.in_ok-matches.ensures.found c.found_job.result (λ error. error ≡ NoMemory)
    c.found_job.ensures.only
