use Rattle.std.proofs.Common.{codes, refl}
use Rattle.tv_words.proofs.Commands.{row_of_name, name_of_row}
use Rattle.tv_words.proofs.checked_job.Goals as goal

pub returns-in_ok-job-in-Some-clause-found : goal.returns-in_ok-job-in-Some-clause-found
returns-in_ok-job-in-Some-clause-found c = (
  _,
  row_of_name _ _ (λ x. refl) _ (codes "check") _ (c.in-Some.ensures.found.0 refl) c.in-Some.ensures.rows,
  c.in_ok-job-in-Some.ensures.found,
)

pub shown_job-requires-clause-no_check : goal.shown_job-requires-clause-no_check
shown_job-requires-clause-no_check c = λ given is.
    let bad = c.in-None.ensures.found.1 (name_of_row _ _ (λ x. refl) _ _ given is) in
    cc
