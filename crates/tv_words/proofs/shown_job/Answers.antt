use Rattle.std.proofs.Common.{codes, refl}
use Rattle.tv_words.proofs.Commands.{row_of_name, name_of_row, asked_rows}
use Rattle.tv_words.proofs.shown_job.Goals as goal

pub returns-in_default-clause-only : goal.returns-in_default-clause-only
returns-in_default-clause-only c = λ other asks.
    let rows = asked_rows _ other c.requires.no_prove c.requires.no_check asks in
    let bad = c.in_default.ensures.found.1 (name_of_row _ _ (λ x. refl) _ _ rows.0 rows.1) in
    cc

pub returns-clause-found : goal.returns-clause-found
returns-clause-found c = (
  _,
  row_of_name _ _ (λ x. refl) _ (codes "show") _ (c.in-Some.ensures.found.0 refl) c.in-Some.ensures.rows,
  c.in_ok-job.ensures.found,
)
