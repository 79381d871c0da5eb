use Rattle.term_norm_rules.proofs.Rows.{rest_forms}
use Rattle.term_norm_rules.proofs.form.+applied.Goals as goal

pub returns-in-Some-false-default-default-clause-within : goal.returns-in-Some-false-default-default-clause-within
returns-in-Some-false-default-default-clause-within t c =
    let arm = c.in-Some-false-default-default in
    λ n h. c.applied.ensures.within n (rest_forms n c.args.rules.now arm.rest.now arm.field-0-0.now arm.ensures.cases.0 h)
