use Rattle.term_norm_rules.proofs.form.first_of.Goals as goal

pub returns-in-Some-clause-within : goal.returns-in-Some-clause-within
returns-in-Some-clause-within c = λ n rules otherwise. c.in-Some.ensures.within n rules
