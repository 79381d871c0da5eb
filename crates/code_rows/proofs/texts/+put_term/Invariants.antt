use Rattle.code_rows.proofs.texts.+put_term.Given as goal

abbrev pub decreases-put_term : goal.decreases-put_term
decreases-put_term l = l.id
