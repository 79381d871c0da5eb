use Rattle.proof_rows.proofs.words.+put_term.Given as goal

abbrev pub decreases-put_term : goal.decreases-put_term
decreases-put_term l = l.id
