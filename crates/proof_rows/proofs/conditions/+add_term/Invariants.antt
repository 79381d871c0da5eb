use Rattle.proof_rows.proofs.conditions.+add_term.Given as goal

abbrev pub decreases-add_term : goal.decreases-add_term
decreases-add_term l = l.id
