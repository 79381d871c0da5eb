use Rattle.term_rows.proofs.terms.+tree.Given as goal

abbrev pub decreases-tree : goal.decreases-tree
decreases-tree l = l.id
