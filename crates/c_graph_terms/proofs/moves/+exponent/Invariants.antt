use Rattle.c_graph_terms.proofs.moves.+exponent.Given as goal

abbrev pub decreases-exponent : goal.decreases-exponent
decreases-exponent l = l.most
