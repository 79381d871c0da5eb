use Rattle.sat_search_learning.proofs.simulation.force.Given as goal

abbrev pub decreases-clauses : goal.decreases-clauses
decreases-clauses l = l.number
