use Rattle.sat_search_learning.proofs.order.Order.raise.Given as goal

abbrev pub decreases-loop-place : goal.decreases-loop-place
decreases-loop-place l = l.place
