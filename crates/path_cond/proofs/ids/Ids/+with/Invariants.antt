use Rattle.path_cond.proofs.ids.Ids.+with.Given as goal

abbrev pub decreases-with : goal.decreases-with
decreases-with l = l.number
