use Rattle.c_run_value.proofs.access.+meets_fixed.Given as goal

abbrev pub decreases-meets_fixed : goal.decreases-meets_fixed
decreases-meets_fixed l = l.size
