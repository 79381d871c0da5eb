use Rattle.c_run_value.proofs.access.+meets_zone.Given as goal

abbrev pub decreases-meets_zone : goal.decreases-meets_zone
decreases-meets_zone l = l.size
