use Rattle.c_run_value.proofs.access.+bytes_at.Given as goal

abbrev pub decreases-bytes_at : goal.decreases-bytes_at
decreases-bytes_at l = l.size
