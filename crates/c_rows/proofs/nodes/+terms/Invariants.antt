use Rattle.std.proofs.Common.{◌+◌, ◌*◌}
use Rattle.c_rows.proofs.nodes.+terms.Given as goal

abbrev pub decreases-put_argument : goal.decreases-put_argument
decreases-put_argument l = 2 * l.id + 1

abbrev pub decreases-put_term : goal.decreases-put_term
decreases-put_term l = 2 * l.id
