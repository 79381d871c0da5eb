use Rattle.std.proofs.Common.{◌≡◌, ◌++◌, vec_len}
use Rattle.bit_blast.specs.Tasks.{visits_of}
use Rattle.bit_blast.proofs.traversal.push_visits.Given as goal

abbrev pub invariant-ids : goal.invariant-ids
invariant-ids l = l.tasks.items ++ visits_of l.ids.items ≡ l.initial.tasks.items ++ visits_of l.initial.ids.items

abbrev pub decreases-ids : goal.decreases-ids
decreases-ids l = vec_len l.ids
