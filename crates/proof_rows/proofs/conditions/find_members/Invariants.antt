use Rattle.std.proofs.Common.{ℕ, ◌<◌, length}
use Rattle.std.specs.List.{All}
use Rattle.proof_rows.proofs.conditions.find_members.Given as goal

abbrev pub invariant-loop-position : goal.invariant-loop-position
invariant-loop-position l = All (λ (m : ℕ). m < length l.visits.visits) l.members.items
