use Rattle.std.proofs.Common.{◌≡◌, ◌≤◌, length, drop}
use Rattle.bit_blast.specs.Loads.{memories_of}
use Rattle.bit_blast.proofs.loads.memories_of.Given as goal

abbrev pub invariant-backwards : goal.invariant-backwards
invariant-backwards l = (l.index ≤ length l.loads) × (l.memories.items ≡ memories_of (drop l.index l.loads))

abbrev pub decreases-backwards : goal.decreases-backwards
decreases-backwards l = l.index
