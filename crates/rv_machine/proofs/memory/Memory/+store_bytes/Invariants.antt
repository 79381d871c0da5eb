use Rattle.std.proofs.Common.{length}
use Rattle.rv_machine.proofs.memory.Memory.+store_bytes.Given as goal

abbrev pub decreases-store_bytes : goal.decreases-store_bytes
decreases-store_bytes l = length l.bytes.now
