use Rattle.std.proofs.Common.{◌≡◌, ◌<◌, ◌∷◌, [], ℕ, get_or}
use Rattle.elf_read.proofs.header.magic_fault.Given as goal

abbrev pub invariant-loop-i : goal.invariant-loop-i
invariant-loop-i l = (k : ℕ) → k < l.i → get_or l.bytes k 0 ≡ get_or (0x7f ∷ 0x45 ∷ 0x4c ∷ 0x46 ∷ []) k 0
