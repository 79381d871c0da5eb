-- When a file is refused.
use Rattle.std.specs.Prelude.{ℕ, List, ⊤}
use Rattle.elf_read_spec.specs.File.{IsRefusedFile}
use Rattle.attempt.specs.declared.refusal.Refusal.{Refusal}
use Rattle.attempt.specs.declared.refusal.Refusal.TheVariants.{Fault, NoMemory}
use Rattle.elf_read.specs.declared.reader.ElfFault.{ElfFault}

-- a fault comes only where the file is refused for its reason at its offset; out of memory may come at any time
abbrev pub IsRefusal : List ℕ → Refusal ElfFault → Type 0
IsRefusal bytes (Fault fault) = IsRefusedFile bytes fault.kind fault.offset
IsRefusal bytes NoMemory = ⊤
