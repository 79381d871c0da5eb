-- The values of the program as those of the definitions.
use Rattle.std.specs.Prelude.{◌≡◌, ◌+◌, ℕ, List, length, slice_get, Option, Some, None}
use Rattle.elf_read_spec.specs.Image as spec
use Rattle.memory_spec.specs.Runs.{Run}
use Rattle.elf_read_spec.specs.Runs.{AreRuns}
use Rattle.elf_read.specs.declared.parts.Segment.{Segment}
use Rattle.elf_read.specs.declared.parts.Symbol.{Symbol}
use Rattle.elf_read.specs.declared.parts.Extent.{Extent}

abbrev pub segment_of : Segment → spec.Segment
segment_of s = record { vaddr = s.vaddr; memsz = s.memsz; flags = s.flags; bytes = s.bytes.now }

abbrev pub symbol_of : Symbol → spec.Symbol
symbol_of s = record { name = s.name.now; value = s.value; size = s.size; kind = s.kind }

-- the first and the last address of a run
pub record Extends (extent : Extent) (run : Run) : Type 0 where
  pub first : extent.first ≡ run.start
  pub last : extent.last + 1 ≡ run.start + length run.bytes

abbrev pub MayExtend : Option Extent → Option Run → Type 0
MayExtend None None = Unit {0}
MayExtend (Some extent) (Some run) = Extends extent run
MayExtend extent run = ⊥

-- the addresses of the run at an index among the runs of fixed bytes, by address
pub record IsExtentAt (image : spec.Image) (i : ℕ) (extent : Option Extent) : Type 0 where
  pub runs : List Run
  pub are_runs : AreRuns image runs
  pub extents : MayExtend extent (slice_get runs i)
