-- Offsets in a file.
use Rattle.std.specs.Prelude.{◌<◌, ℕ, List, length, slice_index}

-- each offset is above those before it
abbrev pub IsRising : List ℕ → Type 0
IsRising offsets = (i j : ℕ) → i < j → j < length offsets → slice_index offsets i < slice_index offsets j
