-- The runs of fixed bytes: where the map of fixed bytes has bytes at addresses one after the other.
use Rattle.std.specs.Prelude.{◌≡◌, ◌≢◌, ◌↔◌, ◌+◌, ◌^◌, ◌<◌, ℕ, zero, suc, List, [], ◌∷◌, length, map, Contains, All, slice_get, None, unwrap_or}
use Rattle.std.specs.List.Sorted.{IsStrictlyIncreasing}
use Rattle.memory_spec.specs.Runs.{Run}
use Rattle.elf_read_spec.specs.Image.{Image, fixed_byte}

-- the fixed bytes at so many addresses from `start` on; 0 where none is fixed
unfoldable pub bytes_from : Image → (start count : ℕ) → List ℕ
bytes_from image start zero = []
bytes_from image start (suc n) = unwrap_or (fixed_byte image start) 0 ∷ bytes_from image (start + 1) n

-- a run of fixed bytes, as long as it can be: no byte is fixed directly before it or after it. Segments that
-- touch have one run
pub record IsRun (image : Image) (run : Run) : Type 0 where
  pub not_empty : run.bytes ≢ []
  pub fixed : (k : ℕ) → k < length run.bytes → fixed_byte image (run.start + k) ≡ slice_get run.bytes k
  pub begins : (address : ℕ) → address + 1 ≡ run.start → fixed_byte image address ≡ None
  pub ends : fixed_byte image (run.start + length run.bytes) ≡ None

-- these are the runs of fixed bytes, by address
pub record AreRuns (image : Image) (runs : List Run) : Type 0 where
  pub rising : IsStrictlyIncreasing (map (λ run. run.start) runs)
  pub exactly : (run : Run) → Contains runs run ↔ IsRun image run

-- what the segments have from the file are bytes
abbrev pub HasBytes : Image → Type 0
HasBytes image = All (λ s. All (λ b. b < 2 ^ 8) s.bytes) image.segments
