-- Entries of the functions of a list, one after the other.
use Rattle.std.specs.Prelude.{◌≡◌, ◌<◌, ◌≤◌, ◌^◌, ℕ, List, length, Some, IsSome, slice_get}
use Rattle.memory_spec.specs.Viewed.{runs_of}
use Rattle.elf_read_spec.specs.Image.{Image, global_pointer}
use Rattle.graph_core_spec.specs.Graph.{Graphs}
use Rattle.c_types_spec.specs.Core.{Typed}
use Rattle.pair_setup_spec.specs.SourceReach.{body_of}
use Rattle.pair_setup.specs.Depths.{with_name}
use Rattle.pair_setup.specs.declared.outcome.Function.{Function}
use Rattle.agreement_laws.specs.EntryFrame.{Pair}
use Rattle.cert_check_frames.specs.Entries.{IsEntryOf}
use Rattle.cert_check_frames.specs.declared.entries.Entry.{Entry}
use Rattle.cert_check_frames.specs.declared.entries.File.{File}
use Rattle.cert_run.specs.Sides.{function_in, numbering_by, pair_with}

-- each function of the list has a body, and takes less than 2 ^ 32 bytes of stack
pub record AreReady (unit : Typed) (list : List (List ℕ)) (functions : List Function) : Type 0 where
  pub enough : length list ≤ length functions
  pub bodies : (k : ℕ) (name : List ℕ) → slice_get list k ≡ Some name → IsSome (body_of unit name)
  pub small : (k : ℕ) (f : Function) → k < length list → slice_get functions k ≡ Some f → f.stack < 2 ^ 32

-- the two sides, of an executable with these fixed bytes and these entries
abbrev pub sides_with : Image → Typed → (entries : List ℕ) → File → (firsts : List (List (ℕ × ℕ))) → Graphs → Pair
sides_with image unit entries file firsts graphs = pair_with image unit (numbering_by entries (runs_of file.runs.now) firsts) graphs

-- the entry of the function, in an executable with such entries, pointer and fixed bytes, whatever its graphs are
abbrev pub IsEntryFor : Typed → (entries : List ℕ) → File → (name : List ℕ) → Function → Entry → Type 0
IsEntryFor unit entries file name f e =
    (image : Image) (firsts : List (List (ℕ × ℕ))) (graphs : Graphs) → global_pointer image ≡ file.pointer
    → IsEntryOf (sides_with image unit entries file firsts graphs) (function_in unit (with_name name f)) e

-- these are the entries of the first n functions
pub record AreEntriesFor (unit : Typed) (entries : List ℕ) (file : File) (list : List (List ℕ)) (functions : List Function) (n : ℕ) (made : List Entry) : Type 0 where
  pub count : length made ≡ n
  pub each : (k : ℕ) (name : List ℕ) (f : Function) (e : Entry) → slice_get list k ≡ Some name → slice_get functions k ≡ Some f → slice_get made k ≡ Some e
      → IsEntryFor unit entries file name f e
