-- The search for the stack of a function: what is done, what is open, and what is to do.
use Rattle.std.specs.Prelude.{◌≡◌, ◌⊎◌, ◌↔◌, ◌+◌, ◌^◌, ◌<◌, ◌≤◌, ℕ, List, [], ◌∷◌, ◌++◌, length, map, sum_by, Contains, slice_index, Option, Some, None, unwrap_or}
use Rattle.elf_read_spec.specs.Image.{Image, size_at}
use Rattle.code_reach_spec.specs.Code.{instr_at, opening_of, AreReachable, IsGreatest}
use Rattle.code_reach.specs.Surveys.{CallsOut}
use Rattle.code_reach.specs.declared.stacks.Task.{Task}
use Rattle.code_reach.specs.declared.stacks.Task.TheVariants.{Enter, Leave}

-- the stacks that are known, by entry
abbrev pub Known : Type 0
Known = ℕ → Option ℕ

-- the known stack, or 0
abbrev pub known_or_zero : Known → ℕ → ℕ
known_or_zero known target = unwrap_or (known target) 0

-- by how much a word lowers the stack pointer
abbrev pub opening_at : Image → ℕ → ℕ
opening_at image address = opening_of (instr_at image address)

-- the entries that a function calls
abbrev pub AreCalls : Image → (entry : ℕ) → List ℕ → Type 0
AreCalls image entry calls = (target : ℕ) → Contains calls target ↔ CallsOut image entry target

-- the greatest known stack of some entries
pub record IsDeepest (known : Known) (calls : List ℕ) (deepest : ℕ) : Type 0 where
  pub above : (k : ℕ) → k < length calls → known_or_zero known (slice_index calls k) ≤ deepest
  pub reached : (deepest ≡ 0) ⊎ ((k : ℕ) × (k < length calls) × (known_or_zero known (slice_index calls k) ≡ deepest))

-- by how much the words of a function lower the stack pointer
pub record IsOwnStack (image : Image) (entry size own : ℕ) : Type 0 where
  pub places : List ℕ
  pub places_are : AreReachable image entry size places
  pub own_is : own ≡ sum_by (opening_at image) places

-- the stack of a function, where those of what it calls are known
pub record IsTotal (image : Image) (entry : ℕ) (known : Known) (total : ℕ) : Type 0 where
  pub size : ℕ
  pub size_is : size_at image entry ≡ Some size
  pub places : List ℕ
  pub places_are : AreReachable image entry size places
  pub deepest : ℕ
  pub greatest : IsGreatest (CallsOut image entry) (known_or_zero known) deepest
  pub total_is : total ≡ sum_by (opening_at image) places + deepest

-- a function is entered: it is to be left once those that it calls are done
pub record IsEntered (image : Image) (entry : ℕ) (old new : List Task) : Type 0 where
  pub calls : List ℕ
  pub calls_are : AreCalls image entry calls
  pub few : length calls < 2 ^ 64
  pub tasks_are : new ≡ (old ++ Leave entry ∷ []) ++ map Enter calls

-- the search begins: nothing is known, entered or to do
pub record IsFresh (known : Known) (entered : List ℕ) (tasks : List Task) : Type 0 where
  pub nothing : (entry : ℕ) → known entry ≡ None
  pub unentered : entered ≡ []
  pub idle : tasks ≡ []
