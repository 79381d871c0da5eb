-- A jump by a table, as the program has it.
use Rattle.std.specs.Prelude.{◌≡◌, ℕ, zero, suc, ◌+◌, ◌^◌, nat_le, if◌then◌else◌, Bool, true, false, List, [], ◌∷◌, Option, Some, None, unwrap_or}
use Rattle.elf_read_spec.specs.Image.{Image}
use Rattle.code_reach_spec.specs.Code as spec
use Rattle.code_reach_spec.specs.Code.{word_at}
use Rattle.rv_instr.specs.declared.Instr.{Instr}
use Rattle.code_reach_spec.specs.RunUp.{Symbolic, Table, is_straight, followed, before_all}
use Rattle.code_reach_tables.specs.declared.tables.TableJump.{TableJump}
use Rattle.code_reach_tables.specs.declared.straight.Straight.{Straight}
use Rattle.code_reach_tables.specs.Nodes.{Holds}
use Rattle.code_reach_tables.specs.Followed.{IsFollowed}

-- the word at an address, and 0 where it isn't fixed
abbrev pub target_at : Image → (address : ℕ) → ℕ
target_at image address = if nat_le (address + 4) (2 ^ 32) then unwrap_or (word_at image address) 0 else 0

-- so many words from an address on
unfoldable pub targets_from : Image → (address count : ℕ) → List ℕ
targets_from image address zero = []
targets_from image address (suc count) = target_at image address ∷ targets_from image (address + 4) count

-- with the words of the table
abbrev pub jump_seen : Image → TableJump → spec.TableJump
jump_seen image jump = record { before = jump.before; branch = jump.branch; targets = targets_from image jump.first jump.count }

-- where a table begins, and the index of what its index is
abbrev pub IsTableOr : List Symbolic → Option (ℕ × ℕ) → Option Table → Type 0
IsTableOr ts None None = Unit {0}
IsTableOr ts (Some (first, index)) (Some table) = (first ≡ table.first) × Holds ts index table.index
IsTableOr ts found table = ⊥

abbrev pub is_straight_or : Option Instr → Bool
is_straight_or None = false
is_straight_or (Some i) = is_straight i

-- the word at an address may be before a jump by a table
abbrev pub is_before_jump : Image → (address : ℕ) → Bool
is_before_jump image address = is_straight_or (spec.instr_at image address)

-- so many words from an address on were followed to a jump by the register r
pub record IsRun (image : Image) (r start count : ℕ) (s : Straight) : Type 0 where
  pub words : List Instr
  pub words_are : spec.straight image start count ≡ Some words
  pub is : IsFollowed s (followed r start words before_all)

-- or one of them isn't straight
abbrev pub IsRunOr : Image → (r start count : ℕ) → Straight → (all : Bool) → Type 0
IsRunOr image r start count s true = IsRun image r start count s
IsRunOr image r start count s false = spec.straight image start count ≡ None
