-- Calls whose callees are listed.
use Rattle.std.specs.Prelude.{◌≡◌, ℕ, ◌<◌, ◌%◌, ◌==◌, if◌then◌else◌, List, length, get_or, Contains, Option, Some, None}
use Rattle.decompile_spec.specs.Blocks.{callee_of}
use Rattle.decompile.specs.declared.items.Item.{Item}
use Rattle.attempt.specs.declared.refusal.Refusal.{Refusal}
use Rattle.attempt.specs.declared.refusal.Refusal.TheVariants.{Fault}
use Rattle.decompile.specs.declared.error.GraphFault.{GraphFault}
use Rattle.decompile.specs.declared.error.GraphFault.TheVariants.{Unlisted}
use Rattle.elf_read_spec.specs.Image.{Image}
use Rattle.code_reach.specs.Flows.{flow_seen}

-- an address that is a multiple of 4
abbrev pub aligned_of : ℕ → Option ℕ
aligned_of target = if target % 4 == 0 then Some target else None

-- the function that an instruction of the function of this entry and size calls
abbrev pub callee_of_item : Image → (entry size : ℕ) → Item → Option ℕ
callee_of_item image entry size item = callee_of entry size (flow_seen image item.flow)

-- the function that the instruction calls, if it does, is listed
abbrev pub IsListed : Image → (entry size : ℕ) → List ℕ → Item → Type 0
IsListed image entry size entries item = (callee : ℕ) → callee_of_item image entry size item ≡ Some callee → Contains entries callee

-- it is not, and the error says so
abbrev pub IsUnlisted : Image → (entry size : ℕ) → List ℕ → Item → Refusal GraphFault → Type 0
IsUnlisted image entry size entries item (Fault (Unlisted address callee)) =
    (address ≡ item.address) × (callee_of_item image entry size item ≡ Some callee) × (Contains entries callee → ⊥)
IsUnlisted image entry size entries item error = ⊥

-- the error is of the first instruction whose callee isn't listed
pub record IsFirstUnlisted (image : Image) (entry size : ℕ) (entries : List ℕ) (items : List Item) (error : Refusal GraphFault) : Type 0 where
  pub index : ℕ
  pub item : Item
  pub within : index < length items
  pub item_is : item ≡ get_or items index item
  pub unlisted : IsUnlisted image entry size entries item error
  pub before : (k : ℕ) (d : Item) → k < index → IsListed image entry size entries (get_or items k d)
