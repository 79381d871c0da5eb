-- The instructions that a function reaches, as the program has them.
use Rattle.std.specs.Prelude.{◌≡◌, ◌↔◌, ℕ, List, map, Contains, nat_eq, Option, Some, None}
use Rattle.std.specs.List.{AllZip, list_any}
use Rattle.indexmap.specs.IndexSet.{insert_key}
use Rattle.rv_instr.specs.Instr.{instr}
use Rattle.elf_read_spec.specs.Image.{Image, size_at}
use Rattle.code_reach_spec.specs.Code.{Flow, flow_at}
use Rattle.code_reach_spec.specs.Faults.{HasNoFault}
use Rattle.code_reach.specs.Flows.{flow_seen}
use Rattle.code_reach.specs.declared.flows.Flow.{Flow as CodeFlow}
use Rattle.code_reach.specs.declared.flows.Flow.TheVariants as flows
use Rattle.decompile_laws.specs.Layout as spec
use Rattle.decompile.specs.declared.items.Item.{Item}

-- an instruction with a flow
abbrev pub item_with : Item → Flow → spec.Item
item_with item flow = record { address = item.address; instruction = item.instruction; flow = flow; keeps = item.keeps }

-- the targets of a jump by a table are words of the file
abbrev pub item_of : Image → Item → spec.Item
item_of image item = item_with item (flow_seen image item.flow)

-- an instruction is that of a word with its address, and its flow that of the instruction there
pub record Decodes (image : Image) (entry : ℕ) (w : ℕ × ℕ) (item : Item) : Type 0 where
  pub address_is : item.address ≡ w.0
  pub form_is : instr w.1 ≡ Some item.instruction
  pub flow_is : flow_at image entry w.0 ≡ Some (flow_seen image item.flow)

abbrev pub Decoded : Image → (entry : ℕ) → List (ℕ × ℕ) → List Item → Type 0
Decoded image entry words items = AllZip (Decodes image entry) words items

-- the branch that bounds the index of a jump by a table
abbrev pub branch_by : CodeFlow → Option ℕ
branch_by flows.Falls = None
branch_by (flows.Branches target) = None
branch_by (flows.Jumps target) = None
branch_by (flows.Calls target) = None
branch_by (flows.Links target) = None
branch_by flows.Returns = None
branch_by (flows.Switches jump) = Some jump.branch
branch_by flows.Stops = None

abbrev pub with_branch : Option ℕ → (branches : List ℕ) → List ℕ
with_branch None branches = branches
with_branch (Some branch) branches = insert_key nat_eq branches branch

-- these are the branches that bound the indices of the jumps of these instructions
abbrev pub AreBranches : List Item → (branches : List ℕ) → Type 0
AreBranches items branches =
    (address : ℕ) → Contains branches address ↔ ((item : Item) × Contains items item × (branch_by item.flow ≡ Some address))

-- an instruction with whether it is one of the branches
abbrev pub keeping : (branches : List ℕ) → Item → Item
keeping branches item = record {
  address = item.address;
  instruction = item.instruction;
  flow = item.flow;
  keeps = list_any (nat_eq item.address) branches;
}

-- the same instructions, each with whether it bounds the index of a jump of these
pub record AreKept (items kept : List Item) : Type 0 where
  pub branches : List ℕ
  pub are_branches : AreBranches items branches
  pub kept_are : kept ≡ map (keeping branches) items

-- the function at an entry has no fault, and these are the instructions that it reaches, by address
pub record AreInstructions (image : Image) (entry : ℕ) (items : List Item) : Type 0 where
  pub size : ℕ
  pub size_is : size_at image entry ≡ Some size
  pub sound : HasNoFault image entry size
  pub are_items : spec.AreItems image entry size (map (item_of image) items)
