-- What is wrong with the code of functions: each kind, exactly where, and which of several faults is the first.
use Rattle.std.specs.Prelude.{◌≡◌, ◌≢◌, ◌+◌, ◌-◌, ◌*◌, ◌%◌, ◌<◌, ◌≤◌, ℕ, Bool, true, false, List, [], ◌∷◌, Contains, Some, None, IsSome}
use Rattle.rv_instr.specs.declared.Instr.{Instr}
use Rattle.rv_instr.specs.declared.Instr.TheVariants.{Jalr}
use Rattle.memory_spec.specs.Zones.{zone_from, ZonesMeet}
use Rattle.elf_read_spec.specs.Image.{Image, size_at}
use Rattle.code_reach_spec.specs.declared.CodeKind.{CodeKind}
use Rattle.code_reach_spec.specs.declared.CodeKind.TheVariants.{NoFunction, Ambiguous, Empty, Writable, Misplaced, Undecoded, Indirect, Leaves, Overlap}
use Rattle.code_reach_spec.specs.Code.{instr_at, flow_at, InRange, IsRangeFault, Flow, Falls, Branches, Jumps, Calls, Links, Returns, Stops, Switches, TableJump, IsReachable, Reaches}

-- ---- the targets of a function

-- where a branch, a jump, a link or a jump by a table goes, as it stands. The target of a call is none of these
abbrev pub targets_of : Flow → List ℕ
targets_of Falls = []
targets_of (Branches target) = target ∷ []
targets_of (Jumps target) = target ∷ []
targets_of (Calls target) = []
targets_of (Links target) = target ∷ []
targets_of Returns = []
targets_of (Switches jump) = jump.targets
targets_of Stops = []

-- the targets of the instructions that the function reaches
pub data IsTarget (image : Image) (entry size : ℕ) : ℕ → Type 0 where
  target_of_reached : (address target : ℕ) (flow : Flow) → IsReachable image entry size address → flow_at image entry address ≡ Some flow
      → Contains (targets_of flow) target → IsTarget image entry size target

-- ---- faults of one function

abbrev pub is_jalr : Instr → Bool
is_jalr (Jalr rd base offset) = true
is_jalr i = false

-- a JALR that is no return, no AUIPC pair and no jump by a table, or a JAL that keeps the return address in a register other than x1.
-- Both words of a pair are in the function, so a JALR at its entry is none
abbrev pub is_indirect : Instr → Flow → Bool
is_indirect i Falls = false
is_indirect i (Branches target) = false
is_indirect i (Jumps target) = false
is_indirect i (Calls target) = false
is_indirect i (Links target) = true
is_indirect i Returns = false
is_indirect i (Switches jump) = false
is_indirect i Stops = is_jalr i

-- the JALR of an AUIPC pair
abbrev pub is_pair : Instr → Flow → Bool
is_pair i Falls = false
is_pair i (Branches target) = false
is_pair i (Jumps target) = is_jalr i
is_pair i (Calls target) = is_jalr i
is_pair i (Links target) = false
is_pair i Returns = false
is_pair i (Switches jump) = false
is_pair i Stops = false

-- a jump whose address is known by the words before it can be come to without them: the JALR of a pair, or a word of
-- a run-up after its first one, is a target
pub data IsEntered (IsReachedTarget : ℕ → Type 0) (address : ℕ) (i : Instr) : Flow → Type 0 where
  at_jump : (flow : Flow) → is_pair i flow ≡ true → IsReachedTarget address → IsEntered IsReachedTarget address i flow
  in_run_up : (jump : TableJump) (back : ℕ) → back < jump.before → IsReachedTarget (address - 4 * back)
      → IsEntered IsReachedTarget address i (Switches jump)

-- where control goes by falling through, by a branch, by a jump or by a table, which is to lie in the range. A call comes back to
-- the next instruction, which may lie outside
abbrev pub goes_to : ℕ → Flow → List ℕ
goes_to address Falls = (address + 4) ∷ []
goes_to address (Branches target) = (address + 4) ∷ target ∷ []
goes_to address (Jumps target) = target ∷ []
goes_to address (Calls target) = []
goes_to address (Links target) = []
goes_to address Returns = []
goes_to address (Switches jump) = jump.targets
goes_to address Stops = []

-- a jump to the entry of a function: out of the range it is a tail call. A branch is none
pub record IsJumpToEntry (image : Image) (flow : Flow) (target : ℕ) : Type 0 where
  pub jumps : flow ≡ Jumps target
  pub to_entry : IsSome (size_at image target)

-- what is wrong with the instruction at an address that is reached, given the set of the targets that are reached
pub data IsInstructionFault (image : Image) (entry size : ℕ) (IsReachedTarget : ℕ → Type 0) (address : ℕ) : CodeKind → Type 0 where
  -- a call's target is no entry
  no_function : (target : ℕ) → flow_at image entry address ≡ Some (Calls target) → size_at image target ≡ None
      → IsInstructionFault image entry size IsReachedTarget address NoFunction
  -- the word has no form
  undecoded : instr_at image address ≡ None → IsInstructionFault image entry size IsReachedTarget address Undecoded
  -- it goes to an address that the file doesn't determine, or keeps the return address elsewhere than in x1
  indirect : (i : Instr) (flow : Flow) → instr_at image address ≡ Some i → flow_at image entry address ≡ Some flow
      → is_indirect i flow ≡ true → IsInstructionFault image entry size IsReachedTarget address Indirect
  -- it goes to an address that the file determines by the words before it, and can be come to without them
  entered : (i : Instr) (flow : Flow) → instr_at image address ≡ Some i → flow_at image entry address ≡ Some flow
      → IsEntered IsReachedTarget address i flow → IsInstructionFault image entry size IsReachedTarget address Indirect
  -- it goes out of the range, and not by a tail call
  leaves : (flow : Flow) (target : ℕ) → flow_at image entry address ≡ Some flow → Contains (goes_to address flow) target
      → (InRange entry size target → ⊥) → (IsJumpToEntry image flow target → ⊥)
      → IsInstructionFault image entry size IsReachedTarget address Leaves
  -- a word of its table is no multiple of 4
  misaligned : (jump : TableJump) (target : ℕ) → flow_at image entry address ≡ Some (Switches jump) → Contains jump.targets target
      → target % 4 ≢ 0 → IsInstructionFault image entry size IsReachedTarget address Leaves

-- what is wrong with the function at an entry, so many bytes long, and at which address: with its range, and then it
-- has no instructions, or with an instruction that is reached
pub data IsFunctionFault (image : Image) (entry size : ℕ) : CodeKind → (address : ℕ) → Type 0 where
  of_range : (kind : CodeKind) → IsRangeFault image entry size kind → IsFunctionFault image entry size kind entry
  of_instruction : (kind : CodeKind) (address : ℕ) → IsReachable image entry size address
      → IsInstructionFault image entry size (IsTarget image entry size) address kind → IsFunctionFault image entry size kind address

-- the function has no fault
abbrev pub HasNoFault : Image → (entry size : ℕ) → Type 0
HasNoFault image entry size = (kind : CodeKind) (address : ℕ) → IsFunctionFault image entry size kind address → ⊥

-- ---- faults of all that is reached

-- two ranges share an address
abbrev pub RangesMeet : (entry size other other_size : ℕ) → Type 0
RangesMeet entry size other other_size = ZonesMeet (zone_from entry size) (zone_from other other_size)

-- what is wrong with the functions that are reached from the one at an entry: with one of them, or that two share
-- bytes, and then it is reported at the greater entry
pub data IsReachFault (image : Image) (entry : ℕ) : CodeKind → (address : ℕ) → Type 0 where
  of_function : (other size : ℕ) (kind : CodeKind) (address : ℕ) → Reaches image entry other → size_at image other ≡ Some size
      → IsFunctionFault image other size kind address → IsReachFault image entry kind address
  overlap : (lower lower_size upper upper_size : ℕ) → Reaches image entry lower → size_at image lower ≡ Some lower_size
      → Reaches image entry upper → size_at image upper ≡ Some upper_size → lower < upper
      → RangesMeet lower lower_size upper upper_size → IsReachFault image entry Overlap upper

-- no function that is reached has a fault, and no two share bytes
abbrev pub ReachesNoFault : Image → (entry : ℕ) → Type 0
ReachesNoFault image entry = (kind : CodeKind) (address : ℕ) → IsReachFault image entry kind address → ⊥

-- ---- the first fault

-- the rank of each kind among those at one address
abbrev pub rank : CodeKind → ℕ
rank NoFunction = 1
rank Ambiguous = 2
rank Empty = 3
rank Writable = 4
rank Misplaced = 5
rank Undecoded = 6
rank Indirect = 7
rank Leaves = 8
rank Overlap = 9

-- the first of several faults: that of the least address, and there of the least kind
pub record IsFirst (IsFault : CodeKind → (address : ℕ) → Type 0) (kind : CodeKind) (address : ℕ) : Type 0 where
  pub fault : IsFault kind address
  pub lowest : (other : CodeKind) (at : ℕ) → IsFault other at → address ≤ at
  pub least : (other : CodeKind) → IsFault other address → rank kind ≤ rank other
