-- How many nodes each instruction has, and the numbers of the first ones.
use Rattle.std.specs.Prelude.{ℕ, ◌+◌, ◌-◌, ◌%◌, ◌<◌, ◌≤◌, ◌==◌, Bool, true, false, if◌then◌else◌, List, [], ◌∷◌, length}
use Rattle.rv_instr.specs.declared.Instr.{Instr}
use Rattle.rv_instr.specs.declared.Instr.TheVariants.{Load, Store}
use Rattle.rv_instr.specs.declared.LoadKind.{LoadKind}
use Rattle.rv_instr.specs.declared.LoadKind.TheVariants as load_kind
use Rattle.rv_instr.specs.declared.StoreKind.{StoreKind}
use Rattle.rv_instr.specs.declared.StoreKind.TheVariants as store_kind
use Rattle.code_reach_spec.specs.Code.{Flow, Falls, Branches, Jumps, Calls, Links, Returns, Switches, Stops}
use Rattle.decompile_spec.specs.Blocks.{leaves_range}
use Rattle.decompile_laws.specs.Layout.{Item}
use Rattle.decompile.specs.declared.numbers.Counting.{Counting}
use Rattle.attempt.specs.declared.refusal.Refusal.{Refusal}
use Rattle.attempt.specs.declared.refusal.Refusal.TheVariants.{Fault, NoMemory}
use Rattle.decompile.specs.declared.error.GraphFault.{GraphFault}
use Rattle.decompile.specs.declared.error.GraphFault.TheVariants.{Large}

abbrev pub load_tests : LoadKind → ℕ
load_tests load_kind.Byte = 0
load_tests load_kind.Half = 1
load_tests load_kind.Word = 1
load_tests load_kind.ByteUnsigned = 0
load_tests load_kind.HalfUnsigned = 1

abbrev pub alignments : StoreKind → ℕ
alignments store_kind.Byte = 0
alignments store_kind.Half = 1
alignments store_kind.Word = 1

abbrev pub access_tests : (runs : ℕ) → Instr → ℕ
access_tests runs (Load kind rd base offset) = load_tests kind
access_tests runs (Store kind base source offset) = alignments kind + runs
access_tests runs other = 0

-- the tests before an access, the node in which a branch keeps an index, the landing node after a call, with that the
-- test before a tail call, and the tests of an index after the first one
abbrev pub further_by : Counting → (keeps : Bool) → Instr → Flow → ℕ
further_by by keeps i Falls = access_tests by.runs i
further_by by keeps i (Branches target) = if keeps then 1 else 0
further_by by keeps i (Jumps target) = if leaves_range by.entry by.size target then 2 else 0
further_by by keeps i (Calls target) = if target % 4 == 0 then 1 else 0
further_by by keeps i (Links target) = 0
further_by by keeps i Returns = 0
further_by by keeps i (Switches jump) = length jump.targets - 1
further_by by keeps i Stops = 0

-- how many nodes an instruction has beside one
abbrev pub further_nodes : Counting → Item → ℕ
further_nodes by item = further_by by item.keeps item.instruction item.flow

-- the addresses of instructions, each with the number of its first node, from n on
abbrev pub numbered : Counting → (n : ℕ) → List Item → List (ℕ × ℕ)
numbered by n [] = []
numbered by n (item ∷ rest) = (item.address, n) ∷ numbered by (n + (further_nodes by item + 1)) rest

-- how many nodes there are with those of these instructions, where there are n before
abbrev pub counted : Counting → (n : ℕ) → List Item → ℕ
counted by n [] = n
counted by n (item ∷ rest) = counted by (n + (further_nodes by item + 1)) rest

-- the error says that there are more nodes than the maximum
abbrev pub IsTooMany : Counting → (maximum : ℕ) → List Item → Refusal GraphFault → Type 0
IsTooMany by maximum items (Fault (Large count)) = (maximum < count) × (count ≤ counted by 1 items)
IsTooMany by maximum items NoMemory = Unit {0}
IsTooMany by maximum items error = ⊥
