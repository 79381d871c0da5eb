-- The flow of an instruction as the program has it, which functions it calls, and which targets are reached.
use Rattle.std.specs.Prelude.{ℕ, ◌%◌, ◌==◌, ◌&&◌, if◌then◌else◌, List, Bool, nat_eq, Option, Some, None, option_and_then}
use Rattle.std.specs.List.{list_any}
use Rattle.rv_instr.specs.declared.Instr.{Instr}
use Rattle.elf_read_spec.specs.Image.{Image}
use Rattle.code_reach_spec.specs.declared.CodeKind.{CodeKind}
use Rattle.code_reach_spec.specs.Code as spec
use Rattle.code_reach_spec.specs.FaultAt.{in_range, fault_at}
use Rattle.code_reach.specs.declared.flows.Flow.{Flow}
use Rattle.code_reach.specs.declared.flows.Flow.TheVariants.{Falls, Branches, Jumps, Calls, Links, Returns, Switches, Stops}
use Rattle.code_reach_tables.specs.Tables.{jump_seen}

-- the flow without the program's names, and with the words of the table that the file has
abbrev pub flow_seen : Image → Flow → spec.Flow
flow_seen image Falls = spec.Falls
flow_seen image (Branches target) = spec.Branches target
flow_seen image (Jumps target) = spec.Jumps target
flow_seen image (Calls target) = spec.Calls target
flow_seen image (Links target) = spec.Links target
flow_seen image Returns = spec.Returns
flow_seen image (Switches jump) = spec.Switches (jump_seen image jump)
flow_seen image Stops = spec.Stops

-- the flow of an instruction at an address, with and without jumps by tables
abbrev pub flow_there : Image → (entry address : ℕ) → Instr → spec.Flow
flow_there image entry address i =
    spec.with_table (spec.table_at image entry address i) (spec.flow_of (spec.instr_before image entry address) address i)

abbrev pub plain_flow_there : Image → (entry address : ℕ) → Option spec.Flow
plain_flow_there image entry address = option_and_then (λ i. Some (spec.flow_of (spec.instr_before image entry address) address i)) (spec.instr_at image address)

-- where a call goes, or a jump out of the range: a tail call
abbrev pub called_by : (entry size : ℕ) → spec.Flow → Option ℕ
called_by entry size spec.Falls = None
called_by entry size (spec.Branches target) = None
called_by entry size (spec.Jumps target) = if in_range entry size target then None else Some target
called_by entry size (spec.Calls target) = Some target
called_by entry size (spec.Links target) = None
called_by entry size spec.Returns = None
called_by entry size (spec.Switches jump) = None
called_by entry size spec.Stops = None

-- where the instruction at an address of a function calls
abbrev pub callee_at : Image → (entry size address : ℕ) → Option ℕ
callee_at image entry size address = option_and_then (called_by entry size) (spec.flow_at image entry address)

-- where a jump by a table may go
abbrev pub is_inside : (entry size target : ℕ) → Bool
is_inside entry size target = (target % 4 == 0) && in_range entry size target

-- an address is among these
abbrev pub is_among : List ℕ → (address : ℕ) → Bool
is_among targets address = list_any (nat_eq address) targets

-- the first fault of the instruction at an address, where these are the targets that are reached
abbrev pub fault_among : Image → (entry size : ℕ) → (targets : List ℕ) → (address : ℕ) → Option CodeKind
fault_among image entry size targets address = fault_at image entry size address (is_among targets)
