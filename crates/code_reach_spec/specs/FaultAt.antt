-- What is wrong with an instruction that is reached, as a function: given which addresses are targets that are reached.
use Rattle.std.specs.Prelude.{ℕ, zero, suc, ◌+◌, ◌-◌, ◌%◌, ◌==◌, ◌&&◌, ◌||◌, not, nat_le, nat_lt, Bool, true, false, if◌then◌else◌, Option, Some, None, is_some}
use Rattle.std.specs.List.{list_all}
use Rattle.rv_instr.specs.declared.Instr.{Instr}
use Rattle.elf_read_spec.specs.Image.{Image, size_at}
use Rattle.code_reach_spec.specs.declared.CodeKind.{CodeKind}
use Rattle.code_reach_spec.specs.declared.CodeKind.TheVariants.{NoFunction, Undecoded, Indirect, Leaves}
use Rattle.code_reach_spec.specs.Code.{instr_at, instr_before, Flow, Falls, Branches, Jumps, Calls, Links, Returns, Stops, Switches, flow_of, with_table, table_at}
use Rattle.code_reach_spec.specs.Faults.{is_indirect, is_jalr, goes_to}

abbrev pub in_range : (entry size target : ℕ) → Bool
in_range entry size target = nat_le entry target && nat_lt target (entry + size)

abbrev pub is_jump : Flow → Bool
is_jump Falls = false
is_jump (Branches target) = false
is_jump (Jumps target) = true
is_jump (Calls target) = false
is_jump (Links target) = false
is_jump Returns = false
is_jump (Switches jump) = false
is_jump Stops = false

abbrev pub is_switch : Flow → Bool
is_switch Falls = false
is_switch (Branches target) = false
is_switch (Jumps target) = false
is_switch (Calls target) = false
is_switch (Links target) = false
is_switch Returns = false
is_switch (Switches jump) = true
is_switch Stops = false

-- control may go there: inside the range, or by a jump to an entry; by a table to a multiple of 4 alone
abbrev pub may_go : Image → (entry size : ℕ) → Flow → (target : ℕ) → Bool
may_go image entry size flow target =
    if is_switch flow then (target % 4 == 0) && in_range entry size target
    else in_range entry size target || (is_jump flow && is_some (size_at image target))

-- a call of what is no entry
abbrev pub calls_none : Image → Flow → Bool
calls_none image Falls = false
calls_none image (Branches target) = false
calls_none image (Jumps target) = false
calls_none image (Calls target) = not (is_some (size_at image target))
calls_none image (Links target) = false
calls_none image Returns = false
calls_none image (Switches jump) = false
calls_none image Stops = false

-- one of so many words down from an address is a target
abbrev pub some_target : (is_target : ℕ → Bool) → (address count : ℕ) → Bool
some_target is_target address zero = false
some_target is_target address (suc count) = is_target address || some_target is_target (address - 4) count

-- a jump whose address is known by the words before it can be come to without them
abbrev pub is_entered : (is_target : ℕ → Bool) → (address : ℕ) → Instr → Flow → Bool
is_entered is_target address i Falls = false
is_entered is_target address i (Branches target) = false
is_entered is_target address i (Jumps target) = is_jalr i && is_target address
is_entered is_target address i (Calls target) = is_jalr i && is_target address
is_entered is_target address i (Links target) = false
is_entered is_target address i Returns = false
is_entered is_target address i (Switches jump) = some_target is_target address jump.before
is_entered is_target address i Stops = false

-- a jump to an unknown address, or one that can be come to without the words by which it is known
abbrev pub is_unknown : (is_target : ℕ → Bool) → (address : ℕ) → Instr → Flow → Bool
is_unknown is_target address i flow = is_indirect i flow || is_entered is_target address i flow

-- the least of the kinds
abbrev pub least : (no_entry unknown stays : Bool) → Option CodeKind
least no_entry unknown stays = if no_entry then Some NoFunction else if unknown then Some Indirect else if stays then None else Some Leaves

-- control stays in the function, or ends it by a jump to an entry
abbrev pub stays : Image → (entry size address : ℕ) → Flow → Bool
stays image entry size address flow = list_all (may_go image entry size flow) (goes_to address flow)

abbrev pub flow_fault : Image → (entry size address : ℕ) → (is_target : ℕ → Bool) → Instr → Flow → Option CodeKind
flow_fault image entry size address is_target i flow =
    least (calls_none image flow) (is_unknown is_target address i flow) (stays image entry size address flow)

abbrev pub fault_of : Image → (entry size address : ℕ) → (is_target : ℕ → Bool) → Option Instr → Option CodeKind
fault_of image entry size address is_target None = Some Undecoded
fault_of image entry size address is_target (Some i) =
    flow_fault image entry size address is_target i (with_table (table_at image entry address i) (flow_of (instr_before image entry address) address i))

-- the first fault of the instruction at an address of the function at an entry
unfoldable pub fault_at : Image → (entry size address : ℕ) → (is_target : ℕ → Bool) → Option CodeKind
fault_at image entry size address is_target = fault_of image entry size address is_target (instr_at image address)
