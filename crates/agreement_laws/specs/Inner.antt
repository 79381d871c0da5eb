-- What a function gives to its callers: its simulation where a wider zone is barred, that of a caller.
use Rattle.std.specs.Prelude.{◌≡◌, ℕ, ◌+◌, ◌^◌, ◌<◌, ◌&&◌, ◌||◌, ◌==◌, nat_lt, nat_le, Bool, false, not, List, [], ◌∷◌, ◌++◌, None}
use Rattle.memory_spec.specs.Zones.{Zone, InZone}
use Rattle.elf_read_spec.specs.Image.{fixed_byte, global_pointer}
use Rattle.term_core_spec.specs.Term.{Term, equal, less, not_term, bit_and}
use Rattle.term_core_spec.specs.Value.{Value, Truth, Number, Bytes}
use Rattle.graph_core_spec.specs.Run.{State}
use Rattle.graph_core_spec.specs.Simulation as systems
use Rattle.graph_core_spec.specs.Simulation.{Simulates}
use Rattle.decompile_spec.specs.State.{entry_register}
use Rattle.c_graph_spec.specs.State.{zone_low, zone_high}
use Rattle.proof_tree_spec.specs.Cuts.{both}
use Rattle.proof_tree_spec.specs.Frames.{Frame}
use Rattle.sim_rules_spec.specs.Points.{Convention, binary_memory, values_in, all_hold, with_memory}
use Rattle.sim_rules_spec.specs.Calling.{word, at_entry, global_pointer_lines, return_lines}
use Rattle.sim_rules_spec.specs.Systems.{Relation, frame_over, IsBinaryFine, IsSourceFine}
use Rattle.agreement_laws.specs.EntryFrame.{Pair, Fact, result_term, entry_frame, binary_facts, local_facts, lines_of}

-- the zone is the caller's
abbrev pub inner_convention : Pair → Zone → Convention
inner_convention p zone = record {
  zone_from = word zone.low;
  zone_to = word zone.high;
  bottom = zone.low;
  top = zone.high;
  returns = return_lines (result_term p.body.signature.result);
  fixed = fixed_byte p.image;
}

-- the return address is a multiple of 4 and the stack pointer one of 16, and the function's stack is inside the zone; the
-- global pointer is the file's, where it has one
abbrev pub inner_premises : Pair → Zone → List Term
inner_premises p zone =
    equal (bit_and (at_entry 1) (word 3)) (word 0)
    ∷ equal (bit_and (at_entry 2) (word 15)) (word 0)
    ∷ not_term (less (at_entry 2) (word (zone.low + p.stack)))
    ∷ not_term (less (word zone.high) (at_entry 2))
    ∷ global_pointer_lines (global_pointer p.image)

abbrev pub inner_zone_facts : Zone → List Fact
inner_zone_facts zone = record { variable = zone_low; term = word zone.low } ∷ record { variable = zone_high; term = word zone.high } ∷ []

-- registers and locals have what they have at an entry, and memories are equal outside the zone
abbrev pub inner_known : Pair → Zone → Relation
inner_known p zone =
    all_hold (with_memory (inner_convention p zone)
    (lines_of (binary_facts p ++ (local_facts 0 p.body.signature.parameters p.body.locals ++ inner_zone_facts zone))))

abbrev pub inner_frame : Pair → Zone → Frame
inner_frame p zone = record (entry_frame p) {
  entry = inner_premises p zone;
  start = record (entry_frame p).start { premises = inner_premises p zone };
}

-- the binary's memory has this byte at an address
abbrev pub has_there : (ℕ → ℕ) → ℕ → Value → Bool
has_there before at (Bytes bytes) = bytes at == before at
has_there before at (Truth t) = false
has_there before at (Number w n) = false

-- the address is in the zone, and not among the bytes below the stack pointer at entry that the function takes
abbrev pub is_kept : (stack : ℕ) → Zone → Value → ℕ → Bool
is_kept stack zone (Number w sp) at = (nat_le zone.low at && nat_lt at zone.high) && not (nat_le sp (at + stack) && nat_lt at sp)
is_kept stack zone (Truth t) at = false
is_kept stack zone (Bytes bytes) at = false

abbrev pub before_here : (ℕ → ℕ) → Relation
before_here before at x y = has_there before at (values_in x binary_memory)

-- the bytes of the zone that are not the function's are as before
abbrev pub before_kept : Pair → Zone → (ℕ → ℕ) → Relation
before_kept p zone before at x y = not (is_kept p.stack zone (values_in x (entry_register 2)) at) || before_here before at x y

-- the function's frame with the zone of a caller, where the binary's memory was this at its entry
abbrev pub inner_over : Pair → Zone → (before : ℕ → ℕ) → systems.Frame State State
inner_over p zone before =
    let f = frame_over (inner_convention p zone) (inner_known p zone) (inner_frame p zone) in
    record f {
      premise = both (before_here before) f.premise;
      returns = both (before_kept p zone before) f.returns;
    }

-- for every zone without fixed bytes
abbrev pub Inner : Pair → Type 0
Inner p = (zone : Zone) → zone.high < 2 ^ 32 → ((address : ℕ) → InZone zone address → fixed_byte p.image address ≡ None)
    → (before : ℕ → ℕ) → Simulates (inner_over p zone before) (IsBinaryFine (inner_convention p zone) (inner_frame p zone)) (IsSourceFine (inner_convention p zone) (inner_frame p zone))
