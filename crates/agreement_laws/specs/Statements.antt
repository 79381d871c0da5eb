-- What the laws of agreement say.
use Rattle.std.specs.Prelude.{◌≡◌, ℕ, ◌^◌, ◌<◌, ℤ, List, [], All, Some, IsSome}
use Rattle.memory_spec.specs.Zones.{Zone}
use Rattle.elf_read_spec.specs.Image.{Image, size_at, function_named}
use Rattle.elf_read_spec.specs.declared.SymbolValues.TheVariants.{One}
use Rattle.code_reach_spec.specs.Code.{IsStack}
use Rattle.code_reach_spec.specs.Faults.{ReachesNoFault}
use Rattle.rv_machine_spec.specs.Machine.{Machine, read_register}
use Rattle.decompile_spec.specs.Blocks.{Entrance}
use Rattle.decompile_spec.specs.State.{entry_register}
use Rattle.decompile_laws.specs.Together.{AreCodeGraphs, StartAlike}
use Rattle.term_core_spec.specs.declared.Width.TheVariants.{W32}
use Rattle.term_core_spec.specs.Value.{Number, Assignment}
use Rattle.graph_core_spec.specs.Simulation.{IsRelated}
use Rattle.graph_core_spec.specs.Graph as graph
use Rattle.graph_core_spec.specs.Run.{State, Running}
use Rattle.c_types_spec.specs.HasType.{IsTypedUnit}
use Rattle.c_run_spec.specs.Calls.{body_named, locals_at_entry}
use Rattle.pair_setup_spec.specs.SourceReach.{Reaches}
use Rattle.c_graph_spec.specs.Sizes.{UnitSizes}
use Rattle.c_graph_spec.specs.SourceGraph.{body_number}
use Rattle.c_graph_laws.specs.Together.{IsPlace, Alike}
use Rattle.proof_tree_spec.specs.Cuts.{both}
use Rattle.proof_tree_spec.specs.Frames.{Frame}
use Rattle.sim_rules_spec.specs.Points.{all_hold}
use Rattle.sim_rules_spec.specs.Proper.{Opens}
use Rattle.sim_rules_spec.specs.Systems.{IsSimulated, IsBinaryFine, IsSourceFine}
use Rattle.validity_spec.specs.Convention.{dead_stack, Meets, argument_words}
use Rattle.validity_spec.specs.Claim.{AgreesWith, AgreesFrom, BreaksNoGuard, IsValid, run_from}
use Rattle.agreement_laws.specs.Inner.{Inner}
use Rattle.agreement_laws.specs.EntryFrame.{Pair, place_of, convention_of, entry_frame, entry_opening, entry_premises}

-- a function of a file without faults of code in what it reaches, and its graphs; a body of a typed unit, whose sizes are
-- below the limit and which has the bodies that it reaches; and valid graphs of code
pub record IsPair (p : Pair) : Type 0 where
  pub is_function : IsSome (size_at p.image p.entry)
  pub no_fault : ReachesNoFault p.image p.entry
  pub whole : AreCodeGraphs p.image p.entry p.numbering p.graphs
  pub binary_valid : All graph.IsValid p.graphs
  pub typed : IsTypedUnit p.unit
  pub sizes : UnitSizes p.unit
  pub placed : IsPlace (place_of p)
  pub body_is : body_named p.unit.bodies p.body.name ≡ Some p.body
  pub bodies : (other : List ℕ) → Reaches p.unit p.body.name other → IsSome (body_named p.unit.bodies other)

-- the simulation of the frame at the entry, wherever the dead stack is
abbrev pub IsSimulatedAtEntry : Pair → Type 0
IsSimulatedAtEntry p = (zone : Zone) → IsSimulated (convention_of p zone) (entry_opening p zone).known (entry_frame p)

-- where the frame at the entry is simulated, the code does what the source says
abbrev pub SimulationAgrees : Type 0
SimulationAgrees = (p : Pair) → IsPair p → IsSimulatedAtEntry p → AgreesWith p.image p.unit p.body.name p.body.signature p.entry p.stack

-- there is one number of bytes of stack
abbrev pub OneStack : Type 0
OneStack = (image : Image) (entry one two : ℕ) → IsStack image entry one → IsStack image entry two → one ≡ two

-- and where the function has this name, and takes this much stack, it is valid
abbrev pub SimulatedIsValid : Type 0
SimulatedIsValid = (p : Pair) → IsPair p → IsSimulatedAtEntry p → function_named p.image p.body.name ≡ One p.entry → IsStack p.image p.entry p.stack
    → IsValid p.image p.unit p.body.name p.stack

-- ---- callers

-- where the frame at the entry is simulated, the function gives to its callers what they rely on
abbrev pub SimulatedIsInner : Type 0
SimulatedIsInner = (p : Pair) → IsPair p → IsSimulatedAtEntry p → Inner p

-- ---- what the rules ask at the entry

-- two states of which the facts are known have the values of the opening's terms, whatever the frame's graphs
abbrev pub EntryOpens : Type 0
EntryOpens = (p : Pair) (zone : Zone) (f : Frame) → IsPair p → p.stack < 2 ^ 32 → Opens (convention_of p zone) f (entry_opening p zone)

-- ---- starts

abbrev pub binary_entry : Pair → Assignment → State
binary_entry p a = Running (p.numbering.graph_number p.entry) (p.numbering.node_number p.entry Entrance) a []

abbrev pub source_entry : Pair → Assignment → State
source_entry p b = Running (body_number p.body.name p.unit.bodies) 0 b []

-- where both graphs' runs begin, with a machine and a call with these values: their variables are alike, and the frame
-- speaks of these states
pub record IsEntry (p : Pair) (m : Machine) (arguments : List ℤ) (a b : Assignment) : Type 0 where
  pub machine : StartAlike p.image p.entry m a
  pub entries : (r : ℕ) → a (entry_register r) ≡ Number W32 (read_register m r)
  pub source : Alike p.body.locals (locals_at_entry p.body.locals arguments) m.memory (dead_stack m p.stack) b
  pub premise : IsRelated (both (entry_opening p (dead_stack m p.stack)).known (all_hold (entry_premises p))) (binary_entry p a) (source_entry p b)
  pub binary_fine : IsBinaryFine (convention_of p (dead_stack m p.stack)) (entry_frame p) (binary_entry p a)
  pub source_fine : IsSourceFine (convention_of p (dead_stack m p.stack)) (entry_frame p) (source_entry p b)

-- from each such start, where the convention is met and the C run breaks no guard
abbrev pub EntriesAgree : Type 0
EntriesAgree = (p : Pair) → IsPair p → IsSimulatedAtEntry p → (m : Machine) (arguments : List ℤ) (a b : Assignment)
    → Meets p.image p.entry p.stack m (argument_words arguments)
    → BreaksNoGuard (run_from p.image p.unit p.body.name (dead_stack m p.stack) m arguments)
    → IsEntry p m arguments a b
    → AgreesFrom p.image p.body.signature.result (dead_stack m p.stack) m (run_from p.image p.unit p.body.name (dead_stack m p.stack) m arguments)
