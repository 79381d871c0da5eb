-- What the laws of proofs say.
use Rattle.std.specs.Prelude.{◌≡◌, ◌<◌, ◌^◌, List, ◌++◌, All, Contains}
use Rattle.memory_spec.specs.Zones.{Zone}
use Rattle.elf_read_spec.specs.Image.{Image, function_named}
use Rattle.elf_read_spec.specs.declared.SymbolValues.TheVariants.{One}
use Rattle.code_reach_spec.specs.Code.{IsStack}
use Rattle.term_core_spec.specs.Term.{Term}
use Rattle.graph_core_spec.specs.Graph.{Graph}
use Rattle.decompile_spec.specs.Blocks as code
use Rattle.decompile_spec.specs.CodeGraph.{IsCodeGraph}
use Rattle.c_types_spec.specs.Core.{Typed}
use Rattle.c_types_spec.specs.HasType.{IsTypedUnit}
use Rattle.c_graph_spec.specs.Guards.{Place}
use Rattle.c_graph_spec.specs.SourceGraph.{graphs_of}
use Rattle.proof_tree_spec.specs.Frames.{Start, Goal, Hold}
use Rattle.sim_rules_spec.specs.Points.{is_binary, is_source}
use Rattle.sim_rules_spec.specs.Proper.{IsOwnGraph}
use Rattle.sim_rules_spec.specs.Systems.{IsSimulated}
use Rattle.validity_spec.specs.Claim.{Agrees, IsValid}
use Rattle.agreement_laws.specs.EntryFrame.{Pair, convention_of, entry_premises}
use Rattle.agreement_laws.specs.Statements.{IsPair, IsSimulatedAtEntry}
use Rattle.agreement_laws.specs.Callers.{Base, frame_in}
use Rattle.validity_laws.specs.Inlined.{IsInlined}
use Rattle.validity_laws.specs.Derivation.{Function, pair_for, Origin, opening, IsProved, AreSides, AreProved}

-- the functions that may be called are simulated
abbrev pub AreSimulated : Pair → List Function → Type 0
AreSimulated q earlier = (g : Function) → Contains earlier g → IsPair (pair_for q g) × IsSimulatedAtEntry (pair_for q g)

-- then a frame that is proved, whose premises begin with what holds at the entry, is simulated
abbrev pub ProofsSimulate : Type 0
ProofsSimulate = (q : Pair) (b : Base) (earlier : List Function) (origin : Origin) (start : Start) (goals : List Goal) (holds : List Hold) (more : List Term) (zone : Zone)
    → IsPair q → AreSides q → q.stack < 2 ^ 32 → AreSimulated q earlier → IsInlined q b → start.premises ≡ entry_premises q ++ more → IsProved q b earlier origin start goals holds
    → IsSimulated (convention_of q zone) (opening q zone origin).known (frame_in q b start goals holds)

-- functions that are proved in order agree with their sources
abbrev pub FunctionsAgree : Type 0
FunctionsAgree = (q : Pair) (functions : List Function) → AreSides q → AreProved q functions → (g : Function) → Contains functions g
    → IsStack q.image g.entry g.stack → Agrees q.image q.unit g.body.name g.body.signature g.entry

-- and are valid, where the file has them at their names; of q its executable, unit and
-- graphs are spoken of
abbrev pub FunctionsAreValid : Type 0
FunctionsAreValid = (q : Pair) (functions : List Function) → AreSides q → AreProved q functions → (g : Function) → Contains functions g
    → function_named q.image g.body.name ≡ One g.entry → IsStack q.image g.entry g.stack
    → IsValid q.image q.unit g.body.name g.stack

-- ---- graphs

-- graphs of code speak of the binary's variables alone
abbrev pub CodeGraphsAreOwn : Type 0
CodeGraphsAreOwn = (image : Image) (f : code.Setting) (graph : Graph) → IsCodeGraph image f graph → IsOwnGraph is_binary graph

-- and those of a typed unit of the source's
abbrev pub SourceGraphsAreOwn : Type 0
SourceGraphsAreOwn = (unit : Typed) (where_it_is : Place) → IsTypedUnit unit → All (IsOwnGraph is_source) (graphs_of unit where_it_is)
