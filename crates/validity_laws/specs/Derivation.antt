-- What it is that a frame of a function is proved, over its graphs: a tree of rules, each with its obligations, which are
-- true wherever the source's memory holds the fixed bytes. And functions that are proved in order.
use Rattle.std.specs.Prelude.{◌≡◌, ◌≤◌, ◌<◌, ◌^◌, ℕ, List, [], ◌∷◌, ◌++◌, All, Contains, IsSome, Some}
use Rattle.memory_spec.specs.Zones.{Zone}
use Rattle.elf_read_spec.specs.Image.{size_at}
use Rattle.code_reach_spec.specs.Faults.{HasNoFault, ReachesNoFault}
use Rattle.term_core_spec.specs.Term.{Term, not_term}
use Rattle.graph_core_spec.specs.TransitionSystem.{AreCounted}
use Rattle.graph_core_spec.specs.declared.Mark.{Mark}
use Rattle.graph_core_spec.specs.Graph.{Graph}
use Rattle.decompile_spec.specs.CodeGraph.{IsCodeGraph}
use Rattle.decompile_laws.specs.Together.{AreCodeGraphs, setting}
use Rattle.c_types_spec.specs.Core.{Body}
use Rattle.c_types_spec.specs.HasType.{IsTypedUnit}
use Rattle.c_run_spec.specs.Calls.{body_named}
use Rattle.pair_setup_spec.specs.SourceReach.{Reaches}
use Rattle.c_graph_spec.specs.Sizes.{UnitSizes}
use Rattle.c_graph_spec.specs.SourceGraph.{body_number}
use Rattle.c_graph_laws.specs.Together.{IsPlace}
use Rattle.proof_tree_spec.specs.declared.Counts.{Counts}
use Rattle.proof_tree_spec.specs.declared.Nodes.{Nodes}
use Rattle.proof_tree_spec.specs.Scope.{IsLine}
use Rattle.proof_tree_spec.specs.Cuts.{AreCounts, once}
use Rattle.proof_tree_spec.specs.Frames.{Start, Goal, Hold, Frame, binary_marks, source_marks, with_premise, with_binary_bound, with_source_bound, goal_at, from_cut, LetsPass, IsClear}
use Rattle.sim_rules_spec.specs.Points.{Convention}
use Rattle.sim_rules_spec.specs.Systems.{hold_over}
use Rattle.sim_rules_spec.specs.Rules.{Opening, AreOfLeaf, AreOfBinaryRestrict, AreOfSourceRestrict, AreOfWait, AreTrueWith, at_cut}
use Rattle.sim_rules_spec.specs.Calls.{AreTrueOfCall}
use Rattle.sim_rules_spec.specs.Crossing.{AreCallsAt, pair_of}
use Rattle.agreement_laws.specs.EntryFrame.{Pair, place_of, convention_of, entry_frame, entry_opening}
use Rattle.validity_laws.specs.Inlined.{IsInlined}
use Rattle.agreement_laws.specs.Callers.{function_of, callee_of, Base, frame_in}

-- a function of the executable and of the unit: its entry, how much stack it takes, and its body
pub record Function : Type 0 where
  pub entry : ℕ
  pub stack : ℕ
  pub body : Body

abbrev pub pair_for : Pair → Function → Pair
pair_for q g = function_of q g.entry g.stack g.body

-- ---- frames

-- where a frame starts: at the entry of the function, or at a cut
pub data Origin : Type 0 where
  AtEntry : Origin
  AtCut : Origin

abbrev pub opening : Pair → Zone → Origin → Opening
opening q zone AtEntry = entry_opening q zone
opening q zone AtCut = at_cut (convention_of q zone)

-- obligations are the same wherever the zone is
abbrev pub no_zone : Zone
no_zone = record { low = 0; high = 0 }

abbrev pub stated : Pair → Convention
stated q = convention_of q no_zone

-- the start of the frame from a cut on
abbrev pub start_at : Pair → Nodes → (path : List ℕ) → (lines : List Term) → Start
start_at q nodes path lines = (from_cut (entry_frame q) nodes path lines).start

-- each goal and each bound counts an arrival at least
pub record HasCounts (f : Frame) : Type 0 where
  pub binary_goals : AreCounted (binary_marks f)
  pub source_goals : AreCounted (source_marks f)
  pub binary_bounds : AreCounted f.start.binary_bounds
  pub source_bounds : AreCounted f.start.source_bounds

-- ---- calls

-- calls of an earlier function on both sides; lines before and after them, in the body of a path; and valid obligations
pub record IsCallOf (q : Pair) (earlier : List Function) (f : Frame) (path : List ℕ) (call landing : Hold) : Type 0 where
  pub function : Function
  pub is_earlier : Contains earlier function
  pub calls : AreCallsAt f (hold_over (stated q) call) (hold_over (stated q) landing)
  pub binary_callee : calls.binary.callee ≡ q.numbering.graph_number function.entry
  pub source_callee : calls.source.callee ≡ body_number function.body.name q.unit.bodies
  pub before : All (IsLine f.setting path) call.relation
  pub later : All (IsLine f.setting path) landing.relation
  pub valid : AreTrueOfCall (stated q) f (pair_of f (hold_over (stated q) call) (hold_over (stated q) landing) calls) (callee_of (pair_for q function)) call.relation landing.relation

-- ---- proofs

-- the frame over these graphs with this start, goals and holds is proved; calls are of earlier functions
pub data IsProved (q : Pair) (b : Base) (earlier : List Function) : Origin → Start → List Goal → List Hold → Type 0 where
  leaf : (origin : Origin) (start : Start) (goals : List Goal) (holds : List Hold) (terms : List Term) → HasCounts (frame_in q b start goals holds)
      → AreOfLeaf (stated q) (opening q no_zone origin) (frame_in q b start goals holds) terms → AreTrueWith (stated q) terms
      → IsProved q b earlier origin start goals holds
  case : (origin : Origin) (start : Start) (goals : List Goal) (holds : List Hold) (test : Term) → IsLine b.setting start.path test
      → IsProved q b earlier origin (with_premise start test) goals holds → IsProved q b earlier origin (with_premise start (not_term test)) goals holds
      → IsProved q b earlier origin start goals holds
  binary_bound : (origin : Origin) (start : Start) (goals : List Goal) (holds : List Hold) (bound : Mark) (terms : List Term) → HasCounts (frame_in q b start goals holds)
      → 1 ≤ bound.count → AreOfBinaryRestrict (opening q no_zone origin) (frame_in q b start goals holds) bound terms → AreTrueWith (stated q) terms
      → IsProved q b earlier origin (with_binary_bound start bound) goals holds → IsProved q b earlier origin start goals holds
  source_bound : (origin : Origin) (start : Start) (goals : List Goal) (holds : List Hold) (bound : Mark) (terms : List Term) → HasCounts (frame_in q b start goals holds)
      → 1 ≤ bound.count → AreOfSourceRestrict (opening q no_zone origin) (frame_in q b start goals holds) bound terms → AreTrueWith (stated q) terms
      → IsProved q b earlier origin (with_source_bound start bound) goals holds → IsProved q b earlier origin start goals holds
  split : (origin : Origin) (start : Start) (goals : List Goal) (holds : List Hold) (cut : Hold) (enter step : Counts) (path : List ℕ)
      → HasCounts (frame_in q b start goals holds) → AreCounts enter → AreCounts step → LetsPass (frame_in q b start goals holds) cut.nodes
      → IsProved q b earlier origin start (goals ++ goal_at cut.nodes enter cut.relation ∷ []) holds
      → IsProved q b earlier AtCut (start_at q cut.nodes path cut.relation) (goals ++ goal_at cut.nodes step cut.relation ∷ []) holds
      → IsProved q b earlier origin start goals holds
  call : (origin : Origin) (start : Start) (goals : List Goal) (holds : List Hold) (call landing : Hold) (path : List ℕ)
      → HasCounts (frame_in q b start goals holds) → LetsPass (frame_in q b start goals holds) call.nodes → IsClear (frame_in q b start goals holds) landing.nodes
      → IsCallOf q earlier (frame_in q b start goals holds) path call landing
      → IsProved q b earlier origin start (goals ++ goal_at call.nodes once call.relation ∷ []) holds
      → IsProved q b earlier AtCut (start_at q landing.nodes path landing.relation) goals holds
      → IsProved q b earlier origin start goals holds
  hold : (origin : Origin) (start : Start) (goals : List Goal) (holds : List Hold) (cut : Hold) (step : Counts) (path : List ℕ)
      → HasCounts (frame_in q b start goals holds) → AreCounts step → LetsPass (frame_in q b start goals holds) cut.nodes
      → IsProved q b earlier origin start goals (holds ++ cut ∷ [])
      → IsProved q b earlier AtCut (start_at q cut.nodes path cut.relation) (goals ++ goal_at cut.nodes step cut.relation ∷ []) holds
      → IsProved q b earlier origin start goals holds
  wait : (origin : Origin) (start : Start) (goals : List Goal) (holds : List Hold) (cut : Hold) (terms : List Term) → HasCounts (frame_in q b start goals holds)
      → Contains holds cut → cut.nodes.source ≡ start.nodes.source
      → AreOfWait (stated q) (opening q no_zone origin) (frame_in q b start goals holds) cut terms → AreTrueWith (stated q) terms
      → IsProved q b earlier origin start goals holds

-- ---- functions

-- an executable, a unit and graphs: each graph of code is that of a function without faults; the unit is typed, and its
-- globals and the fixed bytes have addresses below 2 ^ 32
pub record AreSides (q : Pair) : Type 0 where
  pub of_code : All (λ (g : Graph). (entry : ℕ) × (size : ℕ) × HasNoFault q.image entry size × IsCodeGraph q.image (setting q.numbering entry size) g) q.graphs
  pub typed : IsTypedUnit q.unit
  pub sizes : UnitSizes q.unit
  pub placed : IsPlace (place_of q)

-- a function of both sides: what its code reaches has no faults and graphs; it has a body, and so has what that reaches
pub record IsFunction (q : Pair) (g : Function) : Type 0 where
  pub is_there : IsSome (size_at q.image g.entry)
  pub no_fault : ReachesNoFault q.image g.entry
  pub graphs : AreCodeGraphs q.image g.entry q.numbering q.graphs
  pub body_is : body_named q.unit.bodies g.body.name ≡ Some g.body
  pub bodies : (other : List ℕ) → Reaches q.unit g.body.name other → IsSome (body_named q.unit.bodies other)

-- a function is proved: the frame at its entry is, over its graphs or with calls inlined in them
pub record IsProvedFunction (q : Pair) (earlier : List Function) (g : Function) : Type 0 where
  pub function : IsFunction q g
  pub small : g.stack < 2 ^ 32
  pub base : Base
  pub inlined : IsInlined (pair_for q g) base
  pub proved : IsProved (pair_for q g) base earlier AtEntry (entry_frame (pair_for q g)).start [] []

-- each is proved after those before it
pub data AreProved (q : Pair) : List Function → Type 0 where
  none : AreProved q []
  one_more : (earlier : List Function) (g : Function) → AreProved q earlier → IsProvedFunction q earlier g → AreProved q (earlier ++ g ∷ [])
