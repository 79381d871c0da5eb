-- The frame at the entry of a function of an executable and of a C unit, and the terms of both sides' variables there.
use Rattle.std.specs.Prelude.{ℕ, suc, ◌+◌, ◌-◌, true, false, List, [], ◌∷◌, ◌++◌, length, map, Option, option_map, if◌then◌else◌}
use Rattle.memory_spec.specs.Runs as memory
use Rattle.memory_spec.specs.Zones.{Zone}
use Rattle.elf_read_spec.specs.Image.{Image, fixed_byte, global_pointer}
use Rattle.term_core_spec.specs.declared.Width.TheVariants.{W32}
use Rattle.term_core_spec.specs.declared.Family.TheVariants.{Parameter}
use Rattle.term_core_spec.specs.declared.Variable.{Variable}
use Rattle.term_core_spec.specs.Same.{same_variable}
use Rattle.term_core_spec.specs.Term.{Term, equal, open_term, truth}
use Rattle.term_core_spec.specs.Substitution.{State as Terms}
use Rattle.graph_core_spec.specs.Graph.{Graphs}
use Rattle.decompile_spec.specs.Blocks.{Entrance}
use Rattle.decompile_spec.specs.State as code
use Rattle.decompile_laws.specs.Together.{Numbering}
use Rattle.c_types_spec.specs.declared.Scalar.{Scalar}
use Rattle.c_types_spec.specs.Core.{Body, Typed}
use Rattle.c_graph_spec.specs.State.{sort_of_scalar, local, is_set, zone_low, zone_high, result}
use Rattle.c_graph_spec.specs.Values.{at_width}
use Rattle.c_graph_spec.specs.Guards.{Place}
use Rattle.c_graph_spec.specs.SourceGraph.{body_number, graphs_of}
use Rattle.proof_tree_spec.specs.Scope as scope
use Rattle.proof_tree_spec.specs.Frames.{Frame}
use Rattle.sim_rules_spec.specs.Points.{Convention, with_memory, all_hold}
use Rattle.sim_rules_spec.specs.Calling.{Run, convention, entry_lines, zone_from, at_entry}
use Rattle.sim_rules_spec.specs.Rules.{Opening, at_cut}
use Rattle.validity_spec.specs.Claim.{globals_of}

-- a function: its entry in an executable, how much stack it takes there, and the graphs of its code; and its body in a
-- unit
pub record Pair : Type 0 where
  pub image : Image
  pub entry : ℕ
  pub stack : ℕ
  pub numbering : Numbering
  pub graphs : Graphs
  pub unit : Typed
  pub body : Body

-- where the C run takes place: globals at their symbols' values, and the fixed bytes
abbrev pub place_of : Pair → Place
place_of p = record { globals = globals_of p.image; runs = p.numbering.runs }

-- ---- lines

abbrev pub parameter : (number : ℕ) → Scalar → Variable
parameter number type = record { family = Parameter; index = number; instance = 0; sort = sort_of_scalar type }

-- a value of a type, widened to a word by the sign of the type
abbrev pub widened : Scalar → Variable → Term
widened type v = at_width type W32 (open_term v)

abbrev pub result_term : Option Scalar → Option Term
result_term = option_map (λ type. widened type (result type))

-- in runs in which this is the dead stack
abbrev pub convention_of : Pair → Zone → Convention
convention_of p zone = convention p.stack zone.low zone.high (result_term p.body.signature.result) (fixed_byte p.image)

abbrev pub run_of : memory.Run → Run
run_of run = record { first = run.start; last = run.start + length run.bytes - 1 }

abbrev pub entry_premises : Pair → List Term
entry_premises p = entry_lines p.stack (global_pointer p.image) (map run_of p.numbering.runs)

-- ---- the frame

-- parameters, locals and argument words of the function; nothing is inlined in it
abbrev pub scope_of : Body → scope.Setting
scope_of body = record {
  argument_words = length body.signature.parameters;
  parameters = map sort_of_scalar body.signature.parameters;
  bodies = record { path = []; instance = 0; locals = map sort_of_scalar body.locals } ∷ [];
}

-- from the landing nodes at which both graphs begin to their returns: there is no goal
abbrev pub entry_frame : Pair → Frame
entry_frame p = record {
  binary = record { graphs = p.graphs; outermost = p.numbering.graph_number p.entry };
  source = record { graphs = graphs_of p.unit (place_of p); outermost = body_number p.body.name p.unit.bodies };
  setting = scope_of p.body;
  entry = entry_premises p;
  start = record {
    nodes = record { binary = p.numbering.node_number p.entry Entrance; source = 0 };
    path = [];
    premises = entry_premises p;
    binary_bounds = [];
    source_bounds = [];
  };
  goals = [];
  holds = [];
}

-- ---- the terms of variables at the entry

-- a variable that has the value of a term
pub record Fact : Type 0 where
  pub variable : Variable
  pub term : Term

-- the terms of these variables, the first of each; of others those of `rest`
abbrev pub given : List Fact → (rest : Terms) → Terms
given [] rest = rest
given (fact ∷ facts) rest = λ v. if same_variable v fact.variable then fact.term else given facts rest v

-- the facts as lines
abbrev pub lines_of : List Fact → List Term
lines_of = map (λ (fact : Fact). equal (open_term fact.variable) fact.term)

-- the registers of arguments have the parameters, widened
abbrev pub argument_facts : (number : ℕ) → List Scalar → List Fact
argument_facts number [] = []
argument_facts number (type ∷ types) =
    record { variable = code.register (10 + number); term = widened type (parameter number type) } ∷ argument_facts (suc number) types

abbrev pub registers : List ℕ
registers =
    1 ∷ 2 ∷ 3 ∷ 4 ∷ 5 ∷ 6 ∷ 7 ∷ 8 ∷ 9 ∷ 10 ∷ 11 ∷ 12 ∷ 13 ∷ 14 ∷ 15 ∷ 16 ∷ 17 ∷ 18 ∷ 19 ∷ 20 ∷ 21 ∷ 22 ∷ 23 ∷ 24 ∷ 25
    ∷ 26 ∷ 27 ∷ 28 ∷ 29 ∷ 30 ∷ 31 ∷ []

-- and each other register has its value at entry
abbrev pub binary_facts : Pair → List Fact
binary_facts p =
    argument_facts 0 p.body.signature.parameters
    ++ map (λ (r : ℕ). record { variable = code.register r; term = at_entry r }) registers

-- parameters are the first locals and are set; the other locals aren't
abbrev pub local_facts : (number : ℕ) → (parameters locals : List Scalar) → List Fact
local_facts number parameters [] = []
local_facts number [] (type ∷ locals) = record { variable = is_set number; term = truth false } ∷ local_facts (suc number) [] locals
local_facts number (parameter_type ∷ parameters) (type ∷ locals) =
    record { variable = is_set number; term = truth true }
    ∷ record { variable = local number parameter_type; term = open_term (parameter number parameter_type) }
    ∷ local_facts (suc number) parameters locals

-- the zone is the dead stack
abbrev pub zone_facts : (stack : ℕ) → List Fact
zone_facts stack = record { variable = zone_low; term = zone_from stack } ∷ record { variable = zone_high; term = at_entry 2 } ∷ []

abbrev pub source_facts : Pair → List Fact
source_facts p = local_facts 0 p.body.signature.parameters p.body.locals ++ zone_facts p.stack

-- memory is as at a cut: the binary's is the source's with the zone's over it
abbrev pub entry_opening : Pair → Zone → Opening
entry_opening p zone = record {
  binary = given (binary_facts p) (at_cut (convention_of p zone)).binary;
  source = given (source_facts p) open_term;
  known = all_hold (with_memory (convention_of p zone) (lines_of (binary_facts p ++ source_facts p)));
}
