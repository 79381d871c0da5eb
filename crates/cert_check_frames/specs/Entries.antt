-- What is made for the functions of a pair of files, as the definitions have it.
use Rattle.std.specs.Prelude.{◌≡◌, ℕ, Vec, List, [], length, map, get_or, Some, slice_get}
use Rattle.std.specs.Global.{Global}
use Rattle.indexmap.specs.IndexMap.{IndexMap}
use Rattle.memory_spec.specs.declared.Run.{Run as CodeRun}
use Rattle.memory_spec.specs.Viewed.{runs_of}
use Rattle.elf_read_spec.specs.Image.{global_pointer}
use Rattle.graph_core.specs.declared.graph.Graph.{Graph}
use Rattle.graph_core.specs.Graphs.{graphs_of}
use Rattle.decompile_spec.specs.Blocks.{Entrance}
use Rattle.c_types_spec.specs.Core.{Body}
use Rattle.c_graph_spec.specs.SourceGraph as source
use Rattle.c_graph_spec.specs.SourceGraph.{body_number}
use Rattle.proof_tree_spec.specs.declared.Place.{Place}
use Rattle.proof_tree.specs.Frames.{terms_of}
use Rattle.proof_tree.specs.Scope.{setting_of}
use Rattle.sim_rules_spec.specs.Calling.{entry_lines, return_lines}
use Rattle.sim_rules_terms.specs.declared.convention.Convention.{Convention}
use Rattle.sim_rules_terms.specs.Conventions.{IsConventionOf}
use Rattle.agreement_laws.specs.EntryFrame.{Pair, place_of, result_term, run_of, scope_of}
use Rattle.validity_laws.specs.Derivation.{Function, pair_for, stated}
use Rattle.cert_check_frames.specs.declared.entries.Entry.{Entry}
use Rattle.cert_check_frames.specs.declared.entries.File.{File}
use Rattle.cert_check_frames.specs.declared.entries.Numbers.{Numbers}
use Rattle.cert_check_frames.specs.declared.listed.PlaceNode.{PlaceNode}
use Rattle.cert_check_frames.specs.Facts.{facts_of, binary_facts_of, source_facts_of}
use Rattle.cert_check_frames.specs.Listed.{places_in}

-- the function's body, its stack and its numbers; and what the file has
pub record IsOf (q : Pair) (g : Function) (body : Body) (stack : ℕ) (numbers : Numbers) (file : File) : Type 0 where
  pub body_is : g.body ≡ body
  pub stack_is : g.stack ≡ stack
  pub code_is : q.numbering.graph_number g.entry ≡ numbers.code
  pub source_is : body_number g.body.name q.unit.bodies ≡ numbers.body
  pub first_is : q.numbering.node_number g.entry Entrance ≡ numbers.first
  pub pointer_is : global_pointer q.image ≡ file.pointer
  pub runs_are : q.numbering.runs ≡ runs_of file.runs.now

-- what the frame at the function's entry is made of
pub record IsEntryOf (q : Pair) (g : Function) (e : Entry) : Type 0 where
  pub named : e.name.now ≡ g.body.name
  pub stack_is : e.stack ≡ g.stack
  pub code_is : e.numbers.code ≡ q.numbering.graph_number g.entry
  pub source_is : e.numbers.body ≡ body_number g.body.name q.unit.bodies
  pub first_is : e.numbers.first ≡ q.numbering.node_number g.entry Entrance
  pub setting_is : setting_of e.setting ≡ scope_of g.body
  pub lines_are : terms_of e.relations.lines.items ≡ entry_lines g.stack (global_pointer q.image) (map run_of q.numbering.runs)
  pub returns_are : terms_of e.relations.returns.items ≡ return_lines (result_term g.body.signature.result)
  pub binary_are : facts_of e.facts.binary.items ≡ binary_facts_of g.stack g.body.signature.parameters
  pub source_are : facts_of e.facts.source.items ≡ source_facts_of g.stack g.body.signature.parameters g.body.locals

abbrev pub IsConventionFor : Pair → Function → Convention → Type 0
IsConventionFor q g c = IsConventionOf c (stated (pair_for q g))

-- the graphs of both sides, and the fixed bytes
pub record AreGraphs (q : Pair) (code sources : List Graph) (runs : List CodeRun) : Type 0 where
  pub code_are : graphs_of code ≡ q.graphs
  pub sources_are : graphs_of sources ≡ source.graphs_of q.unit (place_of q)
  pub runs_are : runs_of runs ≡ q.numbering.runs

-- an entry, and a convention, for each function
pub record AreEntries (q : Pair) (functions : List Function) (entries : List Entry) : Type 0 where
  pub count : length entries ≡ length functions
  pub each : (k : ℕ) (g : Function) (e : Entry) → slice_get functions k ≡ Some g → slice_get entries k ≡ Some e → IsEntryOf q g e

pub record AreConventions (q : Pair) (functions : List Function) (conventions : List Convention) : Type 0 where
  pub count : length conventions ≡ length functions
  pub each : (k : ℕ) (g : Function) (c : Convention) → slice_get functions k ≡ Some g → slice_get conventions k ≡ Some c → IsConventionFor q g c

-- ---- points

abbrev pub firsts_in : {S : Type 0} → IndexMap ℕ ℕ S → List (ℕ × ℕ)
firsts_in by_address = by_address.entries

-- of a graph that isn't there, none
abbrev pub firsts_by : {S : Type 0} → List (IndexMap ℕ ℕ S) → (number : ℕ) → List (ℕ × ℕ)
firsts_by maps number = get_or (map firsts_in maps) number []

abbrev pub listed_places : Vec PlaceNode Global → List (Place × ℕ)
listed_places places = places_in places.items

abbrev pub places_by : List (Vec PlaceNode Global) → (number : ℕ) → List (Place × ℕ)
places_by places number = get_or (map listed_places places) number []

-- the first nodes of the code's instructions, by the numbers of graphs, and the nodes of the places of all bodies
pub record AreSites {S : Type 0} (q : Pair) (firsts : List (List (ℕ × ℕ))) (maps : List (IndexMap ℕ ℕ S)) (places : List (Vec PlaceNode Global)) : Type 0 where
  pub firsts_are : map firsts_in maps ≡ firsts
  pub places_are : map listed_places places ≡ map (source.points_of q.unit (place_of q)) q.unit.bodies
