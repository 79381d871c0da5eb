-- What the laws of graphs say of each unit that has a typed core.
use Rattle.std.specs.Prelude.{◌≡◌, ℕ, ℤ, IsSome, List, All, Some, Ok}
use Rattle.memory_spec.specs.Memory.{Memory}
use Rattle.memory_spec.specs.Zones.{Zone}
use Rattle.term_core_spec.specs.Value.{Assignment}
use Rattle.graph_core_spec.specs.Graph.{IsValid}
use Rattle.c_syntax_spec.specs.Unit.{TranslationUnit}
use Rattle.c_types_spec.specs.Core.{Body, Typed}
use Rattle.c_types_spec.specs.Units.{typed}
use Rattle.c_run_spec.specs.Calls.{locals_at_entry, body_named}
use Rattle.pair_setup_spec.specs.SourceReach.{Reaches}
use Rattle.c_graph_spec.specs.Guards.{Place}
use Rattle.c_graph_spec.specs.SourceGraph.{graphs_of}
use Rattle.c_graph_laws.specs.Together.{IsPlace, Alike, RunTogether}

-- a call of a function with a body, all of whose reached functions have bodies
pub record IsCall (core : Typed) (where_it_is : Place) (zone : Zone) (name : List ℕ) (body : Body) (arguments : List ℤ) (bytes : Memory) (values : Assignment) : Type 0 where
  pub placed : IsPlace where_it_is
  pub body_is : body_named core.bodies name ≡ Some body
  pub bodies : (other : List ℕ) → Reaches core name other → IsSome (body_named core.bodies other)
  pub alike : Alike body.locals (locals_at_entry body.locals arguments) bytes zone values

abbrev pub CallsRunTogether : TranslationUnit → Typed → Type 0
CallsRunTogether unit core = (where_it_is : Place) (zone : Zone) (name : List ℕ) (body : Body) (arguments : List ℤ) (bytes : Memory) (values : Assignment) → typed unit ≡ Ok core
    → IsCall core where_it_is zone name body arguments bytes values → RunTogether core where_it_is zone name body arguments bytes values

abbrev pub HasValidGraphs : TranslationUnit → Typed → Type 0
HasValidGraphs unit core = (where_it_is : Place) → typed unit ≡ Ok core → IsPlace where_it_is → All IsValid (graphs_of core where_it_is)
