-- Forms and loads as functions of a term, by the runs of the program.
use Rattle.std.specs.Prelude.{List}
use Rattle.term_core_spec.specs.Term.{Term}
use Rattle.memory_spec.specs.declared.Run.{Run}
use Rattle.memory_spec.specs.Viewed.{runs_of}
use Rattle.term_norm_spec.specs.Normal as spec

-- the load at an address, as a function of the memory
abbrev pub load_from : List Run → Term → Term → Term
load_from runs address memory = spec.normal_load (runs_of runs) memory address

-- the form of a term
abbrev pub form_with : List Run → Term → Term
form_with runs term = spec.normal (runs_of runs) term
