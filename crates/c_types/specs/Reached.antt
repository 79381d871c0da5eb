-- What is reached in a unit.
use Rattle.std.specs.Prelude.{◌≡◌, List, [], Ok}
use Rattle.c_syntax_spec.specs.Unit as tree
use Rattle.c_types_spec.specs.Core.{Body}
use Rattle.c_types_spec.specs.Names.{State, start}
use Rattle.c_types_spec.specs.Units.{external_declarations}

-- some external declarations give these bodies and this state
abbrev pub IsReached : List Body → State → Type 0
IsReached bodies st = (unit : tree.TranslationUnit) × (external_declarations unit [] start ≡ Ok (bodies, st))
