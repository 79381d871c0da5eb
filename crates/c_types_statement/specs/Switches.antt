-- The labels and groups of a `switch` so far, as the program has them.
use Rattle.std.specs.Prelude.{ℤ, List, map, Option, Vec}
use Rattle.std.specs.declared.alloc.Global.{Global}
use Rattle.c_types_core.specs.declared.action.Group.{Group}
use Rattle.c_types_core.specs.Actions.{group_of}
use Rattle.c_types_statement.specs.Groups.{SoFar}

abbrev pub so_far : List (Option ℤ) → Vec Group Global → SoFar
so_far seen done = record { seen = seen; done = map group_of done.items }
