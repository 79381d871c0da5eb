-- A small scope, for worked facts: of `int f(int a)` beside `void g(int)`.
use Rattle.std.specs.Prelude.{[], ◌∷◌, codes, Some, None}
use Rattle.c_types_spec.specs.Types.{int}
use Rattle.c_types_spec.specs.HasType.{Scope}

abbrev pub small : Scope
small = record { locals = int ∷ []; globals = []; functions = (codes "g", record { parameters = int ∷ []; result = None }) ∷ []; returned = Some int }
