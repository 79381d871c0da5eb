-- The labels of a `switch`, all groups together.
use Rattle.std.specs.Prelude.{ℕ, ℤ, if◌then◌else◌, List, [], ◌∷◌, ◌++◌, Option, Result, Ok}
use Rattle.std.specs.List.{list_any}
use Rattle.c_types_spec.specs.declared.TypeFaultKind.TheVariants.{Twice}
use Rattle.c_syntax_spec.specs.Unit as tree
use Rattle.c_types_spec.specs.declared.Scalar.{Scalar}
use Rattle.c_types_spec.specs.Names.{Fault, Typing, ◌>>=◌, fail, rule}
use Rattle.c_types_spec.specs.Statements.{label, same_label}

-- 6.8.4.2p3: one more label, which is not among those so far
abbrev pub with_label : (seen : List (Option ℤ)) → (made : Option ℤ) → (offset : ℕ) → Result (List (Option ℤ)) Fault
with_label seen made offset = if list_any (λ other. same_label other made) seen then fail Twice offset else Ok (seen ++ made ∷ [])

-- all labels so far after one of a group
unfoldable pub one_label : tree.Label → (type : Scalar) → (seen : List (Option ℤ)) → Typing (List (Option ℤ))
one_label first type seen = do
  made ← label first type
  rule (with_label seen made.0 made.1)
