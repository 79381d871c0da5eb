-- A part of a block, and a group of a `switch`, by itself.
use Rattle.std.specs.Prelude.{ℤ, ◌||◌, not, Bool, false, List, [], ◌∷◌, ◌++◌, Option, Result}
use Rattle.c_syntax_spec.specs.Unit as tree
use Rattle.c_syntax.specs.Statements.{Piece, Declares, States}
use Rattle.c_types_spec.specs.declared.Scalar.{Scalar}
use Rattle.c_types_spec.specs.declared.TypeFaultKind.TheVariants.{Fallthrough}
use Rattle.c_types_spec.specs.Core.{Action}
use Rattle.c_types_spec.specs.Names.{Fault, Typing, ◌>>=◌, ◌>>◌, give, rule, faults_at, hidden_block}
use Rattle.c_types_spec.specs.Statements.{Context, labels, declaration, statement, parts, ends, first_offset}

-- its labels and what it does, after groups of these labels
unfoldable pub group : List tree.Label × tree.Parts → Context → (type : Scalar) → (seen : List (Option ℤ)) → Typing (List (Option ℤ) × Action)
group given context type seen = hidden_block (do
  values ← labels given.0 type seen []
  body ← parts given.1 context []
  give (values, body))

-- control doesn't go on after it, where it is not the last
unfoldable pub ended : List tree.Label × tree.Parts → (is_last : Bool) → Result (Unit {0}) Fault
ended given is_last = faults_at (first_offset given.0) ((not (is_last || ends given.1 false), Fallthrough) ∷ [])

-- the actions after those of one more part of a block
unfoldable pub one_part : Piece → Context → List Action → Typing (List Action)
one_part (Declares locals) context done = declaration locals done
one_part (States first) context done = do
  action ← statement first context
  give (done ++ action ∷ [])

-- the labels and the groups of a `switch` so far
pub record SoFar : Type 0 where
  pub seen : List (Option ℤ)
  pub done : List (List (Option ℤ) × Action)

-- and those after one more group
unfoldable pub one_group : List tree.Label × tree.Parts → (is_last : Bool) → Context → (type : Scalar) → SoFar → Typing SoFar
one_group given is_last context type so_far = do
  made ← group given context type so_far.seen
  rule (ended given is_last)
  give (record { seen = so_far.seen ++ made.0; done = so_far.done ++ made ∷ [] })
