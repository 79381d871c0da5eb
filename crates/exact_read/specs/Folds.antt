-- A part, and items after it that are folded into its value from the left.
use Rattle.std.specs.Prelude.{List, ◌++◌, Bool, fold}
use Rattle.exact_read.specs.Reading.{Parser}
use Rattle.exact_read.specs.Grammar.{bind, read_map, read_many}

-- the items after a first value, which begin in its context
abbrev pub read_after : {T K X I C : Type 0} → (starts : C → T → Bool) → (item : C → Parser T K I) → (next : C → I → C) → (apply : X → I → X) → (context : X → C) → (first : X) → Parser T K X
read_after starts item next apply context first = read_map (fold apply first) (read_many starts item next (context first))

abbrev pub read_folded : {T K X I C : Type 0} → (starts : C → T → Bool) → (item : C → Parser T K I) → (next : C → I → C) → (apply : X → I → X) → (context : X → C) → Parser T K X → Parser T K X
read_folded starts item next apply context base tokens = bind (base tokens) (λ x rest. read_after starts item next apply context x rest)

-- each item is derived in the context of the value before it
pub data Folded {U X I C : Type 0} (apply : X → I → X) (context : X → C) (Base : X → List U → Type 0) (Item : C → I → List U → Type 0) : X → List U → Type 0 where
  base : (x : X) (text : List U) → Base x text → Folded apply context Base Item x text
  step : (x : X) (i : I) (left right : List U) → Folded apply context Base Item x left → Item (context x) i right → Folded apply context Base Item (apply x i) (left ++ right)
