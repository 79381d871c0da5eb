-- The invariant of a loop that reads items.
use Rattle.std.specs.Prelude.{◌≡◌, ℕ, ◌≤◌, List, [], ◌∷◌, length, Bool, false, Ok, fold}
use Rattle.exact_read.specs.Reading.{Outcome, Parser}
use Rattle.exact_read.specs.Grammar.{bind, read_at_most}

-- the next token begins an item: at the end none does
abbrev pub begins : {T C : Type 0} → (starts : C → T → Bool) → C → List T → Bool
begins starts context [] = false
begins starts context (token ∷ more) = starts context token

-- the items that are left, and what is made of them
pub record Going {T K X Y C : Type 0} (starts : C → T → Bool) (item : C → Parser T K X) (next : C → X → C) (whole : Outcome T K Y) (finish : List X → Parser T K Y) (context : C) (rest : List T) : Type 0 where
  pub most : ℕ
  pub enough : length rest ≤ most
  pub is : whole ≡ bind (read_at_most starts item next most context rest) finish

-- the same where the items are taken into a value from the left
abbrev pub Folding : {T K X I C : Type 0} → (starts : C → T → Bool) → (item : C → Parser T K I) → (next : C → I → C) → (apply : X → I → X) → (context : X → C) → (whole : Outcome T K X) → X → List T → Type 0
Folding starts item next apply context whole value rest = Going starts item next whole (λ items last. Ok (fold apply value items, last)) (context value) rest
