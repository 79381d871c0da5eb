-- Cycles of a graph, and what its loops are of them.
use Rattle.std.specs.Prelude.{List, [], ◌∷◌, Contains}

module _ {X : Type 0} (nexts : X → List X) where
  -- a walk of one or more edges from an element over these to another: the first of them is the one that it starts at
  pub data Passes : (from : X) → (over : List X) → (to : X) → Type 0 where
    edge : (x y : X) → Contains (nexts x) y → Passes x (x ∷ []) y
    through : (x y z : X) (over : List X) → Contains (nexts x) y → Passes y over z → Passes x (x ∷ over) z

  -- these, in order, are a cycle from the first of them back to it
  abbrev pub IsCycle : X → List X → Type 0
  IsCycle x over = Passes x over x

-- one of these is one of those
pub record Share {X : Type 0} (xs ys : List X) : Type 0 where
  pub one : X
  pub of : Contains xs one
  pub among : Contains ys one
