-- Depth-first walks over any type of nodes, and paths.
use Rattle.std.specs.Prelude.{◌≡◌, ℕ, List, [], ◌∷◌, Contains, slice_get, Some}

module _ {X : Type 0} (nexts : X → List X) where
  -- `Takes left todo out`: from nodes that have been left, the last one first, a depth-first walk takes the nodes to do
  -- one after the other, and then these have been left. A node is left when all that follow it have been left, so `out`
  -- is the reversed post-order. Where a cycle is met there is no such walk
  pub data Takes : List X → List X → List X → Type 0 where
    none : (left : List X) → Takes left [] left
    again : (x : X) (left todo out : List X) → Contains left x → Takes left todo out → Takes left (x ∷ todo) out
    first : (x : X) (left middle todo out : List X) → (Contains left x → ⊥) → Takes left (nexts x) middle
        → Takes (x ∷ middle) todo out → Takes left (x ∷ todo) out

  -- a path of none or more edges
  pub data Leads (x : X) : X → Type 0 where
    here : Leads x x
    on : (y z : X) → Leads x y → Contains (nexts y) z → Leads x z

  -- a path of one or more edges from a node to itself
  pub record IsOnCycle (x : X) : Type 0 where
    pub second : X
    pub edge : Contains (nexts x) second
    pub back : Leads second x

module _ {X : Type 0} where
  -- no element occurs twice
  abbrev pub AreDistinct : List X → Type 0
  AreDistinct xs = (i j : ℕ) (x : X) → slice_get xs i ≡ Some x → slice_get xs j ≡ Some x → i ≡ j
