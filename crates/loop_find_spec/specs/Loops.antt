-- The loops of a graph: the nodes to which edges lead back in a depth-first walk from the entry.
use Rattle.std.specs.Prelude.{◌↔◌, ℕ, List, [], ◌∷◌, ◌++◌, Contains, slice_get}
use Rattle.std.specs.Option.{option_map_or}
use Rattle.std.specs.List.Sorted.{IsStrictlyIncreasing}
use Rattle.graph_core_spec.specs.declared.Next.{Next}
use Rattle.graph_core_spec.specs.declared.Next.TheVariants as next
use Rattle.graph_core_spec.specs.Graph.{Node, Basic, Cond, Call, Graph}

module _ {X : Type 0} (nexts : X → List X) where
  -- `Walks way left todo out heads`: where these elements have been left, a depth-first walk takes the elements to do one
  -- after the other, and then `out` have been left, the last one first. An element is left when all that follow it have been
  -- taken; until then it is on the way. An edge to an element that is on the way leads back, to one of the heads; these are
  -- in the order in which such edges are met
  pub data Walks : (way left todo out heads : List X) → Type 0 where
    done : (way left : List X) → Walks way left [] left []
    again : (x : X) (way left todo out heads : List X) → Contains left x → Walks way left todo out heads → Walks way left (x ∷ todo) out heads
    back : (x : X) (way left todo out heads : List X) → Contains way x → Walks way left todo out heads → Walks way left (x ∷ todo) out (x ∷ heads)
    first : (x : X) (way left middle todo out inner heads : List X) → (Contains left x → ⊥) → (Contains way x → ⊥)
        → Walks (x ∷ way) left (nexts x) middle inner → Walks way (x ∷ middle) todo out heads → Walks way left (x ∷ todo) out (inner ++ heads)

abbrev pub node_in : Next → List ℕ
node_in (next.At n) = n ∷ []
node_in next.Ret = []
node_in next.Err = []

-- the nodes at which a run may go on after a node, the true branch first. A call goes on at its landing node
abbrev pub nodes_after : Node → List ℕ
nodes_after (Basic bindings after) = node_in after
nodes_after (Cond test on_true on_false) = node_in on_true ++ node_in on_false
nodes_after (Call callee inputs outputs landing) = landing ∷ []

abbrev pub nodes_from : Graph → ℕ → List ℕ
nodes_from g n = option_map_or nodes_after (slice_get g.nodes n) []

-- in ascending order, the nodes to which an edge leads back
pub record AreLoops (g : Graph) (loops : List ℕ) : Type 0 where
  pub left : List ℕ
  pub heads : List ℕ
  pub walk : Walks (nodes_from g) [] [] (g.entry ∷ []) left heads
  pub ascending : IsStrictlyIncreasing loops
  pub are : (n : ℕ) → Contains loops n ↔ Contains heads n
