-- Graphs of calls between numbered nodes: what is reached, cycles, and depths.
use Rattle.std.specs.Prelude.{◌≡◌, ◌⊎◌, ◌+◌, ◌^◌, ◌<◌, ◌≤◌, ℕ, List, [], ◌++◌, length, map, get_or, slice_index, Contains, Option, Some, None, IsSome, unwrap_or, Vec}
use Rattle.std.specs.Global.{Global}

-- for each node what it calls
abbrev pub graph_of : List (Vec ℕ Global) → List (List ℕ)
graph_of lists = map (λ v. v.items) lists

-- a node that isn't there calls nothing
abbrev pub called_by : List (List ℕ) → ℕ → List ℕ
called_by graph node = get_or graph node []

abbrev pub Calls : List (List ℕ) → (node other : ℕ) → Type 0
Calls graph node other = Contains (called_by graph node) other

-- the nodes that calls reach from one, itself among them
pub data Reaches (graph : List (List ℕ)) (node : ℕ) : ℕ → Type 0 where
  itself : Reaches graph node node
  further : (middle other : ℕ) → Reaches graph node middle → Calls graph middle other → Reaches graph node other

-- a node that is reached from it calls it
pub record IsOnCycle (graph : List (List ℕ)) (node : ℕ) : Type 0 where
  pub last : ℕ
  pub onward : Reaches graph node last
  pub back : Calls graph last node

-- a cycle of calls is reached
pub record IsCyclic (graph : List (List ℕ)) (node : ℕ) : Type 0 where
  pub other : ℕ
  pub reached : Reaches graph node other
  pub on_cycle : IsOnCycle graph other

-- ---- depths

-- the greatest depth of what a node calls, and 0 where it calls nothing
pub record IsDeepest (graph : List (List ℕ)) (node : ℕ) (below : ℕ → ℕ) (deepest : ℕ) : Type 0 where
  pub above : (other : ℕ) → Calls graph node other → below other ≤ deepest
  pub reached : (deepest ≡ 0) ⊎ ((other : ℕ) × Calls graph node other × (below other ≡ deepest))

-- the depth of a node: its own, and the deepest of what it calls. Where a cycle is reached there is no such number
pub data IsDepth (graph : List (List ℕ)) (own : List ℕ) : (node depth : ℕ) → Type 0 where
  deep : (node deepest : ℕ) (below : ℕ → ℕ) → ((other : ℕ) → Calls graph node other → IsDepth graph own other (below other))
      → IsDeepest graph node below deepest → IsDepth graph own node (get_or own node 0 + deepest)

-- each depth that is known is one
abbrev pub AreDepths : List (List ℕ) → (own : List ℕ) → List (Option ℕ) → Type 0
AreDepths graph own depths = (node depth : ℕ) → get_or depths node None ≡ Some depth → IsDepth graph own node depth

-- a known depth, or 0
abbrev pub known_or_zero : List (Option ℕ) → ℕ → ℕ
known_or_zero depths node = unwrap_or (get_or depths node None) 0

-- the depths of some nodes are known, and this is the greatest of them, or 0 where there are none
pub record IsDeepestOf (depths : List (Option ℕ)) (nodes : List ℕ) (deepest : ℕ) : Type 0 where
  pub known : (k : ℕ) → k < length nodes → IsSome (get_or depths (slice_index nodes k) None)
  pub above : (k : ℕ) → k < length nodes → known_or_zero depths (slice_index nodes k) ≤ deepest
  pub reached : (deepest ≡ 0) ⊎ ((k : ℕ) × (k < length nodes) × (known_or_zero depths (slice_index nodes k) ≡ deepest))

-- if the depth of a node follows from those that are known, it is 2^64 or more
abbrev pub IsUnbounded : List (List ℕ) → (own : List ℕ) → List (Option ℕ) → ℕ → Type 0
IsUnbounded graph own depths node = (deepest : ℕ) → IsDeepestOf depths (called_by graph node) deepest → 2 ^ 64 ≤ get_or own node 0 + deepest

-- no other depth follows from those that are known
abbrev pub AreSettled : List (List ℕ) → (own : List ℕ) → List (Option ℕ) → Type 0
AreSettled graph own depths = (node : ℕ) → node < length depths → get_or depths node None ≡ None → IsUnbounded graph own depths node

-- whatever is reached from the node is a node of the graph
abbrev pub IsWithin : List (List ℕ) → ℕ → Type 0
IsWithin graph node = (other : ℕ) → Reaches graph node other → other < length graph

-- ---- lists that grow

-- after the items of the old list come items that have the property, and whatever has it is in the new list
pub record Grows (P : ℕ → Type 0) (old new : List ℕ) : Type 0 where
  pub more : List ℕ
  pub grown : new ≡ old ++ more
  pub all : (t : ℕ) → P t → Contains new t
  pub only : (t : ℕ) → Contains more t → P t

-- with each of its nodes the list has what that calls
abbrev pub IsClosed : List (List ℕ) → List ℕ → Type 0
IsClosed graph nodes = (node other : ℕ) → Contains nodes node → Calls graph node other → Contains nodes other
