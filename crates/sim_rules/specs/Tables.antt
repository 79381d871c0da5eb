-- Edges of a graph by where they go to, and what leads to a point.
use Rattle.std.specs.Prelude.{◌≡◌, ◌⊎◌, ◌↔◌, ℕ, ◌<◌, List, [], Contains, Some, Vec, length, map, get_or, slice_get, slice_set}
use Rattle.std.specs.Global.{Global}
use Rattle.graph_core_spec.specs.Graph.{Node}
use Rattle.graph_core_spec.specs.Run.{GoesTo}
use Rattle.visit_walk_spec.specs.declared.Successors.TheVariants.{Nothing}
use Rattle.visit_walk_spec.specs.Shape.{Shape}

-- an edge goes from a node to another
pub record IsStep (nodes : List Node) (m n : ℕ) : Type 0 where
  pub node : Node
  pub here : slice_get nodes m ≡ Some node
  pub goes : GoesTo node n

-- a path of one edge or more, by its first edge
pub data Leads (nodes : List Node) (point : ℕ) : ℕ → Type 0 where
  last : (m : ℕ) → IsStep nodes m point → Leads nodes point m
  more : (m n : ℕ) → IsStep nodes m n → Leads nodes point n → Leads nodes point m

-- these are the nodes from which a path goes to the point
abbrev pub LeadsTo : List Node → (point : ℕ) → List ℕ → Type 0
LeadsTo nodes point found = (n : ℕ) → Contains found n ↔ Leads nodes point n

-- ---- tables

abbrev pub lists_of : List (Vec ℕ Global) → List (List ℕ)
lists_of lists = map (λ (l : Vec ℕ Global). l.items) lists

-- the nodes before a node
abbrev pub list_at : List (List ℕ) → ℕ → List ℕ
list_at lists n = get_or lists n []

-- the nodes before each node, and those that have the property: from the first an edge goes to the second
pub record Gains (E : ℕ → ℕ → Type 0) (old new : List (List ℕ)) : Type 0 where
  pub long : length new ≡ length old
  pub kept : (n k : ℕ) → Contains (list_at old n) k → Contains (list_at new n) k
  pub all : (n k : ℕ) → n < length old → E k n → Contains (list_at new n) k
  pub only : (n k : ℕ) → Contains (list_at new n) k → Contains (list_at old n) k ⊎ E k n

-- ---- the search

-- it is one of the first nodes, or before one to which this applies
pub data IsBefore (lists : List (List ℕ)) (first : List ℕ) : ℕ → Type 0 where
  among : (n : ℕ) → Contains first n → IsBefore lists first n
  back : (n k : ℕ) → Contains (list_at lists n) k → IsBefore lists first n → IsBefore lists first k

pub record IsSearched (lists : List (List ℕ)) (first found : List ℕ) : Type 0 where
  pub kept : (n : ℕ) → Contains first n → Contains found n
  pub sound : (n : ℕ) → Contains found n → IsBefore lists first n
  pub closed : (n k : ℕ) → Contains found n → Contains (list_at lists n) k → Contains found k

-- ---- cuts

-- walks end at the node, unless it is the point or was found
abbrev pub IsCutUnless : (found : List ℕ) → (point node : ℕ) → (old new : Shape) → Type 0
IsCutUnless found point node old new =
    (((node ≡ point) ⊎ Contains found node) × (new ≡ old))
    ⊎ (((node ≡ point) ⊎ Contains found node → ⊥) × (new ≡ slice_set old node Nothing))
