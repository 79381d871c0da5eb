-- The nodes that a node of a graph leads to.
use Rattle.std.specs.Prelude.{◌≡◌, ◌↔◌, ℕ, List, ◌++◌, Contains}
use Rattle.graph_core_spec.specs.Graph.{Graphs}
use Rattle.graph_core_spec.specs.Run.{IsPath}

-- after the items of the old list come items that have the property, and whatever has it is in the new list
pub record Grows (P : ℕ → Type 0) (old new : List ℕ) : Type 0 where
  pub more : List ℕ
  pub grown : new ≡ old ++ more
  pub all : (n : ℕ) → P n → Contains new n
  pub only : (n : ℕ) → Contains more n → P n

-- these are the nodes to which a path of one edge or more goes
abbrev pub AreAhead : Graphs → (outermost from : ℕ) → List ℕ → Type 0
AreAhead graphs outermost from nodes = (n : ℕ) → Contains nodes n ↔ IsPath graphs outermost from n
