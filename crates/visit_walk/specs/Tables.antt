-- Tables of visits: vectors of counts, and visits that name theirs by its index; each once.
use Rattle.std.specs.Prelude.{◌≡◌, ◌⊎◌, ◌<◌, ◌≤◌, ℕ, Bool, true, false, List, [], ◌∷◌, ◌++◌, length, map, Vec, get_or, slice_get, Some, Contains}
use Rattle.std.specs.Global.{Global}
use Rattle.graph_core_spec.specs.declared.Next.{Next}
use Rattle.graph_core_spec.specs.declared.Next.TheVariants as next
use Rattle.graph_core_spec.specs.declared.Mark.{Mark}
use Rattle.visit_walk_spec.specs.declared.Branch.TheVariants.{Only, IfTrue, IfFalse}
use Rattle.visit_walk_spec.specs.Shape.{Shape}
use Rattle.visit_walk_spec.specs.DepthFirst.{AreDistinct, Leads}
use Rattle.visit_walk_spec.specs.Visits.{Visit, Edge, arrival_of, first_of, edges_of, nexts_of}
use Rattle.visit_walk.specs.declared.depth_first.Targets.{Targets}
use Rattle.visit_walk.specs.declared.depth_first.Targets.TheVariants.{Zero, One, Two}
use Rattle.visit_walk.specs.declared.table.Table.{Table}
use Rattle.visit_walk.specs.declared.table.Key.{Key}
use Rattle.visit_walk.specs.declared.table.Key.TheVariants.{Node, Return, Error}

module _ {X : Type 0} where
  -- the list has this element at the index
  abbrev pub Holds : List X → ℕ → X → Type 0
  Holds xs i x = slice_get xs i ≡ Some x

  -- the elements before are the first of the elements after
  abbrev pub Extends : List X → List X → Type 0
  Extends old new = (more : List X) × (new ≡ old ++ more)

-- ---- vectors of counts

abbrev pub lists_of : List (Vec ℕ Global) → List (List ℕ)
lists_of vectors = map (λ v. v.items) vectors

-- the vector at an index
abbrev pub vector_at : List (List ℕ) → ℕ → List ℕ
vector_at vectors i = get_or vectors i []

-- ---- visits

-- the index of a visit's counts
abbrev pub counts_of : Key → ℕ
counts_of (Node node counts) = counts
counts_of (Return counts) = counts
counts_of (Error counts) = counts

abbrev pub place_of : Key → Next
place_of (Node node counts) = next.At node
place_of (Return counts) = next.Ret
place_of (Error counts) = next.Err

abbrev pub seen : List (List ℕ) → Key → Visit
seen vectors key = record { place = place_of key; counts = vector_at vectors (counts_of key) }

abbrev pub visits_in : List (List ℕ) → List Key → List Visit
visits_in vectors keys = map (seen vectors) keys

abbrev pub vectors_of : Table → List (List ℕ)
vectors_of t = lists_of t.vectors.keys

abbrev pub visits_of : Table → List Visit
visits_of t = visits_in (vectors_of t) t.keys.keys

-- a visit, where none is
abbrev pub stray : Visit
stray = record { place = next.Err; counts = [] }

abbrev pub visit_at : Table → ℕ → Visit
visit_at t i = get_or (visits_of t) i stray

-- no vector and no visit occurs twice, and each visit's counts are there
pub record AreTable (vectors : List (List ℕ)) (keys : List Key) : Type 0 where
  pub vectors_distinct : AreDistinct vectors
  pub keys_distinct : AreDistinct keys
  pub counts_there : (i : ℕ) (key : Key) → Holds keys i key → counts_of key < length vectors

abbrev pub IsTable : Table → Type 0
IsTable t = AreTable (vectors_of t) t.keys.keys

pub record IsEmpty (t : Table) : Type 0 where
  pub vectors : t.vectors.keys ≡ []
  pub keys : t.keys.keys ≡ []

-- ---- what is added

-- the visit is at the index, and was added if it wasn't there
pub record IsKeyAdded (old new : List Key) (key : Key) (index : ℕ) : Type 0 where
  pub grown : (new ≡ old) ⊎ (new ≡ old ++ key ∷ [])
  pub holds : Holds new index key
  pub distinct : AreDistinct new

-- the visit after an edge from one with these counts
pub record IsKeyAfter (marks : List Mark) (old new : List (List ℕ)) (counts : ℕ) (to : Next) (key : Key) : Type 0 where
  pub is : seen new key ≡ arrival_of marks (vector_at old counts) to
  pub there : counts_of key < length new
  pub extends : Extends old new
  pub distinct : AreDistinct new

-- visits were added, and each of them is one of these
pub record Grows (items old new : List Visit) : Type 0 where
  pub more : List Visit
  pub grown : new ≡ old ++ more
  pub only : (v : Visit) → Contains more v → Contains items v

-- the visit is at the index, and was added if it wasn't there
pub record IsArrived (old new : Table) (visit : Visit) (index : ℕ) : Type 0 where
  pub table : IsTable new
  pub extends : Extends (vectors_of old) (vectors_of new)
  pub grows : Grows (visit ∷ []) (visits_of old) (visits_of new)
  pub holds : Holds (visits_of new) index visit

-- the one edge leads to the visit at the index
pub record IsOneEdge (visits : List Visit) (edges : List Edge) (target : ℕ) : Type 0 where
  pub visit : Visit
  pub holds : Holds visits target visit
  pub edges_are : edges ≡ record { branch = Only; to = visit } ∷ []

-- the two edges of a test lead to the visits at these indices
pub record AreTwoEdges (visits : List Visit) (edges : List Edge) (first second : ℕ) : Type 0 where
  pub on_true : Visit
  pub on_false : Visit
  pub holds_first : Holds visits first on_true
  pub holds_second : Holds visits second on_false
  pub edges_are : edges ≡ record { branch = IfTrue; to = on_true } ∷ record { branch = IfFalse; to = on_false } ∷ []

-- these edges lead to the visits at these indices
abbrev pub AreEdges : List Visit → List Edge → Targets → Type 0
AreEdges visits edges Zero = edges ≡ []
AreEdges visits edges (One target) = IsOneEdge visits edges target
AreEdges visits edges (Two first second) = AreTwoEdges visits edges first second

-- the visits to which the edges lead are there, at these indices
pub record AreFollowed (old new : Table) (edges : List Edge) (targets : Targets) : Type 0 where
  pub table : IsTable new
  pub grows : Grows (map (λ e. e.to) edges) (visits_of old) (visits_of new)
  pub edges_are : AreEdges (visits_of new) edges targets

-- ---- the visits of a walk

pub record IsBegun (marks : List Mark) (start : ℕ) (t : Table) : Type 0 where
  pub table : IsTable t
  pub first : visits_of t ≡ first_of start marks ∷ []

module _ (shape : Shape) (marks : List Mark) (start : ℕ) where
  -- the first visit is there, and only visits to which it leads
  pub record AreReached (visits : List Visit) : Type 0 where
    pub first : Holds visits 0 (first_of start marks)
    pub reached : (i : ℕ) (v : Visit) → Holds visits i v → Leads (nexts_of shape marks) (first_of start marks) v

  -- the edges of a visit lead to the visits at its targets
  pub record HasTargets (visits : List Visit) (targets : List Targets) (i : ℕ) (v : Visit) : Type 0 where
    pub found : Targets
    pub holds : Holds targets i found
    pub edges_are : AreEdges visits (edges_of shape marks v) found

  -- all visits to which the first one leads, each once, with what follows each; these are at most the maximum
  pub record AreListed (maximum : ℕ) (t : Table) (targets : List Targets) : Type 0 where
    pub table : IsTable t
    pub reached : AreReached (visits_of t)
    pub follow : (i : ℕ) (v : Visit) → Holds (visits_of t) i v → HasTargets (visits_of t) targets i v
    pub number : length targets ≡ length t.keys.keys
    pub few : length (visits_of t) ≤ maximum

  -- more than the maximum of them
  pub record AreMore (maximum : ℕ) (t : Table) : Type 0 where
    pub table : IsTable t
    pub reached : AreReached (visits_of t)
    pub many : maximum < length (visits_of t)

  abbrev pub IsExplored : (maximum : ℕ) → Table → List Targets → Bool → Type 0
  IsExplored maximum t targets true = AreListed maximum t targets
  IsExplored maximum t targets false = AreMore maximum t
