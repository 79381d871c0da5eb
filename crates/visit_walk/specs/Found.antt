-- What the search for the visits of a walk finds.
use Rattle.std.specs.Prelude.{◌≡◌, ◌<◌, ◌≤◌, ℕ, List, [], ◌∷◌, length, map, reverse, slice_index, Vec}
use Rattle.std.specs.Global.{Global}
use Rattle.graph_core_spec.specs.declared.Next.{Next}
use Rattle.graph_core_spec.specs.declared.Next.TheVariants as next
use Rattle.graph_core_spec.specs.declared.Mark.{Mark}
use Rattle.visit_walk_spec.specs.declared.Incoming.{Incoming}
use Rattle.visit_walk_spec.specs.Shape.{Shape}
use Rattle.visit_walk_spec.specs.DepthFirst.{Takes}
use Rattle.visit_walk_spec.specs.Visits.{Walk, marks, first_of, edges_of, nexts_of}
use Rattle.visit_walk_spec.specs.EdgesInto.{all_edges_after}
use Rattle.visit_walk_spec.specs.Outcomes.{IsCyclicFrom, AreTooManyFrom}
use Rattle.visit_walk_spec.specs.Listing.{Listing}
use Rattle.visit_walk.specs.declared.depth_first.Targets.{Targets}
use Rattle.visit_walk.specs.declared.table.Table.{Table}
use Rattle.attempt.specs.declared.refusal.Refusal.{Refusal}
use Rattle.attempt.specs.declared.refusal.Refusal.TheVariants.{Fault, NoMemory}
use Rattle.visit_walk.specs.declared.found.WalkFault.{WalkFault}
use Rattle.visit_walk.specs.declared.found.WalkFault.TheVariants.{Cyclic, TooMany}
use Rattle.visit_walk.specs.Search.{numbers_at, IsCycleFrom}
use Rattle.visit_walk.specs.Tables.{IsTable, IsEmpty, AreListed, visit_at}
use Rattle.visit_walk.specs.Listings.{incoming_lists, list_at}

abbrev pub walk_of : Shape → (start : ℕ) → (stops bounds : List Mark) → Walk
walk_of shape start stops bounds = record { shape = shape; start = start; stops = stops; bounds = bounds }

-- the number of the node of a place, if it is one
abbrev pub node_number : Next → ℕ
node_number (next.At n) = n
node_number next.Ret = 0
node_number next.Err = 0

-- ---- the list, as the program keeps it

abbrev pub listing_of : Table → (order : List ℕ) → List (Vec Incoming Global) → Listing
listing_of table order incoming = record { visits = map (visit_at table) order; incoming = map (list_at (incoming_lists incoming)) order }

pub record AreParts (table : Table) (order : List ℕ) (incoming : List (Vec Incoming Global)) : Type 0 where
  pub table_is : IsTable table
  pub there : (position : ℕ) → position < length order → slice_index order position < length table.keys.keys
  pub lists : length incoming ≡ length table.keys.keys

-- ---- what is found

pub record AreEmpty {X Y : Type 0} (table : Table) (xs : List X) (ys : List Y) : Type 0 where
  pub table_is : IsEmpty table
  pub xs_are : xs ≡ []
  pub ys_are : ys ≡ []

-- the numbers to which 0 leads, each after those that follow it
abbrev pub IsPostOrder : List Targets → List ℕ → Type 0
IsPostOrder targets order = Takes (numbers_at targets) [] (0 ∷ []) (reverse order)

-- 0 leads to an index that is on a cycle, and its visit is at the node
pub record IsCyclicIndex (table : Table) (targets : List Targets) (n : ℕ) : Type 0 where
  pub index : ℕ
  pub cycle : IsCycleFrom targets (0 ∷ []) index
  pub node_is : n ≡ node_number (visit_at table index).place

abbrev pub IsCycleFault : Table → List Targets → Refusal WalkFault → Type 0
IsCycleFault table targets (Fault (Cyclic n)) = IsCyclicIndex table targets n
IsCycleFault table targets (Fault (TooMany n)) = ⊥
IsCycleFault table targets NoMemory = Unit {0}

module _ (shape : Shape) (ms : List Mark) (start maximum : ℕ) where
  -- why there is no list; out of memory may come at any time
  abbrev pub IsFaultFrom : Refusal WalkFault → Type 0
  IsFaultFrom (Fault (Cyclic n)) = IsCyclicFrom (nexts_of shape ms) (first_of start ms) n
  IsFaultFrom (Fault (TooMany n)) = AreTooManyFrom (nexts_of shape ms) (first_of start ms) maximum n
  IsFaultFrom NoMemory = Unit {0}

  pub record AreFound (table : Table) (targets : List Targets) (order : List ℕ) : Type 0 where
    pub listed : AreListed shape ms start maximum table targets
    pub ordered : IsPostOrder targets order

  pub record AreFilled (table : Table) (order : List ℕ) (incoming : List (Vec Incoming Global)) : Type 0 where
    pub parts : AreParts table order incoming
    pub visits : Takes (nexts_of shape ms) [] (first_of start ms ∷ []) (map (visit_at table) order)
    pub few : length order ≤ maximum
    pub edges_are : map (list_at (incoming_lists incoming)) order ≡ all_edges_after (edges_of shape ms) (map (visit_at table) order)

abbrev pub IsWalkFault : Walk → (maximum : ℕ) → Refusal WalkFault → Type 0
IsWalkFault w maximum fault = IsFaultFrom w.shape (marks w) w.start maximum fault
