-- Visits of a walk, the edges between them, and where the walk ends.
use Rattle.std.specs.Prelude.{ℕ, suc, ◌==◌, ◌&&◌, ◌||◌, not, nat_le, Bool, false, if◌then◌else◌, List, [], ◌∷◌, ◌++◌, length, drop, map}
use Rattle.graph_core_spec.specs.declared.Next.{Next}
use Rattle.graph_core_spec.specs.declared.Next.TheVariants as next
use Rattle.visit_walk_spec.specs.declared.Successors.{Successors}
use Rattle.visit_walk_spec.specs.declared.Successors.TheVariants.{One, Two, Callee, Nothing}
use Rattle.graph_core_spec.specs.declared.Mark.{Mark}
use Rattle.visit_walk_spec.specs.declared.Branch.{Branch}
use Rattle.visit_walk_spec.specs.declared.Branch.TheVariants.{Only, IfTrue, IfFalse}
use Rattle.visit_walk_spec.specs.Shape.{Shape, successors_at}

-- a walk over a shape, from a start node. It ends where it returns or fails, at a stop, and at an arrival that breaks
-- a bound: at the last arrival that a mark counts
pub record Walk : Type 0 where
  pub shape : Shape
  pub start : ℕ
  pub stops : List Mark
  pub bounds : List Mark

-- a place, and how often the walk has arrived at the node of each stop and then of each bound
pub record Visit : Type 0 where
  pub place : Next
  pub counts : List ℕ

-- ---- counts of arrivals

-- the counts after one more arrival at a node
abbrev pub counted : ℕ → List Mark → List ℕ → List ℕ
counted n [] counts = []
counted n (m ∷ ms) [] = []
counted n (m ∷ ms) (c ∷ counts) = (if m.node == n then suc c else c) ∷ counted n ms counts

-- the place is the mark's node, and its count is full
abbrev pub is_full : Next → Mark → ℕ → Bool
is_full (next.At n) m c = m.node == n && nat_le m.count c
is_full next.Ret m c = false
is_full next.Err m c = false

-- one of the marks is full
abbrev pub is_last : Next → List Mark → List ℕ → Bool
is_last place [] counts = false
is_last place (m ∷ ms) [] = false
is_last place (m ∷ ms) (c ∷ counts) = is_full place m c || is_last place ms counts

-- where a walk has these stops, the visit is an arrival at one of them
abbrev pub ends_at_stop : List Mark → Visit → Bool
ends_at_stop stops v = is_last v.place stops v.counts

-- where it has these stops and bounds, the visit is an arrival that breaks a bound. Where it is a stop too, the stop
-- wins
abbrev pub ends_at_bound : (stops bounds : List Mark) → Visit → Bool
ends_at_bound stops bounds v = not (ends_at_stop stops v) && is_last v.place bounds (drop (length stops) v.counts)

abbrev pub is_stop : Walk → Visit → Bool
is_stop w v = ends_at_stop w.stops v

abbrev pub is_bounded : Walk → Visit → Bool
is_bounded w v = ends_at_bound w.stops w.bounds v

-- ---- visits and edges over a shape, with marks; a walk's marks are its stops and then its bounds

-- the visit after an edge to a place: an arrival at a node is counted
abbrev pub arrival_of : List Mark → List ℕ → Next → Visit
arrival_of ms counts (next.At n) = record { place = next.At n; counts = counted n ms counts }
arrival_of ms counts next.Ret = record { place = next.Ret; counts = counts }
arrival_of ms counts next.Err = record { place = next.Err; counts = counts }

-- where a walk starts: that is no arrival
abbrev pub first_of : ℕ → List Mark → Visit
first_of n ms = record { place = next.At n; counts = map (λ m. 0) ms }

-- an edge to a visit
pub record Edge : Type 0 where
  pub branch : Branch
  pub to : Visit

-- a call's visit follows itself: a walk goes round there for ever
abbrev pub followed : List Mark → Visit → Successors → List Edge
followed ms v (One to) = record { branch = Only; to = arrival_of ms v.counts to } ∷ []
followed ms v (Two on_true on_false) =
    record { branch = IfTrue; to = arrival_of ms v.counts on_true } ∷ record { branch = IfFalse; to = arrival_of ms v.counts on_false } ∷ []
followed ms v Callee = record { branch = Only; to = v } ∷ []
followed ms v Nothing = []

abbrev pub edges_at : Shape → List Mark → Visit → Next → List Edge
edges_at shape ms v (next.At n) = followed ms v (successors_at shape n)
edges_at shape ms v next.Ret = []
edges_at shape ms v next.Err = []

-- the edges of a visit, the true branch first; none where a mark ends the walk
unfoldable pub edges_of : Shape → List Mark → Visit → List Edge
edges_of shape ms v = if is_last v.place ms v.counts then [] else edges_at shape ms v v.place

abbrev pub nexts_of : Shape → List Mark → Visit → List Visit
nexts_of shape ms v = map (λ e. e.to) (edges_of shape ms v)

-- ---- those of a walk

abbrev pub marks : Walk → List Mark
marks w = w.stops ++ w.bounds

-- a mark ends the walk at the visit
abbrev pub is_marked_end : Walk → Visit → Bool
is_marked_end w v = is_last v.place (marks w) v.counts

abbrev pub arrival : Walk → List ℕ → Next → Visit
arrival w = arrival_of (marks w)

abbrev pub first_visit : Walk → Visit
first_visit w = first_of w.start (marks w)

abbrev pub edges : Walk → Visit → List Edge
edges w = edges_of w.shape (marks w)

-- the visits that follow a visit
abbrev pub nexts : Walk → Visit → List Visit
nexts w = nexts_of w.shape (marks w)
