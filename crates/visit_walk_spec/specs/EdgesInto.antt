-- The edges into each visit.
use Rattle.std.specs.Prelude.{ℕ, suc, ◌==◌, ◌&&◌, Bool, true, false, if◌then◌else◌, List, [], ◌∷◌, ◌++◌, map}
use Rattle.graph_core_spec.specs.declared.Next.{Next}
use Rattle.graph_core_spec.specs.declared.Next.TheVariants as next
use Rattle.visit_walk_spec.specs.declared.Incoming.{Incoming}
use Rattle.visit_walk_spec.specs.Visits.{Walk, Visit, Edge, edges}

-- ---- equality of visits

abbrev pub same_place : Next → Next → Bool
same_place (next.At m) (next.At n) = m == n
same_place (next.At m) next.Ret = false
same_place (next.At m) next.Err = false
same_place next.Ret (next.At n) = false
same_place next.Ret next.Ret = true
same_place next.Ret next.Err = false
same_place next.Err (next.At n) = false
same_place next.Err next.Ret = false
same_place next.Err next.Err = true

abbrev pub same_counts : List ℕ → List ℕ → Bool
same_counts [] [] = true
same_counts [] (d ∷ ds) = false
same_counts (c ∷ cs) [] = false
same_counts (c ∷ cs) (d ∷ ds) = c == d && same_counts cs ds

abbrev pub same_visit : Visit → Visit → Bool
same_visit u v = same_place u.place v.place && same_counts u.counts v.counts

-- ---- edges into a visit

-- those of these edges that lead to the visit; all of them come from the visit at one position
abbrev pub edges_from : Visit → (source : ℕ) → List Edge → List Incoming
edges_from v source [] = []
edges_from v source (e ∷ es) =
    if same_visit e.to v then record { source = source; branch = e.branch } ∷ edges_from v source es else edges_from v source es

-- the edges into the visit from these visits, whose first is at the position
abbrev pub edges_after : (Visit → List Edge) → Visit → (source : ℕ) → List Visit → List Incoming
edges_after out v source [] = []
edges_after out v source (u ∷ us) = edges_from v source (out u) ++ edges_after out v (suc source) us

-- for each visit of the list the edges into it, in the order of their sources; of two from one source the true branch
-- first
abbrev pub all_edges_after : (Visit → List Edge) → List Visit → List (List Incoming)
all_edges_after out visits = map (λ v. edges_after out v 0 visits) visits

-- those of a walk
abbrev pub edges_into : Walk → List Visit → Visit → List Incoming
edges_into w visits v = edges_after (edges w) v 0 visits

abbrev pub all_edges_into : Walk → List Visit → List (List Incoming)
all_edges_into w visits = all_edges_after (edges w) visits
