-- Lists of visits with the edges into each.
use Rattle.std.specs.Prelude.{◌<◌, ℕ, suc, List, [], ◌∷◌, ◌++◌, map, Vec, get_or, slice_set}
use Rattle.std.specs.Global.{Global}
use Rattle.visit_walk_spec.specs.declared.Incoming.{Incoming}
use Rattle.visit_walk_spec.specs.declared.Branch.TheVariants.{Only, IfTrue, IfFalse}
use Rattle.visit_walk.specs.declared.depth_first.Targets.{Targets}
use Rattle.visit_walk.specs.declared.depth_first.Targets.TheVariants.{Zero, One, Two}
use Rattle.visit_walk.specs.Search.{target_at}

abbrev pub incoming_lists : List (Vec Incoming Global) → List (List Incoming)
incoming_lists lists = map (λ l. l.items) lists

-- the edges into the visit at an index
abbrev pub list_at : List (List Incoming) → ℕ → List Incoming
list_at lists i = get_or lists i []

-- with one more edge into the visit at an index
abbrev pub with_edge : List (List Incoming) → (target : ℕ) → Incoming → List (List Incoming)
with_edge lists target edge = slice_set lists target (list_at lists target ++ edge ∷ [])

-- with the edges of the visit at a position
abbrev pub with_edges : List (List Incoming) → (source : ℕ) → Targets → List (List Incoming)
with_edges lists source Zero = lists
with_edges lists source (One target) = with_edge lists target (record { source = source; branch = Only })
with_edges lists source (Two first second) =
    with_edge (with_edge lists first (record { source = source; branch = IfTrue })) second (record { source = source; branch = IfFalse })

-- with the edges of the visits at these indices, which are at the positions from `source` on
abbrev pub with_all_edges : List (List Incoming) → (source : ℕ) → List ℕ → List Targets → List (List Incoming)
with_all_edges lists source [] targets = lists
with_all_edges lists source (i ∷ order) targets = with_all_edges (with_edges lists source (target_at targets i)) (suc source) order targets

abbrev pub AreWithin : ℕ → Targets → Type 0
AreWithin count Zero = Unit {0}
AreWithin count (One target) = target < count
AreWithin count (Two first second) = (first < count) × (second < count)

abbrev pub AllTargetsWithin : ℕ → List Targets → Type 0
AllTargetsWithin count targets = (i : ℕ) → AreWithin count (target_at targets i)
