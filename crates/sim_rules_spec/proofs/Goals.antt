-- Goals of a frame as stops of its walks.
use Rattle.std.proofs.Common.{◌≡◌, ◌∙◌, ℕ, ◌+◌, ◌≤◌, ◌==◌, ◌||◌, zero, suc, true, false, List, [], ◌∷◌, map, Some, refl, sym, ap, ap₂, subst, inl, inr, arith}
use Rattle.std.specs.Prelude.{slice_get, get_or, nat_le, Contains, unwrap_or}
use Rattle.std.specs.List.{All}
use Rattle.std.proofs.lemmas.Bool.{both_ways, false≢true, and_parts, or_cases, leb-true}
use Rattle.std.proofs.lemmas.List.Elements.{All-weaker}
use Rattle.std.proofs.lemmas.Option.{same_Some}
use Rattle.term_core_spec.specs.Term.{Term}
use Rattle.term_core_spec.specs.Value.{Assignment, IsAssignment}
use Rattle.graph_core_spec.specs.Simulation as systems
use Rattle.graph_core_spec.specs.declared.Next.{Next}
use Rattle.graph_core_spec.specs.declared.Next.TheVariants as next
use Rattle.graph_core_spec.specs.Graph.{Node, Basic, Cond, Call, Graph}
use Rattle.graph_core_spec.specs.Run.{State, Running, Returned, Failed, step, has_returned}
use Rattle.graph_core_spec.specs.Fixed.{has_byte}
use Rattle.graph_core_spec.specs.declared.Mark.{Mark}
use Rattle.visit_walk_spec.specs.declared.Successors.TheVariants.{One, Nothing}
use Rattle.visit_walk_spec.specs.Shape.{successors_of}
use Rattle.visit_walk_spec.specs.Visits.{is_full, is_last}
use Rattle.path_cond_spec.specs.Runs.{mark_of, is_return, is_failure}
use Rattle.path_cond_spec.proofs.Edges.{contains_head, contains_tail}
use Rattle.proof_tree_spec.specs.Frames.{Goal}
use Rattle.sim_rules_spec.specs.Points.{Convention, source_memory}
use Rattle.sim_rules_spec.specs.Systems.{goal_over}
use Rattle.sim_rules_spec.specs.Sides.{visit_mark, arrives}
use Rattle.sim_rules_spec.specs.Rules.{Stop, goal_stops, under, IsTrueWith, AreTrueWith}
use Rattle.sim_rules_spec.proofs.Truths.{IsTrue, all_mapped, from_under}

-- ---- the shape of a whole graph

pub never_nothing : (nodes : List Node) (n : ℕ) → unwrap_or (slice_get (map successors_of nodes) n) (One next.Err) ≡ Nothing → ⊥
never_nothing [] n e = absurd (cc)
never_nothing (Basic bindings to ∷ nodes) zero e = absurd (cc)
never_nothing (Cond test a b ∷ nodes) zero e = absurd (cc)
never_nothing (Call callee inputs outputs landing ∷ nodes) zero e = absurd (cc)
never_nothing (node ∷ nodes) (suc n) e = never_nothing nodes n e

-- ---- a mark whose count is full

pub full_count : (p : Next) (m : Mark) (c : ℕ) → is_full p m c ≡ true → m.count ≤ c
full_count (next.At n) m c e = leb-true m.count c (and_parts (m.node == n) (nat_le m.count c) e).1
full_count next.Ret m c e = absurd (false≢true e)
full_count next.Err m c e = absurd (false≢true e)

pub none_last : (ms : List Mark) (counts : List ℕ) → is_last next.Err ms counts ≡ false
none_last [] counts = refl
none_last (m ∷ ms) [] = refl
none_last (m ∷ ms) (c ∷ counts) = none_last ms counts

pub not_last_failed : (p : Next) → is_failure p ≡ true → (ms : List Mark) (counts : List ℕ) → (is_return p || is_last p ms counts) ≡ false
not_last_failed (next.At n) e ms counts = absurd (false≢true e)
not_last_failed next.Ret e ms counts = absurd (false≢true e)
not_last_failed next.Err e ms counts = none_last ms counts

pub not_failed_stop : (p : Next) (ms : List Mark) (counts : List ℕ) → (is_return p || is_last p ms counts) ≡ true → is_failure p ≡ false
not_failed_stop (next.At n) ms counts h = refl
not_failed_stop next.Ret ms counts h = refl
not_failed_stop next.Err ms counts h = absurd (both_ways (is_last next.Err ms counts) (none_last ms counts) h)

-- ---- goals, by index

module _ (c : Convention) (side : Goal → Mark) (side_over : systems.Goal State State → Mark) (same : (g : Goal) → side_over (goal_over c g) ≡ side g) where
  abbrev pub visit_marks : List Goal → List Mark
  visit_marks goals = map visit_mark (map side goals)

  pub marks_are : (goals : List Goal) → map mark_of (visit_marks goals) ≡ map side_over (map (goal_over c) goals)
  marks_are [] = refl
  marks_are (g ∷ goals) = ap₂ (λ (m : Mark) (ms : List Mark). m ∷ ms) (sym (same g)) (marks_are goals)

  pub mark_at : (goals : List Goal) (i : ℕ) (g : Goal) → slice_get goals i ≡ Some g → slice_get (visit_marks goals) i ≡ Some (visit_mark (side g))
  mark_at [] i g e = absurd (cc)
  mark_at (h ∷ goals) zero g e = ap (λ (k : Goal). Some (visit_mark (side k))) (same_Some h g e)
  mark_at (h ∷ goals) (suc i) g e = mark_at goals i g e

  pub walk_mark_at : (goals : List Goal) (i : ℕ) (g : Goal) → slice_get goals i ≡ Some g → slice_get (map mark_of (visit_marks goals)) i ≡ Some (side g)
  walk_mark_at [] i g e = absurd (cc)
  walk_mark_at (h ∷ goals) zero g e = ap (λ (k : Goal). Some (side k)) (same_Some h g e)
  walk_mark_at (h ∷ goals) (suc i) g e = walk_mark_at goals i g e

  -- a visit at some goal
  abbrev pub IsGoalAt : List Goal → Next → List ℕ → Type 0
  IsGoalAt goals p counts = (i : ℕ) × (g : Goal) × (slice_get goals i ≡ Some g) × (is_full p (visit_mark (side g)) (get_or counts i 0) ≡ true)

  one_later : (h : Goal) (goals : List Goal) (p : Next) (n : ℕ) (counts : List ℕ) → IsGoalAt goals p counts → IsGoalAt (h ∷ goals) p (n ∷ counts)
  one_later h goals p n counts found = (suc found.0, found.1, found.2, found.3)

  pub goal_met : (goals : List Goal) (p : Next) (counts : List ℕ) → is_last p (visit_marks goals) counts ≡ true → IsGoalAt goals p counts
  goal_met [] p counts h = absurd (false≢true h)
  goal_met (g ∷ goals) p [] h = absurd (false≢true h)
  goal_met (g ∷ goals) p (n ∷ counts) h = elim (or_cases (is_full p (visit_mark (side g)) n) (is_last p (visit_marks goals) counts) h) [
    | inl here ↦ (0, g, refl, here)
    | inr later ↦ one_later g goals p n counts (goal_met goals p counts later)
  ]

abbrev pub stop_of : ℕ → Goal → Stop
stop_of i g = record { binary = arrives (visit_mark g.binary) i; source = arrives (visit_mark g.source) i; lines = g.relation }

pub goal_stop_in : (goals : List Goal) (from i : ℕ) (g : Goal) → slice_get goals i ≡ Some g → Contains (goal_stops from goals) (stop_of (from + i) g)
goal_stop_in [] from i g e = absurd (cc)
goal_stop_in (h ∷ goals) from zero g e =
    let here : from ≡ from + 0 = omega arith in
    subst (Contains (goal_stops from (h ∷ goals))) (ap₂ stop_of here (same_Some h g e)) (contains_head (stop_of from h) (goal_stops (suc from) goals))
goal_stop_in (h ∷ goals) from (suc i) g e =
    let here : suc from + i ≡ from + suc i = omega arith in
    subst (λ (n : ℕ). Contains (goal_stops from (h ∷ goals)) (stop_of n g)) here
    (contains_tail (stop_of from h) (stop_of (suc from + i) g) (goal_stops (suc from) goals) (goal_stop_in goals (suc from) i g e))

pub contains_goal : (c : Convention) (goals : List Goal) (i : ℕ) (g : Goal) → slice_get goals i ≡ Some g → Contains (map (goal_over c) goals) (goal_over c g)
contains_goal c [] i g e = absurd (cc)
contains_goal c (h ∷ goals) zero g e =
    subst (λ (k : Goal). Contains (map (goal_over c) (h ∷ goals)) (goal_over c k)) (same_Some h g e) (contains_head (goal_over c h) (map (goal_over c) goals))
contains_goal c (h ∷ goals) (suc i) g e = contains_tail (goal_over c h) (goal_over c g) (map (goal_over c) goals) (contains_goal c goals i g e)

-- ---- one side of a Leaf

pub returned_still : (graphs : List Graph) (s : State) → has_returned s ≡ true → step graphs s ≡ s
unfolding step
returned_still graphs (Running g n values below) h = absurd (false≢true h)
returned_still graphs (Returned values) h = refl
returned_still graphs Failed h = refl

-- obligations that are true under an assignment
pub each_true : (c : Convention) (a : Assignment) → IsAssignment a → ((at : ℕ) → has_byte (a source_memory) at (c.fixed at) ≡ true) → (premises goals : List Term) → AreTrueWith c (map (under premises) goals)
    → All (IsTrue a) premises → All (IsTrue a) goals
each_true c a sorted fixed premises goals valid held =
    All-weaker (λ (goal : Term). IsTrueWith c (under premises goal)) (IsTrue a) (λ goal truth. from_under a premises goal (truth a sorted fixed) held) goals
    (all_mapped (IsTrueWith c) (under premises) goals valid)

-- the marks of a list, as those of a walk
pub mark_in : (ms : List Mark) (k : ℕ) (b : Mark) → slice_get ms k ≡ Some b → slice_get (map visit_mark ms) k ≡ Some (visit_mark b)
mark_in [] k b e = absurd (cc)
mark_in (m ∷ ms) zero b e = ap (λ (n : Mark). Some (visit_mark n)) (same_Some m b e)
mark_in (m ∷ ms) (suc k) b e = mark_in ms k b e

pub front_marks : (ms : List Mark) (k : ℕ) (b : Mark) → slice_get ms k ≡ Some b → slice_get (map visit_mark ms) (0 + k) ≡ Some (visit_mark b)
front_marks ms k b e = let same : 0 + k ≡ k = omega arith in ap (slice_get (map visit_mark ms)) same ∙ mark_in ms k b e
