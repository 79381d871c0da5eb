-- The answer of the search for a cycle of nodes.
use Rattle.std.proofs.Common.{◌≡◌, ℕ, false, List, [], ◌∷◌, map, reverse, sym, subst, inl, inr}
use Rattle.std.specs.Prelude.{Contains, Option, Some, None}
use Rattle.std.proofs.lemmas.List.{reverse-append}
use Rattle.std.proofs.lemmas.List.Elements.{Contains-append_left, Contains-append_right}
use Rattle.graph_core_spec.specs.declared.Next.TheVariants as next
use Rattle.graph_core_spec.specs.declared.Mark.{Mark}
use Rattle.visit_walk_spec.specs.Shape.{Shape}
use Rattle.visit_walk_spec.specs.DepthFirst.{Takes, Leads, here, on, IsOnCycle}
use Rattle.visit_walk_spec.specs.Visits.{is_last, nexts_of, first_of}
use Rattle.visit_walk_spec.specs.Outcomes.{IsCyclicFrom}
use Rattle.visit_walk_spec.proofs.Members.{contained_here, contained_cases}
use Rattle.visit_walk_spec.proofs.Walks.{walk_whole}
use Rattle.visit_walk.specs.declared.depth_first.Targets.{Targets}
use Rattle.visit_walk.specs.Search.{numbers_at, IsSearched}
use Rattle.visit_walk.specs.Nodes.{rounds_at, ArePassed, AreRounds, IsCycleAnswer}
use Rattle.visit_walk.proofs.Cycles.{cycle-nodes}
use Rattle.visit_walk.proofs.Passed.{visits-cycle}

-- ---- graphs that have the same edges

module _ (f g : ℕ → List ℕ) (same : (n : ℕ) → f n ≡ g n) where
  same-leads : (x y : ℕ) → Leads f x y → Leads g x y
  same-leads x _ here = here
  same-leads x y (on m _ path last) = on m y (same-leads x m path) (subst (λ l. Contains l y) (same m) last)

  same-cycle : (x : ℕ) → IsOnCycle f x → IsOnCycle g x
  same-cycle x c = record { second = c.second; edge = subst (λ l. Contains l c.second) (same x) c.edge; back = same-leads c.second x c.back }

reverse-contained : (xs : List ℕ) (x : ℕ) → Contains xs x → Contains (reverse xs) x
reverse-contained [] x c = c
reverse-contained (y ∷ xs) x c =
    subst (λ l. Contains l x) (sym (reverse-append (y ∷ []) xs)) (elim (contained_cases y xs x c) [
      | inl e ↦ Contains-append_right (reverse xs) (y ∷ []) x (subst (Contains (y ∷ [])) (sym e) (contained_here y []))
      | inr later ↦ Contains-append_left (reverse xs) (y ∷ []) x (reverse-contained xs x later)
    ])

no_cycle : (shape : Shape) (ms : List Mark) (start : ℕ) (found order : List ℕ) (targets : List Targets) → ArePassed shape ms start found → AreRounds shape ms targets
    → Takes (numbers_at targets) [] (reverse found) (reverse order) → (n : ℕ) → IsCyclicFrom (nexts_of shape ms) (first_of start ms) n → ⊥
no_cycle shape ms start found order targets passed rounds s n cyclic =
    let c = cycle-nodes shape ms start n cyclic in
    let l = walk_whole (numbers_at targets) (reverse found) (reverse order) s in
    l.acyclic n (l.covers n (reverse-contained found n ((passed n).1 c.path)))
    (record { cyclic = n; path = here; cycle = same-cycle (rounds_at shape ms) (numbers_at targets) (λ k. sym (rounds k)) n c.cycle })

pub cycle_answer : (shape : Shape) (ms : List Mark) (start : ℕ) (found order : List ℕ) (targets : List Targets) (answer : Option ℕ)
    → is_last (next.At start) ms (map {B = ℕ} (λ m. 0) ms) ≡ false → ArePassed shape ms start found → AreRounds shape ms targets → IsSearched targets found order answer
    → IsCycleAnswer shape ms start answer
cycle_answer shape ms start found order targets (Some n) passable passed rounds s =
    visits-cycle shape ms start s.root n passable ((passed s.root).0 s.among) (same-leads (numbers_at targets) (rounds_at shape ms) rounds s.root n s.path)
    (same-cycle (numbers_at targets) (rounds_at shape ms) rounds n s.cycle)
cycle_answer shape ms start found order targets None passable passed rounds s = no_cycle shape ms start found order targets passed rounds s
