-- The visits of a table by their indices: a graph of numbers that is the image of the graph of visits.
use Rattle.std.proofs.Common.{◌≡◌, ℕ, ◌<◌, List, [], ◌∷◌, length, map, Some, sym, ◌∙◌, ap, subst, inl, inr, arith}
use Rattle.std.specs.Prelude.{unwrap_or, Contains}
use Rattle.std.proofs.lemmas.List.{length-map}
use Rattle.graph_core_spec.specs.declared.Next.TheVariants as next
use Rattle.graph_core_spec.specs.declared.Mark.{Mark}
use Rattle.visit_walk_spec.specs.Shape.{Shape}
use Rattle.visit_walk_spec.specs.DepthFirst.{Takes, Leads}
use Rattle.visit_walk_spec.specs.Visits.{Visit, Edge, first_of, edges_of, nexts_of}
use Rattle.visit_walk_spec.specs.Outcomes.{IsCyclicFrom, IsAcyclicFrom, AreTooManyFrom}
use Rattle.visit_walk_spec.proofs.Members.{none_contained, only_contained, contained_cases}
use Rattle.visit_walk_spec.proofs.Images.{IsImage, takes_image, leads_inside, leads_image, cycle_image}
use Rattle.visit_walk.specs.declared.depth_first.Targets.{Targets}
use Rattle.visit_walk.specs.declared.depth_first.Targets.TheVariants.{Zero, One, Two}
use Rattle.visit_walk.specs.declared.table.Table.{Table}
use Rattle.attempt.specs.declared.refusal.Refusal.{Refusal}
use Rattle.attempt.specs.declared.refusal.Refusal.TheVariants.{Fault, NoMemory}
use Rattle.visit_walk.specs.declared.found.WalkFault.{WalkFault}
use Rattle.visit_walk.specs.declared.found.WalkFault.TheVariants.{Cyclic, TooMany}
use Rattle.visit_walk.specs.Search.{numbers_of, numbers_at}
use Rattle.visit_walk.specs.Tables.{Holds, seen, vectors_of, visits_of, visit_at, stray, AreEdges, HasTargets, AreListed, AreMore}
use Rattle.visit_walk.specs.Found.{node_number, IsCyclicIndex, IsCycleFault, IsFaultFrom}
use Rattle.visit_walk.proofs.Lists.{holds-below, holds-one, held}
use Rattle.visit_walk.proofs.Arriving.{visits-distinct}
use Rattle.visit_walk.proofs.Exploring.{visit_held}
use Rattle.visit_walk.proofs.Cycles.{step_of}

-- the visit at an index, where one is held there
pub look-is : (t : Table) (i : ℕ) (v : Visit) → Holds (visits_of t) i v → visit_at t i ≡ v
look-is t i v h = holds-one (visits_of t) i (visit_at t i) v (held (visits_of t) i stray (holds-below (visits_of t) i v h)) h

pub below : (t : Table) (i : ℕ) (v : Visit) → Holds (visits_of t) i v → i < length t.keys.keys
below t i v h = let b = holds-below (visits_of t) i v h in omega (arith, b, length-map t.keys.keys (seen (vectors_of t)))

-- the visits to which edges lead are those at the numbers
edges-to : (t : Table) (edges : List Edge) (targets : Targets) → AreEdges (visits_of t) edges targets → map (λ (e : Edge). e.to) edges ≡ map (visit_at t) (numbers_of targets)
edges-to t edges Zero are = ap (map (λ (e : Edge). e.to)) are
edges-to t edges (One a) are = ap (map (λ (e : Edge). e.to)) are.edges_are ∙ ap (λ v. v ∷ []) (sym (look-is t a are.visit are.holds))
edges-to t edges (Two a b) are =
    ap (map (λ (e : Edge). e.to)) are.edges_are
    ∙ (ap (λ v. v ∷ are.on_false ∷ []) (sym (look-is t a are.on_true are.holds_first)) ∙ ap (λ v. visit_at t a ∷ v ∷ []) (sym (look-is t b are.on_false are.holds_second)))

edges-inside : (t : Table) (edges : List Edge) (targets : Targets) → AreEdges (visits_of t) edges targets → (j : ℕ) → Contains (numbers_of targets) j → j < length t.keys.keys
edges-inside t edges Zero are j c = absurd (none_contained j c)
edges-inside t edges (One a) are j c = subst (λ k. k < length t.keys.keys) (sym (only_contained a j c)) (below t a are.visit are.holds)
edges-inside t edges (Two a b) are j c = elim (contained_cases a (b ∷ []) j c) [
  | inl e ↦ subst (λ k. k < length t.keys.keys) (sym e) (below t a are.on_true are.holds_first)
  | inr rest ↦ subst (λ k. k < length t.keys.keys) (sym (only_contained b j rest)) (below t b are.on_false are.holds_second)
]

module _ (shape : Shape) (ms : List Mark) (start maximum : ℕ) (t : Table) (targets : List Targets) (l : AreListed shape ms start maximum t targets) where
  pub has : (i : ℕ) → i < length t.keys.keys → HasTargets shape ms start (visits_of t) targets i (visit_at t i)
  has i b = l.follow i (visit_at t i) (visit_held t i b)

  numbers-are : (i : ℕ) (b : i < length t.keys.keys) → numbers_at targets i ≡ numbers_of (has i b).found
  unfolding numbers_at
  numbers-are i b = ap (λ o. numbers_of (unwrap_or o Zero)) (has i b).holds

  pub image : IsImage (numbers_at targets) (nexts_of shape ms) (visit_at t) (λ i. i < length t.keys.keys)
  image = record {
    closed = λ i j b c. edges-inside t (edges_of shape ms (visit_at t i)) (has i b).found (has i b).edges_are j (subst (λ ns. Contains ns j) (numbers-are i b) c);
    same = λ i b. edges-to t (edges_of shape ms (visit_at t i)) (has i b).found (has i b).edges_are ∙ ap (map (visit_at t)) (sym (numbers-are i b));
    apart = λ i j b c e. visits-distinct (vectors_of t) t.keys.keys l.table i j (visit_at t i) (visit_held t i b) (visit_held t j c ∙ ap Some (sym e));
  }

  pub first_inside : 0 < length t.keys.keys
  first_inside = below t 0 (first_of start ms) l.reached.first

  pub first_is : visit_at t 0 ≡ first_of start ms
  first_is = look-is t 0 (first_of start ms) l.reached.first

  -- a cycle of numbers is one of visits
  pub cycle_fault : (n : ℕ) → IsCyclicIndex t targets n → IsCyclicFrom (nexts_of shape ms) (first_of start ms) n
  cycle_fault n c =
      let root : c.cycle.root ≡ 0 = only_contained 0 c.cycle.root c.cycle.among in
      let path = subst (λ r. Leads (numbers_at targets) r c.index) root c.cycle.path in
      let inside = leads_inside (numbers_at targets) (nexts_of shape ms) (visit_at t) (λ i. i < length t.keys.keys) image 0 c.index first_inside path in
      let cycle = cycle_image (numbers_at targets) (nexts_of shape ms) (visit_at t) (λ i. i < length t.keys.keys) image c.index inside c.cycle.cycle in
      let s = step_of shape ms (visit_at t c.index) cycle.second cycle.edge in
      record {
        visit = visit_at t c.index;
        place = s.place ∙ ap next.At (sym (c.node_is ∙ ap node_number s.place));
        reached = subst (λ v. Leads (nexts_of shape ms) v (visit_at t c.index)) first_is
            (leads_image (numbers_at targets) (nexts_of shape ms) (visit_at t) (λ i. i < length t.keys.keys) image 0 c.index first_inside path);
        cycle = cycle;
      }

  pub fault_from : (fault : Refusal WalkFault) → IsCycleFault t targets fault → IsFaultFrom shape ms start maximum fault
  fault_from (Fault (Cyclic n)) c = cycle_fault n c
  fault_from (Fault (TooMany n)) c = absurd c
  fault_from NoMemory c = tt

  -- the order of the numbers is that of the visits
  pub visits_taken : (order : List ℕ) → Takes (numbers_at targets) [] (0 ∷ []) order → Takes (nexts_of shape ms) [] (first_of start ms ∷ []) (map (visit_at t) order)
  visits_taken order takes =
      subst (λ v. Takes (nexts_of shape ms) [] (v ∷ []) (map (visit_at t) order)) first_is
      (takes_image (numbers_at targets) (nexts_of shape ms) (visit_at t) (λ i. i < length t.keys.keys) image [] (0 ∷ []) order takes
      (λ i c. absurd (none_contained i c)) (λ i c. subst (λ k. k < length t.keys.keys) (sym (only_contained 0 i c)) first_inside))

pub too_many : (shape : Shape) (ms : List Mark) (start maximum len : ℕ) (t : Table) → AreMore shape ms start maximum t → IsAcyclicFrom (nexts_of shape ms) (first_of start ms)
    → len ≡ length t.keys.keys → AreTooManyFrom (nexts_of shape ms) (first_of start ms) maximum len
too_many shape ms start maximum len t m acyclic is =
    let many = m.many in
    record {
      acyclic = acyclic;
      visits = visits_of t;
      distinct = visits-distinct (vectors_of t) t.keys.keys m.table;
      reached = m.reached.reached;
      number = omega (arith, is, length-map t.keys.keys (seen (vectors_of t)));
      above = omega (arith, is, many, length-map t.keys.keys (seen (vectors_of t)));
    }
