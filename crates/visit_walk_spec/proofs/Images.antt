-- Walks and paths over numbers, as walks and paths over what the numbers stand for.
use Rattle.std.proofs.Common.{◌≡◌, ℕ, List, ◌∷◌, map, sym, subst, inl, inr}
use Rattle.std.specs.Prelude.{Contains}
use Rattle.visit_walk_spec.specs.DepthFirst.{Takes, none, again, first, Leads, here, on, IsOnCycle}
use Rattle.visit_walk_spec.proofs.Members.{contained_here, contained_later, contained_cases, contained_map, contained_image}

-- a graph of numbers that stand for nodes of another graph: those inside stay inside, their nodes are followed by the
-- nodes of the numbers that follow, and no two stand for one node
pub record IsImage {X : Type 0} (numbers : ℕ → List ℕ) (nexts : X → List X) (look : ℕ → X) (Inside : ℕ → Type 0) : Type 0 where
  pub closed : (i j : ℕ) → Inside i → Contains (numbers i) j → Inside j
  pub same : (i : ℕ) → Inside i → nexts (look i) ≡ map look (numbers i)
  pub apart : (i j : ℕ) → Inside i → Inside j → look i ≡ look j → i ≡ j

module _ {X : Type 0} (numbers : ℕ → List ℕ) (nexts : X → List X) (look : ℕ → X) (Inside : ℕ → Type 0) (image : IsImage numbers nexts look Inside) where
  are_more : (x : ℕ) (xs : List ℕ) → Inside x → ((i : ℕ) → Contains xs i → Inside i) → (i : ℕ) → Contains (x ∷ xs) i → Inside i
  are_more x xs p q i c = elim (contained_cases x xs i c) [ inl e ↦ subst Inside (sym e) p | inr later ↦ q i later ]

  pub are_left : (left todo out : List ℕ) → Takes numbers left todo out → ((i : ℕ) → Contains left i → Inside i) → ((i : ℕ) → Contains todo i → Inside i)
      → (i : ℕ) → Contains out i → Inside i
  are_left _ _ _ (none left) p q = p
  are_left _ _ _ (again x left todo out among takes) p q = are_left left todo out takes p (λ i c. q i (contained_later x todo i c))
  are_left _ _ _ (first x left middle todo out new inner rest) p q =
      are_left (x ∷ middle) todo out rest
      (are_more x middle (q x (contained_here x todo)) (are_left left (numbers x) middle inner p (λ i c. image.closed x i (q x (contained_here x todo)) c)))
      (λ i c. q i (contained_later x todo i c))

  not_image : (left : List ℕ) (x : ℕ) → ((i : ℕ) → Contains left i → Inside i) → Inside x → (Contains left x → ⊥) → Contains (map look left) (look x) → ⊥
  not_image left x p inside new c =
      let i = contained_image look left (look x) c in
      new (subst (Contains left) (sym (image.apart x i.of inside (p i.of i.among) i.is)) i.among)

  pub takes_image : (left todo out : List ℕ) → Takes numbers left todo out → ((i : ℕ) → Contains left i → Inside i) → ((i : ℕ) → Contains todo i → Inside i)
      → Takes nexts (map look left) (map look todo) (map look out)
  takes_image _ _ _ (none left) p q = none (map look left)
  takes_image _ _ _ (again x left todo out among takes) p q =
      again (look x) (map look left) (map look todo) (map look out) (contained_map look left x among)
      (takes_image left todo out takes p (λ i c. q i (contained_later x todo i c)))
  takes_image _ _ _ (first x left middle todo out new inner rest) p q =
      let inside = q x (contained_here x todo) in
      let todo_inside : (i : ℕ) → Contains (numbers x) i → Inside i = λ i c. image.closed x i inside c in
      first (look x) (map look left) (map look middle) (map look todo) (map look out) (not_image left x p inside new)
      (subst (λ ns. Takes nexts (map look left) ns (map look middle)) (sym (image.same x inside)) (takes_image left (numbers x) middle inner p todo_inside))
      (takes_image (x ∷ middle) todo out rest (are_more x middle inside (are_left left (numbers x) middle inner p todo_inside)) (λ i c. q i (contained_later x todo i c)))

  pub leads_inside : (i j : ℕ) → Inside i → Leads numbers i j → Inside j
  leads_inside i _ inside here = inside
  leads_inside i j inside (on m _ path last) = image.closed m j (leads_inside i m inside path) last

  edge_image : (i j : ℕ) → Inside i → Contains (numbers i) j → Contains (nexts (look i)) (look j)
  edge_image i j inside edge = subst (λ ns. Contains ns (look j)) (sym (image.same i inside)) (contained_map look (numbers i) j edge)

  pub leads_image : (i j : ℕ) → Inside i → Leads numbers i j → Leads nexts (look i) (look j)
  leads_image i _ inside here = here
  leads_image i j inside (on m _ path last) = on (look m) (look j) (leads_image i m inside path) (edge_image m j (leads_inside i m inside path) last)

  pub cycle_image : (i : ℕ) → Inside i → IsOnCycle numbers i → IsOnCycle nexts (look i)
  cycle_image i inside c = record {
    second = look c.second;
    edge = edge_image i c.second inside c.edge;
    back = leads_image c.second i (image.closed i c.second inside c.edge) c.back;
  }
