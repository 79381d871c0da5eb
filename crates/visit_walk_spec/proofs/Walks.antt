-- Laws of depth-first walks: each node is left once, after all that follow it, and no cycle is met.
use Rattle.std.proofs.Common.{◌≡◌, ◌⊎◌, ◌<◌, ℕ, zero, suc, List, [], ◌∷◌, refl, sym, ap, subst, inl, inr, arith}
use Rattle.std.specs.Prelude.{Contains, slice_get, Some}
use Rattle.visit_walk_spec.specs.DepthFirst.{Takes, none, again, first, Leads, here, on, IsOnCycle, AreDistinct}
use Rattle.visit_walk_spec.proofs.Members.{none_contained, contained_here, contained_later, contained_cases, contained_at, index_of_contained}

module _ {X : Type 0} (nexts : X → List X) where
  -- ---- paths

  pub prepend : (x y z : X) → Contains (nexts x) y → Leads nexts y z → Leads nexts x z
  prepend x y _ edge here = on x y here edge
  prepend x y z edge (on m _ path last) = on m z (prepend x y m edge path) last

  pub join_paths : (x y z : X) → Leads nexts x y → Leads nexts y z → Leads nexts x z
  join_paths x y _ path here = path
  join_paths x y z path (on m _ rest last) = on m z (join_paths x y m path rest) last

  -- a first edge, and a path after it
  pub record Starts (x z : X) : Type 0 where
    pub second : X
    pub edge : Contains (nexts x) second
    pub rest : Leads nexts second z

  pub path_then_edge : (x y z : X) → Leads nexts x y → Contains (nexts y) z → Starts x z
  path_then_edge x _ z here edge = record { second = z; edge = edge; rest = here }
  path_then_edge x y z (on m _ path last) edge =
      let s = path_then_edge x m y path last in record { second = s.second; edge = s.edge; rest = on y z s.rest edge }

  pub first_step : (x z : X) → Leads nexts x z → (z ≡ x) ⊎ Starts x z
  first_step x _ here = inl refl
  first_step x z (on m _ path last) = inr (path_then_edge x m z path last)

  -- a cycle is reached
  pub record ReachesCycle (x : X) : Type 0 where
    pub cyclic : X
    pub path : Leads nexts x cyclic
    pub cycle : IsOnCycle nexts cyclic

  -- then one is reached from a node that follows
  record NextReachesCycle (x : X) : Type 0 where
    next : X
    edge : Contains (nexts x) next
    reaches : ReachesCycle next

  next-reaches : (x : X) → ReachesCycle x → NextReachesCycle x
  next-reaches x r = at (first_step x r.cyclic r.path)
    where
      at : (r.cyclic ≡ x) ⊎ Starts x r.cyclic → NextReachesCycle x
      at (inl e) = record {
        next = r.cycle.second;
        edge = subst (λ z. Contains (nexts z) r.cycle.second) e r.cycle.edge;
        reaches = record { cyclic = r.cyclic; path = r.cycle.back; cycle = r.cycle };
      }
      at (inr s) = record { next = s.second; edge = s.edge; reaches = record { cyclic = r.cyclic; path = s.rest; cycle = r.cycle } }

  -- ---- what a walk leaves

  -- all that follow a node come after it, and it doesn't itself
  abbrev pub AreLater : List X → Type 0
  AreLater [] = Unit {0}
  AreLater (x ∷ xs) = ((y : X) → Contains (nexts x) y → Contains xs y) × (Contains xs x → ⊥) × AreLater xs

  -- no cycle is reached from a member
  abbrev pub NoneCyclic : List X → Type 0
  NoneCyclic xs = (x : X) → Contains xs x → ReachesCycle x → ⊥

  -- a node to do leads there
  pub record IsTaken (todo : List X) (x : X) : Type 0 where
    pub from : X
    pub among : Contains todo from
    pub path : Leads nexts from x

  pub record Left (left todo out : List X) : Type 0 where
    pub later : AreLater out
    pub acyclic : NoneCyclic out
    pub kept : (x : X) → Contains left x → Contains out x
    pub covers : (x : X) → Contains todo x → Contains out x
    pub only : (x : X) → Contains out x → Contains left x ⊎ IsTaken todo x

  left_again : (x : X) (left todo out : List X) → Contains left x → Left left todo out → Left left (x ∷ todo) out
  left_again x left todo out among l = record {
    later = l.later;
    acyclic = l.acyclic;
    kept = l.kept;
    covers = λ y c. elim (contained_cases x todo y c) [ inl e ↦ subst (Contains out) (sym e) (l.kept x among) | inr later ↦ l.covers y later ];
    only = λ y c. elim (l.only y c) [
      | inl old ↦ inl old
      | inr t ↦ inr (record { from = t.from; among = contained_later x todo t.from t.among; path = t.path })
    ];
  }

  -- where all that follow a node were left, it reaches no cycle, and wasn't left with them
  spared : (x : X) (left middle : List X) → Left left (nexts x) middle → ReachesCycle x → ⊥
  spared x left middle l r = let n = next-reaches x r in l.acyclic n.next (l.covers n.next n.edge) n.reaches

  unleft : (x : X) (left middle : List X) → (Contains left x → ⊥) → Left left (nexts x) middle → Contains middle x → ⊥
  unleft x left middle new l c = elim (l.only x c) [
    | inl old ↦ new old
    | inr t ↦ spared x left middle l (record { cyclic = x; path = here; cycle = record { second = t.from; edge = t.among; back = t.path } })
  ]

  acyclic_more : (x : X) (left middle : List X) → Left left (nexts x) middle → NoneCyclic (x ∷ middle)
  acyclic_more x left middle l y c r = elim (contained_cases x middle y c) [
    | inl e ↦ spared x left middle l (subst ReachesCycle e r)
    | inr later ↦ l.acyclic y later r
  ]

  left_first : (x : X) (left middle todo out : List X) → Left left (nexts x) middle → Left (x ∷ middle) todo out → Left left (x ∷ todo) out
  left_first x left middle todo out l m = record {
    later = m.later;
    acyclic = m.acyclic;
    kept = λ y c. m.kept y (contained_later x middle y (l.kept y c));
    covers = λ y c. elim (contained_cases x todo y c) [
      | inl e ↦ subst (Contains out) (sym e) (m.kept x (contained_here x middle))
      | inr later ↦ m.covers y later
    ];
    only = λ y c. elim (m.only y c) [ inl old ↦ before y (contained_cases x middle y old) | inr t ↦ inr (further y t) ];
  }
    where
      taken : (y : X) → Contains left y ⊎ IsTaken (nexts x) y → Contains left y ⊎ IsTaken (x ∷ todo) y
      taken y (inl old) = inl old
      taken y (inr t) = inr (record { from = x; among = contained_here x todo; path = prepend x t.from y t.among t.path })

      before : (y : X) → (y ≡ x) ⊎ Contains middle y → Contains left y ⊎ IsTaken (x ∷ todo) y
      before y (inl e) = inr (record { from = x; among = contained_here x todo; path = subst (Leads nexts x) (sym e) here })
      before y (inr c) = taken y (l.only y c)

      further : (y : X) → IsTaken todo y → IsTaken (x ∷ todo) y
      further y t = record { from = t.from; among = contained_later x todo t.from t.among; path = t.path }

  pub walk_left : (left todo out : List X) → Takes nexts left todo out → AreLater left → NoneCyclic left → Left left todo out
  walk_left _ _ _ (none left) later acyclic = record {
    later = later;
    acyclic = acyclic;
    kept = λ x c. c;
    covers = λ x c. absurd (none_contained x c);
    only = λ x c. inl c;
  }
  walk_left _ _ _ (again x left todo out among takes) later acyclic =
      left_again x left todo out among (walk_left left todo out takes later acyclic)
  walk_left _ _ _ (first x left middle todo out new inner rest) later acyclic =
      let l = walk_left left (nexts x) middle inner later acyclic in
      let m = walk_left (x ∷ middle) todo out rest (l.covers, unleft x left middle new l, l.later) (acyclic_more x left middle l) in
      left_first x left middle todo out l m

  -- of a walk from nothing
  pub walk_whole : (todo out : List X) → Takes nexts [] todo out → Left [] todo out
  walk_whole todo out takes = walk_left [] todo out takes tt (λ x c r. none_contained x c)

  -- ---- what follows of such a list

  pub later_closed : (xs : List X) → AreLater xs → (x y : X) → Contains xs x → Contains (nexts x) y → Contains xs y
  later_closed [] later x y c edge = absurd (none_contained x c)
  later_closed (z ∷ xs) later x y c edge = contained_later z xs y (elim (contained_cases z xs x c) [
    | inl e ↦ later.0 y (subst (λ v. Contains (nexts v) y) e edge)
    | inr c ↦ later_closed xs later.2 x y c edge
  ])

  pub later_reached : (xs : List X) → AreLater xs → (x y : X) → Contains xs x → Leads nexts x y → Contains xs y
  later_reached xs later x _ c here = c
  later_reached xs later x y c (on m _ path last) = later_closed xs later m y (later_reached xs later x m c path) last

  pub later_distinct : (xs : List X) → AreLater xs → AreDistinct xs
  later_distinct [] later i j x e f = absurd (cc)
  later_distinct (z ∷ xs) later zero zero x e f = refl
  later_distinct (z ∷ xs) later zero (suc j) x e f =
      let same : Some z ≡ Some x = e in
      absurd (later.1 (subst (Contains xs) (sym (some-same z x same)) (contained_at xs j x f)))
    where
      some-same : (a b : X) → Some a ≡ Some b → a ≡ b
      some-same a b e = cc
  later_distinct (z ∷ xs) later (suc i) zero x e f =
      let same : Some z ≡ Some x = f in
      absurd (later.1 (subst (Contains xs) (sym (some-same z x same)) (contained_at xs i x e)))
    where
      some-same : (a b : X) → Some a ≡ Some b → a ≡ b
      some-same a b e = cc
  later_distinct (z ∷ xs) later (suc i) (suc j) x e f = ap suc (later_distinct xs later.2 i j x e f)

  -- what follows a member is at a later index
  pub record IsAfter (xs : List X) (i : ℕ) (y : X) : Type 0 where
    pub index : ℕ
    pub below : i < index
    pub is : slice_get xs index ≡ Some y

  pub later_after : (xs : List X) → AreLater xs → (i : ℕ) (x y : X) → slice_get xs i ≡ Some x → Contains (nexts x) y → IsAfter xs i y
  later_after [] later i x y e edge = absurd (cc)
  later_after (z ∷ xs) later zero x y e edge =
      let same : z ≡ x = cc in
      let place = index_of_contained xs y (later.0 y (subst (λ v. Contains (nexts v) y) (sym same) edge)) in
      record { index = suc place.0; below = omega arith; is = place.1 }
  later_after (z ∷ xs) later (suc i) x y e edge =
      let a = later_after xs later.2 i x y e edge in
      let below = a.below in
      record { index = suc a.index; below = omega (arith, below); is = a.is }

  -- the node that a walk from one node starts at is the last that is left
  pub walk_head : (x : X) (out : List X) → Takes nexts [] (x ∷ []) out → slice_get out 0 ≡ Some x
  walk_head x out (again _ _ _ _ among rest) = absurd (none_contained x among)
  walk_head x out (first _ _ middle _ _ new inner (none _)) = refl
