-- Cycles of visits, and cycles of nodes without marks.
use Rattle.std.proofs.Common.{◌≡◌, ◌⊎◌, ℕ, suc, ◌+◌, ◌<◌, ◌≤◌, Bool, true, false, List, [], ◌∷◌, map, refl, sym, ◌∙◌, ap, subst, inl, inr, arith}
use Rattle.std.specs.Prelude.{Contains, nat_le, ◌==◌, ◌&&◌, ◌||◌, if◌then◌else◌}
use Rattle.std.proofs.lemmas.Bool.{leb-false, lt-leb}
use Rattle.std.proofs.lemmas.List.Elements.{Contains-append_left, Contains-append_right}
use Rattle.graph_core_spec.specs.declared.Next.{Next}
use Rattle.graph_core_spec.specs.declared.Next.TheVariants as next
use Rattle.graph_core_spec.specs.declared.Mark.{Mark}
use Rattle.visit_walk_spec.specs.declared.Successors.{Successors}
use Rattle.visit_walk_spec.specs.declared.Successors.TheVariants.{One, Two, Callee, Nothing}
use Rattle.visit_walk_spec.specs.Shape.{Shape, successors_at}
use Rattle.visit_walk_spec.specs.DepthFirst.{Leads, here, on, IsOnCycle}
use Rattle.visit_walk_spec.specs.Visits.{Visit, Edge, counted, is_last, arrival_of, first_of, followed, edges_at, edges_of, nexts_of}
use Rattle.visit_walk_spec.specs.Outcomes.{IsCyclicFrom, IsAcyclicFrom}
use Rattle.visit_walk_spec.proofs.Members.{none_contained, only_contained, contained_here, contained_later, contained_cases}
use Rattle.visit_walk.specs.Nodes.{is_closed, is_marked, passed, passed_from, passes, unmarked, rounds, rounds_at}

-- ---- counts, aligned with marks

-- all arrivals
abbrev pub total : List ℕ → ℕ
total [] = 0
total (c ∷ cs) = c + total cs

-- one count a mark
abbrev pub Aligned : List Mark → List ℕ → Type 0
Aligned [] [] = Unit {0}
Aligned [] (c ∷ cs) = ⊥
Aligned (m ∷ ms) [] = ⊥
Aligned (m ∷ ms) (c ∷ cs) = Aligned ms cs

pub aligned-zeros : (ms : List Mark) → Aligned ms (map {B = ℕ} (λ m. 0) ms)
aligned-zeros [] = tt
aligned-zeros (m ∷ ms) = aligned-zeros ms

module _ (n : ℕ) where
  pub aligned-counted : (ms : List Mark) (cs : List ℕ) → Aligned ms cs → Aligned ms (counted n ms cs)
  aligned-counted [] [] a = tt
  aligned-counted [] (c ∷ cs) a = absurd a
  aligned-counted (m ∷ ms) [] a = absurd a
  aligned-counted (m ∷ ms) (c ∷ cs) a = aligned-counted ms cs a

  -- an arrival at a node without mark changes no count
  pub counted-unmarked : (ms : List Mark) (cs : List ℕ) → Aligned ms cs → is_marked ms n ≡ false → counted n ms cs ≡ cs
  counted-unmarked [] [] a e = refl
  counted-unmarked [] (c ∷ cs) a e = absurd a
  counted-unmarked (m ∷ ms) [] a e = absurd a
  counted-unmarked (m ∷ ms) (c ∷ cs) a e = at (m.node == n) (λ f. counted-unmarked ms cs a f) e
    where
      at : (b : Bool) → (is_marked ms n ≡ false → counted n ms cs ≡ cs) → (b || is_marked ms n) ≡ false → (if b then suc c else c) ∷ counted n ms cs ≡ c ∷ cs
      at true rest e = absurd (cc)
      at false rest e = ap (λ l. c ∷ l) (rest e)

  -- and doesn't end a walk
  pub unmarked-passable : (ms : List Mark) (cs : List ℕ) → is_marked ms n ≡ false → is_last (next.At n) ms cs ≡ false
  unmarked-passable [] cs e = refl
  unmarked-passable (m ∷ ms) [] e = refl
  unmarked-passable (m ∷ ms) (c ∷ cs) e = at (m.node == n) (λ f. unmarked-passable ms cs f) e
    where
      at : (b : Bool) → (is_marked ms n ≡ false → is_last (next.At n) ms cs ≡ false) → (b || is_marked ms n) ≡ false
          → ((b && nat_le m.count c) || is_last (next.At n) ms cs) ≡ false
      at true rest e = absurd (cc)
      at false rest e = rest e

  -- no count gets less
  pub sum-counted : (ms : List Mark) (cs : List ℕ) → Aligned ms cs → total cs ≤ total (counted n ms cs)
  sum-counted [] [] a = omega arith
  sum-counted [] (c ∷ cs) a = absurd a
  sum-counted (m ∷ ms) [] a = absurd a
  sum-counted (m ∷ ms) (c ∷ cs) a = at (m.node == n) (sum-counted ms cs a)
    where
      at : (b : Bool) → total cs ≤ total (counted n ms cs) → c + total cs ≤ (if b then suc c else c) + total (counted n ms cs)
      at true h = omega (arith, h)
      at false h = omega (arith, h)

  pub sum-marked : (ms : List Mark) (cs : List ℕ) → Aligned ms cs → is_marked ms n ≡ true → total cs < total (counted n ms cs)
  sum-marked [] cs a e = absurd (cc)
  sum-marked (m ∷ ms) [] a e = absurd a
  sum-marked (m ∷ ms) (c ∷ cs) a e = at (m.node == n) (λ f. sum-marked ms cs a f) e
    where
      at : (b : Bool) → (is_marked ms n ≡ true → total cs < total (counted n ms cs)) → (b || is_marked ms n) ≡ true → c + total cs < (if b then suc c else c) + total (counted n ms cs)
      at true rest e = let h = sum-counted ms cs a in omega (arith, h)
      at false rest e = let h = rest e in omega (arith, h)

  -- where an arrival doesn't end the walk, no mark counts one arrival or none
  pub passable-closed : (ms : List Mark) (cs : List ℕ) → Aligned ms cs → is_last (next.At n) ms (counted n ms cs) ≡ false → is_closed ms n ≡ false
  passable-closed [] cs a e = refl
  passable-closed (m ∷ ms) [] a e = absurd a
  passable-closed (m ∷ ms) (c ∷ cs) a e = at (m.node == n) (λ f. passable-closed ms cs a f) e
    where
      lower : nat_le m.count (suc c) ≡ false → nat_le m.count 1 ≡ false
      lower e = let above = leb-false m.count (suc c) e in lt-leb m.count 1 (omega (arith, above))

      both : (t : Bool) → nat_le m.count (suc c) ≡ t → (is_last (next.At n) ms (counted n ms cs) ≡ false → is_closed ms n ≡ false)
          → (t || is_last (next.At n) ms (counted n ms cs)) ≡ false → (nat_le m.count 1 || is_closed ms n) ≡ false
      both true above rest e = absurd (cc)
      both false above rest e = ap (λ t. t || is_closed ms n) (lower above) ∙ rest e

      at : (b : Bool) → (is_last (next.At n) ms (counted n ms cs) ≡ false → is_closed ms n ≡ false)
          → ((b && nat_le m.count (if b then suc c else c)) || is_last (next.At n) ms (counted n ms cs)) ≡ false → ((b && nat_le m.count 1) || is_closed ms n) ≡ false
      at false rest e = rest e
      at true rest e = both (nat_le m.count (suc c)) refl rest e

-- ---- edges of visits

-- a place where a run continues
abbrev pub Among : Successors → Next → Type 0
Among (One a) to = to ≡ a
Among (Two a b) to = (to ≡ a) ⊎ (to ≡ b)
Among Callee to = ⊥
Among Nothing to = ⊥

place-node : (ms : List Mark) (cs : List ℕ) (to : Next) (n : ℕ) → (arrival_of ms cs to).place ≡ next.At n → to ≡ next.At n
place-node ms cs (next.At m) n e = e
place-node ms cs next.Ret n e = e
place-node ms cs next.Err n e = e

aligned-arrival : (ms : List Mark) (cs : List ℕ) (to : Next) → Aligned ms cs → Aligned ms (arrival_of ms cs to).counts
aligned-arrival ms cs (next.At n) a = aligned-counted n ms cs a
aligned-arrival ms cs next.Ret a = a
aligned-arrival ms cs next.Err a = a

sum-arrival : (ms : List Mark) (cs : List ℕ) (to : Next) → Aligned ms cs → total cs ≤ total (arrival_of ms cs to).counts
sum-arrival ms cs (next.At n) a = sum-counted n ms cs a
sum-arrival ms cs next.Ret a = omega arith
sum-arrival ms cs next.Err a = omega arith

module _ (shape : Shape) (ms : List Mark) where
  -- a call's visit is followed by itself
  pub record IsCall (v w : Visit) (node : ℕ) : Type 0 where
    pub callee : successors_at shape node ≡ Callee
    pub same : w ≡ v

  pub record IsArrival (v w : Visit) (node : ℕ) : Type 0 where
    pub to : Next
    pub among : Among (successors_at shape node) to
    pub is : w ≡ arrival_of ms v.counts to

  -- one visit is followed by another
  pub record IsStep (v w : Visit) : Type 0 where
    pub node : ℕ
    pub place : v.place ≡ next.At node
    pub passable : is_last (next.At node) ms v.counts ≡ false
    pub how : IsCall v w node ⊎ IsArrival v w node

  step-how : (v w : Visit) (node : ℕ) (s : Successors) → successors_at shape node ≡ s → Contains (map (λ (e : Edge). e.to) (followed ms v s)) w → IsCall v w node ⊎ IsArrival v w node
  step-how v w node (One to) e c =
      inr (record { to = to; among = subst (λ s. Among s to) (sym e) refl; is = only_contained (arrival_of ms v.counts to) w c })
  step-how v w node (Two a b) e c = elim (contained_cases (arrival_of ms v.counts a) (arrival_of ms v.counts b ∷ []) w c) [
    | inl first ↦ inr (record { to = a; among = subst (λ s. Among s a) (sym e) (inl refl); is = first })
    | inr rest ↦ inr (record { to = b; among = subst (λ s. Among s b) (sym e) (inr refl); is = only_contained (arrival_of ms v.counts b) w rest })
  ]
  step-how v w node Callee e c = inl (record { callee = e; same = only_contained v w c })
  step-how v w node Nothing e c = absurd (none_contained w c)

  pub step_of : (v w : Visit) → Contains (nexts_of shape ms v) w → IsStep v w
  unfolding edges_of
  step_of v w c = at v.place refl (is_last v.place ms v.counts) refl c
    where
      at : (p : Next) → v.place ≡ p → (b : Bool) → is_last v.place ms v.counts ≡ b → Contains (map (λ (e : Edge). e.to) (if b then [] else edges_at shape ms v p)) w → IsStep v w
      at p e true last c = absurd (none_contained w c)
      at (next.At n) e false last c = record {
        node = n;
        place = e;
        passable = sym (ap (λ p. is_last p ms v.counts) e) ∙ last;
        how = step-how v w n (successors_at shape n) refl c;
      }
      at next.Ret e false last c = absurd (none_contained w c)
      at next.Err e false last c = absurd (none_contained w c)

  pub step-made : (v : Visit) (node : ℕ) (to : Next) → v.place ≡ next.At node → is_last (next.At node) ms v.counts ≡ false → Among (successors_at shape node) to
      → Contains (nexts_of shape ms v) (arrival_of ms v.counts to)
  unfolding edges_of
  step-made v node to e passable among =
      subst (λ b. Contains (map (λ (e : Edge). e.to) (if b then [] else edges_at shape ms v v.place)) (arrival_of ms v.counts to))
      (sym (ap (λ p. is_last p ms v.counts) e ∙ passable))
      (subst (λ p. Contains (map (λ (e : Edge). e.to) (edges_at shape ms v p)) (arrival_of ms v.counts to)) (sym e) (at (successors_at shape node) among))
    where
      at : (s : Successors) → Among s to → Contains (map (λ (e : Edge). e.to) (followed ms v s)) (arrival_of ms v.counts to)
      at (One a) e = subst (λ z. Contains (arrival_of ms v.counts a ∷ []) (arrival_of ms v.counts z)) (sym e) (contained_here (arrival_of ms v.counts a) [])
      at (Two a b) (inl e) =
          subst (λ z. Contains (arrival_of ms v.counts a ∷ arrival_of ms v.counts b ∷ []) (arrival_of ms v.counts z)) (sym e)
          (contained_here (arrival_of ms v.counts a) (arrival_of ms v.counts b ∷ []))
      at (Two a b) (inr e) =
          subst (λ z. Contains (arrival_of ms v.counts a ∷ arrival_of ms v.counts b ∷ []) (arrival_of ms v.counts z)) (sym e)
          (contained_later (arrival_of ms v.counts a) (arrival_of ms v.counts b ∷ []) (arrival_of ms v.counts b) (contained_here (arrival_of ms v.counts b) []))
      at Callee e = absurd e
      at Nothing e = absurd e

  pub step-call : (v : Visit) (node : ℕ) → v.place ≡ next.At node → is_last (next.At node) ms v.counts ≡ false → successors_at shape node ≡ Callee
      → Contains (nexts_of shape ms v) v
  unfolding edges_of
  step-call v node e passable callee =
      subst (λ b. Contains (map (λ (e : Edge). e.to) (if b then [] else edges_at shape ms v v.place)) v) (sym (ap (λ p. is_last p ms v.counts) e ∙ passable))
      (subst (λ p. Contains (map (λ (e : Edge). e.to) (edges_at shape ms v p)) v) (sym e)
      (subst (λ s. Contains (map (λ (e : Edge). e.to) (followed ms v s)) v) (sym callee) (contained_here v [])))

  -- ---- what steps keep

  aligned-step : (v w : Visit) → Aligned ms v.counts → IsStep v w → Aligned ms w.counts
  aligned-step v w a s = elim s.how [
    | inl call ↦ subst (λ (u : Visit). Aligned ms u.counts) (sym call.same) a
    | inr goes ↦ subst (λ (u : Visit). Aligned ms u.counts) (sym goes.is) (aligned-arrival ms v.counts goes.to a)
  ]

  sum-step : (v w : Visit) → Aligned ms v.counts → IsStep v w → total v.counts ≤ total w.counts
  sum-step v w a s = elim s.how [
    | inl call ↦ subst (λ (u : Visit). total v.counts ≤ total u.counts) (sym call.same) (omega arith)
    | inr goes ↦ subst (λ (u : Visit). total v.counts ≤ total u.counts) (sym goes.is) (sum-arrival ms v.counts goes.to a)
  ]

  aligned-path : (u v : Visit) → Aligned ms u.counts → Leads (nexts_of shape ms) u v → Aligned ms v.counts
  aligned-path u _ a here = a
  aligned-path u v a (on m _ path last) = aligned-step m v (aligned-path u m a path) (step_of m v last)

  sum-path : (u v : Visit) → Aligned ms u.counts → Leads (nexts_of shape ms) u v → total u.counts ≤ total v.counts
  sum-path u _ a here = omega arith
  sum-path u v a (on m _ path last) =
      let before = sum-path u m a path in
      let after = sum-step m v (aligned-path u m a path) (step_of m v last) in
      omega (arith, before, after)

  -- ---- a cycle of visits is one of nodes without marks

  -- an arrival that changes no count is at a node without mark
  arrival-unmarked : (v w : Visit) (node n : ℕ) → Aligned ms v.counts → (goes : IsArrival v w node) → w.place ≡ next.At n → total w.counts ≤ total v.counts
      → Contains (rounds_at shape ms node) n
  arrival-unmarked v w node n a goes place less = at (successors_at shape node) goes.among
    where
      to_is : goes.to ≡ next.At n
      to_is = place-node ms v.counts goes.to n (sym (ap (λ (u : Visit). u.place) goes.is) ∙ place)

      counts_are : w.counts ≡ counted n ms v.counts
      counts_are = ap (λ (u : Visit). u.counts) goes.is ∙ ap (λ t. (arrival_of ms v.counts t).counts) to_is

      none : (b : Bool) → is_marked ms n ≡ b → is_marked ms n ≡ false
      none false e = e
      none true e = let more = sum-marked n ms v.counts a e in let same = ap total counts_are in absurd (omega (arith, more, same, less))

      there : Contains (unmarked ms goes.to) n
      there =
          subst (λ t. Contains (unmarked ms t) n) (sym to_is)
          (subst (λ b. Contains (if b then [] else n ∷ []) n) (sym (none (is_marked ms n) refl)) (contained_here n []))

      at : (s : Successors) → Among s goes.to → Contains (rounds ms node s) n
      at (One x) e = subst (λ t. Contains (unmarked ms t) n) e there
      at (Two x y) (inl e) = Contains-append_left (unmarked ms x) (unmarked ms y) n (subst (λ t. Contains (unmarked ms t) n) e there)
      at (Two x y) (inr e) = Contains-append_right (unmarked ms x) (unmarked ms y) n (subst (λ t. Contains (unmarked ms t) n) e there)
      at Callee e = absurd e
      at Nothing e = absurd e

  record IsRound (u : Visit) (n : ℕ) : Type 0 where
    node : ℕ
    place : u.place ≡ next.At node
    path : Leads (rounds_at shape ms) node n

  same-node : (m n : ℕ) → next.At m ≡ next.At n → m ≡ n
  same-node m n e = cc

  round-path : (u v : Visit) (n : ℕ) → Aligned ms u.counts → Leads (nexts_of shape ms) u v → total v.counts ≤ total u.counts → v.place ≡ next.At n → IsRound u n
  round-path u _ n a here less place = record { node = n; place = place; path = here }
  round-path u v n a (on m _ path last) less place = further (step_of m v last) (λ k less at. round-path u m k a path less at)
    where
      am : Aligned ms m.counts
      am = aligned-path u m a path

      further : IsStep m v → ((k : ℕ) → total m.counts ≤ total u.counts → m.place ≡ next.At k → IsRound u k) → IsRound u n
      further s rounds = at s.how
        where
          before : total m.counts ≤ total u.counts
          before = let after = sum-step m v am s in omega (arith, after, less)

          first : IsRound u s.node
          first = rounds s.node before s.place

          at : IsCall m v s.node ⊎ IsArrival m v s.node → IsRound u n
          at (inl call) =
              let same : s.node ≡ n = same-node s.node n (sym s.place ∙ (sym (ap (λ (w : Visit). w.place) call.same) ∙ place)) in
              record { node = first.node; place = first.place; path = subst (Leads (rounds_at shape ms) first.node) same first.path }
          at (inr goes) =
              let start = sum-path u m a path in
              record {
                node = first.node;
                place = first.place;
                path = on s.node n first.path (arrival-unmarked m v s.node n am goes place (omega (arith, start, less)));
              }

  round-cycle : (v : Visit) (n : ℕ) → Aligned ms v.counts → v.place ≡ next.At n → IsOnCycle (nexts_of shape ms) v → IsOnCycle (rounds_at shape ms) n
  round-cycle v n a place cycle = at s.how
    where
      s : IsStep v cycle.second
      s = step_of v cycle.second cycle.edge

      second_aligned : Aligned ms cycle.second.counts
      second_aligned = aligned-step v cycle.second a s

      same : s.node ≡ n
      same = same-node s.node n (sym s.place ∙ place)

      less : total cycle.second.counts ≤ total v.counts
      less = sum-path cycle.second v second_aligned cycle.back

      at : IsCall v cycle.second s.node ⊎ IsArrival v cycle.second s.node → IsOnCycle (rounds_at shape ms) n
      at (inl call) = record {
        second = n;
        edge = subst (λ k. Contains (rounds_at shape ms k) n) same (subst (λ z. Contains (rounds ms s.node z) n) (sym call.callee) (subst (λ k. Contains (k ∷ []) n) (sym same) (contained_here n [])));
        back = here;
      }
      at (inr goes) =
          let back = round-path cycle.second v n second_aligned cycle.back (sum-step v cycle.second a s) place in
          record {
            second = back.node;
            edge = subst (λ k. Contains (rounds_at shape ms k) back.node) same (arrival-unmarked v cycle.second s.node back.node a goes back.place less);
            back = back.path;
          }

  -- ---- where a walk goes on, its node is passed

  arrival-passed : (v w : Visit) (node n : ℕ) → Aligned ms v.counts → (goes : IsArrival v w node) → w.place ≡ next.At n → is_last (next.At n) ms w.counts ≡ false
      → Contains (passes shape ms node) n
  arrival-passed v w node n a goes place passable = at (successors_at shape node) goes.among
    where
      to_is : goes.to ≡ next.At n
      to_is = place-node ms v.counts goes.to n (sym (ap (λ (u : Visit). u.place) goes.is) ∙ place)

      counts_are : w.counts ≡ counted n ms v.counts
      counts_are = ap (λ (u : Visit). u.counts) goes.is ∙ ap (λ t. (arrival_of ms v.counts t).counts) to_is

      there : Contains (passed ms goes.to) n
      there =
          subst (λ t. Contains (passed ms t) n) (sym to_is)
          (subst (λ b. Contains (if b then [] else n ∷ []) n) (sym (passable-closed n ms v.counts a (sym (ap (is_last (next.At n) ms) counts_are) ∙ passable))) (contained_here n []))

      at : (s : Successors) → Among s goes.to → Contains (passed_from ms s) n
      at (One x) e = subst (λ t. Contains (passed ms t) n) e there
      at (Two x y) (inl e) = Contains-append_left (passed ms x) (passed ms y) n (subst (λ t. Contains (passed ms t) n) e there)
      at (Two x y) (inr e) = Contains-append_right (passed ms x) (passed ms y) n (subst (λ t. Contains (passed ms t) n) e there)
      at Callee e = absurd e
      at Nothing e = absurd e

  passed-path : (start : ℕ) (v : Visit) (n : ℕ) → Leads (nexts_of shape ms) (first_of start ms) v → v.place ≡ next.At n → is_last (next.At n) ms v.counts ≡ false
      → Leads (passes shape ms) start n
  passed-path start _ n here place passable = subst (Leads (passes shape ms) start) (same-node start n place) here
  passed-path start v n (on m _ path last) place passable = further (step_of m v last) (λ k at goes. passed-path start m k path at goes)
    where
      further : IsStep m v → ((k : ℕ) → m.place ≡ next.At k → is_last (next.At k) ms m.counts ≡ false → Leads (passes shape ms) start k) → Leads (passes shape ms) start n
      further s before = at s.how
        where
          first : Leads (passes shape ms) start s.node
          first = before s.node s.place s.passable

          at : IsCall m v s.node ⊎ IsArrival m v s.node → Leads (passes shape ms) start n
          at (inl call) =
              subst (Leads (passes shape ms) start) (same-node s.node n (sym s.place ∙ (sym (ap (λ (w : Visit). w.place) call.same) ∙ place))) first
          at (inr goes) = on s.node n first (arrival-passed m v s.node n (aligned-path (first_of start ms) m (aligned-zeros ms) path) goes place passable)

  -- a cycle of visits: its node is passed, and is on a cycle of nodes without marks
  pub record IsCycleOfNodes (start n : ℕ) : Type 0 where
    pub path : Leads (passes shape ms) start n
    pub cycle : IsOnCycle (rounds_at shape ms) n

  pub cycle-nodes : (start n : ℕ) → IsCyclicFrom (nexts_of shape ms) (first_of start ms) n → IsCycleOfNodes start n
  cycle-nodes start n c =
      let a = aligned-path (first_of start ms) c.visit (aligned-zeros ms) c.reached in
      let s = step_of c.visit c.cycle.second c.cycle.edge in
      let same = same-node s.node n (sym s.place ∙ c.place) in
      record {
        path = passed-path start c.visit n c.reached c.place (subst (λ k. is_last (next.At k) ms c.visit.counts ≡ false) same s.passable);
        cycle = round-cycle c.visit n a c.place c.cycle;
      }

  -- where the first visit ends the walk, there is no cycle
  pub first-ended : (start : ℕ) → is_last (next.At start) ms (map {B = ℕ} (λ m. 0) ms) ≡ true → IsAcyclicFrom (nexts_of shape ms) (first_of start ms)
  first-ended start last n c = none c.visit c.reached (step_of c.visit c.cycle.second c.cycle.edge)
    where
      stuck : (v : Visit) → Leads (nexts_of shape ms) (first_of start ms) v → v ≡ first_of start ms
      stuck _ here = refl
      stuck v (on m _ path edge) =
          let e = stuck m path in
          let s = step_of (first_of start ms) v (subst (λ z. Contains (nexts_of shape ms z) v) e edge) in
          let k : start ≡ s.node = same-node start s.node s.place in
          let passable = subst (λ k. is_last (next.At k) ms (map {B = ℕ} (λ m. 0) ms) ≡ false) (sym k) s.passable in
          absurd (cc)

      none : (v : Visit) → Leads (nexts_of shape ms) (first_of start ms) v → IsStep v c.cycle.second → ⊥
      none v path s =
          let e = stuck v path in
          let k : start ≡ s.node = same-node start s.node (sym (ap (λ (w : Visit). w.place) e) ∙ s.place) in
          let passable = subst (λ k. is_last (next.At k) ms v.counts ≡ false) (sym k) s.passable in
          let also : is_last (next.At start) ms v.counts ≡ is_last (next.At start) ms (map {B = ℕ} (λ m. 0) ms) = ap (λ (w : Visit). is_last (next.At start) ms w.counts) e in
          cc
