-- Where nodes without marks go round, and a walk passes one of them, visits go round.
use Rattle.std.proofs.Common.{◌≡◌, ◌⊎◌, ℕ, suc, ◌≤◌, Bool, true, false, List, [], ◌∷◌, get_or, map, refl, sym, ◌∙◌, ap, subst, inl, inr, arith, eqb-true, eq-eqb}
use Rattle.std.specs.Prelude.{Contains, nat_eq, nat_le, ◌==◌, ◌&&◌, ◌||◌, if◌then◌else◌}
use Rattle.std.specs.List.{list_any}
use Rattle.std.proofs.lemmas.Bool.{leb-false, lt-leb}
use Rattle.std.proofs.lemmas.List.Folds.{list_any_at}
use Rattle.std.proofs.lemmas.List.Elements.{Contains-append_cases}
use Rattle.indexmap.proofs.CallerLemmas.{Contains-list_any}
use Rattle.graph_core_spec.specs.declared.Next.{Next}
use Rattle.graph_core_spec.specs.declared.Next.TheVariants as next
use Rattle.graph_core_spec.specs.declared.Mark.{Mark}
use Rattle.visit_walk_spec.specs.declared.Successors.{Successors}
use Rattle.visit_walk_spec.specs.declared.Successors.TheVariants.{One, Two, Callee, Nothing}
use Rattle.visit_walk_spec.specs.Shape.{Shape, successors_at}
use Rattle.visit_walk_spec.specs.DepthFirst.{Leads, here, on, IsOnCycle}
use Rattle.visit_walk_spec.specs.Visits.{Visit, counted, is_last, first_of, nexts_of}
use Rattle.visit_walk_spec.specs.Outcomes.{IsCyclicFrom}
use Rattle.visit_walk_spec.proofs.Members.{none_contained, only_contained, contained_here, contained_later, contained_cases}
use Rattle.visit_walk_spec.proofs.Walks.{join_paths}
use Rattle.visit_walk.specs.Nodes.{is_closed, is_marked, passed, passed_from, passes, unmarked, rounds, rounds_at}
use Rattle.visit_walk.proofs.Cycles.{Aligned, counted-unmarked, unmarked-passable, Among, step-made, step-call}

abbrev at_node : ℕ → List ℕ → Visit
at_node n cs = record { place = next.At n; counts = cs }

-- ---- paths that pass no node twice

module _ (shape : Shape) (ms : List Mark) (start : ℕ) where
  -- a path from the start to a node, over these nodes, the last one first
  data IsSimple : ℕ → List ℕ → Type 0 where
    starts : IsSimple start (start ∷ [])
    goes : (m n : ℕ) (path : List ℕ) → IsSimple m path → Contains (passes shape ms m) n → (Contains path n → ⊥) → IsSimple n (n ∷ path)

  record SimplePath (n : ℕ) : Type 0 where
    path : List ℕ
    simple : IsSimple n path

  cut : (m : ℕ) (path : List ℕ) (n : ℕ) → IsSimple m path → Contains path n → SimplePath n
  cut _ _ n starts c = subst SimplePath (sym (only_contained start n c)) (record { path = start ∷ []; simple = starts })
  cut _ _ n (goes m k path s edge new) c = elim (contained_cases k path n c) [
    | inl e ↦ subst SimplePath (sym e) (record { path = k ∷ path; simple = goes m k path s edge new })
    | inr later ↦ cut m path n s later
  ]

  simple : (n : ℕ) → Leads (passes shape ms) start n → SimplePath n
  simple _ here = record { path = start ∷ []; simple = starts }
  simple n (on m _ path last) = longer (simple m path)
    where
      longer : SimplePath m → SimplePath n
      longer p = at (list_any (nat_eq n) p.path) refl
        where
          at : (b : Bool) → list_any (nat_eq n) p.path ≡ b → SimplePath n
          at true e = cut m p.path n p.simple (Contains-list_any nat_eq (λ a b s. eqb-true a b s) p.path n e)
          at false e = record {
            path = n ∷ p.path;
            simple = goes m n p.path p.simple last (λ (k, below, is). let found = list_any_at (nat_eq n) p.path k n below (eq-eqb n (get_or p.path k n) (sym is)) in cc);
          }

-- ---- what the test of a node says

-- an open node of a place
record IsOpenAt (ms : List Mark) (to : Next) (n : ℕ) : Type 0 where
  to_is : to ≡ next.At n
  unclosed : is_closed ms n ≡ false

passed-is : (ms : List Mark) (to : Next) (n : ℕ) → Contains (passed ms to) n → IsOpenAt ms to n
passed-is ms (next.At m) n c = at (is_closed ms m) refl c
  where
    at : (b : Bool) → is_closed ms m ≡ b → Contains (if b then [] else m ∷ []) n → IsOpenAt ms (next.At m) n
    at true e c = absurd (none_contained n c)
    at false e c = let same = only_contained m n c in record { to_is = ap next.At (sym same); unclosed = subst (λ k. is_closed ms k ≡ false) (sym same) e }
passed-is ms next.Ret n c = absurd (none_contained n c)
passed-is ms next.Err n c = absurd (none_contained n c)

record IsPassedTo (ms : List Mark) (s : Successors) (n : ℕ) : Type 0 where
  among : Among s (next.At n)
  unclosed : is_closed ms n ≡ false

passed-to : (ms : List Mark) (s : Successors) (n : ℕ) → Contains (passed_from ms s) n → IsPassedTo ms s n
passed-to ms (One a) n c = let o = passed-is ms a n c in record { among = sym o.to_is; unclosed = o.unclosed }
passed-to ms (Two a b) n c = elim (Contains-append_cases (passed ms a) (passed ms b) n c) [
  | inl first ↦ (let o = passed-is ms a n first in record { among = inl (sym o.to_is); unclosed = o.unclosed })
  | inr second ↦ (let o = passed-is ms b n second in record { among = inr (sym o.to_is); unclosed = o.unclosed })
]
passed-to ms Callee n c = absurd (none_contained n c)
passed-to ms Nothing n c = absurd (none_contained n c)

record IsUnmarkedAt (ms : List Mark) (to : Next) (n : ℕ) : Type 0 where
  to_is : to ≡ next.At n
  free : is_marked ms n ≡ false

unmarked-is : (ms : List Mark) (to : Next) (n : ℕ) → Contains (unmarked ms to) n → IsUnmarkedAt ms to n
unmarked-is ms (next.At m) n c = at (is_marked ms m) refl c
  where
    at : (b : Bool) → is_marked ms m ≡ b → Contains (if b then [] else m ∷ []) n → IsUnmarkedAt ms (next.At m) n
    at true e c = absurd (none_contained n c)
    at false e c = let same = only_contained m n c in record { to_is = ap next.At (sym same); free = subst (λ k. is_marked ms k ≡ false) (sym same) e }
unmarked-is ms next.Ret n c = absurd (none_contained n c)
unmarked-is ms next.Err n c = absurd (none_contained n c)

record IsRoundTo (ms : List Mark) (s : Successors) (n : ℕ) : Type 0 where
  among : Among s (next.At n)
  free : is_marked ms n ≡ false

-- a call that is followed by itself, or a node without mark where a run continues
round-to : (ms : List Mark) (m : ℕ) (s : Successors) (n : ℕ) → Contains (rounds ms m s) n → ((s ≡ Callee) × (n ≡ m)) ⊎ IsRoundTo ms s n
round-to ms m (One a) n c = let o = unmarked-is ms a n c in inr (record { among = sym o.to_is; free = o.free })
round-to ms m (Two a b) n c = elim (Contains-append_cases (unmarked ms a) (unmarked ms b) n c) [
  | inl first ↦ inr (let o = unmarked-is ms a n first in record { among = inl (sym o.to_is); free = o.free })
  | inr second ↦ inr (let o = unmarked-is ms b n second in record { among = inr (sym o.to_is); free = o.free })
]
round-to ms m Callee n c = inl (refl, only_contained m n c)
round-to ms m Nothing n c = absurd (none_contained n c)

-- ---- counts on such a path: at most one, and none at a node that isn't on it

abbrev Low : List ℕ → List Mark → List ℕ → Type 0
Low path [] [] = Unit {0}
Low path [] (c ∷ cs) = ⊥
Low path (m ∷ ms) [] = ⊥
Low path (m ∷ ms) (c ∷ cs) = ((Contains path m.node → ⊥) → c ≡ 0) × (c ≤ 1) × Low path ms cs

low-zeros : (path : List ℕ) (ms : List Mark) → Low path ms (map {B = ℕ} (λ m. 0) ms)
low-zeros path [] = tt
low-zeros path (m ∷ ms) = (λ never. refl, omega arith, low-zeros path ms)

low-aligned : (path : List ℕ) (ms : List Mark) (cs : List ℕ) → Low path ms cs → Aligned ms cs
low-aligned path [] [] l = tt
low-aligned path [] (c ∷ cs) l = absurd l
low-aligned path (m ∷ ms) [] l = absurd l
low-aligned path (m ∷ ms) (c ∷ cs) l = low-aligned path ms cs l.2

low-counted : (path : List ℕ) (n : ℕ) → (Contains path n → ⊥) → (ms : List Mark) (cs : List ℕ) → Low path ms cs → Low (n ∷ path) ms (counted n ms cs)
low-counted path n new [] [] l = tt
low-counted path n new [] (c ∷ cs) l = absurd l
low-counted path n new (m ∷ ms) [] l = absurd l
low-counted path n new (m ∷ ms) (c ∷ cs) l = at (m.node == n) refl (low-counted path n new ms cs l.2)
  where
    at : (b : Bool) → (m.node == n) ≡ b → Low (n ∷ path) ms (counted n ms cs) → Low (n ∷ path) (m ∷ ms) ((if b then suc c else c) ∷ counted n ms cs)
    at true e rest =
        let same : m.node ≡ n = eqb-true m.node n e in
        let nothing : c ≡ 0 = l.0 (λ among. new (subst (Contains path) same among)) in
        (λ never. absurd (never (subst (Contains (n ∷ path)) (sym same) (contained_here n path))), omega (arith, nothing), rest)
    at false e rest = (λ never. l.0 (λ among. never (contained_later n path m.node among)), l.1, rest)

low-passable : (path : List ℕ) (n : ℕ) (ms : List Mark) (cs : List ℕ) → Low path ms cs → is_closed ms n ≡ false → is_last (next.At n) ms cs ≡ false
low-passable path n [] cs l e = refl
low-passable path n (m ∷ ms) [] l e = refl
low-passable path n (m ∷ ms) (c ∷ cs) l e = at (m.node == n) (λ f. low-passable path n ms cs l.2 f) e
  where
    both : (t : Bool) → nat_le m.count 1 ≡ t → (is_closed ms n ≡ false → is_last (next.At n) ms cs ≡ false) → (t || is_closed ms n) ≡ false
        → (nat_le m.count c || is_last (next.At n) ms cs) ≡ false
    both true below rest e = absurd (cc)
    both false below rest e =
        let above = leb-false m.count 1 below in
        let few = l.1 in
        ap (λ t. t || is_last (next.At n) ms cs) (lt-leb m.count c (omega (arith, above, few))) ∙ rest e

    at : (b : Bool) → (is_closed ms n ≡ false → is_last (next.At n) ms cs ≡ false) → ((b && nat_le m.count 1) || is_closed ms n) ≡ false
        → ((b && nat_le m.count c) || is_last (next.At n) ms cs) ≡ false
    at false rest e = rest e
    at true rest e = both (nat_le m.count 1) refl rest e

-- ---- visits

module _ (shape : Shape) (ms : List Mark) where
  -- a walk comes to a visit of the node, and goes on there
  record Comes (start n : ℕ) (path : List ℕ) : Type 0 where
    counts : List ℕ
    leads : Leads (nexts_of shape ms) (first_of start ms) (at_node n counts)
    low : Low path ms counts
    passable : is_last (next.At n) ms counts ≡ false

  comes : (start n : ℕ) (path : List ℕ) → is_last (next.At start) ms (map {B = ℕ} (λ m. 0) ms) ≡ false → IsSimple shape ms start n path → Comes start n path
  comes start _ _ passable starts = record { counts = map {B = ℕ} (λ m. 0) ms; leads = here; low = low-zeros (start ∷ []) ms; passable = passable }
  comes start _ _ passable (goes m n path s edge new) =
      let c = comes start m path passable s in
      let p = passed-to ms (successors_at shape m) n edge in
      let low = low-counted path n new ms c.counts c.low in
      record {
        counts = counted n ms c.counts;
        leads = on (at_node m c.counts) (at_node n (counted n ms c.counts)) c.leads (step-made shape ms (at_node m c.counts) m (next.At n) refl c.passable p.among);
        low = low;
        passable = low-passable (n ∷ path) n ms (counted n ms c.counts) low p.unclosed;
      }

  -- one step and a path of nodes without marks, with the same counts
  record Rounds (m n : ℕ) (cs : List ℕ) : Type 0 where
    leads : Leads (nexts_of shape ms) (at_node m cs) (at_node n cs)
    passable : is_last (next.At n) ms cs ≡ false

  record RoundStep (m n : ℕ) (cs : List ℕ) : Type 0 where
    edge : Contains (nexts_of shape ms (at_node m cs)) (at_node n cs)
    passable : is_last (next.At n) ms cs ≡ false

  round-step : (m n : ℕ) (cs : List ℕ) → Aligned ms cs → is_last (next.At m) ms cs ≡ false → Contains (rounds_at shape ms m) n → RoundStep m n cs
  round-step m n cs a passable edge = at (round-to ms m (successors_at shape m) n edge)
    where
      at : ((successors_at shape m ≡ Callee) × (n ≡ m)) ⊎ IsRoundTo ms (successors_at shape m) n → RoundStep m n cs
      at (inl (callee, e)) = record {
        edge = subst (λ k. Contains (nexts_of shape ms (at_node m cs)) (at_node k cs)) (sym e) (step-call shape ms (at_node m cs) m refl passable callee);
        passable = subst (λ k. is_last (next.At k) ms cs ≡ false) (sym e) passable;
      }
      at (inr r) = record {
        edge = subst (λ (l : List ℕ). Contains (nexts_of shape ms (at_node m cs)) (at_node n l)) (counted-unmarked n ms cs a r.free)
            (step-made shape ms (at_node m cs) m (next.At n) refl passable r.among);
        passable = unmarked-passable n ms cs r.free;
      }

  rounds-path : (m n : ℕ) (cs : List ℕ) → Aligned ms cs → is_last (next.At m) ms cs ≡ false → Leads (rounds_at shape ms) m n → Rounds m n cs
  rounds-path m _ cs a passable here = record { leads = here; passable = passable }
  rounds-path m n cs a passable (on k _ path last) =
      let r = rounds-path m k cs a passable path in
      let s = round-step k n cs a r.passable last in
      record { leads = on (at_node k cs) (at_node n cs) r.leads s.edge; passable = s.passable }

  pub visits-cycle : (start root n : ℕ) → is_last (next.At start) ms (map {B = ℕ} (λ m. 0) ms) ≡ false → Leads (passes shape ms) start root
      → Leads (rounds_at shape ms) root n → IsOnCycle (rounds_at shape ms) n → IsCyclicFrom (nexts_of shape ms) (first_of start ms) n
  visits-cycle start root n passable path rounds cycle =
      let p = simple shape ms start root path in
      let c = comes start root p.path passable p.simple in
      let a = low-aligned p.path ms c.counts c.low in
      let r = rounds-path root n c.counts a c.passable rounds in
      let s = round-step n cycle.second c.counts a r.passable cycle.edge in
      let b = rounds-path cycle.second n c.counts a s.passable cycle.back in
      record {
        visit = at_node n c.counts;
        place = refl;
        reached = join_paths (nexts_of shape ms) (first_of start ms) (at_node root c.counts) (at_node n c.counts) c.leads r.leads;
        cycle = record { second = at_node cycle.second c.counts; edge = s.edge; back = b.leads };
      }
