-- The edges into each visit, as they are added.
use Rattle.std.proofs.Common.{◌≡◌, ℕ, zero, suc, ◌<◌, Bool, true, false, List, [], ◌∷◌, ◌++◌, length, map, get_or, set, replicate, Some, refl, sym, ◌∙◌, ap, subst, arith, append-nil, append_assoc, eqb-true, eq-eqb}
use Rattle.std.specs.Prelude.{slice_get, Contains, nat_eq, ◌==◌, ◌&&◌, if◌then◌else◌, Vec, Option, None, unwrap_or}
use Rattle.std.specs.Global.{Global}
use Rattle.std.proofs.lemmas.Bool.{and_parts}
use Rattle.std.proofs.lemmas.List.{length-set, get_or-set_same, get_or-set_other, get_or-replicate, length-replicate, map-set}
use Rattle.graph_core_spec.specs.declared.Next.{Next}
use Rattle.graph_core_spec.specs.declared.Next.TheVariants as next
use Rattle.graph_core_spec.specs.declared.Mark.{Mark}
use Rattle.visit_walk_spec.specs.declared.Incoming.{Incoming}
use Rattle.visit_walk_spec.specs.declared.Branch.TheVariants.{Only, IfTrue, IfFalse}
use Rattle.visit_walk_spec.specs.Shape.{Shape}
use Rattle.visit_walk_spec.specs.Visits.{Visit, Edge, edges_of}
use Rattle.visit_walk_spec.specs.EdgesInto.{same_place, same_counts, same_visit, edges_from, edges_after, all_edges_after}
use Rattle.visit_walk_spec.proofs.Members.{contained_here, contained_later}
use Rattle.visit_walk.specs.declared.depth_first.Targets.{Targets}
use Rattle.visit_walk.specs.declared.depth_first.Targets.TheVariants.{Zero, One, Two}
use Rattle.visit_walk.specs.declared.table.Table.{Table}
use Rattle.visit_walk.specs.Search.{target_at}
use Rattle.visit_walk.specs.Tables.{Holds, visits_of, visit_at, AreEdges, AreListed}
use Rattle.visit_walk.specs.Listings.{incoming_lists, list_at, with_edge, with_edges, with_all_edges, AreWithin, AllTargetsWithin}
use Rattle.visit_walk.proofs.Listed.{has, image, look-is, below}
use Rattle.visit_walk.proofs.Lists.{holds-below}

-- ---- the test of equality of visits

same-place-itself : (p : Next) → same_place p p ≡ true
same-place-itself (next.At n) = eq-eqb n n refl
same-place-itself next.Ret = refl
same-place-itself next.Err = refl

same-place-is : (p q : Next) → same_place p q ≡ true → p ≡ q
same-place-is (next.At m) (next.At n) e = ap next.At (eqb-true m n e)
same-place-is (next.At m) next.Ret e = absurd (cc)
same-place-is (next.At m) next.Err e = absurd (cc)
same-place-is next.Ret (next.At n) e = absurd (cc)
same-place-is next.Ret next.Ret e = refl
same-place-is next.Ret next.Err e = absurd (cc)
same-place-is next.Err (next.At n) e = absurd (cc)
same-place-is next.Err next.Ret e = absurd (cc)
same-place-is next.Err next.Err e = refl

same-counts-itself : (cs : List ℕ) → same_counts cs cs ≡ true
same-counts-itself [] = refl
same-counts-itself (c ∷ cs) = ap (λ b. b && same_counts cs cs) (eq-eqb c c refl) ∙ same-counts-itself cs

same-counts-is : (cs ds : List ℕ) → same_counts cs ds ≡ true → cs ≡ ds
same-counts-is [] [] e = refl
same-counts-is [] (d ∷ ds) e = absurd (cc)
same-counts-is (c ∷ cs) [] e = absurd (cc)
same-counts-is (c ∷ cs) (d ∷ ds) e =
    let parts = and_parts (c == d) (same_counts cs ds) e in
    let first = eqb-true c d parts.0 in
    let rest = same-counts-is cs ds parts.1 in
    λ i. first i ∷ rest i

same-visit-itself : (v : Visit) → same_visit v v ≡ true
same-visit-itself v = ap (λ b. b && same_counts v.counts v.counts) (same-place-itself v.place) ∙ same-counts-itself v.counts

same-visit-is : (u v : Visit) → same_visit u v ≡ true → u ≡ v
same-visit-is u v e =
    let parts = and_parts (same_place u.place v.place) (same_counts u.counts v.counts) e in
    let place = same-place-is u.place v.place parts.0 in
    let counts = same-counts-is u.counts v.counts parts.1 in
    λ i. record { place = place i; counts = counts i }

different : (u v : Visit) → (u ≡ v → ⊥) → same_visit u v ≡ false
different u v apart = at (same_visit u v) refl
  where
    at : (b : Bool) → same_visit u v ≡ b → b ≡ false
    at false e = refl
    at true e = absurd (apart (same-visit-is u v e))

-- ---- one edge more

edge-same : (lists : List (List Incoming)) (target : ℕ) (edge : Incoming) → target < length lists → list_at (with_edge lists target edge) target ≡ list_at lists target ++ edge ∷ []
edge-same lists target edge inside = get_or-set_same lists target (list_at lists target ++ edge ∷ []) [] inside

edge-other : (lists : List (List Incoming)) (target k : ℕ) (edge : Incoming) → (target ≡ k → ⊥) → list_at (with_edge lists target edge) k ≡ list_at lists k
edge-other lists target k edge apart = get_or-set_other lists target k (list_at lists target ++ edge ∷ []) [] (λ e. apart (sym e))

-- ---- lists as the program keeps them

pub lists-length : (lists : List (List Incoming)) (source : ℕ) (targets : Targets) → length (with_edges lists source targets) ≡ length lists
lists-length lists source Zero = refl
lists-length lists source (One a) = length-set lists a (list_at lists a ++ record { source = source; branch = Only } ∷ [])
lists-length lists source (Two a b) =
    length-set (with_edge lists a (record { source = source; branch = IfTrue })) b
    (list_at (with_edge lists a (record { source = source; branch = IfTrue })) b ++ record { source = source; branch = IfFalse } ∷ [])
    ∙ length-set lists a (list_at lists a ++ record { source = source; branch = IfTrue } ∷ [])

read-items : (lists : List (Vec Incoming Global)) (i : ℕ) (read : Vec Incoming Global) → i < length lists → read ≡ get_or lists i read → read.items ≡ list_at (incoming_lists lists) i
read-items [] i read inside is = absurd (omega (arith, inside))
read-items (l ∷ lists) zero read inside is = ap (λ (v : Vec Incoming Global). v.items) is
read-items (l ∷ lists) (suc i) read inside is = read-items lists i read (omega (arith, inside)) is

pub edge_added : (lists : List (Vec Incoming Global)) (target : ℕ) (read new : Vec Incoming Global) (edge : Incoming) → target < length lists → read ≡ get_or lists target read
    → new.items ≡ read.items ++ edge ∷ [] → incoming_lists (set lists target new) ≡ with_edge (incoming_lists lists) target edge
edge_added lists target read new edge inside is e =
    map-set (λ (v : Vec Incoming Global). v.items) lists target new
    ∙ ap (set (incoming_lists lists) target) (e ∙ ap (λ l. l ++ edge ∷ []) (read-items lists target read inside is))

-- ---- the edges of one visit, and of all

two-tests : (s t : Bool) (xs : List Incoming) (e f : Incoming) → (xs ++ (if s then e ∷ [] else [])) ++ (if t then f ∷ [] else [])
    ≡ xs ++ (if s then e ∷ (if t then f ∷ [] else []) else (if t then f ∷ [] else []))
two-tests true t xs e f = append_assoc xs (e ∷ []) (if t then f ∷ [] else [])
two-tests false t xs e f = ap (λ l. l ++ (if t then f ∷ [] else [])) (append-nil xs)

map-through : {X : Type 0} {Y : Type 0} (f : ℕ → Y) (look : ℕ → X) (g : X → Y) (xs : List ℕ) → ((k : ℕ) → Contains xs k → f k ≡ g (look k)) → map f xs ≡ map g (map look xs)
map-through f look g [] same = refl
map-through f look g (x ∷ xs) same =
    let first = same x (contained_here x xs) in
    let rest = map-through f look g xs (λ k c. same k (contained_later x xs k c)) in
    λ i. first i ∷ rest i

module _ (shape : Shape) (ms : List Mark) (start maximum : ℕ) (t : Table) (targets : List Targets) (l : AreListed shape ms start maximum t targets) where
  Inside : ℕ → Type 0
  Inside i = i < length t.keys.keys

  one-edge : (lists : List (List Incoming)) (a k : ℕ) (v : Visit) (edge : Incoming) → length lists ≡ length t.keys.keys → Holds (visits_of t) a v → k < length t.keys.keys
      → list_at (with_edge lists a edge) k ≡ list_at lists k ++ (if same_visit v (visit_at t k) then edge ∷ [] else [])
  one-edge lists a k v edge long h inside = at (nat_eq a k) refl
    where
      there : a < length t.keys.keys
      there = below t a v h

      look : visit_at t a ≡ v
      look = look-is t a v h

      at : (b : Bool) → nat_eq a k ≡ b → list_at (with_edge lists a edge) k ≡ list_at lists k ++ (if same_visit v (visit_at t k) then edge ∷ [] else [])
      at true e =
          let same : a ≡ k = eqb-true a k e in
          let test : same_visit v (visit_at t k) ≡ true = ap (λ u. same_visit v u) (ap (visit_at t) (sym same) ∙ look) ∙ same-visit-itself v in
          subst (λ j. list_at (with_edge lists a edge) j ≡ list_at lists j ++ edge ∷ []) same (edge-same lists a edge (omega (arith, there, long)))
          ∙ ap (λ b. list_at lists k ++ (if b then edge ∷ [] else [])) (sym test)
      at false e =
          let apart : a ≡ k → ⊥ = λ same. let yes = eq-eqb a k same in cc in
          let test : same_visit v (visit_at t k) ≡ false =
          different v (visit_at t k) (λ f. apart ((image shape ms start maximum t targets l).apart a k there inside (look ∙ f))) in
          edge-other lists a k edge apart ∙ (sym (append-nil (list_at lists k)) ∙ ap (λ b. list_at lists k ++ (if b then edge ∷ [] else [])) (sym test))

  enter-edges : (lists : List (List Incoming)) (source k : ℕ) (edges : List Edge) (found : Targets) → length lists ≡ length t.keys.keys → k < length t.keys.keys
      → AreEdges (visits_of t) edges found → list_at (with_edges lists source found) k ≡ list_at lists k ++ edges_from (visit_at t k) source edges
  enter-edges lists source k edges Zero long inside are =
      sym (append-nil (list_at lists k)) ∙ ap (λ es. list_at lists k ++ edges_from (visit_at t k) source es) (sym are)
  enter-edges lists source k edges (One a) long inside are =
      one-edge lists a k are.visit (record { source = source; branch = Only }) long are.holds inside
      ∙ ap (λ es. list_at lists k ++ edges_from (visit_at t k) source es) (sym are.edges_are)
  enter-edges lists source k edges (Two a b) long inside are =
      one-edge (with_edge lists a (record { source = source; branch = IfTrue })) b k are.on_false (record { source = source; branch = IfFalse })
      (length-set lists a (list_at lists a ++ record { source = source; branch = IfTrue } ∷ []) ∙ long) are.holds_second inside
      ∙ (ap (λ xs. xs ++ (if same_visit are.on_false (visit_at t k) then record { source = source; branch = IfFalse } ∷ [] else []))
      (one-edge lists a k are.on_true (record { source = source; branch = IfTrue }) long are.holds_first inside)
      ∙ (two-tests (same_visit are.on_true (visit_at t k)) (same_visit are.on_false (visit_at t k)) (list_at lists k) (record { source = source; branch = IfTrue })
      (record { source = source; branch = IfFalse })
      ∙ ap (λ es. list_at lists k ++ edges_from (visit_at t k) source es) (sym are.edges_are)))

  target-is : (i : ℕ) (b : i < length t.keys.keys) → target_at targets i ≡ (has shape ms start maximum t targets l i b).found
  target-is i b = ap (λ o. unwrap_or o Zero) (has shape ms start maximum t targets l i b).holds

  enter-all : (order : List ℕ) (lists : List (List Incoming)) (source k : ℕ) → ((i : ℕ) → Contains order i → i < length t.keys.keys) → length lists ≡ length t.keys.keys
      → k < length t.keys.keys
      → list_at (with_all_edges lists source order targets) k ≡ list_at lists k ++ edges_after (edges_of shape ms) (visit_at t k) source (map (visit_at t) order)
  enter-all [] lists source k all long inside = sym (append-nil (list_at lists k))
  enter-all (i ∷ order) lists source k all long inside =
      let b = all i (contained_here i order) in
      let h = has shape ms start maximum t targets l i b in
      enter-all order (with_edges lists source (target_at targets i)) (suc source) k (λ j c. all j (contained_later i order j c)) (lists-length lists source (target_at targets i) ∙ long) inside
      ∙ (ap (λ xs. xs ++ edges_after (edges_of shape ms) (visit_at t k) (suc source) (map (visit_at t) order))
      (ap (λ f. list_at (with_edges lists source f) k) (target-is i b) ∙ enter-edges lists source k (edges_of shape ms (visit_at t i)) h.found long inside h.edges_are)
      ∙ append_assoc (list_at lists k) (edges_from (visit_at t k) source (edges_of shape ms (visit_at t i)))
      (edges_after (edges_of shape ms) (visit_at t k) (suc source) (map (visit_at t) order)))

  pub entered : (order : List ℕ) (lists : List (List Incoming)) → ((i : ℕ) → Contains order i → i < length t.keys.keys)
      → lists ≡ with_all_edges (replicate (length t.keys.keys) []) 0 order targets
      → map (list_at lists) order ≡ all_edges_after (edges_of shape ms) (map (visit_at t) order)
  entered order lists all e =
      map-through (list_at lists) (visit_at t) (λ v. edges_after (edges_of shape ms) v 0 (map (visit_at t) order)) order
      (λ k c. ap (λ ls. list_at ls k) e
      ∙ (enter-all order (replicate (length t.keys.keys) []) 0 k all (length-replicate (length t.keys.keys) []) (all k c)
      ∙ ap (λ xs. xs ++ edges_after (edges_of shape ms) (visit_at t k) 0 (map (visit_at t) order)) (get_or-replicate (length t.keys.keys) k [] [] (all k c))))

  -- the targets are inside
  edges-within : (edges : List Edge) (found : Targets) → AreEdges (visits_of t) edges found → AreWithin (length t.keys.keys) found
  edges-within edges Zero are = tt
  edges-within edges (One a) are = below t a are.visit are.holds
  edges-within edges (Two a b) are = (below t a are.on_true are.holds_first, below t b are.on_false are.holds_second)

  pub targets_within : AllTargetsWithin (length t.keys.keys) targets
  targets_within i = at (slice_get targets i) refl
    where
      at : (o : Option Targets) → slice_get targets i ≡ o → AreWithin (length t.keys.keys) (unwrap_or (slice_get targets i) Zero)
      at None e = subst (λ o. AreWithin (length t.keys.keys) (unwrap_or o Zero)) (sym e) tt
      at (Some f) e =
          let inside = holds-below targets i f e in
          let h = has shape ms start maximum t targets l i (omega (arith, inside, l.number)) in
          subst (λ o. AreWithin (length t.keys.keys) (unwrap_or o Zero)) (sym h.holds) (edges-within (edges_of shape ms (visit_at t i)) h.found h.edges_are)
