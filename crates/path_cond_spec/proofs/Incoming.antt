-- An edge leads into a visit exactly where it is one of its source's edges.
use Rattle.std.proofs.Common.{◌≡◌, ◌∙◌, ℕ, ◌+◌, zero, suc, Bool, true, false, if◌then◌else◌, List, [], ◌∷◌, ◌++◌, Some, None, refl, sym, ap, ap₂, subst, inl, inr, arith}
use Rattle.std.specs.Prelude.{slice_get, Contains}
use Rattle.std.proofs.lemmas.Bool.{and_parts, and_from, eqb-true, eq-eqb, false≢true}
use Rattle.std.proofs.lemmas.List.Elements.{Contains-append_cases, Contains-append_left, Contains-append_right}
use Rattle.std.proofs.lemmas.Option.{same_Some}
use Rattle.graph_core_spec.specs.declared.Next.{Next}
use Rattle.graph_core_spec.specs.declared.Next.TheVariants as next
use Rattle.visit_walk_spec.specs.declared.Branch.{Branch}
use Rattle.visit_walk_spec.specs.declared.Incoming.{Incoming}
use Rattle.visit_walk_spec.specs.Visits.{Walk, Visit, Edge, edges}
use Rattle.visit_walk_spec.specs.EdgesInto.{same_place, same_counts, same_visit, edges_from, edges_after, edges_into}
use Rattle.path_cond_spec.proofs.Edges.{contains_head, contains_tail, contains_none, contains_cases}

-- ---- equal visits

same_place_is : (p q : Next) → same_place p q ≡ true → p ≡ q
same_place_is (next.At m) (next.At n) h = ap (λ (k : ℕ). next.At k) (eqb-true m n h)
same_place_is (next.At m) next.Ret h = absurd (false≢true h)
same_place_is (next.At m) next.Err h = absurd (false≢true h)
same_place_is next.Ret (next.At n) h = absurd (false≢true h)
same_place_is next.Ret next.Ret h = refl
same_place_is next.Ret next.Err h = absurd (false≢true h)
same_place_is next.Err (next.At n) h = absurd (false≢true h)
same_place_is next.Err next.Ret h = absurd (false≢true h)
same_place_is next.Err next.Err h = refl

same_place_itself : (p : Next) → same_place p p ≡ true
same_place_itself (next.At n) = eq-eqb n n refl
same_place_itself next.Ret = refl
same_place_itself next.Err = refl

same_counts_is : (cs ds : List ℕ) → same_counts cs ds ≡ true → cs ≡ ds
same_counts_is [] [] h = refl
same_counts_is [] (d ∷ ds) h = absurd (false≢true h)
same_counts_is (c ∷ cs) [] h = absurd (false≢true h)
same_counts_is (c ∷ cs) (d ∷ ds) h =
    let parts = and_parts _ (same_counts cs ds) h in
    ap₂ (λ (k : ℕ) (ks : List ℕ). k ∷ ks) (eqb-true c d parts.0) (same_counts_is cs ds parts.1)

same_counts_itself : (cs : List ℕ) → same_counts cs cs ≡ true
same_counts_itself [] = refl
same_counts_itself (c ∷ cs) = and_from _ (same_counts cs cs) (eq-eqb c c refl) (same_counts_itself cs)

pub same_visit_is : (u v : Visit) → same_visit u v ≡ true → u ≡ v
same_visit_is u v h =
    let parts = and_parts (same_place u.place v.place) (same_counts u.counts v.counts) h in
    let place = same_place_is u.place v.place parts.0 in
    let counts = same_counts_is u.counts v.counts parts.1 in
    λ i. record { place = place i; counts = counts i }

pub same_visit_itself : (u : Visit) → same_visit u u ≡ true
same_visit_itself u = and_from (same_place u.place u.place) (same_counts u.counts u.counts) (same_place_itself u.place) (same_counts_itself u.counts)

-- ---- the edges from one visit

abbrev pub edge_to : Visit → Branch → Edge
edge_to v branch = record { branch = branch; to = v }

abbrev pub edge_by : ℕ → Branch → Incoming
edge_by source branch = record { source = source; branch = branch }

from_edges : (v : Visit) (n : ℕ) (es : List Edge) (e : Incoming) → Contains (edges_from v n es) e → (e.source ≡ n) × Contains es (edge_to v e.branch)
from_edges v n [] e m = absurd (contains_none e m)
from_edges v n (x ∷ xs) e m = by_test (same_visit x.to v) refl m (from_edges v n xs e)
  where
    by_test : (test : Bool) → same_visit x.to v ≡ test → Contains (if test then edge_by n x.branch ∷ edges_from v n xs else edges_from v n xs) e
        → (Contains (edges_from v n xs) e → (e.source ≡ n) × Contains xs (edge_to v e.branch)) → (e.source ≡ n) × Contains (x ∷ xs) (edge_to v e.branch)
    by_test true is m rest = elim (contains_cases (edge_by n x.branch) (edges_from v n xs) e m) [
      | inl here ↦
          let to : x.to ≡ v = same_visit_is x.to v is in
          let branch : x.branch ≡ e.branch = ap (λ (f : Incoming). f.branch) here in
          let edge : x ≡ edge_to v e.branch = λ i. record { branch = branch i; to = to i } in
          (ap (λ (f : Incoming). f.source) (sym here), subst (λ (y : Edge). Contains (x ∷ xs) y) edge (contains_head x xs))
      | inr later ↦ let found = rest later in (found.0, contains_tail x (edge_to v e.branch) xs found.1)
    ]
    by_test false is m rest = let found = rest m in (found.0, contains_tail x (edge_to v e.branch) xs found.1)

to_edges : (v : Visit) (n : ℕ) (es : List Edge) (branch : Branch) → Contains es (edge_to v branch) → Contains (edges_from v n es) (edge_by n branch)
to_edges v n [] branch m = absurd (contains_none (edge_to v branch) m)
to_edges v n (x ∷ xs) branch m = elim (contains_cases x xs (edge_to v branch) m) [
  | inl here ↦
      let is : same_visit x.to v ≡ true = ap (λ (y : Edge). same_visit y.to v) here ∙ same_visit_itself v in
      let edge : edge_by n x.branch ≡ edge_by n branch = ap (λ (y : Edge). edge_by n y.branch) here in
      subst (λ (test : Bool). Contains (if test then edge_by n x.branch ∷ edges_from v n xs else edges_from v n xs) (edge_by n branch)) (sym is)
      (subst (λ (f : Incoming). Contains (edge_by n x.branch ∷ edges_from v n xs) f) edge (contains_head (edge_by n x.branch) (edges_from v n xs)))
  | inr later ↦ put (same_visit x.to v) (to_edges v n xs branch later)
]
  where
    put : (test : Bool) → Contains (edges_from v n xs) (edge_by n branch)
        → Contains (if test then edge_by n x.branch ∷ edges_from v n xs else edges_from v n xs) (edge_by n branch)
    put true m = contains_tail (edge_by n x.branch) (edge_by n branch) (edges_from v n xs) m
    put false m = m

-- ---- the edges from all visits

module _ (w : Walk) (v : Visit) where
  -- an edge from a visit of a list whose first is at the position n
  pub record IsFrom (n : ℕ) (us : List Visit) (e : Incoming) : Type 0 where
    pub index : ℕ
    pub visit : Visit
    pub there : slice_get us index ≡ Some visit
    pub source : e.source ≡ n + index
    pub out : Contains (edges w visit) (edge_to v e.branch)

  from_after : (n : ℕ) (us : List Visit) (e : Incoming) → Contains (edges_after (edges w) v n us) e → IsFrom n us e
  from_after n [] e m = absurd (contains_none e m)
  from_after n (u ∷ us) e m = elim (Contains-append_cases (edges_from v n (edges w u)) (edges_after (edges w) v (suc n) us) e m) [
    | inl here ↦
        let found = from_edges v n (edges w u) e here in
        record { index = 0; visit = u; there = refl; source = omega (arith, found.0); out = found.1 }
    | inr later ↦
        let found = from_after (suc n) us e later in
        let source = found.source in
        record { index = suc found.index; visit = found.visit; there = found.there; source = omega arith; out = found.out }
  ]

  to_after : (n : ℕ) (us : List Visit) (i : ℕ) (u : Visit) (branch : Branch) → slice_get us i ≡ Some u → Contains (edges w u) (edge_to v branch)
      → Contains (edges_after (edges w) v n us) (edge_by (n + i) branch)
  to_after n [] i u branch there out = let bad : None ≡ Some u = there in absurd (cc)
  to_after n (x ∷ us) zero u branch there out =
      let same : x ≡ u = same_Some x u there in
      let at : n ≡ n + 0 = omega arith in
      subst (λ (k : ℕ). Contains (edges_from v n (edges w x) ++ edges_after (edges w) v (suc n) us) (edge_by k branch)) at
      (Contains-append_left (edges_from v n (edges w x)) (edges_after (edges w) v (suc n) us) (edge_by n branch)
      (to_edges v n (edges w x) branch (subst (λ (y : Visit). Contains (edges w y) (edge_to v branch)) (sym same) out)))
  to_after n (x ∷ us) (suc i) u branch there out =
      let at : suc n + i ≡ n + suc i = omega arith in
      subst (λ (k : ℕ). Contains (edges_from v n (edges w x) ++ edges_after (edges w) v (suc n) us) (edge_by k branch)) at
      (Contains-append_right (edges_from v n (edges w x)) (edges_after (edges w) v (suc n) us) (edge_by (suc n + i) branch)
      (to_after (suc n) us i u branch there out))

  -- an edge leads into the visit exactly where its source has it
  pub into_from : (visits : List Visit) (e : Incoming) → Contains (edges_into w visits v) e → (u : Visit) × (slice_get visits e.source ≡ Some u) × Contains (edges w u) (edge_to v e.branch)
  into_from visits e m =
      let found = from_after 0 visits e m in
      let at : found.index ≡ e.source = let source = found.source in omega arith in
      (found.visit, subst (λ (k : ℕ). slice_get visits k ≡ Some found.visit) at found.there, found.out)

  pub into_to : (visits : List Visit) (i : ℕ) (u : Visit) (branch : Branch) → slice_get visits i ≡ Some u → Contains (edges w u) (edge_to v branch) → Contains (edges_into w visits v) (edge_by i branch)
  into_to visits i u branch there out =
      let at : 0 + i ≡ i = omega arith in
      subst (λ (k : ℕ). Contains (edges_into w visits v) (edge_by k branch)) at (to_after 0 visits i u branch there out)
