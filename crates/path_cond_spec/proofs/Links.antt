-- The visits of a walk are linked by the edges into them.
use Rattle.std.proofs.Common.{◌≡◌, ◌∙◌, ◌⊎◌, ℕ, ◌<◌, Bool, true, false, if◌then◌else◌, List, [], ◌∷◌, length, get_or, Option, Some, None, refl, sym, ap, ap₂, subst, inl, inr, arith}
use Rattle.std.specs.Prelude.{slice_get, Contains, option_map, unwrap_or}
use Rattle.std.proofs.lemmas.Bool.{cases_lt}
use Rattle.std.proofs.lemmas.List.{length-map, get_or_past}
use Rattle.std.proofs.lemmas.Option.{same_Some, slice_get-map, slice_get_within, slice_get-get_or, get_or_from_slice_get}
use Rattle.graph_core_spec.specs.declared.Next.{Next}
use Rattle.graph_core_spec.specs.declared.Next.TheVariants as next
use Rattle.graph_core_spec.specs.Graph.{Node, Basic, Cond, Call, Graph}
use Rattle.visit_walk_spec.specs.declared.Branch.{Branch}
use Rattle.visit_walk_spec.specs.declared.Branch.TheVariants.{Only, IfTrue, IfFalse}
use Rattle.visit_walk_spec.specs.declared.Incoming.{Incoming}
use Rattle.visit_walk_spec.specs.declared.Successors.{Successors}
use Rattle.visit_walk_spec.specs.declared.Successors.TheVariants.{One}
use Rattle.visit_walk_spec.specs.Shape.{successors_of, successors_at}
use Rattle.visit_walk_spec.specs.Visits.{Walk, Visit, Edge, followed, edges_at, edges_of, marks, is_marked_end, arrival, first_visit, edges, nexts}
use Rattle.visit_walk_spec.specs.Outcomes.{AreVisits}
use Rattle.visit_walk_spec.proofs.Members.{only_contained, contained_map, contained_image}
use Rattle.path_cond_spec.specs.Junctions.{Junction, junction_of, junctions, junction_at}
use Rattle.path_cond_spec.specs.Conditions.{node_of_place, node_of_junction}
use Rattle.path_cond_spec.specs.Passages.{target, IsInto, AreLinked}
use Rattle.path_cond_spec.specs.Runs.{IsShapeOf}
use Rattle.path_cond_spec.proofs.Edges.{contains_none, contains_cases, nil_from_none}
use Rattle.path_cond_spec.proofs.Incoming.{edge_to, edge_by, into_from, into_to}
use Rattle.path_cond_spec.proofs.Taken.{taken_first, taken_once, taken_on, taken_from}

-- ---- the edges of a visit

pub place-arrival : (w : Walk) (counts : List ℕ) (to : Next) → (arrival w counts to).place ≡ to
place-arrival w counts (next.At n) = refl
place-arrival w counts next.Ret = refl
place-arrival w counts next.Err = refl

-- the edge is that of a branch of the node there
pub record IsBranch (g : Graph) (w : Walk) (u : Visit) (x : Edge) : Type 0 where
  pub node : ℕ
  pub at : u.place ≡ next.At node
  pub goes : Next
  pub leads : target (slice_get g.nodes node) x.branch ≡ Some goes
  pub is : x.to ≡ arrival w u.counts goes

module _ (g : Graph) (w : Walk) (shape : IsShapeOf g w.shape) (u : Visit) (x : Edge) where
  by_branch : (n : ℕ) → u.place ≡ next.At n → (node : Option Node) → slice_get g.nodes n ≡ node → (branch : Branch) (to : Next) → target node branch ≡ Some to
      → x ≡ edge_to (arrival w u.counts to) branch → IsBranch g w u x
  by_branch n at node is branch to has e = record {
    node = n;
    at = at;
    goes = to;
    leads = ap₂ target is (ap (λ (y : Edge). y.branch) e) ∙ has;
    is = ap (λ (y : Edge). y.to) e;
  }

  -- an edge is one of a branch, but that a call's visit follows itself
  out_node : (n : ℕ) → u.place ≡ next.At n → (node : Option Node) → slice_get g.nodes n ≡ node
      → Contains (followed (marks w) u (unwrap_or (option_map successors_of node) (One next.Err))) x → IsBranch g w u x ⊎ (x.to ≡ u)
  out_node n at None is m = inl (by_branch n at None is Only next.Err refl (only_contained (edge_to (arrival w u.counts next.Err) Only) x m))
  out_node n at (Some (Basic bindings to)) is m = inl (by_branch n at (Some (Basic bindings to)) is Only to refl (only_contained (edge_to (arrival w u.counts to) Only) x m))
  out_node n at (Some (Cond test on_true on_false)) is m =
      elim (contains_cases (edge_to (arrival w u.counts on_true) IfTrue) (edge_to (arrival w u.counts on_false) IfFalse ∷ []) x m) [
        | inl here ↦ inl (by_branch n at (Some (Cond test on_true on_false)) is IfTrue on_true refl (sym here))
        | inr later ↦ inl (by_branch n at (Some (Cond test on_true on_false)) is IfFalse on_false refl (only_contained (edge_to (arrival w u.counts on_false) IfFalse) x later))
      ]
  out_node n at (Some (Call callee inputs outputs landing)) is m = inr (ap (λ (y : Edge). y.to) (only_contained (edge_to u Only) x m))

  out_at : (p : Next) → u.place ≡ p → Contains (edges_at w.shape (marks w) u p) x → IsBranch g w u x ⊎ (x.to ≡ u)
  out_at (next.At n) at m = elim (shape n) [
    | inl ended ↦ absurd (contains_none x (subst (λ (s : Successors). Contains (followed (marks w) u s) x) ended m))
    | inr same ↦
        let is : successors_at w.shape n ≡ unwrap_or (option_map successors_of (slice_get g.nodes n)) (One next.Err) =
        same ∙ ap (λ (o : Option Successors). unwrap_or o (One next.Err)) (slice_get-map successors_of g.nodes n) in
        out_node n at (slice_get g.nodes n) refl (subst (λ (s : Successors). Contains (followed (marks w) u s) x) is m)
  ]
  out_at next.Ret at m = absurd (contains_none x m)
  out_at next.Err at m = absurd (contains_none x m)

  out_test : (test : Bool) → Contains (if test then [] else edges_at w.shape (marks w) u u.place) x → IsBranch g w u x ⊎ (x.to ≡ u)
  out_test true m = absurd (contains_none x m)
  out_test false m = out_at u.place refl m

  out_of : Contains (edges w u) x → IsBranch g w u x ⊎ (x.to ≡ u)
  unfolding edges_of
  out_of m = out_test (is_marked_end w u) m

-- ---- the edges between listed visits

module _ (w : Walk) (visits : List Visit) (are : AreVisits w visits) where
  pub is_first : slice_get visits 0 ≡ Some (first_visit w)
  is_first = taken_first (nexts w) (first_visit w) visits are

  pub once : (i j : ℕ) (v : Visit) → slice_get visits i ≡ Some v → slice_get visits j ≡ Some v → i ≡ j
  once i j v at_i at_j = taken_once (nexts w) (first_visit w) visits are i j v at_i at_j

  -- what an edge leads to is listed later
  pub listed_on : (i : ℕ) (u v : Visit) (branch : Branch) → slice_get visits i ≡ Some u → Contains (edges w u) (edge_to v branch) → (j : ℕ) × (slice_get visits j ≡ Some v) × (i < j)
  listed_on i u v branch there out =
      taken_on (nexts w) (first_visit w) visits are i u v there (contained_map (λ (y : Edge). y.to) (edges w u) (edge_to v branch) out)

  pub no_loop : (i : ℕ) (u : Visit) (branch : Branch) → slice_get visits i ≡ Some u → Contains (edges w u) (edge_to u branch) → ⊥
  no_loop i u branch there out =
      let again = listed_on i u u branch there out in
      let same : i ≡ again.0 = once i again.0 u there again.1 in
      let later = again.2 in
      absurd (omega arith)

  pub junction_is : (j : ℕ) (v : Visit) → slice_get visits j ≡ Some v → junction_at (junctions w visits) j ≡ junction_of w visits v
  junction_is j v there =
      get_or_from_slice_get (junctions w visits) j (junction_of w visits v) _
      (slice_get-map (junction_of w visits) visits j ∙ ap (option_map (junction_of w visits)) there)

  pub into_listed : (i j : ℕ) (u v : Visit) (branch : Branch) → slice_get visits i ≡ Some u → slice_get visits j ≡ Some v → Contains (edges w u) (edge_to v branch)
      → IsInto (junctions w visits) j (edge_by i branch)
  into_listed i j u v branch at_i at_j out =
      subst (λ (junction : Junction). Contains junction.edges (edge_by i branch)) (sym (junction_is j v at_j)) (into_to w v visits i u branch at_i out)

  -- an edge into a visit, with its source
  pub record IsLink (j : ℕ) (e : Incoming) : Type 0 where
    pub target : Visit
    pub there : slice_get visits j ≡ Some target
    pub source : Visit
    pub from : slice_get visits e.source ≡ Some source
    pub out : Contains (edges w source) (edge_to target e.branch)

  pub link : (j : ℕ) (e : Incoming) → IsInto (junctions w visits) j e → IsLink j e
  link j e into = elim (cases_lt j (length visits)) [
    | inl within ↦
        let there : slice_get visits j ≡ Some (get_or visits j (first_visit w)) = slice_get-get_or visits j (first_visit w) within in
        let v : Visit = get_or visits j (first_visit w) in
        let found = into_from w v visits e (subst (λ (junction : Junction). Contains junction.edges e) (junction_is j v there) into) in
        record { target = v; there = there; source = found.0; from = found.1; out = found.2 }
    | inr past ↦
        let long : length (junctions w visits) ≡ length visits = length-map visits (junction_of w visits) in
        let none : junction_at (junctions w visits) j ≡ record { place = next.Err; edges = [] } = get_or_past (junctions w visits) j (record { place = next.Err; edges = [] }) (omega arith) in
        absurd (contains_none e (subst (λ (junction : Junction). Contains junction.edges e) none into))
  ]

  -- it leads to a later visit
  pub onward : (j : ℕ) (e : Incoming) → IsInto (junctions w visits) j e → e.source < j
  onward j e into =
      let l = link j e into in
      let on = listed_on e.source l.source l.target e.branch l.from l.out in
      let same : on.0 ≡ j = once on.0 j l.target on.1 l.there in
      let later = on.2 in
      omega arith

  pub none_into_first : (e : Incoming) → IsInto (junctions w visits) 0 e → ⊥
  none_into_first e into = let bad = onward 0 e into in absurd (omega arith)

  pub some_into : (j : ℕ) → 0 < j → j < length (junctions w visits) → (junction_at (junctions w visits) j).edges ≡ [] → ⊥
  some_into j later within none =
      let long : length (junctions w visits) ≡ length visits = length-map visits (junction_of w visits) in
      let there : slice_get visits j ≡ Some (get_or visits j (first_visit w)) = slice_get-get_or visits j (first_visit w) (omega arith) in
      let v : Visit = get_or visits j (first_visit w) in
      let from = taken_from (nexts w) (first_visit w) visits are j v later there in
      let image = contained_image (λ (y : Edge). y.to) (edges w from.1) v from.3 in
      let edge : image.of ≡ edge_to v image.of.branch = λ k. record { branch = image.of.branch; to = sym image.is k } in
      let into = into_listed from.0 j from.1 v image.of.branch from.2 there (subst (λ (y : Edge). Contains (edges w from.1) y) edge image.among) in
      contains_none (edge_by from.0 image.of.branch) (subst (λ (es : List Incoming). Contains es (edge_by from.0 image.of.branch)) none into)

module _ (g : Graph) (w : Walk) (visits : List Visit) (shape : IsShapeOf g w.shape) (are : AreVisits w visits) where
  pub branch_of : (i : ℕ) (u : Visit) (x : Edge) → slice_get visits i ≡ Some u → Contains (edges w u) x → IsBranch g w u x
  branch_of i u x there out = elim (out_of g w shape u x out) [
    | inl is ↦ is
    | inr loop ↦
        let edge : x ≡ edge_to u x.branch = λ k. record { branch = x.branch; to = loop k } in
        absurd (no_loop w visits are i u x.branch there (subst (λ (y : Edge). Contains (edges w u) y) edge out))
  ]

  goes_there : (j : ℕ) (e : Incoming) → IsInto (junctions w visits) j e
      → target (node_of_junction g (junctions w visits) e.source) e.branch ≡ Some (junction_at (junctions w visits) j).place
  goes_there j e into =
      let l = link w visits are j e into in
      let b = branch_of e.source l.source (edge_to l.target e.branch) l.from l.out in
      let node : node_of_junction g (junctions w visits) e.source ≡ slice_get g.nodes b.node =
      ap (λ (junction : Junction). node_of_place g junction.place) (junction_is w visits are e.source l.source l.from) ∙ ap (node_of_place g) b.at in
      let place : b.goes ≡ (junction_at (junctions w visits) j).place =
      sym (place-arrival w l.source.counts b.goes) ∙ ap (λ (v : Visit). v.place) (sym b.is) ∙ ap (λ (junction : Junction). junction.place) (sym (junction_is w visits are j l.target l.there)) in
      ap (λ (o : Option Node). target o e.branch) node ∙ b.leads ∙ ap Some place

  one_node : (m n : ℕ) → next.At m ≡ next.At n → m ≡ n
  one_node m n e = cc

  goes_once : (i j : ℕ) (e : Incoming) → IsInto (junctions w visits) i e → IsInto (junctions w visits) j e → i ≡ j
  goes_once i j e into_i into_j =
      let k = link w visits are i e into_i in
      let l = link w visits are j e into_j in
      let source : l.source ≡ k.source = same_Some l.source k.source (sym l.from ∙ k.from) in
      let out : Contains (edges w k.source) (edge_to l.target e.branch) = subst (λ (u : Visit). Contains (edges w u) (edge_to l.target e.branch)) source l.out in
      let b = branch_of e.source k.source (edge_to k.target e.branch) k.from k.out in
      let c = branch_of e.source k.source (edge_to l.target e.branch) k.from out in
      let node : b.node ≡ c.node = one_node b.node c.node (sym b.at ∙ c.at) in
      let goes : b.goes ≡ c.goes = same_Some b.goes c.goes (sym b.leads ∙ ap (λ (n : ℕ). target (slice_get g.nodes n) e.branch) node ∙ c.leads) in
      let same : k.target ≡ l.target = b.is ∙ ap (arrival w k.source.counts) goes ∙ sym c.is in
      once w visits are i j l.target (subst (λ (v : Visit). slice_get visits i ≡ Some v) same k.there) l.there

  pub linked : AreLinked g (junctions w visits)
  linked = record {
    some =
        let long : length (junctions w visits) ≡ length visits = length-map visits (junction_of w visits) in
        let within : 0 < length visits = slice_get_within visits 0 (first_visit w) (is_first w visits are) in
        omega arith;
    none_first = nil_from_none (junction_at (junctions w visits) 0).edges (none_into_first w visits are);
    entered = some_into w visits are;
    earlier = onward w visits are;
    leads = goes_there;
    one_target = goes_once;
  }
