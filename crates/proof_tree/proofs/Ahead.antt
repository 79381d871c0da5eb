-- How lists of nodes grow, and a walk over all that a node leads to.
use Rattle.std.proofs.Common.{◌≡◌, ◌⊎◌, ◌↔◌, ◌+◌, ◌<◌, ◌≤◌, ℕ, Bool, true, false, cond, List, [], ◌∷◌, ◌++◌, length, get_or, refl, sym, ◌∙◌, ap, subst, inl, inr, append_assoc, arith, eqb-true, eq-eqb}
use Rattle.std.specs.Prelude.{Option, Some, None, Contains, nat_eq, slice_get}
use Rattle.std.specs.List.{list_any}
use Rattle.std.proofs.lemmas.List.{append-nil, get_or_append_left, get_or_default, length-append}
use Rattle.std.proofs.lemmas.List.Elements.{Contains-append_left, Contains-append_cases, Contains-push}
use Rattle.std.proofs.lemmas.List.Folds.{list_any_at}
use Rattle.indexmap.specs.IndexSet.{insert_key}
use Rattle.indexmap.proofs.CallerLemmas.{Contains-list_any}
use Rattle.graph_core_spec.specs.Graph.{Graph, Graphs, Node, node_at}
use Rattle.graph_core_spec.specs.Run.{GoesTo, IsEdge, IsPath, first, on}
use Rattle.proof_tree.specs.Ahead.{Grows, AreAhead}

-- ---- growth

pub none_contained : (n : ℕ) → Contains [] n → ⊥
none_contained n (k, below, here) = omega (arith, below)

only_contained : (x n : ℕ) → Contains (x ∷ []) n → x ≡ n
only_contained x n (k, below, here) = only k below here
  where
    only : (k : ℕ) → k < length (x ∷ []) → get_or (x ∷ []) k n ≡ n → x ≡ n
    only k below here = let e : k ≡ 0 = omega (arith, below) in subst (λ j. get_or (x ∷ []) j n ≡ n) e here

grows-kept : (P : ℕ → Type 0) (xs : List ℕ) → ((n : ℕ) → P n → Contains xs n) → Grows P xs xs
grows-kept P xs all = record { more = []; grown = sym (append-nil xs); all = all; only = λ n h. absurd (none_contained n h) }

pub grows-none : (P : ℕ → Type 0) (xs : List ℕ) → ((n : ℕ) → P n → ⊥) → Grows P xs xs
grows-none P xs never = grows-kept P xs (λ n p. absurd (never n p))

pub grows-insert : (xs : List ℕ) (x : ℕ) → Grows (λ n. x ≡ n) xs (insert_key nat_eq xs x)
grows-insert xs x = at (list_any (nat_eq x) xs) refl
  where
    at : (b : Bool) → list_any (nat_eq x) xs ≡ b → Grows (λ n. x ≡ n) xs (cond b xs (xs ++ x ∷ []))
    at true e = grows-kept (λ n. x ≡ n) xs (λ n h. subst (λ z. Contains xs z) h (Contains-list_any nat_eq (λ a b s. eqb-true a b s) xs x e))
    at false e = record {
      more = x ∷ [];
      grown = refl;
      all = λ n h. subst (λ z. Contains (xs ++ x ∷ []) z) h (Contains-push xs x);
      only = λ n h. only_contained x n h;
    }

pub grows-as : (P Q : ℕ → Type 0) (xs ys : List ℕ) → ((n : ℕ) → P n → Q n) → ((n : ℕ) → Q n → P n) → Grows P xs ys → Grows Q xs ys
grows-as P Q xs ys there back g = record { more = g.more; grown = g.grown; all = λ n q. g.all n (back n q); only = λ n h. there n (g.only n h) }

pub grows-then : (P Q : ℕ → Type 0) (xs ys zs : List ℕ) → Grows P xs ys → Grows Q ys zs → Grows (λ n. P n ⊎ Q n) xs zs
grows-then P Q xs ys zs g h = record {
  more = g.more ++ h.more;
  grown = h.grown ∙ (ap (λ l. l ++ h.more) g.grown ∙ append_assoc xs g.more h.more);
  all = λ n either. elim either [ inl p ↦ subst (λ l. Contains l n) (sym h.grown) (Contains-append_left ys h.more n (g.all n p)) | inr q ↦ h.all n q ];
  only = λ n among. elim (Contains-append_cases g.more h.more n among) [ inl earlier ↦ inl (g.only n earlier) | inr later ↦ inr (h.only n later) ];
}

pub is_there : (xs : List ℕ) (x : ℕ) → (list_any (nat_eq x) xs ≡ true) ↔ Contains xs x
is_there xs x = (Contains-list_any nat_eq (λ a b s. eqb-true a b s) xs x, λ (k, below, here). list_any_at (nat_eq x) xs k x below (eq-eqb x (get_or xs k x) (sym here)))

-- ---- edges

-- an edge goes from a node that is there
pub edges_from : (graph : Graph) (m : ℕ) (node : Node) → slice_get graph.nodes m ≡ Some node → (xs ys : List ℕ) → Grows (GoesTo node) xs ys
    → Grows (IsEdge (graph ∷ []) 0 m) xs ys
edges_from graph m node here xs ys g =
    grows-as (GoesTo node) (IsEdge (graph ∷ []) 0 m) xs ys (λ n goes. record { node = node; here = here; goes = goes })
    (λ n edge. let same : edge.node ≡ node = one edge.node (sym edge.here ∙ here) in subst (λ (z : Node). GoesTo z n) same edge.goes) g
  where
    one : (other : Node) → Some other ≡ Some node → other ≡ node
    one other e = cc

pub no_edges : (graph : Graph) (m : ℕ) → slice_get graph.nodes m ≡ None → (xs : List ℕ) → Grows (IsEdge (graph ∷ []) 0 m) xs xs
no_edges graph m none xs = grows-none (IsEdge (graph ∷ []) 0 m) xs (λ n edge. never edge.node (sym edge.here ∙ none))
  where
    never : (node : Node) → Some node ≡ None → ⊥
    never node e = cc

-- ---- the walk: paths lead to its items, and it has what an edge leads to from the start and from each of the first so
-- many items

module _ (graphs : Graphs) (g from : ℕ) where
  pub record IsWalked (next : ℕ) (items : List ℕ) : Type 0 where
    pub within : next ≤ length items
    pub begun : (n : ℕ) → IsEdge graphs g from n → Contains items n
    pub sound : (n : ℕ) → Contains items n → IsPath graphs g from n
    pub closed : (j : ℕ) → j < next → (n : ℕ) → IsEdge graphs g (get_or items j 0) n → Contains items n

  pub walked-start : (items : List ℕ) → Grows (IsEdge graphs g from) [] items → IsWalked 0 items
  walked-start items grows = record {
    within = omega arith;
    begun = grows.all;
    sound = λ n among. first n (grows.only n (subst (λ l. Contains l n) grows.grown among));
    closed = λ j below. absurd (omega (arith, below));
  }

  pub walked-next : (next : ℕ) (items new : List ℕ) → IsWalked next items → next < length items → Grows (IsEdge graphs g (get_or items next 0)) items new → IsWalked (next + 1) new
  walked-next next items new walked inside grows = record {
    within = omega (arith, ap length grows.grown, length-append items grows.more, inside);
    begun = λ n edge. kept n (walked.begun n edge);
    sound = λ n among. elim (Contains-append_cases items grows.more n (subst (λ l. Contains l n) grows.grown among)) [
      | inl before ↦ walked.sound n before
      | inr added ↦ on (get_or items next 0) n (walked.sound (get_or items next 0) (next, inside, get_or_default items next (get_or items next 0) 0 inside)) (grows.only n added)
    ];
    closed = λ j below n edge. elim (split j below) [
      | inl before ↦ kept n (walked.closed j before n (subst (λ m. IsEdge graphs g m n) (same j (omega (arith, before, inside))) edge))
      | inr e ↦ grows.all n (subst (λ m. IsEdge graphs g m n) (same j (omega (arith, e, inside)) ∙ ap (λ i. get_or items i 0) e) edge)
    ];
  }
    where
      kept : (n : ℕ) → Contains items n → Contains new n
      kept n among = subst (λ l. Contains l n) (sym grows.grown) (Contains-append_left items grows.more n among)

      split : (j : ℕ) → j < next + 1 → (j < next) ⊎ (j ≡ next)
      split j below = grind (arith, below)

      same : (j : ℕ) → j < length items → get_or new j 0 ≡ get_or items j 0
      same j below = ap (λ l. get_or l j 0) grows.grown ∙ get_or_append_left items grows.more 0 j below

  -- once the edges from each item are followed, the items are all that the start leads to
  pub walked-all : (next : ℕ) (items : List ℕ) → IsWalked next items → length items ≤ next → AreAhead graphs g from items
  walked-all next items walked over = λ n. (walked.sound n, complete n)
    where
      followed : (m n : ℕ) → Contains items m → IsEdge graphs g m n → Contains items n
      followed m n (k, below, here) edge =
          walked.closed k (omega (arith, below, over)) n (subst (λ z. IsEdge graphs g z n) (sym (get_or_default items k 0 m below ∙ here)) edge)

      complete : (n : ℕ) → IsPath graphs g from n → Contains items n
      complete n (first _ edge) = walked.begun n edge
      complete n (on m _ path edge) = followed m n (complete m path) edge

-- ---- one graph of a set

module _ (graphs : Graphs) (g : ℕ) where
  node_is : (graph : Graph) → slice_get graphs g ≡ Some graph → (m : ℕ) → node_at graphs g m ≡ node_at (graph ∷ []) 0 m
  node_is graph here m = ap (λ (o : Option Graph). at m o) here
    where
      at : ℕ → Option Graph → Option Node
      at m None = None
      at m (Some graph) = slice_get graph.nodes m

  alone : (graph : Graph) → slice_get graphs g ≡ Some graph → (m n : ℕ) → IsPath graphs g m n → IsPath (graph ∷ []) 0 m n
  alone graph here m n (first _ edge) = first n (record { node = edge.node; here = sym (node_is graph here m) ∙ edge.here; goes = edge.goes })
  alone graph here m n (on o _ path edge) = on o n (alone graph here m o path) (record { node = edge.node; here = sym (node_is graph here o) ∙ edge.here; goes = edge.goes })

  among : (graph : Graph) → slice_get graphs g ≡ Some graph → (m n : ℕ) → IsPath (graph ∷ []) 0 m n → IsPath graphs g m n
  among graph here m n (first _ edge) = first n (record { node = edge.node; here = node_is graph here m ∙ edge.here; goes = edge.goes })
  among graph here m n (on o _ path edge) = on o n (among graph here m o path) (record { node = edge.node; here = node_is graph here o ∙ edge.here; goes = edge.goes })

  pub ahead_in : (graph : Graph) → slice_get graphs g ≡ Some graph → (from : ℕ) (items : List ℕ) → AreAhead (graph ∷ []) 0 from items → AreAhead graphs g from items
  ahead_in graph here from items ahead = λ n. ((λ found. among graph here from n ((ahead n).0 found)), (λ path. (ahead n).1 (alone graph here from n path)))

  -- a graph that is not there has no edges
  pub nothing_ahead : slice_get graphs g ≡ None → (from : ℕ) → AreAhead graphs g from []
  nothing_ahead none from = λ n. ((λ found. absurd (none_contained n found)), (λ path. absurd (no_path from n path)))
    where
      missing : (node : Node) (m : ℕ) → node_at graphs g m ≡ Some node → ⊥
      missing node m here = never node (sym here ∙ ap (λ (o : Option Graph). at m o) none)
        where
          at : ℕ → Option Graph → Option Node
          at m None = None
          at m (Some graph) = slice_get graph.nodes m

          never : (node : Node) → Some node ≡ None → ⊥
          never node e = cc

      no_path : (m n : ℕ) → IsPath graphs g m n → ⊥
      no_path m n (first _ edge) = missing edge.node m edge.here
      no_path m n (on o _ path edge) = missing edge.node o edge.here
