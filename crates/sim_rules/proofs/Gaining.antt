-- How tables of nodes grow, and the edges of one node more.
use Rattle.std.proofs.Common.{◌≡◌, ◌⊎◌, ◌+◌, ◌<◌, ◌≤◌, ℕ, zero, suc, List, [], ◌∷◌, ◌++◌, length, map, get_or, refl, sym, ◌∙◌, ap, subst, inl, inr, arith}
use Rattle.std.specs.Prelude.{Contains, Some, Vec, replicate, slice_get, set}
use Rattle.std.specs.Global.{Global}
use Rattle.std.proofs.lemmas.Bool.{cases_lt}
use Rattle.std.proofs.lemmas.List.{get_or-set_same, get_or-set_other, length-set, length-map, get_or-map, map-set}
use Rattle.std.proofs.lemmas.List.Elements.{Contains-append_left, Contains-push, Contains-push_cases}
use Rattle.std.proofs.lemmas.Option.{same_Some, slice_get-get_or, slice_get_within}
use Rattle.term_core_spec.specs.Term.{Term}
use Rattle.graph_core.specs.declared.shared.SharedNode.{SharedNode}
use Rattle.graph_core.specs.Shared.{shared_node_of}
use Rattle.graph_core_spec.specs.declared.Next.{Next}
use Rattle.graph_core_spec.specs.declared.Next.TheVariants as next
use Rattle.graph_core_spec.specs.Graph.{Node}
use Rattle.graph_core_spec.specs.Run.{GoesTo}
use Rattle.proof_tree.specs.Ahead.{Grows}
use Rattle.sim_rules.specs.Tables.{Gains, IsStep, list_at, lists_of}
use Rattle.proof_tree.proofs.Ahead.{grows-as, grows-then, none_contained}

pub gains-none : (E : ℕ → ℕ → Type 0) (xs : List (List ℕ)) → ((n k : ℕ) → n < length xs → E k n → ⊥) → Gains E xs xs
gains-none E xs never = record { long = refl; kept = λ n k h. h; all = λ n k less e. absurd (never n k less e); only = λ n k h. inl h }

pub gains-as : (E F : ℕ → ℕ → Type 0) (xs ys : List (List ℕ)) → ((k n : ℕ) → E k n → F k n) → ((k n : ℕ) → F k n → E k n) → Gains E xs ys → Gains F xs ys
gains-as E F xs ys there back g = record {
  long = g.long;
  kept = g.kept;
  all = λ n k less f. g.all n k less (back k n f);
  only = λ n k h. elim (g.only n k h) [ inl old ↦ inl old | inr e ↦ inr (there k n e) ];
}

pub gains-then : (E F : ℕ → ℕ → Type 0) (xs ys zs : List (List ℕ)) → Gains E xs ys → Gains F ys zs → Gains (λ k n. E k n ⊎ F k n) xs zs
gains-then E F xs ys zs g h = record {
  long = h.long ∙ g.long;
  kept = λ n k there. h.kept n k (g.kept n k there);
  all = λ n k less either. elim either [ inl e ↦ h.kept n k (g.all n k less e) | inr f ↦ let long = g.long in h.all n k (omega (arith, long, less)) f ];
  only = λ n k there. elim (h.only n k there) [
    | inl earlier ↦ elim (g.only n k earlier) [ inl old ↦ inl old | inr e ↦ inr (inl e) ]
    | inr f ↦ inr (inr f)
  ];
}

-- ---- one edge

same_or_not : (m n : ℕ) → (m ≡ n) ⊎ (m ≡ n → ⊥)
same_or_not zero zero = inl refl
same_or_not zero (suc n) = inr (λ e. omega arith)
same_or_not (suc m) zero = inr (λ e. omega arith)
same_or_not (suc m) (suc n) = elim (same_or_not m n) [ inl e ↦ inl (ap suc e) | inr apart ↦ inr (λ e. apart (omega arith)) ]

module _ (xs : List (List ℕ)) (from to : ℕ) (less : to < length xs) where
  abbrev with_source : List (List ℕ)
  with_source = set xs to (list_at xs to ++ from ∷ [])

  here : list_at with_source to ≡ list_at xs to ++ from ∷ []
  here = get_or-set_same xs to (list_at xs to ++ from ∷ []) [] less

  elsewhere : (n : ℕ) → (n ≡ to → ⊥) → list_at with_source n ≡ list_at xs n
  elsewhere n apart = get_or-set_other xs to n (list_at xs to ++ from ∷ []) [] apart

  kept_at : (n k : ℕ) → (n ≡ to) ⊎ (n ≡ to → ⊥) → Contains (list_at xs n) k → Contains (list_at with_source n) k
  kept_at n k (inl e) h =
      subst (λ (m : ℕ). Contains (list_at with_source m) k) (sym e)
      (subst (λ (l : List ℕ). Contains l k) (sym here) (Contains-append_left (list_at xs to) (from ∷ []) k (subst (λ (m : ℕ). Contains (list_at xs m) k) e h)))
  kept_at n k (inr apart) h = subst (λ (l : List ℕ). Contains l k) (sym (elsewhere n apart)) h

  only_at : (n k : ℕ) → (n ≡ to) ⊎ (n ≡ to → ⊥) → Contains (list_at with_source n) k → Contains (list_at xs n) k ⊎ ((from ≡ k) × (to ≡ n))
  only_at n k (inl e) h = elim (Contains-push_cases (list_at xs to) from k (subst (λ (l : List ℕ). Contains l k) here (subst (λ (m : ℕ). Contains (list_at with_source m) k) e h))) [
    | inl old ↦ inl (subst (λ (m : ℕ). Contains (list_at xs m) k) (sym e) old)
    | inr is ↦ inr (is, sym e)
  ]
  only_at n k (inr apart) h = inl (subst (λ (l : List ℕ). Contains l k) (elsewhere n apart) h)

  added_at : (n k : ℕ) → (from ≡ k) × (to ≡ n) → Contains (list_at with_source n) k
  added_at n k is =
      subst (λ (m : ℕ). Contains (list_at with_source m) k) is.1
      (subst (λ (l : List ℕ). Contains l k) (sym here) (subst (λ (j : ℕ). Contains (list_at xs to ++ from ∷ []) j) is.0 (Contains-push (list_at xs to) from)))

  gains-one : Gains (λ k n. (from ≡ k) × (to ≡ n)) xs with_source
  gains-one = record {
    long = length-set xs to (list_at xs to ++ from ∷ []);
    kept = λ n k h. kept_at n k (same_or_not n to) h;
    all = λ n k within is. added_at n k is;
    only = λ n k h. only_at n k (same_or_not n to) h;
  }

-- as the code has it
pub read-items : (lists : List (Vec ℕ Global)) (i : ℕ) (read : Vec ℕ Global) → i < length lists → read ≡ get_or lists i read → read.items ≡ list_at (lists_of lists) i
read-items [] i read inside is = absurd (omega (arith, inside))
read-items (l ∷ lists) zero read inside is = ap (λ (v : Vec ℕ Global). v.items) is
read-items (l ∷ lists) (suc i) read inside is = read-items lists i read (omega (arith, inside)) is

pub source_added : (lists : List (Vec ℕ Global)) (to : ℕ) (read new : Vec ℕ Global) (from : ℕ) → to < length lists → read ≡ get_or lists to read
    → new.items ≡ read.items ++ from ∷ [] → Gains (λ k n. (from ≡ k) × (to ≡ n)) (lists_of lists) (lists_of (set lists to new))
source_added lists to read new from inside is e =
    let long = length-map lists (λ (v : Vec ℕ Global). v.items) in
    let same = map-set (λ (v : Vec ℕ Global). v.items) lists to new ∙ ap (set (lists_of lists) to) (e ∙ ap (λ (l : List ℕ). l ++ from ∷ []) (read-items lists to read inside is)) in
    subst (Gains (λ k n. (from ≡ k) × (to ≡ n)) (lists_of lists)) (sym same) (gains-one (lists_of lists) from to (omega (arith, long, inside)))

pub far : (lists : List (Vec ℕ Global)) (from to : ℕ) → length lists ≤ to → Gains (λ k n. (from ≡ k) × (to ≡ n)) (lists_of lists) (lists_of lists)
far lists from to past =
    let long = length-map lists (λ (v : Vec ℕ Global). v.items) in
    gains-none (λ k n. (from ≡ k) × (to ≡ n)) (lists_of lists) (λ n k less is. let at = is.1 in omega (arith, long, past, less, at))

-- ---- the edges of one node more

module _ (trees : List Term) (shared : List SharedNode) (i : ℕ) (d : SharedNode) (less : i < length shared) (read : d ≡ get_or shared i d) where
  abbrev nodes : List Node
  nodes = map (shared_node_of trees) shared

  at_i : slice_get nodes i ≡ Some (shared_node_of trees d)
  at_i =
      let long = length-map shared (shared_node_of trees) in
      slice_get-get_or nodes i (shared_node_of trees d) (omega (arith, long, less))
      ∙ ap Some (get_or-map (shared_node_of trees) shared i d (shared_node_of trees d) less ∙ ap (shared_node_of trees) (sym read))

  pub step_more : (k n : ℕ) → (k < i + 1) × IsStep nodes k n → ((k < i) × IsStep nodes k n) ⊎ ((i ≡ k) × GoesTo (shared_node_of trees d) n)
  step_more k n h = elim (cases_lt k i) [
    | inl earlier ↦ inl (earlier, h.1)
    | inr now ↦
        let under = h.0 in
        let same : i ≡ k = omega (arith, under) in
        inr (same, subst (λ (x : Node). GoesTo x n) (same_Some h.1.node (shared_node_of trees d) (sym h.1.here ∙ ap (slice_get nodes) (sym same) ∙ at_i)) h.1.goes)
  ]

  pub step_back : (k n : ℕ) → ((k < i) × IsStep nodes k n) ⊎ ((i ≡ k) × GoesTo (shared_node_of trees d) n) → (k < i + 1) × IsStep nodes k n
  step_back k n (inl h) = let under = h.0 in (omega (arith, under), h.1)
  step_back k n (inr h) =
      let at = h.0 in
      (omega (arith, at), record { node = shared_node_of trees d; here = ap (slice_get nodes) (sym at) ∙ at_i; goes = h.1 })

  pub gains-more : (xs ys zs : List (List ℕ)) → Gains (λ k n. (k < i) × IsStep nodes k n) xs ys → Gains (λ k n. (i ≡ k) × GoesTo (shared_node_of trees d) n) ys zs
      → Gains (λ k n. (k < i + 1) × IsStep nodes k n) xs zs
  gains-more xs ys zs g h =
      gains-as (λ k n. ((k < i) × IsStep nodes k n) ⊎ ((i ≡ k) × GoesTo (shared_node_of trees d) n)) (λ k n. (k < i + 1) × IsStep nodes k n) xs zs step_back step_more
      (gains-then (λ k n. (k < i) × IsStep nodes k n) (λ k n. (i ≡ k) × GoesTo (shared_node_of trees d) n) xs ys zs g h)

  pub grows-more : (point : ℕ) (xs ys zs : List ℕ) → Grows (λ k. (k < i) × IsStep nodes k point) xs ys → Grows (λ k. (i ≡ k) × GoesTo (shared_node_of trees d) point) ys zs
      → Grows (λ k. (k < i + 1) × IsStep nodes k point) xs zs
  grows-more point xs ys zs g h =
      grows-as (λ k. ((k < i) × IsStep nodes k point) ⊎ ((i ≡ k) × GoesTo (shared_node_of trees d) point)) (λ k. (k < i + 1) × IsStep nodes k point) xs zs
      (λ k h. step_back k point h) (λ k h. step_more k point h)
      (grows-then (λ k. (k < i) × IsStep nodes k point) (λ k. (i ≡ k) × GoesTo (shared_node_of trees d) point) xs ys zs g h)

-- at the start, and at the end
pub step_within : (nodes : List Node) (k n : ℕ) → IsStep nodes k n → k < length nodes
step_within nodes k n h = slice_get_within nodes k h.node h.here

pub gains-all : (nodes : List Node) (i : ℕ) (xs ys : List (List ℕ)) → length nodes ≤ i → Gains (λ k n. (k < i) × IsStep nodes k n) xs ys → Gains (IsStep nodes) xs ys
gains-all nodes i xs ys past g =
    gains-as (λ k n. (k < i) × IsStep nodes k n) (IsStep nodes) xs ys (λ k n h. h.1) (λ k n h. let within = step_within nodes k n h in (omega (arith, past, within), h)) g

pub grows-all : (nodes : List Node) (i point : ℕ) (xs ys : List ℕ) → length nodes ≤ i → Grows (λ k. (k < i) × IsStep nodes k point) xs ys → Grows (λ k. IsStep nodes k point) xs ys
grows-all nodes i point xs ys past g =
    grows-as (λ k. (k < i) × IsStep nodes k point) (λ k. IsStep nodes k point) xs ys (λ k h. h.1) (λ k h. let within = step_within nodes k point h in (omega (arith, past, within), h)) g

pub none_before : (count n k : ℕ) → Contains (list_at (replicate count []) n) k → ⊥
none_before zero n k h = none_contained k h
none_before (suc count) zero k h = none_contained k h
none_before (suc count) (suc n) k h = none_before count n k h

pub none_past : (lists : List (Vec ℕ Global)) (n k : ℕ) → length lists ≤ n → Contains (list_at (lists_of lists) n) k → ⊥
none_past [] n k past h = none_contained k h
none_past (l ∷ lists) zero k past h = omega (arith, past)
none_past (l ∷ lists) (suc n) k past h = none_past lists n k (omega (arith, past)) h

-- ---- places

same_node : (a b : ℕ) → next.At a ≡ next.At b → a ≡ b
same_node a b e = cc

module _ (from : ℕ) (to : Next) (xs ys : List (List ℕ)) where
  pub gains-at : (node : ℕ) → to ≡ next.At node → Gains (λ k n. (from ≡ k) × (node ≡ n)) xs ys → Gains (λ k n. (from ≡ k) × (to ≡ next.At n)) xs ys
  gains-at node is g =
      gains-as (λ k n. (from ≡ k) × (node ≡ n)) (λ k n. (from ≡ k) × (to ≡ next.At n)) xs ys (λ k n h. (h.0, is ∙ ap next.At h.1)) (λ k n h. (h.0, same_node node n (sym is ∙ h.1))) g

  pub gains-ret : to ≡ next.Ret → Gains (λ k n. (from ≡ k) × (to ≡ next.At n)) xs xs
  gains-ret is = gains-none (λ k n. (from ≡ k) × (to ≡ next.At n)) xs (λ n k less h. never n (sym is ∙ h.1))
    where
      never : (n : ℕ) → next.Ret ≡ next.At n → ⊥
      never n e = cc

  pub gains-err : to ≡ next.Err → Gains (λ k n. (from ≡ k) × (to ≡ next.At n)) xs xs
  gains-err is = gains-none (λ k n. (from ≡ k) × (to ≡ next.At n)) xs (λ n k less h. never n (sym is ∙ h.1))
    where
      never : (n : ℕ) → next.Err ≡ next.At n → ⊥
      never n e = cc
