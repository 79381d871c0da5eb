-- The greatest depth of some nodes, and the depth of a node.
use Rattle.std.proofs.Common.{◌≡◌, ◌⊎◌, ◌+◌, ◌<◌, ◌≤◌, ℕ, List, length, get_or, max, refl, sym, ◌∙◌, ap, subst, inl, inr, arith, true≢false}
use Rattle.std.specs.Prelude.{Option, Some, None, IsSome, IfSome, IfNone, is_some, unwrap_or, ◌^◌}
use Rattle.std.proofs.lemmas.Bool.{cases_lt}
use Rattle.std.proofs.lemmas.List.{get_or_default}
use Rattle.std.proofs.lemmas.List.Elements.{Contains-get_or}
use Rattle.pair_setup_calls.specs.Graph.{called_by, Calls, known_or_zero, IsDeepestOf, IsDepth, deep, AreDepths, IsUnbounded}

module _ (depths : List (Option ℕ)) (nodes : List ℕ) where
  -- the greatest depth of the first so many, whose depths are known
  pub record IsDeepestBelow (index deepest : ℕ) : Type 0 where
    pub known : (k : ℕ) → k < index → IsSome (get_or depths (get_or nodes k 0) None)
    pub above : (k : ℕ) → k < index → known_or_zero depths (get_or nodes k 0) ≤ deepest
    pub reached : (deepest ≡ 0) ⊎ ((k : ℕ) × (k < index) × (known_or_zero depths (get_or nodes k 0) ≡ deepest))

  pub deepest-none : IsDeepestBelow 0 0
  deepest-none = record { known = λ k below. absurd (omega (arith, below)); above = λ k below. absurd (omega (arith, below)); reached = inl refl }

  pub deepest-more : (index deepest depth : ℕ) → IsDeepestBelow index deepest → get_or depths (get_or nodes index 0) None ≡ Some depth
      → IsDeepestBelow (index + 1) (max deepest depth)
  deepest-more index deepest depth so_far is = record {
    known = λ k below. elim (split k below) [
      | inl before ↦ so_far.known k before
      | inr here ↦ subst (λ i. IsSome (get_or depths (get_or nodes i 0) None)) (sym here) (subst IsSome (sym is) refl)
    ];
    above = λ k below. elim (split k below) [
      | inl before ↦ omega (arith, so_far.above k before)
      | inr here ↦ omega (arith, ap (λ i. known_or_zero depths (get_or nodes i 0)) here, depth_is)
    ];
    reached = at (cases_lt deepest depth) so_far.reached;
  }
    where
      depth_is : known_or_zero depths (get_or nodes index 0) ≡ depth
      depth_is = ap (λ o. unwrap_or o 0) is

      split : (k : ℕ) → k < index + 1 → (k < index) ⊎ (k ≡ index)
      split k below = grind (arith, below)

      at : (deepest < depth) ⊎ (depth ≤ deepest)
          → (deepest ≡ 0) ⊎ ((k : ℕ) × (k < index) × (known_or_zero depths (get_or nodes k 0) ≡ deepest))
          → (max deepest depth ≡ 0) ⊎ ((k : ℕ) × (k < index + 1) × (known_or_zero depths (get_or nodes k 0) ≡ max deepest depth))
      at (inl deeper) r = inr (index, omega arith, omega (arith, deeper, depth_is))
      at (inr within) (inl none) = inl (omega (arith, none, within))
      at (inr within) (inr (k, below, e)) = inr (k, omega (arith, below), omega (arith, e, within))

  pub deepest-all : (index deepest : ℕ) → IsDeepestBelow index deepest → index ≡ length nodes → IsDeepestOf depths nodes deepest
  deepest-all index deepest so_far e = record {
    known = λ k below. so_far.known k (omega (arith, below, e));
    above = λ k below. so_far.above k (omega (arith, below, e));
    reached = at so_far.reached;
  }
    where
      at : (deepest ≡ 0) ⊎ ((k : ℕ) × (k < index) × (known_or_zero depths (get_or nodes k 0) ≡ deepest))
          → (deepest ≡ 0) ⊎ ((k : ℕ) × (k < length nodes) × (known_or_zero depths (get_or nodes k 0) ≡ deepest))
      at (inl none) = inl none
      at (inr (k, below, is)) = inr (k, omega (arith, below, e), is)

  -- a node whose depth isn't known
  pub deepest-unknown : (k : ℕ) → k < length nodes → get_or depths (get_or nodes k 0) None ≡ None → (deepest : ℕ) → IsDeepestOf depths nodes deepest → ⊥
  deepest-unknown k below unknown deepest is = absurd (true≢false (sym (is.known k below) ∙ ap is_some unknown))

  -- the greatest depth is one number
  deepest-within : (one other : ℕ) → IsDeepestOf depths nodes one → IsDeepestOf depths nodes other → one ≤ other
  deepest-within one other is also = at is.reached
    where
      at : (one ≡ 0) ⊎ ((k : ℕ) × (k < length nodes) × (known_or_zero depths (get_or nodes k 0) ≡ one)) → one ≤ other
      at (inl none) = omega (arith, none)
      at (inr (k, below, e)) = omega (arith, e, also.above k below)

  pub deepest-unique : (one other : ℕ) → IsDeepestOf depths nodes one → IsDeepestOf depths nodes other → one ≡ other
  deepest-unique one other is also = omega (arith, deepest-within one other is also, deepest-within other one also is)

known-is : (o : Option ℕ) → IsSome o → o ≡ Some (unwrap_or o 0)
known-is None some = absurd (true≢false (sym some))
known-is (Some n) some = refl

module _ (graph : List (List ℕ)) (own : List ℕ) (depths : List (Option ℕ)) where
  pub depth-is : (node deepest : ℕ) → AreDepths graph own depths → IsDeepestOf depths (called_by graph node) deepest
      → IsDepth graph own node (get_or own node 0 + deepest)
  depth-is node deepest are is = deep node deepest (known_or_zero depths)
      (λ other call. are other (known_or_zero depths other) (known-is (get_or depths other None) (known other call)))
      (record { above = above; reached = at is.reached })
    where
      known : (other : ℕ) → Calls graph node other → IsSome (get_or depths other None)
      known other (k, below, here) =
          subst (λ z. IsSome (get_or depths z None)) (sym (get_or_default (called_by graph node) k other 0 below) ∙ here) (is.known k below)

      above : (other : ℕ) → Calls graph node other → known_or_zero depths other ≤ deepest
      above other (k, below, here) =
          subst (λ z. known_or_zero depths z ≤ deepest) (sym (get_or_default (called_by graph node) k other 0 below) ∙ here) (is.above k below)

      at : (deepest ≡ 0) ⊎ ((k : ℕ) × (k < length (called_by graph node)) × (known_or_zero depths (get_or (called_by graph node) k 0) ≡ deepest))
          → (deepest ≡ 0) ⊎ ((other : ℕ) × Calls graph node other × (known_or_zero depths other ≡ deepest))
      at (inl none) = inl none
      at (inr (k, below, e)) = inr (get_or (called_by graph node) k 0, Contains-get_or (called_by graph node) k 0 below, e)

  -- where the sum is one
  pub depth-sum : (node deepest alone : ℕ) (sum : Option ℕ) → AreDepths graph own depths → IsDeepestOf depths (called_by graph node) deepest
      → alone ≡ get_or own node 0 → IfSome sum (λ n. n ≡ alone + deepest) → IfSome sum (IsDepth graph own node)
  depth-sum node deepest alone None are is e h = tt
  depth-sum node deepest alone (Some n) are is e h =
      subst (IsDepth graph own node) (sym (h ∙ ap (λ a. a + deepest) e)) (depth-is node deepest are is)

  -- where the sum is none
  pub unbounded-sum : (node deepest alone : ℕ) (sum : Option ℕ) → IsDeepestOf depths (called_by graph node) deepest
      → alone ≡ get_or own node 0 → IfNone sum (2 ^ 64 ≤ alone + deepest) → IfNone sum (IsUnbounded graph own depths node)
  unbounded-sum node deepest alone (Some n) is e h = tt
  unbounded-sum node deepest alone None is e h = λ other also.
      subst (λ d. 2 ^ 64 ≤ get_or own node 0 + d) (deepest-unique depths (called_by graph node) deepest other is also) (subst (λ a. 2 ^ 64 ≤ a + deepest) e h)

pub if-none : {A : Type 0} {P : Type 0} (o : Option A) → P → IfNone o P
if-none None p = p
if-none (Some x) p = tt
