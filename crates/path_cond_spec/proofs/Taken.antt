-- What a depth-first walk from one node lists, by indices.
use Rattle.std.proofs.Common.{◌≡◌, ◌⊎◌, ℕ, ◌<◌, List, [], ◌∷◌, Some, sym, subst, inl, inr, arith}
use Rattle.std.specs.Prelude.{slice_get, Contains}
use Rattle.visit_walk_spec.specs.DepthFirst.{Takes, Leads, here, on, AreDistinct}
use Rattle.visit_walk_spec.proofs.Members.{none_contained, only_contained, contained_at, index_of_contained}
use Rattle.visit_walk_spec.proofs.Walks.{walk_whole, walk_head, later_distinct, later_after, later_reached}

module _ {X : Type 0} (nexts : X → List X) (x : X) (out : List X) (taken : Takes nexts [] (x ∷ []) out) where
  pub taken_first : slice_get out 0 ≡ Some x
  taken_first = walk_head nexts x out taken

  pub taken_once : AreDistinct out
  taken_once = later_distinct nexts out (walk_whole nexts (x ∷ []) out taken).later

  -- what follows is listed, and later
  pub taken_on : (i : ℕ) (u v : X) → slice_get out i ≡ Some u → Contains (nexts u) v → (j : ℕ) × (slice_get out j ≡ Some v) × (i < j)
  taken_on i u v there edge =
      let after = later_after nexts out (walk_whole nexts (x ∷ []) out taken).later i u v there edge in
      (after.index, after.is, after.below)

  -- each but the first follows one
  by_path : (from v : X) → Leads nexts from v → from ≡ x → (v ≡ x) ⊎ ((u : X) × Contains out u × Contains (nexts u) v)
  by_path from _ here e = inl e
  by_path from v (on m _ path last) e =
      let whole = walk_whole nexts (x ∷ []) out taken in
      let listed : Contains out from = subst (Contains out) (sym e) (contained_at out 0 x taken_first) in
      inr (m, later_reached nexts out whole.later from m listed path, last)

  pub taken_from : (j : ℕ) (v : X) → 0 < j → slice_get out j ≡ Some v → (i : ℕ) × (u : X) × (slice_get out i ≡ Some u) × Contains (nexts u) v
  taken_from j v later there = elim ((walk_whole nexts (x ∷ []) out taken).only v (contained_at out j v there)) [
    | inl none ↦ absurd (none_contained v none)
    | inr reached ↦ elim (by_path reached.from v reached.path (only_contained x reached.from reached.among)) [
      | inl first ↦
          let at : slice_get out j ≡ Some x = subst (λ (y : X). slice_get out j ≡ Some y) first there in
          let same : 0 ≡ j = taken_once 0 j x taken_first at in
          absurd (omega arith)
      | inr found ↦ let index = index_of_contained out found.0 found.1 in (index.0, found.0, index.1, found.2)
    ]
  ]
