-- Walks that have lists of their visits don't have too many.
use Rattle.std.proofs.Common.{◌≡◌, ◌∙◌, ◌<◌, ◌≤◌, ℕ, List, [], ◌∷◌, length, get_or, Option, Some, None, sym, ap, refl, inl, inr, arith}
use Rattle.std.specs.Prelude.{Contains, slice_get}
use Rattle.std.proofs.lemmas.List.{get_or_default, same_lists}
use Rattle.std.proofs.lemmas.Option.{same_Some, slice_get_within, slice_get-get_or, unwrap_or-slice_get}
use Rattle.indexmap.proofs.IndexTableLemmas.Probe.{pigeonhole}
use Rattle.graph_core_spec.specs.declared.Next.TheVariants as next
use Rattle.visit_walk_spec.specs.declared.Successors.{Successors}
use Rattle.visit_walk_spec.specs.declared.Successors.TheVariants.{One}
use Rattle.visit_walk_spec.specs.DepthFirst.{AreDistinct, Leads}
use Rattle.visit_walk_spec.specs.Outcomes.{AreVisits, AreTooMany}
use Rattle.visit_walk_spec.specs.Shape.{Shape, successors_at}
use Rattle.visit_walk_spec.specs.Visits.{Visit, Walk, first_visit, nexts}
use Rattle.visit_walk_spec.proofs.Members.{contained_at, index_of_contained}
use Rattle.visit_walk_spec.proofs.Order.{ordered}
use Rattle.proof_tree_spec.specs.Frames.{Side}
use Rattle.sim_rules_spec.specs.Sides.{IsCutTo}

-- ---- distinct members of a list are at most as many as it has

module _ {X : Type 0} (xs ys : List X) (distinct : AreDistinct xs) (among : (x : X) → Contains xs x → Contains ys x) where
  none_some : (x : X) → None ≡ Some x → ⊥
  none_some x e = cc

  at_index : (zs : List X) (i : ℕ) → i < length zs → (x : X) × (slice_get zs i ≡ Some x)
  at_index [] i below = absurd (omega (arith, below))
  at_index (z ∷ zs) i below = (get_or (z ∷ zs) i z, slice_get-get_or (z ∷ zs) i z below)

  index_for : (found : Option X) → ((x : X) → found ≡ Some x → Contains ys x) → ℕ
  index_for None all = 0
  index_for (Some x) all = (index_of_contained ys x (all x refl)).0

  index_is : (found : Option X) (all : (x : X) → found ≡ Some x → Contains ys x) (x : X) → found ≡ Some x → slice_get ys (index_for found all) ≡ Some x
  unfolding index_for
  index_is None all x e = absurd (none_some x e)
  index_is (Some y) all x e = (index_of_contained ys y (all y refl)).1 ∙ e

  -- where the member at an index of the one is in the other
  place : ℕ → ℕ
  place i = index_for (slice_get xs i) (λ x e. among x (contained_at xs i x e))

  place_is : (i : ℕ) (x : X) → slice_get xs i ≡ Some x → slice_get ys (place i) ≡ Some x
  unfolding place index_for
  place_is i x e = index_is (slice_get xs i) (λ x e. among x (contained_at xs i x e)) x e

  inside : (i : ℕ) → i < length xs → place i < length ys
  inside i below =
      let x = at_index xs i below in
      slice_get_within ys (place i) x.0 (place_is i x.0 x.1)

  apart : (i j : ℕ) → i < length xs → j < length xs → place i ≡ place j → i ≡ j
  apart i j of_i of_j e =
      let x = at_index xs i of_i in
      let y = at_index xs j of_j in
      let same : x.0 ≡ y.0 = same_Some x.0 y.0 (sym (place_is i x.0 x.1) ∙ ap (slice_get ys) e ∙ place_is j y.0 y.1) in
      distinct i j x.0 x.1 (y.1 ∙ ap Some (sym same))

  pub members_few : length xs ≤ length ys
  members_few = pigeonhole (length xs) (length ys) place inside apart

pub never_too_many : (w : Walk) (visits : List Visit) (n : ℕ) → AreVisits w visits → length visits ≤ n → (count : ℕ) → AreTooMany w n count → ⊥
never_too_many w visits n are few count t =
    let o = ordered w visits are in
    let most = members_few t.visits visits t.distinct (λ v c. (o.exactly v).1 (reached v c)) in
    let number = t.number in
    let above = t.above in
    omega (arith, most, few, number, above)
  where
    reached : (v : Visit) → Contains t.visits v → Leads (nexts w) (first_visit w) v
    reached v c = let at = index_of_contained t.visits v c in t.reached at.0 v at.1

-- ---- a side's graph is cut to a point in one way

pub one_shape : (side : Side) (point : ℕ) (s t : Shape) → IsCutTo side point s → IsCutTo side point t → s ≡ t
one_shape side point s t of_s of_t = same_lists s t long each
  where
    long : length s ≡ length t
    long = of_s.long ∙ sym of_t.long

    alike : (n : ℕ) → n < length s → n < length t → successors_at s n ≡ successors_at t n
    alike n in_s in_t = elim (of_s.each n in_s) [
      | inl a ↦ elim (of_t.each n in_t) [ inl b ↦ a.1 ∙ sym b.1 | inr b ↦ absurd (b.0 a.0) ]
      | inr a ↦ elim (of_t.each n in_t) [ inl b ↦ absurd (a.0 b.0) | inr b ↦ a.1 ∙ sym b.1 ]
    ]

    read : (shape : Shape) (n : ℕ) (d : Successors) → n < length shape → get_or shape n d ≡ successors_at shape n
    read shape n d below = get_or_default shape n d (One next.Err) below ∙ sym (unwrap_or-slice_get shape n (One next.Err))

    each : (n : ℕ) (d : Successors) → n < length s → get_or s n d ≡ get_or t n d
    each n d below =
        let also : n < length t = omega (arith, below, long) in
        read s n d below ∙ alike n below also ∙ sym (read t n d also)
