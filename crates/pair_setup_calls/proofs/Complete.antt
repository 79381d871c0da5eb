-- Depths of which no other follows are all that there are.
use Rattle.std.proofs.Common.{◌≡◌, ◌⊎◌, ◌+◌, ◌^◌, ◌<◌, ◌≤◌, ℕ, List, length, get_or, refl, sym, ◌∙◌, ap, subst, inl, inr, arith}
use Rattle.std.specs.Prelude.{Option, Some, None, IsSome, unwrap_or, sum_by, set, take, drop, ◌++◌}
use Rattle.std.proofs.lemmas.List.{get_or_default}
use Rattle.std.proofs.Math.Seq.{take-append_seam}
use Rattle.std.proofs.lemmas.List.Sums.{sum_by-set}
use Rattle.std.proofs.lemmas.List.Elements.{Contains-get_or}
use Rattle.pair_setup_calls.specs.Graph.{called_by, Calls, Reaches, itself, further, known_or_zero, IsDeepest, IsDeepestOf, IsDepth, deep, AreDepths, AreSettled, IsWithin}

module _ (graph : List (List ℕ)) where
  -- whatever is reached from what a node calls is reached from the node
  before : (node called other : ℕ) → Calls graph node called → Reaches graph called other → Reaches graph node other
  before node called _ call itself = further node called itself call
  before node called _ call (further middle other reached last) = further middle other (before node called middle call reached) last

  within-called : (node called : ℕ) → IsWithin graph node → Calls graph node called → IsWithin graph called
  within-called node called within call = λ other reached. within other (before node called other call reached)

  module _ (own : List ℕ) where
    -- the depth of a node is one number
    greatest-within : (node d e : ℕ) (b c : ℕ → ℕ) → IsDeepest graph node b d → IsDeepest graph node c e → ((z : ℕ) → Calls graph node z → b z ≡ c z) → d ≤ e
    greatest-within node d e b c one other agree = at one.reached
      where
        at : (d ≡ 0) ⊎ ((z : ℕ) × Calls graph node z × (b z ≡ d)) → d ≤ e
        at (inl none) = omega (arith, none)
        at (inr (z, call, is)) = omega (arith, is, other.above z call, agree z call)

    pub depth-unique : (node one other : ℕ) → IsDepth graph own node one → IsDepth graph own node other → one ≡ other
    depth-unique _ _ _ (deep node d b depths greatest) (deep _ e c depths2 greatest2) =
        let same : (z : ℕ) → Calls graph node z → b z ≡ c z = λ z call. depth-unique z (b z) (c z) (depths z call) (depths2 z call) in
        ap (λ n. get_or own node 0 + n) (omega (arith, greatest-within node d e b c greatest greatest2 same, greatest-within node e d c b greatest2 greatest (λ z call. sym (same z call))))

    module _ (depths : List (Option ℕ)) (are : AreDepths graph own depths) (settled : AreSettled graph own depths) (all : length depths ≡ length graph) where
      -- the node, where the depths of what it calls are known
      one-known : (node deepest : ℕ) (below : ℕ → ℕ) → node < length graph → ((z : ℕ) → Calls graph node z → IsDepth graph own z (below z)) → IsDeepest graph node below deepest
          → get_or own node 0 + deepest < 2 ^ 64 → ((z : ℕ) → Calls graph node z → get_or depths z None ≡ Some (below z)) → get_or depths node None ≡ Some (get_or own node 0 + deepest)
      one-known node deepest below there ds greatest bounded callee = at (get_or depths node None) refl
        where
          item : (k : ℕ) → k < length (called_by graph node) → Calls graph node (get_or (called_by graph node) k 0)
          item k within = Contains-get_or (called_by graph node) k 0 within

          reach : (deepest ≡ 0) ⊎ ((z : ℕ) × Calls graph node z × (below z ≡ deepest))
              → (deepest ≡ 0) ⊎ ((k : ℕ) × (k < length (called_by graph node)) × (known_or_zero depths (get_or (called_by graph node) k 0) ≡ deepest))
          reach (inl none) = inl none
          reach (inr (z, (k, within, here), is)) = inr (
            k,
            within,
            ap (λ i. known_or_zero depths i) (sym (get_or_default (called_by graph node) k z 0 within) ∙ here) ∙ ap (λ o. unwrap_or o 0) (callee z (k, within, here)) ∙ is,
          )

          from : IsDeepestOf depths (called_by graph node) deepest
          from = record {
            known = λ k within. subst IsSome (sym (callee (get_or (called_by graph node) k 0) (item k within))) refl;
            above = λ k within. subst (λ o. unwrap_or o 0 ≤ deepest) (sym (callee (get_or (called_by graph node) k 0) (item k within))) (greatest.above (get_or (called_by graph node) k 0) (item k within));
            reached = reach greatest.reached;
          }

          at : (o : Option ℕ) → get_or depths node None ≡ o → get_or depths node None ≡ Some (get_or own node 0 + deepest)
          at None e = absurd (omega (arith, bounded, settled node (omega (arith, all, there)) e deepest from))
          at (Some d) e = e ∙ ap Some (depth-unique node d (get_or own node 0 + deepest) (are node d e) (deep node deepest below ds greatest))

      pub depth-known : (node depth : ℕ) → IsWithin graph node → IsDepth graph own node depth → depth < 2 ^ 64 → get_or depths node None ≡ Some depth
      depth-known _ _ within (deep node deepest below ds greatest) bounded =
          one-known node deepest below (within node itself) ds greatest bounded
          (λ z call. depth-known z (below z) (within-called node z within call) (ds z call) (omega (arith, greatest.above z call, bounded)))

-- ---- how many depths aren't known

pub missing : Option ℕ → ℕ
missing None = 1
missing (Some depth) = 0

pub missing-fewer : (depths : List (Option ℕ)) (node depth : ℕ) → node < length depths → get_or depths node None ≡ None
    → sum_by missing (set depths node (Some depth)) < sum_by missing depths
unfolding missing
missing-fewer depths node depth within unknown =
    omega (arith, subst (λ o. sum_by missing (set depths node (Some depth)) + missing o ≡ sum_by missing depths + 0) unknown (sum_by-set missing depths node (Some depth) None within))

-- ---- the nodes looked at so far

pub unknown-more : (depths : List (Option ℕ)) (P : ℕ → Type 0) (index : ℕ) → ((k : ℕ) → k < index → get_or depths k None ≡ None → P k)
    → (get_or depths index None ≡ None → P index) → (k : ℕ) → k < index + 1 → get_or depths k None ≡ None → P k
unknown-more depths P index before here k below unknown = elim (split k below) [
  | inl earlier ↦ before k earlier unknown
  | inr e ↦ subst P (sym e) (here (subst (λ i. get_or depths i None ≡ None) e unknown))
]
  where
    split : (k : ℕ) → k < index + 1 → (k < index) ⊎ (k ≡ index)
    split k below = grind (arith, below)

-- ---- what is written through a slice of a whole list

pub written-back : (len : ℕ) (new old : List (Option ℕ)) → length new ≡ len → take len (new ++ drop (length new) old) ≡ new
written-back len new old e = subst (λ n. take n (new ++ drop (length new) old) ≡ new) e (take-append_seam new (drop (length new) old))
