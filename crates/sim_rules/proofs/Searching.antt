-- A search that goes from nodes to those before them.
use Rattle.std.proofs.Common.{◌≡◌, ◌⊎◌, ◌+◌, ◌<◌, ◌≤◌, ℕ, List, [], ◌∷◌, ◌++◌, length, get_or, refl, sym, ◌∙◌, ap, subst, inl, inr, arith}
use Rattle.std.specs.Prelude.{Contains}
use Rattle.std.proofs.lemmas.List.{get_or_append_left, get_or_default, length-append}
use Rattle.std.proofs.lemmas.List.Elements.{Contains-append_left, Contains-append_cases}
use Rattle.proof_tree.specs.Ahead.{Grows}
use Rattle.sim_rules.specs.Tables.{IsBefore, among, back, IsSearched, list_at}

module _ (lists : List (List ℕ)) (begun : List ℕ) where
  -- the nodes before the first so many of the items are among the items
  pub record IsWalkedBack (next : ℕ) (items : List ℕ) : Type 0 where
    pub within : next ≤ length items
    pub kept : (n : ℕ) → Contains begun n → Contains items n
    pub sound : (n : ℕ) → Contains items n → IsBefore lists begun n
    pub closed : (j : ℕ) → j < next → (k : ℕ) → Contains (list_at lists (get_or items j 0)) k → Contains items k

  pub walked-start : IsWalkedBack 0 begun
  walked-start = record { within = omega arith; kept = λ n h. h; sound = λ n h. among n h; closed = λ j below. absurd (omega (arith, below)) }

  pub walked-next : (next : ℕ) (items new : List ℕ) → IsWalkedBack next items → next < length items → Grows (λ k. Contains (list_at lists (get_or items next 0)) k) items new → IsWalkedBack (next + 1) new
  walked-next next items new walked inside grows = record {
    within = omega (arith, ap length grows.grown, length-append items grows.more, inside);
    kept = λ n h. stays n (walked.kept n h);
    sound = λ n h. elim (Contains-append_cases items grows.more n (subst (λ l. Contains l n) grows.grown h)) [
      | inl before ↦ walked.sound n before
      | inr added ↦ back (get_or items next 0) n (grows.only n added) (walked.sound (get_or items next 0) (next, inside, get_or_default items next (get_or items next 0) 0 inside))
    ];
    closed = λ j below k h. elim (split j below) [
      | inl before ↦ stays k (walked.closed j before k (subst (λ m. Contains (list_at lists m) k) (same j (omega (arith, before, inside))) h))
      | inr e ↦ grows.all k (subst (λ m. Contains (list_at lists m) k) (same j (omega (arith, e, inside)) ∙ ap (λ i. get_or items i 0) e) h)
    ];
  }
    where
      stays : (n : ℕ) → Contains items n → Contains new n
      stays n h = subst (λ l. Contains l n) (sym grows.grown) (Contains-append_left items grows.more n h)

      split : (j : ℕ) → j < next + 1 → (j < next) ⊎ (j ≡ next)
      split j below = grind (arith, below)

      same : (j : ℕ) → j < length items → get_or new j 0 ≡ get_or items j 0
      same j below = ap (λ l. get_or l j 0) grows.grown ∙ get_or_append_left items grows.more 0 j below

  pub walked-all : (next : ℕ) (items : List ℕ) → IsWalkedBack next items → length items ≤ next → IsSearched lists begun items
  walked-all next items walked over = record {
    kept = walked.kept;
    sound = walked.sound;
    closed = λ n k (j, below, here) h. walked.closed j (omega (arith, below, over)) k (subst (λ z. Contains (list_at lists z) k) (sym (get_or_default items j 0 n below ∙ here)) h);
  }
