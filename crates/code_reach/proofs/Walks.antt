-- A walk over all that is reached: a list that holds its start and grows by what the steps from its items lead to.
use Rattle.std.proofs.Common.{◌≡◌, ◌⊎◌, ◌+◌, ◌<◌, ◌≤◌, ℕ, List, [], length, get_or, refl, sym, ◌∙◌, ap, subst, inl, inr, arith}
use Rattle.std.specs.Prelude.{Contains}
use Rattle.std.proofs.lemmas.List.{get_or_append_left, get_or_default, length-append}
use Rattle.std.proofs.lemmas.List.Elements.{Contains-append_left, Contains-append_cases}
use Rattle.code_reach.specs.Growth.{Grows}

module _ (Step : ℕ → ℕ → Type 0) (Path : ℕ → Type 0) where
  -- the list has the start, paths lead to its items, and it has what a step leads to from each of the first so many
  pub record IsWalked (start next : ℕ) (items : List ℕ) : Type 0 where
    pub within : next ≤ length items
    pub starts : Contains items start
    pub sound : (a : ℕ) → Contains items a → Path a
    pub closed : (j : ℕ) → j < next → (t : ℕ) → Step (get_or items j 0) t → Contains items t

  pub walked-start : (start : ℕ) (items : List ℕ) → Path start → Grows (λ t. t ≡ start) [] items → IsWalked start 0 items
  walked-start start items path g = record {
    within = omega arith;
    starts = g.all start refl;
    sound = λ a among. subst Path (sym (g.only a (subst (λ l. Contains l a) g.grown among))) path;
    closed = λ j below. absurd (omega (arith, below));
  }

  pub walked-next : (start next here : ℕ) (items new : List ℕ) → IsWalked start next items → next < length items → here ≡ get_or items next 0
      → Grows (Step here) items new → ((t : ℕ) → Step here t → Path t) → IsWalked start (next + 1) new
  walked-next start next here items new walked inside is g path = record {
    within = omega (arith, ap length g.grown, length-append items g.more, inside);
    starts = subst (λ l. Contains l start) (sym g.grown) (Contains-append_left items g.more start walked.starts);
    sound = λ a among. elim (Contains-append_cases items g.more a (subst (λ l. Contains l a) g.grown among)) [
      | inl before ↦ walked.sound a before
      | inr added ↦ path a (g.only a added)
    ];
    closed = λ j below t step. elim (split j below) [
      | inl before ↦ subst (λ l. Contains l t) (sym g.grown) (Contains-append_left items g.more t (walked.closed j before t (subst (λ x. Step x t) (same j (omega (arith, before, inside))) step)))
      | inr e ↦ g.all t (subst (λ x. Step x t) (same j (omega (arith, e, inside)) ∙ (ap (λ i. get_or items i 0) e ∙ sym is)) step)
    ];
  }
    where
      split : (j : ℕ) → j < next + 1 → (j < next) ⊎ (j ≡ next)
      split j below = grind (arith, below)

      same : (j : ℕ) → j < length items → get_or new j 0 ≡ get_or items j 0
      same j below = ap (λ l. get_or l j 0) g.grown ∙ get_or_append_left items g.more 0 j below

  -- once the steps from each item are followed, the list has whatever a step leads to
  pub walked-all : (start next : ℕ) (items : List ℕ) → IsWalked start next items → length items ≤ next → (a t : ℕ) → Contains items a → Step a t → Contains items t
  walked-all start next items walked over a t (k, below, here) step =
      walked.closed k (omega (arith, below, over)) t (subst (λ x. Step x t) (sym (get_or_default items k 0 a below ∙ here)) step)
