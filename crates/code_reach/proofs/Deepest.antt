-- The greatest known stack of some entries, and the stack of a function.
use Rattle.std.proofs.Common.{◌≡◌, ◌⊎◌, ◌+◌, ◌<◌, ◌≤◌, ◌^◌, ℕ, List, [], length, get_or, max, refl, sym, ◌∙◌, ap, subst, inl, inr, arith}
use Rattle.std.specs.Prelude.{Contains, All}
use Rattle.std.proofs.lemmas.Bool.{cases_lt}
use Rattle.std.proofs.lemmas.List.{get_or_default}
use Rattle.std.proofs.lemmas.List.Elements.{Contains-get_or}
use Rattle.elf_read_spec.specs.Image.{Image}
use Rattle.code_reach_spec.specs.declared.CodeKind.{CodeKind}
use Rattle.code_reach_spec.specs.Code.{IsGreatest, IsRangeFault, AreReachable}
use Rattle.code_reach.specs.Surveys.{CallsOut}
use Rattle.code_reach.specs.Stacks.{Known, known_or_zero, AreCalls, IsDeepest}
use Rattle.code_reach.proofs.Growing.{none_contained}
use Rattle.code_reach.proofs.Places.{has-code, place}
use Rattle.code_reach.proofs.Listed.{no-range-fault}
use Rattle.code_reach.proofs.Shallow.{places_few}

-- the greatest known stack of the first so many
pub record IsDeepestOf (known : Known) (entries : List ℕ) (index deepest : ℕ) : Type 0 where
  pub above : (k : ℕ) → k < index → known_or_zero known (get_or entries k 0) ≤ deepest
  pub reached : (deepest ≡ 0) ⊎ ((k : ℕ) × (k < index) × (known_or_zero known (get_or entries k 0) ≡ deepest))

module _ (known : Known) (entries : List ℕ) where
  pub deepest-none : IsDeepestOf known entries 0 0
  deepest-none = record { above = λ k below. absurd (omega (arith, below)); reached = inl refl }

  pub deepest-more : (index deepest : ℕ) → IsDeepestOf known entries index deepest
      → IsDeepestOf known entries (index + 1) (max deepest (known_or_zero known (get_or entries index 0)))
  deepest-more index deepest so_far = record {
    above = λ k below. elim (split k below) [
      | inl before ↦ omega (arith, so_far.above k before)
      | inr here ↦ omega (arith, ap (λ i. known_or_zero known (get_or entries i 0)) here)
    ];
    reached = at (cases_lt deepest (known_or_zero known (get_or entries index 0))) so_far.reached;
  }
    where
      split : (k : ℕ) → k < index + 1 → (k < index) ⊎ (k ≡ index)
      split k below = grind (arith, below)

      at : (deepest < known_or_zero known (get_or entries index 0)) ⊎ (known_or_zero known (get_or entries index 0) ≤ deepest)
          → (deepest ≡ 0) ⊎ ((k : ℕ) × (k < index) × (known_or_zero known (get_or entries k 0) ≡ deepest))
          → (max deepest (known_or_zero known (get_or entries index 0)) ≡ 0)
          ⊎ ((k : ℕ) × (k < index + 1) × (known_or_zero known (get_or entries k 0) ≡ max deepest (known_or_zero known (get_or entries index 0))))
      at (inl deeper) r = inr (index, omega arith, omega (arith, deeper))
      at (inr within) (inl none) = inl (omega (arith, none, within))
      at (inr within) (inr (k, below, e)) = inr (k, omega (arith, below), omega (arith, e, within))

  pub deepest-all : (index deepest : ℕ) → IsDeepestOf known entries index deepest → index ≡ length entries → IsDeepest known entries deepest
  deepest-all index deepest so_far e = record {
    above = λ k below. so_far.above k (omega (arith, below, e));
    reached = at so_far.reached;
  }
    where
      at : (deepest ≡ 0) ⊎ ((k : ℕ) × (k < index) × (known_or_zero known (get_or entries k 0) ≡ deepest))
          → (deepest ≡ 0) ⊎ ((k : ℕ) × (k < length entries) × (known_or_zero known (get_or entries k 0) ≡ deepest))
      at (inl none) = inl none
      at (inr (k, below, is)) = inr (k, omega (arith, below, e), is)

pub greatest-of-calls : (image : Image) (entry : ℕ) (known : Known) (calls : List ℕ) (deepest : ℕ) → AreCalls image entry calls → IsDeepest known calls deepest
    → IsGreatest (CallsOut image entry) (known_or_zero known) deepest
greatest-of-calls image entry known calls deepest are is = record { above = λ t out. above t ((are t).1 out); reached = at is.reached }
  where
    above : (t : ℕ) → Contains calls t → known_or_zero known t ≤ deepest
    above t (k, below, here) = subst (λ z. known_or_zero known z ≤ deepest) (sym (get_or_default calls k t 0 below) ∙ here) (is.above k below)

    at : (deepest ≡ 0) ⊎ ((k : ℕ) × (k < length calls) × (known_or_zero known (get_or calls k 0) ≡ deepest))
        → (deepest ≡ 0) ⊎ ((t : ℕ) × CallsOut image entry t × (known_or_zero known t ≡ deepest))
    at (inl none) = inl none
    at (inr (k, below, e)) = inr (get_or calls k 0, (are (get_or calls k 0)).0 (Contains-get_or calls k 0 below), e)

-- a function without code reaches nothing
pub reached-none : (image : Image) (entry size : ℕ) (kind : CodeKind) (keys : List ℕ) → IsRangeFault image entry size kind → keys ≡ [] → AreReachable image entry size keys
reached-none image entry size kind keys fault e = subst (AreReachable image entry size) (sym e) (record {
  rising = λ k below. absurd (omega (arith, below));
  exactly = λ a. (
    λ among. absurd (none_contained a among),
    λ reached. absurd (no-range-fault image entry size kind (has-code image entry size a reached) fault),
  );
})

pub words-whole : (image : Image) (entry size : ℕ) (places : List ℕ) → AreReachable image entry size places → All (λ address. address + 4 ≤ 2 ^ 32) places
words-whole image entry size places are = λ k d below. (place image entry size (get_or places k d) ((are.exactly (get_or places k d)).0 (Contains-get_or places k d below))).whole

pub words-few : (image : Image) (entry size : ℕ) (places : List ℕ) → AreReachable image entry size places → length places ≤ 2 ^ 32
words-few image entry size places are =
    places_few places are.rising (λ a among. let there = place image entry size a ((are.exactly a).0 among) in omega (arith, there.whole))
