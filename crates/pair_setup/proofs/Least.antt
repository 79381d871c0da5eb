-- The least of some numbers.
use Rattle.std.proofs.Common.{◌≡◌, ◌⊎◌, ◌+◌, ◌<◌, ◌≤◌, ℕ, List, [], ◌++◌, length, get_or, min, sym, ◌∙◌, ap, subst, inl, inr, arith}
use Rattle.std.specs.Prelude.{Contains, Option, Some, None, unwrap_or}
use Rattle.std.proofs.lemmas.List.{get_or_default}
use Rattle.std.proofs.lemmas.List.Elements.{Contains-get_or}
use Rattle.pair_setup_calls.specs.Graph.{Grows}
use Rattle.pair_setup_calls.proofs.Growing.{IsAmong}
use Rattle.pair_setup.specs.Names.{IsLeast}

pub least-as : (P Q : ℕ → Type 0) (o : Option ℕ) → ((n : ℕ) → P n → Q n) → ((n : ℕ) → Q n → P n) → IsLeast P o → IsLeast Q o
least-as P Q None there back none = λ n q. none n (back n q)
least-as P Q (Some least) there back is = (there least is.0, λ n q. is.1 n (back n q))

module _ (items : List ℕ) where
  pub least-none : IsLeast (IsAmong items 0) None
  least-none = λ n among. omega (arith, among.1)

  pub least-more : (index : ℕ) (first : Option ℕ) → IsLeast (IsAmong items index) first
      → IsLeast (IsAmong items (index + 1)) (Some (min (unwrap_or first (get_or items index 0)) (get_or items index 0)))
  least-more index first is = at first is
    where
      split : (k : ℕ) → k < index + 1 → (k < index) ⊎ (k ≡ index)
      split k below = grind (arith, below)

      at : (first : Option ℕ) → IsLeast (IsAmong items index) first
          → IsLeast (IsAmong items (index + 1)) (Some (min (unwrap_or first (get_or items index 0)) (get_or items index 0)))
      at None none = (
        (index, omega arith, omega arith),
        λ n among. elim (split among.0 among.1) [
          | inl before ↦ absurd (none n (among.0, before, among.2))
          | inr e ↦ omega (arith, ap (λ j. get_or items j 0) e, among.2)
        ],
      )
      at (Some least) is = (
        here (cases least (get_or items index 0)),
        λ n among. elim (split among.0 among.1) [
          | inl before ↦ omega (arith, is.1 n (among.0, before, among.2))
          | inr e ↦ omega (arith, ap (λ j. get_or items j 0) e, among.2)
        ],
      )
        where
          cases : (a b : ℕ) → (a ≤ b) ⊎ (b ≤ a)
          cases a b = grind arith

          here : (least ≤ get_or items index 0) ⊎ (get_or items index 0 ≤ least) → IsAmong items (index + 1) (min least (get_or items index 0))
          here (inl low) = (is.0.0, omega (arith, is.0.1), omega (arith, is.0.2, low))
          here (inr high) = (index, omega arith, omega (arith, high))

  pub least-all : (index : ℕ) (o : Option ℕ) → index ≡ length items → IsLeast (IsAmong items index) o → IsLeast (Contains items) o
  least-all index o e is = least-as (IsAmong items index) (Contains items) o there back is
    where
      there : (n : ℕ) → IsAmong items index n → Contains items n
      there n among = subst (Contains items) among.2 (Contains-get_or items among.0 0 (omega (arith, among.1, e)))

      back : (n : ℕ) → Contains items n → IsAmong items index n
      back n (k, below, here) = (k, omega (arith, below, e), sym (get_or_default items k n 0 below) ∙ here)

pub least-found : (P : ℕ → Type 0) (old found slice : List ℕ) (o : Option ℕ) → old ≡ [] → slice ≡ found → Grows P old found → IsLeast (Contains slice) o → IsLeast P o
least-found P old found slice o none same g least = least-as (Contains slice) P o there back least
  where
    there : (n : ℕ) → Contains slice n → P n
    there n among = g.only n (subst (λ l. Contains l n) (same ∙ g.grown ∙ ap (λ l. l ++ g.more) none) among)

    back : (n : ℕ) → P n → Contains slice n
    back n p = subst (λ l. Contains l n) (sym same) (g.all n p)
