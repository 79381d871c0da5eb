-- The places of the 0 bytes of a string table, collected in order.
use Rattle.std.proofs.Common.{◌≡◌, ◌≢◌, ◌==◌, ◌<◌, ◌+◌, ◌-◌, ◌++◌, ℕ, take, drop, eq-eqb, ne_eqb, List, [], ◌∷◌, Contains, length, length-append, get_or, arith, subst, sym, ap, ◌∙◌, below_more, refl}
use Rattle.std.proofs.lemmas.List.{get_or_default, get_or_push, get_or-drop, length-drop}
use Rattle.std.proofs.lemmas.List.Elements.{All-push, Contains-append_left}
use Rattle.std.proofs.lemmas.List.Sums.{position_or_len_is}
use Rattle.std.specs.List.{before_first, position_or_len}
use Rattle.elf_read.specs.Offsets.{IsRising}
use Rattle.elf_read.specs.Zeros.{IsNextZero}
use Rattle.elf_read.proofs.Rising.{rising_push}

pub record AreZerosBelow (strings zeros : List ℕ) (end : ℕ) : Type 0 where
  pub rising : IsRising zeros
  pub inside : (k : ℕ) → k < length zeros → get_or zeros k 0 < end
  pub zero : (k : ℕ) → k < length zeros → get_or strings (get_or zeros k 0) 0 ≡ 0
  pub all : (place : ℕ) → place < end → get_or strings place 0 ≡ 0 → Contains zeros place

pub zero_pushed : (strings zeros : List ℕ) (end : ℕ) → AreZerosBelow strings zeros end → get_or strings end 0 ≡ 0
    → AreZerosBelow strings (zeros ++ end ∷ []) (end + 1)
zero_pushed strings zeros end so here =
    let each : (P : ℕ → Type 0) → ((k : ℕ) → k < length zeros → P (get_or zeros k 0)) → P end → (k : ℕ) → k < length (zeros ++ end ∷ []) → P (get_or (zeros ++ end ∷ []) k 0) =
    λ P old new k w. All-push P zeros end (λ m d l. subst P (get_or_default zeros m 0 d l) (old m l)) new k 0 w in
    record {
      rising = rising_push zeros end so.rising so.inside;
      inside = each (λ n. n < end + 1) (λ k w. let lower : get_or zeros k 0 < end = so.inside k w in omega arith) (omega arith);
      zero = each (λ n. get_or strings n 0 ≡ 0) so.zero here;
      all =
          λ place less zero.
          below_more (λ n. get_or strings n 0 ≡ 0 → Contains (zeros ++ end ∷ []) n) end
          (λ n l z. Contains-append_left zeros (end ∷ []) n (so.all n l z))
          (λ z. (length zeros, omega (arith, length-append zeros (end ∷ [])), get_or_push zeros end end (length zeros) refl)) place less zero;
    }

pub zero_passed : (strings zeros : List ℕ) (end : ℕ) → AreZerosBelow strings zeros end → get_or strings end 0 ≢ 0
    → AreZerosBelow strings zeros (end + 1)
zero_passed strings zeros end so here = record {
  rising = so.rising;
  inside = λ k w. let lower : get_or zeros k 0 < end = so.inside k w in omega arith;
  zero = so.zero;
  all =
      λ place less zero.
      below_more (λ n. get_or strings n 0 ≡ 0 → Contains zeros n) end (λ n l z. so.all n l z) (λ z. absurd (here z)) place less zero;
}

-- the name that the next 0 byte ends
pub next_zero_contained : (strings : List ℕ) (from place : ℕ) → IsNextZero strings from place → Contains (drop from strings) 0
next_zero_contained strings from place next =
    let there : from + (place - from) ≡ place = omega (arith, next.from_there) in (
      place - from,
      omega (arith, length-drop from strings, next.inside, next.from_there),
      get_or-drop from strings (place - from) 0 ∙ ap (λ n. get_or strings n 0) there ∙ next.zero,
    )

pub next_zero_ends : (strings : List ℕ) (from place : ℕ) → IsNextZero strings from place
    → take (place - from) (drop from strings) ≡ before_first (λ b. b == 0) (drop from strings)
next_zero_ends strings from place next =
    let there : from + (place - from) ≡ place = omega (arith, next.from_there) in
    let position : position_or_len (λ b. b == 0) (drop from strings) ≡ place - from =
    position_or_len_is (λ b. b == 0) (drop from strings) (place - from) 0 (omega (arith, length-drop from strings, next.inside, next.from_there))
    (λ k w. ne_eqb _ 0 (λ e. next.first (from + k) (omega arith) (omega (arith, next.from_there)) (sym (get_or-drop from strings k 0) ∙ e)))
    (λ w. eq-eqb _ 0 (get_or-drop from strings (place - from) 0 ∙ ap (λ n. get_or strings n 0) there ∙ next.zero)) in
    ap (λ n. take n (drop from strings)) (sym position)
