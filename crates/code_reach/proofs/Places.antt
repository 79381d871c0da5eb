-- The addresses that are reached, and that a walk finds them all, with their targets.
use Rattle.std.proofs.Common.{◌≡◌, ◌+◌, ◌<◌, ◌≤◌, ◌%◌, ◌==◌, ℕ, Bool, true, false, cond, List, [], ◌∷◌, length, get_or, refl, sym, ◌∙◌, ap, subst, inl, inr, arith, eqb-true}
use Rattle.std.specs.Prelude.{nat_eq, IsSorted, IsPermutation, Contains}
use Rattle.std.proofs.lemmas.List.{get_or_default}
use Rattle.std.proofs.lemmas.List.Elements.{Contains-append_cases, Contains-get_or}
use Rattle.std.specs.List.{IsDistinct, flat_map}
use Rattle.std.specs.Ordering.{nat_cmp}
use Rattle.std.proofs.lemmas.List.Sorted.{IsNonDecreasingBy-from_sort, IsPermutation-sym, Contains-permutation}
use Rattle.std.proofs.lemmas.Map.Keys.{IsStrictlyIncreasing-from_distinct}
use Rattle.elf_read_spec.specs.Image.{Image}
use Rattle.code_reach_spec.specs.Code.{InRange, HasCode, aligned, Flow, Falls, Branches, Jumps, Calls, Links, Returns, Switches, Stops, nexts_of, IsReachable, here, next as onward, AreReachable}
use Rattle.code_reach_spec.specs.Faults.{IsTarget, target_of_reached}
use Rattle.code_reach.specs.Growth.{Grows, FromFirst, IsPlace, GoesTo, HasTarget, AreAllReachable, AreTargets}
use Rattle.code_reach.proofs.Growing.{none_contained, only_contained}
use Rattle.code_reach.proofs.Walks.{IsWalked, walked-all}

place-of : (image : Image) (entry size address : ℕ) → HasCode image entry size → InRange entry size address → address % 4 ≡ 0 → IsPlace entry size address
place-of image entry size address has inside e = record { inside = inside; aligned_there = e; whole = omega (arith, has.range_fixed.in_space, inside.below, e) }

among-aligned : (target t : ℕ) → Contains (aligned target) t → t % 4 ≡ 0
among-aligned target t = at (target % 4 == 0) refl
  where
    at : (b : Bool) → (target % 4 == 0) ≡ b → Contains (cond b (target ∷ []) []) t → t % 4 ≡ 0
    at true e among = ap (λ x. x % 4) (only_contained target t among) ∙ eqb-true (target % 4) 0 e
    at false e among = absurd (none_contained t among)

among-each : (targets : List ℕ) (t : ℕ) → Contains (flat_map aligned targets) t → t % 4 ≡ 0
among-each [] t among = absurd (none_contained t among)
among-each (target ∷ targets) t among = elim (Contains-append_cases (aligned target) (flat_map aligned targets) t among) [
  | inl first ↦ among-aligned target t first
  | inr rest ↦ among-each targets t rest
]

after-aligned : (address t : ℕ) → address % 4 ≡ 0 → Contains ((address + 4) ∷ []) t → t % 4 ≡ 0
after-aligned address t e among = omega (arith, e, only_contained (address + 4) t among)

next-aligned : (address t : ℕ) (flow : Flow) → address % 4 ≡ 0 → Contains (nexts_of address flow) t → t % 4 ≡ 0
next-aligned address t Falls e among = after-aligned address t e among
next-aligned address t (Branches target) e among = elim (Contains-append_cases ((address + 4) ∷ []) (aligned target) t among) [
  | inl first ↦ after-aligned address t e first
  | inr second ↦ among-aligned target t second
]
next-aligned address t (Jumps target) e among = among-aligned target t among
next-aligned address t (Calls target) e among = after-aligned address t e among
next-aligned address t (Links target) e among = among-aligned target t among
next-aligned address t Returns e among = absurd (none_contained t among)
next-aligned address t (Switches jump) e among = among-each jump.targets t among
next-aligned address t Stops e among = absurd (none_contained t among)

pub has-code : (image : Image) (entry size address : ℕ) → IsReachable image entry size address → HasCode image entry size
has-code image entry size address (here has) = has
has-code image entry size address (onward before _ flow reached is among inside) = has-code image entry size before reached

pub place : (image : Image) (entry size address : ℕ) → IsReachable image entry size address → IsPlace entry size address
place image entry size address (here has) =
    place-of image entry size entry has (record { from = omega arith; below = omega (arith, has.not_empty) }) has.entry_aligned
place image entry size address (onward before _ flow reached is among inside) =
    place-of image entry size address (has-code image entry size before reached) inside
    (next-aligned before address flow (place image entry size before reached).aligned_there among)

pub step-path : (image : Image) (entry size address t : ℕ) → IsReachable image entry size address → GoesTo image entry size address t
    → IsReachable image entry size t
step-path image entry size address t reached l = onward address t l.flow reached l.flow_is l.next.among l.next.inside

abbrev pub IsWalkedFrom : Image → (entry size next : ℕ) → List ℕ → Type 0
IsWalkedFrom image entry size next items = IsWalked (GoesTo image entry size) (IsReachable image entry size) entry next items

-- a walk that is over has all that is reached
pub walked-reaches : (image : Image) (entry size next : ℕ) (items : List ℕ) → IsWalkedFrom image entry size next items → length items ≤ next
    → AreAllReachable image entry size items
walked-reaches image entry size next items walked over address = (walked.sound address, found address)
  where
    found : (a : ℕ) → IsReachable image entry size a → Contains items a
    found _ (here has) = walked.starts
    found _ (onward before t flow reached is among inside) =
        walked-all (GoesTo image entry size) (IsReachable image entry size) entry next items walked over before t (found before reached)
        (record { flow = flow; flow_is = is; next = record { among = among; inside = inside } })

-- and its targets are those of what is reached
pub walked-targets : (image : Image) (entry size next : ℕ) (items targets : List ℕ) → IsWalkedFrom image entry size next items → length items ≤ next
    → Grows (FromFirst (HasTarget image entry) items next) [] targets → AreTargets image entry size targets
walked-targets image entry size next items targets walked over g target = (
  λ among. from (g.only target (subst (λ l. Contains l target) g.grown among)),
  found,
)
  where
    from : FromFirst (HasTarget image entry) items next target → IsTarget image entry size target
    from f =
        target_of_reached (get_or items f.index 0) target f.there.flow
        (walked.sound (get_or items f.index 0) (Contains-get_or items f.index 0 (omega (arith, f.below, walked.within))))
        f.there.flow_is f.there.among

    at : (address : ℕ) → HasTarget image entry address target → Contains items address → Contains targets target
    at address has (k, below, is) =
        g.all target (record {
          index = k;
          below = omega (arith, below, over);
          there = subst (λ a. HasTarget image entry a target) (sym (get_or_default items k 0 address below ∙ is)) has;
        })

    found : IsTarget image entry size target → Contains targets target
    found (target_of_reached address _ flow reached is among) =
        at address (record { flow = flow; flow_is = is; among = among }) ((walked-reaches image entry size next items walked over address).1 reached)

pub place-walked : (image : Image) (entry size next : ℕ) (items : List ℕ) → IsWalkedFrom image entry size next items → next < length items
    → IsPlace entry size (get_or items next 0)
place-walked image entry size next items walked inside = place image entry size (get_or items next 0) (walked.sound (get_or items next 0) (Contains-get_or items next 0 inside))

-- ascending, each once
pub sorted-reached : (image : Image) (entry size : ℕ) (old new : List ℕ) → AreAllReachable image entry size old → IsPermutation old new → IsSorted nat_cmp new
    → IsDistinct nat_eq new → AreReachable image entry size new
sorted-reached image entry size old new all moved sorted distinct = record {
  rising = IsStrictlyIncreasing-from_distinct new (IsNonDecreasingBy-from_sort (λ x. x) new sorted) distinct;
  exactly = λ a. (
    λ among. (all a).0 (Contains-permutation new old a (IsPermutation-sym old new moved) among),
    λ reached. Contains-permutation old new a moved ((all a).1 reached),
  );
}
