-- The walk over the code of all listed functions.
use Rattle.std.proofs.Common.{◌≡◌, ◌⊎◌, ◌∙◌, ℕ, ◌+◌, ◌<◌, ◌≤◌, List, [], length, get_or, refl, sym, ap, subst, inl, inr, arith}
use Rattle.std.specs.Prelude.{Contains, IsSome, IsPermutation, Some, unwrap_or}
use Rattle.std.proofs.lemmas.Bool.{cases_lt}
use Rattle.std.proofs.lemmas.List.{get_or_append_left, get_or_default}
use Rattle.std.proofs.lemmas.List.Elements.{Contains-append_left, Contains-append_cases, Contains-get_or}
use Rattle.std.proofs.lemmas.List.Sorted.{Contains-permutation, IsPermutation-sym}
use Rattle.elf_read_spec.specs.Image.{Image, size_at}
use Rattle.code_reach_spec.specs.Code.{CallsOn, Reaches, itself, further}
use Rattle.code_reach_spec.specs.Faults.{IsFunctionFault, ReachesNoFault, of_function, overlap}
use Rattle.pair_setup_calls.specs.Graph.{Grows}
use Rattle.pair_setup_spec.specs.Outcome.{IsReached}
use Rattle.pair_setup.specs.Codes.{AreSound}
use Rattle.pair_setup.specs.Names.{IsOf}
use Rattle.pair_setup.specs.Walks.{IsCalled, IsEntry, IsVisited, IsSoundAlone, IsReachedFrom, IsWalked, AreApart, AreSoundOf}
use Rattle.pair_setup.proofs.Added.{none_contained}
use Rattle.pair_setup.proofs.Totals.{called-at, calls-back}

same-size : (image : Image) (entry size other : ℕ) → size_at image entry ≡ Some size → size_at image entry ≡ Some other → other ≡ size
same-size image entry size other e f = cc

-- ---- the walk

-- the first so many entries were looked at
pub record IsWalking (image : Image) (old : List ℕ) (next : ℕ) (entries : List ℕ) : Type 0 where
  pub only : (entry : ℕ) → Contains entries entry → IsReachedFrom image old entry
  pub visited : (k : ℕ) → k < next → IsSoundAlone image entries (get_or entries k 0)

module _ (image : Image) (old : List ℕ) where
  pub walking-start : IsWalking image old 0 old
  walking-start = record { only = λ entry among. (entry, among, itself); visited = λ k below. absurd (omega (arith, below)) }

  alone-still : (entries new : List ℕ) (entry : ℕ) → ((t : ℕ) → Contains entries t → Contains new t) → IsSoundAlone image entries entry → IsSoundAlone image new entry
  alone-still entries new entry more s = record { size = s.size; size_is = s.size_is; sound = s.sound; calls = λ target on. more target (s.calls target on) }

  pub walking-next : (next : ℕ) (entries new : List ℕ) (entry : ℕ) → IsWalking image old next entries → next < length entries → entry ≡ get_or entries next 0
      → IsVisited image entry entries new → IsWalking image old (next + 1) new
  walking-next next entries new entry so_far inside here v = record { only = only; visited = visited }
    where
      g : Grows (IsOf IsCalled v.steps) entries new
      g = v.grows

      kept : (t : ℕ) → Contains entries t → Contains new t
      kept t among = subst (λ l. Contains l t) (sym v.grows.grown) (Contains-append_left entries v.grows.more t among)

      from : (t : ℕ) → CallsOn image entry v.are.code.size t → IsReachedFrom image old entry → IsReachedFrom image old t
      from t on (first, among, reached) = (first, among, further entry v.are.code.size t reached v.are.code.size_is on)

      there : Contains entries entry
      there = subst (Contains entries) (sym here) (Contains-get_or entries next 0 inside)

      only : (t : ℕ) → Contains new t → IsReachedFrom image old t
      only t among = elim (Contains-append_cases entries v.grows.more t (subst (λ l. Contains l t) v.grows.grown among)) [
        | inl before ↦ so_far.only t before
        | inr added ↦ (let call = v.grows.only t added in from t (calls-back image entry v.steps v.are call.0 t call.1 call.2) (so_far.only entry there))
      ]

      split : (k : ℕ) → k < next + 1 → (k < next) ⊎ (k ≡ next)
      split k below = grind (arith, below)

      same : (k : ℕ) → k < length entries → get_or new k 0 ≡ get_or entries k 0
      same k below = ap (λ l. get_or l k 0) v.grows.grown ∙ get_or_append_left entries v.grows.more 0 k below

      own : IsSoundAlone image new entry
      own = record {
        size = v.are.code.size;
        size_is = v.are.code.size_is;
        sound = v.are.code.sound;
        calls = λ target on. (let at = called-at image entry v.steps v.are target on in v.grows.all target (at.step, at.among, at.calls));
      }

      visited : (k : ℕ) → k < next + 1 → IsSoundAlone image new (get_or new k 0)
      visited k below = elim (split k below) [
        | inl before ↦
            subst (IsSoundAlone image new) (sym (same k (omega (arith, before, inside))))
            (alone-still entries new (get_or entries k 0) kept (so_far.visited k before))
        | inr e ↦ subst (IsSoundAlone image new) (here ∙ sym (subst (λ j. get_or new j 0 ≡ get_or entries next 0) (sym e) (same next inside))) own
      ]

  pub walking-all : (next : ℕ) (entries : List ℕ) → IsWalking image old next entries → length entries ≤ next → IsWalked image old entries
  walking-all next entries so_far end = record { only = so_far.only; all = all }
    where
      all : (entry : ℕ) → Contains entries entry → IsSoundAlone image entries entry
      all entry (k, below, is) =
          subst (IsSoundAlone image entries) (sym (get_or_default entries k entry 0 below) ∙ is) (so_far.visited k (omega (arith, below, end)))

-- ---- nothing that is reached has a fault

module _ (image : Image) (entries : List ℕ) (all : (entry : ℕ) → Contains entries entry → IsSoundAlone image entries entry) (apart : AreApart image entries) where
  closed : (entry other : ℕ) → Contains entries entry → Reaches image entry other → Contains entries other
  closed entry _ among itself = among
  closed entry other among (further middle size _ reached size_is on) =
      let s = all middle (closed entry middle among reached) in
      s.calls other (subst (λ n. CallsOn image middle n other) (same-size image middle s.size size s.size_is size_is) on)

  end-before : (lower size upper : ℕ) → Contains entries lower → size_at image lower ≡ Some size → Contains entries upper → lower < upper → lower + size ≤ upper
  end-before lower size upper (j, inside, here) is (k, within, there) before = at (cases_lt j k) (cases_lt k j)
    where
      low : get_or entries j 0 ≡ lower
      low = sym (get_or_default entries j lower 0 inside) ∙ here

      up : get_or entries k 0 ≡ upper
      up = sym (get_or_default entries k upper 0 within) ∙ there

      at : (j < k) ⊎ (k ≤ j) → (k < j) ⊎ (j ≤ k) → lower + size ≤ upper
      at (inl first) h = omega (arith, apart j k size first within (subst (λ a. size_at image a ≡ Some size) (sym low) is), low, up)
      at (inr from) (inl last) =
          let s = all upper (k, within, there) in
          absurd (omega (arith, apart k j s.size last inside (subst (λ a. size_at image a ≡ Some s.size) (sym up) s.size_is), low, up, before))
      at (inr from) (inr to) =
          let one : j ≡ k = omega (arith, from, to) in
          absurd (omega (arith, before, low, up, ap (λ i. get_or entries i 0) one))

  none-wrong : (entry : ℕ) → Contains entries entry → ReachesNoFault image entry
  none-wrong entry among kind address (of_function other size _ _ reached size_is wrong) =
      let s = all other (closed entry other among reached) in
      s.sound kind address (subst (λ n. IsFunctionFault image other n kind address) (same-size image other s.size size s.size_is size_is) wrong)
  none-wrong entry among _ address (overlap lower lower_size _ upper_size low low_is up up_is before meet) =
      let past = end-before lower lower_size address (closed entry lower among low) low_is (closed entry address among up) before in
      omega (arith, past, meet.in_one.below, meet.in_other.from)

  pub are-sound : AreSound image entries
  are-sound entry among = record { sound = none-wrong entry among; closed = λ other reached. closed entry other among reached }

-- ---- sorted entries, and those of listed functions

module _ (image : Image) (list : List (List ℕ)) (roots walked sorted : List ℕ) (w : IsWalked image roots walked) (moved : IsPermutation walked sorted)
    (g : Grows (IsOf (IsEntry image) list) [] roots) where
  kept-sorted : (t : ℕ) → Contains walked t → Contains sorted t
  kept-sorted t among = Contains-permutation walked sorted t moved among

  from-sorted : (t : ℕ) → Contains sorted t → Contains walked t
  from-sorted t among = Contains-permutation sorted walked t (IsPermutation-sym walked sorted moved) among

  is-listed : (entry : ℕ) → IsReachedFrom image roots entry → IsReached image list entry
  is-listed entry (from, among, reached) = at (Contains-append_cases [] g.more from (subst (λ l. Contains l from) g.grown among))
    where
      at : Contains [] from ⊎ Contains g.more from → IsReached image list entry
      at (inl none) = absurd (none_contained from none)
      at (inr added) =
          let root = g.only from added in
          record { listed = root.0; is_listed = root.1; from = from; from_is = root.2; reached = reached }

  alone-sorted : (entry : ℕ) → Contains sorted entry → IsSoundAlone image sorted entry
  alone-sorted entry among = alone-still image roots walked sorted entry kept-sorted (w.all entry (from-sorted entry among))

  pub sound-of : AreApart image sorted → AreSoundOf image list sorted
  sound-of apart = record { are_sound = are-sound image sorted alone-sorted apart; only = λ entry among. is-listed entry (w.only entry (from-sorted entry among)) }

-- ---- ranges that are apart

-- the first so many are apart, and end there or before
pub record AreApartBelow (image : Image) (entries : List ℕ) (index end : ℕ) : Type 0 where
  pub apart : (one other size : ℕ) → one < other → other < index → size_at image (get_or entries one 0) ≡ Some size → get_or entries one 0 + size ≤ get_or entries other 0
  pub ends : (one size : ℕ) → one < index → size_at image (get_or entries one 0) ≡ Some size → get_or entries one 0 + size ≤ end

module _ (image : Image) (entries : List ℕ) where
  pub apart-none : AreApartBelow image entries 0 0
  apart-none = record { apart = λ one other size before below is. absurd (omega (arith, below)); ends = λ one size below is. absurd (omega (arith, below)) }

  pub apart-more : (index end new : ℕ) → AreApartBelow image entries index end → end ≤ get_or entries index 0
      → new ≡ get_or entries index 0 + unwrap_or (size_at image (get_or entries index 0)) 0 → AreApartBelow image entries (index + 1) new
  apart-more index end new so_far past is = record { apart = apart; ends = ends }
    where
      split : (k : ℕ) → k < index + 1 → (k < index) ⊎ (k ≡ index)
      split k below = grind (arith, below)

      own : (n : ℕ) → size_at image (get_or entries index 0) ≡ Some n → new ≡ get_or entries index 0 + n
      own n e = is ∙ ap (λ o. get_or entries index 0 + unwrap_or o 0) e

      apart : (one other n : ℕ) → one < other → other < index + 1 → size_at image (get_or entries one 0) ≡ Some n → get_or entries one 0 + n ≤ get_or entries other 0
      apart one other n before below e = elim (split other below) [
        | inl earlier ↦ so_far.apart one other n before earlier e
        | inr last ↦ omega (arith, so_far.ends one n (omega (arith, before, last)) e, past, ap (λ k. get_or entries k 0) last)
      ]

      ends : (one n : ℕ) → one < index + 1 → size_at image (get_or entries one 0) ≡ Some n → get_or entries one 0 + n ≤ new
      ends one n below e = elim (split one below) [
        | inl earlier ↦ omega (arith, so_far.ends one n earlier e, past, is)
        | inr last ↦
            let there = subst (λ k. size_at image (get_or entries k 0) ≡ Some n) last e in
            omega (arith, own n there, ap (λ k. get_or entries k 0) last)
      ]

  pub apart-all : (index end : ℕ) → AreApartBelow image entries index end → length entries ≤ index → AreApart image entries
  apart-all index end so_far past one other size before below is = so_far.apart one other size before (omega (arith, below, past)) is
