-- The first pass: which steps are needed.
use Rattle.std.proofs.Common.{◌≡◌, ◌⊎◌, inl, inr, ℕ, ◌+◌, ◌-◌, ◌<◌, ◌≤◌, Bool, true, false, List, [], ◌∷◌, ◌++◌, Some, None, length, get_or, set, map, replicate, take, refl, ap, sym, ◌∙◌, subst, arith}
use Rattle.std.specs.Prelude.{slice_get}
use Rattle.std.proofs.lemmas.Option.{slice_get_within}
use Rattle.std.proofs.lemmas.List.{length-set, length-replicate, get_or-set_same, get_or-set_other, get_or-replicate, get_or_past, length-append, length-map, length-take-le}
use Rattle.clause_check_spec.specs.Clause.{Clause, Cnf, negation}
use Rattle.clause_check_spec.specs.Log.{Step}
use Rattle.sat_search_spec.specs.Logs.{before, IsClosing}
use Rattle.sat_search_spec.specs.Analysis.{IsMarked}
use Rattle.sat_search_spec.specs.Trimming.{IsHinted, IsNeeded}
use Rattle.sat_search_spec.proofs.Trails.{get_left, get_last, get_cases, some_same}
use Rattle.sat_search_spec.proofs.Trims.{chain_numbered}
use Rattle.sat_search_analysis.specs.Passes.{IsBackward, IsHint, IsMarkedBy}

same_or_other : (a b : ℕ) → (a ≡ b) ⊎ (a ≡ b → ⊥)
same_or_other a b = grind arith

-- ---- hints go backwards

pub backward : (cnf : Cnf) (given : ℕ) (log : List Step) → length cnf.clauses ≡ given → IsClosing cnf log → IsBackward given log
backward cnf given log e closing i k number step here hint =
    let learnt = closing.learnt i step here in
    let numbered = chain_numbered (before cnf.clauses log i) (map negation step.literals) step.hints k number learnt.chain hint in
    let within = slice_get_within (before cnf.clauses log i) (number - 1) numbered.0 numbered.1.there in
    let below = slice_get_within log i step here in
    let size = length-append cnf.clauses (map (λ (s : Step). s.literals) (take i log)) in
    let steps = length-map (take i log) (λ (s : Step). s.literals) in
    let taken = length-take-le i log (omega (arith, below)) in
    omega (arith, within, size, steps, taken, e)

-- ---- marks

marked_set : (marks : List Bool) (i j : ℕ) → IsMarked marks i → IsMarked (set marks j true) i
marked_set marks i j marked =
    elim (same_or_other i j) [
      | inl same ↦
          subst (λ n. IsMarked (set marks n true) i) same (get_or-set_same marks i true false (marked_within marks i marked))
      | inr other ↦ get_or-set_other marks j i true false other ∙ marked
    ]
  where
    marked_within : (xs : List Bool) (k : ℕ) → get_or xs k false ≡ true → k < length xs
    marked_within xs k e = by_place (lt_or_le k (length xs))
      where
        lt_or_le : (a b : ℕ) → (a < b) ⊎ (b ≤ a)
        lt_or_le a b = grind arith

        by_place : (k < length xs) ⊎ (length xs ≤ k) → k < length xs
        by_place (inl lt) = lt
        by_place (inr le) = let past = get_or_past xs k false le in cc

set_marked : (marks : List Bool) (i j : ℕ) → IsMarked (set marks j true) i → IsMarked marks i ⊎ (i ≡ j)
set_marked marks i j marked =
    elim (same_or_other i j) [
      | inl same ↦ inr same
      | inr other ↦ inl (sym (get_or-set_other marks j i true false other) ∙ marked)
    ]

-- ---- what is needed

at_or_above : (i n : ℕ) → n ≤ i → (i ≡ n) ⊎ (n + 1 ≤ i)
at_or_above i n h = grind arith

-- the last step alone
pub needed_first : (given : ℕ) (log : List Step) (needed : List Bool) → 0 < length log → needed ≡ set (replicate (length log) false) (length log - 1) true
    → IsNeeded given log needed (length log)
needed_first given log needed positive e =
    subst (λ n. IsNeeded given log n (length log)) (sym e) (record {
      count = length-set (replicate (length log) false) (length log - 1) true ∙ length-replicate (length log) false;
      last = get_or-set_same (replicate (length log) false) (length log - 1) true false (let n = length-replicate (length log) false in omega (arith, n, positive));
      hints = λ i k number step past here. absurd (let below = slice_get_within log i step here in omega (arith, below, past));
      used = λ i marked below.
          elim (set_marked (replicate (length log) false) i (length log - 1) marked) [
            | inl was ↦ let never = get_or-replicate (length log) i false false (omega (arith, below)) in cc
            | inr same ↦ absurd (omega (arith, same, below))
          ];
    })

pub needed_skip : (given : ℕ) (log : List Step) (needed : List Bool) (place : ℕ) → (IsMarked needed place → ⊥) → IsNeeded given log needed (place + 1)
    → IsNeeded given log needed place
needed_skip given log needed place unmarked needs = record {
  count = needs.count;
  last = needs.last;
  hints = λ i k number step from here marked hint above.
      elim (at_or_above i place from) [
        | inl same ↦ absurd (unmarked (subst (λ n. IsMarked needed n) same marked))
        | inr later ↦ needs.hints i k number step later here marked hint above
      ];
  used = needs.used;
}

hinted_more : (given : ℕ) (log : List Step) (hints : List ℕ) (old new : List Bool) (after number : ℕ) → IsMarkedBy given hints old new → IsHinted log old after number → IsHinted log new after number
hinted_more given log hints old new after number by hinted = record {
  place = hinted.place;
  later = hinted.later;
  step = hinted.step;
  there = hinted.there;
  marked = by.kept hinted.place hinted.marked;
  position = hinted.position;
  hint = hinted.hint;
}

pub needed_more : (given : ℕ) (log : List Step) (old new : List Bool) (place : ℕ) (step : Step) → IsBackward given log → slice_get log place ≡ Some step → IsMarked old place
    → IsMarkedBy given step.hints old new → IsNeeded given log old (place + 1) → IsNeeded given log new place
needed_more given log old new place step backwards here marked by needs = record {
  count = by.count ∙ needs.count;
  last = by.kept (length log - 1) needs.last;
  hints = λ i k number other from there is_marked hint above.
      elim (at_or_above i place from) [
        | inl same ↦
            let is_step = some_same log i place other step same there here in
            let hint_here : slice_get step.hints k ≡ Some number = subst (λ (s : Step). slice_get s.hints k ≡ Some number) is_step hint in
            let bound = backwards place k number step here hint_here in
            let below = slice_get_within log place step here in
            let count = needs.count in
            by.all k number hint_here above (omega (arith, bound, below, count, above))
        | inr later ↦
            by.kept (number - given - 1) (needs.hints i k number other later there (was_marked i later is_marked) hint above)
      ];
  used = λ i is_marked below.
      elim (by.only i is_marked) [
        | inl was ↦ hinted_more given log step.hints old new i (given + (i + 1)) by (needs.used i was below)
        | inr is_hint ↦
            let bound = backwards place is_hint.position (given + (i + 1)) step here is_hint.there in
            record {
              place = place;
              later = omega (arith, bound);
              step = step;
              there = here;
              marked = by.kept place marked;
              position = is_hint.position;
              hint = is_hint.there;
            }
      ];
}
  where
    was_marked : (i : ℕ) → place + 1 ≤ i → IsMarked new i → IsMarked old i
    was_marked i later is_marked =
        elim (by.only i is_marked) [
          | inl was ↦ was
          | inr is_hint ↦ let bound = backwards place is_hint.position (given + (i + 1)) step here is_hint.there in absurd (omega (arith, bound, later))
        ]
