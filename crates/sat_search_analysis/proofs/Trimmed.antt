-- The second pass: the steps that stay, renumbered.
use Rattle.std.proofs.Common.{◌≡◌, ◌⊎◌, inl, inr, ℕ, suc, zero, ◌+◌, ◌-◌, ◌<◌, ◌≤◌, Bool, true, false, List, [], ◌∷◌, ◌++◌, Some, None, length, get_or, map, refl, ap, sym, ◌∙◌, subst, arith}
use Rattle.std.specs.Prelude.{nat_le, if◌then◌else◌, slice_get}
use Rattle.std.proofs.lemmas.Option.{slice_get_within}
use Rattle.std.proofs.lemmas.List.{length_push, get_or_append_left, get_or_push, get_or_past}
use Rattle.std.proofs.lemmas.Bool.Decides.{nat_tests}
use Rattle.clause_check_spec.specs.Clause.{Cnf}
use Rattle.clause_check_spec.specs.Log.{Step}
use Rattle.sat_search_spec.specs.Logs.{IsClosing}
use Rattle.sat_search_spec.specs.Analysis.{IsMarked}
use Rattle.sat_search_spec.specs.Trimming.{IsNeeded, renumbered, trimmed_step, IsFrom, IsTrimming}
use Rattle.sat_search_spec.proofs.Trails.{get_left, get_last, get_cases, some_same}
use Rattle.sat_search_spec.proofs.Trims.{IsWhole, trimmed_closing, trimmed_lean}
use Rattle.sat_search_analysis.specs.Passes.{IsBackward, IsTrimmed, AreLow}
use Rattle.sat_search_analysis.proofs.Marked.{backward}

lt_or_le : (a b : ℕ) → (a < b) ⊎ (b ≤ a)
lt_or_le a b = grind arith

-- ---- places

pub low_more : (places : List ℕ) (place : ℕ) → AreLow places → place ≤ length places → AreLow (places ++ place ∷ [])
low_more places place low h k =
    elim (lt_or_le k (length places)) [
      | inl below ↦ let same = get_or_append_left places (place ∷ []) 0 k below in let le = low k in omega (arith, same, le)
      | inr past ↦ at_end (same_or_past k (length places) past)
    ]
  where
    same_or_past : (a b : ℕ) → b ≤ a → (a ≡ b) ⊎ (b + 1 ≤ a)
    same_or_past a b g = grind arith

    at_end : (k ≡ length places) ⊎ (length places + 1 ≤ k) → get_or (places ++ place ∷ []) k 0 ≤ k
    at_end (inl e) = let same = get_or_push places place 0 k (sym e) in omega (arith, same, e, h)
    at_end (inr beyond) =
        let none = get_or_past (places ++ place ∷ []) k 0 (let n = length_push places place in omega (arith, n, beyond)) in omega (arith, none)

-- ---- numbers of earlier clauses don't change with more places

number_kept : (given : ℕ) (places : List ℕ) (place number : ℕ) → number ≤ given + length places → renumbered given (places ++ place ∷ []) number ≡ renumbered given places number
number_kept given places place number h = by_test (nat_le number given) refl
  where
    above : (m n : ℕ) → nat_le m n ≡ false → n < m
    above m n e = grind (arith, nat_tests)

    by_test : (b : Bool) → nat_le number given ≡ b
        → (if b then number else given + (get_or (places ++ place ∷ []) (number - given - 1) 0 + 1)) ≡ (if b then number else given + (get_or places (number - given - 1) 0 + 1))
    by_test true e = refl
    by_test false e =
        let past = above number given e in
        ap (λ n. given + (n + 1)) (get_or_append_left places (place ∷ []) 0 (number - given - 1) (omega (arith, h, past)))

hints_kept : (given : ℕ) (places : List ℕ) (place : ℕ) (hints : List ℕ) → ((k number : ℕ) → slice_get hints k ≡ Some number → number ≤ given + length places)
    → map (renumbered given (places ++ place ∷ [])) hints ≡ map (renumbered given places) hints
hints_kept given places place [] low = refl
hints_kept given places place (hint ∷ hints) low =
    ap (λ n. n ∷ map (renumbered given (places ++ place ∷ [])) hints) (number_kept given places place hint (low 0 hint refl))
    ∙ ap (λ l. renumbered given places hint ∷ l) (hints_kept given places place hints (λ k. low (suc k)))

step_kept : (given : ℕ) (places : List ℕ) (place : ℕ) (step : Step) → ((k number : ℕ) → slice_get step.hints k ≡ Some number → number ≤ given + length places)
    → trimmed_step given (places ++ place ∷ []) step ≡ trimmed_step given places step
step_kept given places place step low = ap (λ h. let s : Step = record { literals = step.literals; hints = h } in s) (hints_kept given places place step.hints low)

-- ---- one step more

from_more : (given : ℕ) (log : List Step) (needed : List Bool) (done : ℕ) (places : List ℕ) (more place : ℕ) (trimmed : Step) → length places ≡ done → IsBackward given log
    → IsFrom given log needed done places place trimmed → IsFrom given log needed (done + 1) (places ++ more ∷ []) place trimmed
from_more given log needed done places more place trimmed count backwards from =
    let within = from.within in
    record {
      origin = from.origin;
      step = from.step;
      within = omega (arith, within);
      there = from.there;
      marked = from.marked;
      moved = get_or_append_left places (more ∷ []) 0 from.origin (omega (arith, within, count)) ∙ from.moved;
      same =
          from.same
          ∙ sym (step_kept given places more from.step (λ k number hint.
          let bound = backwards from.origin k number from.step from.there hint in omega (arith, bound, within, count)));
    }

rising_more : (given : ℕ) (log : List Step) (needed : List Bool) (done : ℕ) (places : List ℕ) (trimmed : List Step) → done < length log → IsTrimming given log needed done places trimmed
    → (i k : ℕ) → i < k → k < done + 1 → IsMarked needed i → get_or (places ++ length trimmed ∷ []) i 0 < get_or (places ++ length trimmed ∷ []) k 0
rising_more given log needed done places trimmed below trimming i k lt within marked =
    let count = trimming.count in
    let first = get_or_append_left places (length trimmed ∷ []) 0 i (omega (arith, lt, within, count)) in
    elim (lt_or_le k done) [
      | inl before ↦
          let second = get_or_append_left places (length trimmed ∷ []) 0 k (omega (arith, before, count)) in
          let rises = trimming.rising i k lt before marked in
          omega (arith, first, second, rises)
      | inr past ↦
          let second = get_or_push places (length trimmed) 0 k (omega (arith, past, within, count)) in
          let step = some_step log i (omega (arith, lt, within, below)) in
          let stays = trimming.forth i step.0 (omega (arith, lt, within)) step.1 marked in
          let inside = slice_get_within trimmed (get_or places i 0) (trimmed_step given places step.0) stays in
          omega (arith, first, second, inside)
    ]
  where
    some_step : (xs : List Step) (n : ℕ) → n < length xs → (x : Step) × (slice_get xs n ≡ Some x)
    some_step [] n h = absurd (omega (arith, h))
    some_step (x ∷ xs) zero h = (x, refl)
    some_step (x ∷ xs) (suc n) h = some_step xs n (omega (arith, h))

forth_before : (given : ℕ) (log : List Step) (needed : List Bool) (done : ℕ) (places : List ℕ) (trimmed : List Step) (more : ℕ) → IsBackward given log
    → IsTrimming given log needed done places trimmed → (i : ℕ) (step : Step) → i < done → slice_get log i ≡ Some step → IsMarked needed i
    → slice_get trimmed (get_or (places ++ more ∷ []) i 0) ≡ Some (trimmed_step given (places ++ more ∷ []) step)
forth_before given log needed done places trimmed more backwards trimming i step before here marked =
    let count = trimming.count in
    ap (slice_get trimmed) (get_or_append_left places (more ∷ []) 0 i (omega (arith, before, count)))
    ∙ trimming.forth i step before here marked
    ∙ ap Some (sym (step_kept given places more step (λ k number hint. let bound = backwards i k number step here hint in omega (arith, bound, before, count))))

at_or_before : (i n : ℕ) → i < n + 1 → (i ≡ n) ⊎ (i < n)
at_or_before i n h = grind arith

pub trimming_skip : (given : ℕ) (log : List Step) (needed : List Bool) (done : ℕ) (places : List ℕ) (trimmed : List Step) → IsBackward given log → done < length log
    → (IsMarked needed done → ⊥) → IsTrimming given log needed done places trimmed → IsTrimming given log needed (done + 1) (places ++ length trimmed ∷ []) trimmed
trimming_skip given log needed done places trimmed backwards below unmarked trimming =
    let count = trimming.count in
    let short = trimming.short in
    record {
      count = length_push places (length trimmed) ∙ ap (λ n. n + 1) count;
      short = omega (arith, short);
      forth = λ i step before here marked.
          elim (at_or_before i done before) [
            | inl same ↦ absurd (unmarked (subst (λ n. IsMarked needed n) same marked))
            | inr earlier ↦ forth_before given log needed done places trimmed (length trimmed) backwards trimming i step earlier here marked
          ];
      back = λ j step here. from_more given log needed done places (length trimmed) j step count backwards (trimming.back j step here);
      rising = rising_more given log needed done places trimmed below trimming;
    }

pub trimming_keep : (given : ℕ) (log : List Step) (needed : List Bool) (done : ℕ) (places : List ℕ) (trimmed : List Step) (step : Step) → IsBackward given log
    → slice_get log done ≡ Some step → IsMarked needed done → IsTrimming given log needed done places trimmed
    → IsTrimming given log needed (done + 1) (places ++ length trimmed ∷ []) (trimmed ++ trimmed_step given (places ++ length trimmed ∷ []) step ∷ [])
trimming_keep given log needed done places trimmed step backwards here marked trimming =
    let count = trimming.count in
    let short = trimming.short in
    let below = slice_get_within log done step here in
    let last = trimmed_step given (places ++ length trimmed ∷ []) step in
    record {
      count = length_push places (length trimmed) ∙ ap (λ n. n + 1) count;
      short = let n = length_push trimmed last in omega (arith, short, n);
      forth = λ i other before there is_marked.
          elim (at_or_before i done before) [
            | inl same ↦
                let is_step = some_same log i done other step same there here in
                ap (slice_get (trimmed ++ last ∷ [])) (get_or_push places (length trimmed) 0 i (count ∙ sym same))
                ∙ get_last trimmed last ∙ ap (λ s. Some (trimmed_step given (places ++ length trimmed ∷ []) s)) (sym is_step)
            | inr earlier ↦
                get_left trimmed last (get_or (places ++ length trimmed ∷ []) i 0) (trimmed_step given (places ++ length trimmed ∷ []) other)
                (forth_before given log needed done places trimmed (length trimmed) backwards trimming i other earlier there is_marked)
          ];
      back = λ j other there.
          elim (get_cases trimmed last j other there) [
            | inl before ↦ from_more given log needed done places (length trimmed) j other count backwards (trimming.back j other before)
            | inr final ↦
                record {
                  origin = done;
                  step = step;
                  within = omega arith;
                  there = here;
                  marked = marked;
                  moved = get_or_push places (length trimmed) 0 done count ∙ sym final.0;
                  same = final.1;
                }
          ];
      rising = rising_more given log needed done places trimmed below trimming;
    }

-- a step more, as the code adds it
pub trimming_next : (given : ℕ) (log : List Step) (needed : List Bool) (done : ℕ) (places : List ℕ) (trimmed : List Step) (step : Step) (new_places : List ℕ) (new_trimmed : List Step)
    → slice_get log done ≡ Some step → new_places ≡ places ++ length trimmed ∷ []
    → new_trimmed ≡ (if get_or needed done false then trimmed ++ trimmed_step given new_places step ∷ [] else trimmed) → IsBackward given log
    → IsTrimming given log needed done places trimmed → IsTrimming given log needed (done + 1) new_places new_trimmed
trimming_next given log needed done places trimmed step new_places new_trimmed here e f backwards trimming =
    subst (λ p. IsTrimming given log needed (done + 1) p new_trimmed) (sym e)
    (by_mark (get_or needed done false) refl (f ∙ ap (λ p. if get_or needed done false then trimmed ++ trimmed_step given p step ∷ [] else trimmed) e))
  where
    by_mark : (b : Bool) → get_or needed done false ≡ b
        → new_trimmed ≡ (if b then trimmed ++ trimmed_step given (places ++ length trimmed ∷ []) step ∷ [] else trimmed)
        → IsTrimming given log needed (done + 1) (places ++ length trimmed ∷ []) new_trimmed
    by_mark true marked g =
        subst (λ t. IsTrimming given log needed (done + 1) (places ++ length trimmed ∷ []) t) (sym g)
        (trimming_keep given log needed done places trimmed step backwards here marked trimming)
    by_mark false unmarked g =
        subst (λ t. IsTrimming given log needed (done + 1) (places ++ length trimmed ∷ []) t) (sym g)
        (trimming_skip given log needed done places trimmed backwards (slice_get_within log done step here) (λ m. let gone = sym unmarked ∙ m in cc) trimming)

pub next_short : (places new_places : List ℕ) (trimmed new_trimmed : List Step) (b : Bool) (step : Step) → new_places ≡ places ++ length trimmed ∷ []
    → new_trimmed ≡ (if b then trimmed ++ step ∷ [] else trimmed) → length trimmed ≤ length places → length new_trimmed ≤ length new_places
next_short places new_places trimmed new_trimmed true step e f h =
    let n = ap length e ∙ length_push places (length trimmed) in
    let m = ap length f ∙ length_push trimmed step in
    omega (arith, n, m, h)
next_short places new_places trimmed new_trimmed false step e f h =
    let n = ap length e ∙ length_push places (length trimmed) in
    let m = ap length f in
    omega (arith, n, m, h)

-- ---- the whole

pub trimmed : (cnf : Cnf) (given : ℕ) (log : List Step) (needed : List Bool) (places : List ℕ) (out : List Step) → length cnf.clauses ≡ given → IsClosing cnf log
    → (IsBackward given log → IsNeeded given log needed 0) → (IsBackward given log → IsTrimming given log needed (length log) places out)
    → IsTrimmed cnf log out
trimmed cnf given log needed places out e closing needs trimming =
    let backwards = backward cnf given log e closing in
    let whole : IsWhole cnf log needed places out = record {
      closing = closing;
      needs = subst (λ n. IsNeeded n log needed 0) (sym e) (needs backwards);
      trimming = subst (λ n. IsTrimming n log needed (length log) places out) (sym e) (trimming backwards);
    }
    in
    record {
      closing = trimmed_closing cnf log needed places out whole;
      lean = λ limit count. trimmed_lean cnf log needed places out limit whole count;
    }
