-- Trimming: the steps that stay follow from those that stay before them.
use Rattle.std.proofs.Common.{◌≡◌, ◌⊎◌, inl, inr, ℕ, zero, suc, ◌+◌, ◌-◌, ◌<◌, ◌≤◌, Bool, true, false, List, [], ◌∷◌, ◌++◌, Option, Some, None, length, get_or, map, take, refl, ap, sym, ◌∙◌, subst, arith}
use Rattle.std.specs.Prelude.{◌==◌, nat_le, if◌then◌else◌, slice_get}
use Rattle.std.proofs.lemmas.Option.{slice_get_within}
use Rattle.std.proofs.lemmas.List.{length-append, length-map, length-take-le}
use Rattle.std.proofs.lemmas.Bool.Decides.{nat_tests}
use Rattle.clause_check_spec.specs.declared.Literal.{Literal}
use Rattle.clause_check_spec.specs.Clause.{Clause, Cnf, negation}
use Rattle.clause_check_spec.specs.Step.{Finding, Missing, Forces, Fails, finding, finding_of, finding_at}
use Rattle.clause_check_spec.specs.Log.{Step}
use Rattle.sat_search_spec.specs.Clauses.{Numbered, IsLive, AreLive}
use Rattle.sat_search_spec.specs.Chain.{Named, Chain, ends, forces}
use Rattle.sat_search_spec.specs.Logs.{IsNew, before, IsUsed, Lean, IsLearnt, IsClosing}
use Rattle.sat_search_spec.specs.Analysis.{IsMarked}
use Rattle.sat_search_spec.specs.Trimming.{IsHinted, IsNeeded, renumbered, trimmed_step, IsFrom, IsTrimming}
use Rattle.sat_search_spec.proofs.Findings.{finding_numbered}
use Rattle.sat_search_spec.proofs.Trails.{get_taken, taken_get, get_mapped, mapped_get, some_same}

-- ---- the clause that a hint finds

found_number : (clauses : List Clause) (made : List Literal) (number : ℕ) (found : Finding) → finding_at clauses made number ≡ found → (found ≡ Missing → ⊥)
    → (clause : Clause) × Numbered clauses number clause × (finding made clause ≡ found)
found_number clauses made number found e there = by_number (number == 0) refl e
  where
    Answer : Type 0
    Answer = (clause : Clause) × Numbered clauses number clause × (finding made clause ≡ found)

    positive : (n : ℕ) → (n == 0) ≡ false → 0 < n
    positive n f = grind (arith, nat_tests)

    by_clause : (o : Option Clause) → slice_get clauses (number - 1) ≡ o → (number == 0) ≡ false → finding_of made o ≡ found
        → (clause : Clause) × Numbered clauses number clause × (finding made clause ≡ found)
    by_clause None here f g = absurd (there (sym g))
    by_clause (Some clause) here f g = (clause, record { positive = positive number f; there = here }, g)

    by_number : (b : Bool) → (number == 0) ≡ b → (if b then Missing else finding_of made (slice_get clauses (number - 1))) ≡ found
        → (clause : Clause) × Numbered clauses number clause × (finding made clause ≡ found)
    by_number true f g = absurd (there (sym g))
    by_number false f g = by_clause (slice_get clauses (number - 1)) refl f g

fails_found : Fails ≡ Missing → ⊥
fails_found e = cc

forces_found : (l : Literal) → Forces l ≡ Missing → ⊥
forces_found l e = cc

-- each hint of a chain is the number of a clause
pub chain_numbered : (clauses : List Clause) (made : List Literal) (hints : List ℕ) (k number : ℕ) → Chain clauses made hints → slice_get hints k ≡ Some number
    → (clause : Clause) × Numbered clauses number clause
chain_numbered clauses made hints zero number (ends same n fails) here =
    let found = found_number clauses made n Fails fails fails_found in
    let e : n ≡ number = cc in
    (found.0, subst (λ m. Numbered clauses m found.0) e found.1)
chain_numbered clauses made hints (suc k) number (ends same n fails) here = cc
chain_numbered clauses made hints zero number (forces same n l rest forced named chain) here =
    let found = found_number clauses made n (Forces l) forced (forces_found l) in
    let e : n ≡ number = cc in
    (found.0, subst (λ m. Numbered clauses m found.0) e found.1)
chain_numbered clauses made hints (suc k) number (forces same n l rest forced named chain) here =
    chain_numbered clauses (made ++ l ∷ []) rest k number chain here

-- ---- a chain among other clauses

named_moved : (clauses others : List Clause) (move : ℕ → ℕ) (l : Literal) (hints : List ℕ)
    → ((k number : ℕ) (clause : Clause) → slice_get hints k ≡ Some number → Numbered clauses number clause → Numbered others (move number) clause)
    → Named clauses l hints → Named others l (map move hints)
named_moved clauses others move l hints moves named = record {
  place = named.place;
  number = move named.number;
  hint = mapped_get move hints named.place named.number named.hint;
  clause = named.clause;
  numbered = moves named.place named.number named.clause named.hint named.numbered;
  has = named.has;
}

pub chain_moved : (clauses others : List Clause) (move : ℕ → ℕ) (made : List Literal) (hints : List ℕ)
    → ((k number : ℕ) (clause : Clause) → slice_get hints k ≡ Some number → Numbered clauses number clause → Numbered others (move number) clause)
    → Chain clauses made hints → Chain others made (map move hints)
chain_moved clauses others move made hints moves (ends same n fails) =
    let found = found_number clauses made n Fails fails fails_found in
    ends made (move n) (finding_numbered others made (move n) found.0 (moves 0 n found.0 refl found.1) ∙ found.2)
chain_moved clauses others move made hints moves (forces same n l rest forced named chain) =
    let found = found_number clauses made n (Forces l) forced (forces_found l) in
    forces made (move n) l (map move rest) (finding_numbered others made (move n) found.0 (moves 0 n found.0 refl found.1) ∙ found.2)
    (named_moved clauses others move (negation l) rest (λ k. moves (suc k)) named)
    (chain_moved clauses others move (made ++ l ∷ []) rest (λ k. moves (suc k)) chain)

pub new_moved : (clauses others : List Clause) (literals : List Literal)
    → ((j : ℕ) (clause : Clause) → slice_get others j ≡ Some clause → (i : ℕ) × (slice_get clauses i ≡ Some clause))
    → IsNew clauses literals → IsNew others literals
new_moved clauses others literals among is_new = record {
  assignment = is_new.assignment;
  apart = is_new.apart;
  left = is_new.left;
  forced = is_new.forced;
  live = λ j clause here. let there = among j clause here in is_new.live there.0 clause there.1;
}

-- ---- the clauses before a step: given ones, and steps

get_append_left : {X : Type 0} (xs ys : List X) (i : ℕ) (x : X) → slice_get xs i ≡ Some x → slice_get (xs ++ ys) i ≡ Some x
get_append_left [] ys i x h = cc
get_append_left (z ∷ xs) ys zero x h = h
get_append_left (z ∷ xs) ys (suc i) x h = get_append_left xs ys i x h

get_append_right : {X : Type 0} (xs ys : List X) (i k : ℕ) (x : X) → i ≡ length xs + k → slice_get ys k ≡ Some x → slice_get (xs ++ ys) i ≡ Some x
get_append_right [] ys i k x e h = ap (slice_get ys) (omega (arith, e)) ∙ h
get_append_right (z ∷ xs) ys zero k x e h = absurd (omega (arith, e))
get_append_right (z ∷ xs) ys (suc i) k x e h = get_append_right xs ys i k x (omega (arith, e)) h

get_append_cases : {X : Type 0} (xs ys : List X) (i : ℕ) (x : X) → slice_get (xs ++ ys) i ≡ Some x
    → (slice_get xs i ≡ Some x) ⊎ ((k : ℕ) × (i ≡ length xs + k) × (slice_get ys k ≡ Some x))
get_append_cases [] ys i x h = inr (i, omega arith, h)
get_append_cases (z ∷ xs) ys zero x h = inl h
get_append_cases (z ∷ xs) ys (suc i) x h =
    elim (get_append_cases xs ys i x h) [
      | inl there ↦ inl there
      | inr there ↦ inr (there.0, (let e = there.1 in omega (arith, e)), there.2)
    ]

pub before_given : (given : List Clause) (log : List Step) (n i : ℕ) (clause : Clause) → slice_get given i ≡ Some clause → slice_get (before given log n) i ≡ Some clause
before_given given log n i clause here = get_append_left given (map (λ (s : Step). s.literals) (take n log)) i clause here

pub before_step : (given : List Clause) (log : List Step) (n i k : ℕ) (step : Step) → k < n → slice_get log k ≡ Some step → i ≡ length given + k
    → slice_get (before given log n) i ≡ Some step.literals
before_step given log n i k step below here e =
    get_append_right given (map (λ (s : Step). s.literals) (take n log)) i k step.literals e
    (mapped_get (λ (s : Step). s.literals) (take n log) k step (taken_get n log k step below here))

pub before_cases : (given : List Clause) (log : List Step) (n i : ℕ) (clause : Clause) → slice_get (before given log n) i ≡ Some clause
    → (slice_get given i ≡ Some clause) ⊎ ((k : ℕ) × (step : Step) × (i ≡ length given + k) × (k < n) × (slice_get log k ≡ Some step) × (step.literals ≡ clause))
before_cases given log n i clause here =
    elim (get_append_cases given (map (λ (s : Step). s.literals) (take n log)) i clause here) [
      | inl there ↦ inl there
      | inr there ↦
          let step = get_mapped (λ (s : Step). s.literals) (take n log) there.0 clause there.2 in
          let taken = get_taken n log there.0 step.0 step.1 in
          inr (there.0, step.0, there.1, taken.0, taken.1, step.2)
    ]

-- ---- new numbers

renumbered_given : (given : ℕ) (places : List ℕ) (number : ℕ) → number ≤ given → renumbered given places number ≡ number
renumbered_given given places number h = by_test (nat_le number given) refl
  where
    by_test : (b : Bool) → nat_le number given ≡ b → (if b then number else given + (get_or places (number - given - 1) 0 + 1)) ≡ number
    by_test true e = refl
    by_test false e = absurd (above number given e h)
      where
        above : (m n : ℕ) → nat_le m n ≡ false → m ≤ n → ⊥
        above m n f k = grind (arith, nat_tests)

renumbered_step : (given : ℕ) (places : List ℕ) (number i : ℕ) → number ≡ given + (i + 1) → renumbered given places number ≡ given + (get_or places i 0 + 1)
renumbered_step given places number i e = by_test (nat_le number given) refl
  where
    by_test : (b : Bool) → nat_le number given ≡ b → (if b then number else given + (get_or places (number - given - 1) 0 + 1)) ≡ given + (get_or places i 0 + 1)
    by_test true f = absurd (above number given f (omega (arith, e)))
      where
        above : (m n : ℕ) → nat_le m n ≡ true → n < m → ⊥
        above m n g k = grind (arith, nat_tests)
    by_test false f = ap (λ n. given + (get_or places n 0 + 1)) (let same : number - given - 1 ≡ i = omega (arith, e) in same)

-- ---- the whole log

within_or : (i n : ℕ) → (i + 1 < n) ⊎ (n ≤ i + 1)
within_or i n = grind arith

lt_or_le : (i n : ℕ) → (i < n) ⊎ (n ≤ i)
lt_or_le i n = grind arith

pub record IsWhole (cnf : Cnf) (log : List Step) (needed : List Bool) (places : List ℕ) (trimmed : List Step) : Type 0 where
  pub closing : IsClosing cnf log
  pub needs : IsNeeded (length cnf.clauses) log needed 0
  pub trimming : IsTrimming (length cnf.clauses) log needed (length log) places trimmed

-- places keep their order
earlier_origin : (given : ℕ) (log : List Step) (needed : List Bool) (done : ℕ) (places : List ℕ) (trimmed : List Step) → IsTrimming given log needed done places trimmed
    → (i k : ℕ) → i < done → k < done → IsMarked needed k → get_or places i 0 < get_or places k 0 → i < k
earlier_origin given log needed done places trimmed trimming i k below below' marked h =
    elim (lt_or_le i k) [
      | inl lt ↦ lt
      | inr le ↦ by_same (same_or_less k i le)
    ]
  where
    same_or_less : (a b : ℕ) → a ≤ b → (a ≡ b) ⊎ (a < b)
    same_or_less a b g = grind arith

    by_same : (k ≡ i) ⊎ (k < i) → i < k
    by_same (inl e) = absurd (let f = ap (λ n. get_or places n 0) e in omega (arith, f, h))
    by_same (inr lt) = absurd (let f = trimming.rising k i lt below marked in omega (arith, f, h))

-- a clause keeps its literals under its new number
moved_number : (cnf : Cnf) (log : List Step) (needed : List Bool) (places : List ℕ) (trimmed : List Step) → IsWhole cnf log needed places trimmed
    → (i number k : ℕ) (step : Step) (clause : Clause) → i < length log → slice_get log i ≡ Some step → IsMarked needed i → slice_get step.hints k ≡ Some number
    → Numbered (before cnf.clauses log i) number clause
    → Numbered (before cnf.clauses trimmed (get_or places i 0)) (renumbered (length cnf.clauses) places number) clause
moved_number cnf log needed places trimmed whole i number k step clause below here marked hint numbered =
    elim (before_cases cnf.clauses log i (number - 1) clause numbered.there) [
      | inl there ↦
          let first = slice_get_within cnf.clauses (number - 1) clause there in
          let positive = numbered.positive in
          subst (λ n. Numbered (before cnf.clauses trimmed (get_or places i 0)) n clause)
          (sym (renumbered_given (length cnf.clauses) places number (omega (arith, first, positive))))
          (record { positive = positive; there = before_given cnf.clauses trimmed (get_or places i 0) (number - 1) clause there })
      | inr there ↦
          let positive = numbered.positive in
          let place = there.2 in
          let at : number ≡ length cnf.clauses + (there.0 + 1) = omega (arith, positive, place) in
          let index : number - length cnf.clauses - 1 ≡ there.0 = omega (arith, at) in
          let needs = subst (λ n. IsMarked needed n) index (whole.needs.hints i k number step (omega arith) here marked hint (omega (arith, at))) in
          let lower = there.3 in
          let stays = whole.trimming.forth there.0 there.1 (omega (arith, lower, below)) there.4 needs in
          let rises = whole.trimming.rising there.0 i lower below needs in
          subst (λ n. Numbered (before cnf.clauses trimmed (get_or places i 0)) n clause) (sym (renumbered_step (length cnf.clauses) places number there.0 at))
          (record {
            positive = omega arith;
            there =
                before_step cnf.clauses trimmed (get_or places i 0) (length cnf.clauses + (get_or places there.0 0 + 1) - 1) (get_or places there.0 0)
                (trimmed_step (length cnf.clauses) places there.1) rises stays (omega arith)
                ∙ ap Some there.5;
          })
    ]

-- and the clauses that stay are among those before
among_before : (cnf : Cnf) (log : List Step) (needed : List Bool) (places : List ℕ) (trimmed : List Step) → IsWhole cnf log needed places trimmed
    → (i : ℕ) → i < length log → IsMarked needed i → (j : ℕ) (clause : Clause) → slice_get (before cnf.clauses trimmed (get_or places i 0)) j ≡ Some clause
    → (n : ℕ) × (slice_get (before cnf.clauses log i) n ≡ Some clause)
among_before cnf log needed places trimmed whole i below marked j clause here =
    elim (before_cases cnf.clauses trimmed (get_or places i 0) j clause here) [
      | inl there ↦ (j, before_given cnf.clauses log i j clause there)
      | inr there ↦
          let from = whole.trimming.back there.0 there.1 there.4 in
          let lower = there.3 in
          let moved = from.moved in
          let earlier = earlier_origin (length cnf.clauses) log needed (length log) places trimmed whole.trimming from.origin i from.within below marked (omega (arith, lower, moved)) in (
            length cnf.clauses + from.origin,
            before_step cnf.clauses log i (length cnf.clauses + from.origin) from.origin from.step earlier from.there refl
                ∙ ap Some (sym (ap (λ (s : Step). s.literals) from.same) ∙ there.5),
          )
    ]

pub trimmed_learnt : (cnf : Cnf) (log : List Step) (needed : List Bool) (places : List ℕ) (trimmed : List Step) → IsWhole cnf log needed places trimmed
    → (j : ℕ) (step : Step) → slice_get trimmed j ≡ Some step → IsLearnt cnf.variables (before cnf.clauses trimmed j) step
trimmed_learnt cnf log needed places trimmed whole j step here =
    let from = whole.trimming.back j step here in
    let learnt = whole.closing.learnt from.origin from.step from.there in
    subst (λ n. IsLearnt cnf.variables (before cnf.clauses trimmed n) step) from.moved
    (subst (λ s. IsLearnt cnf.variables (before cnf.clauses trimmed (get_or places from.origin 0)) s) (sym from.same)
    (record {
      fit = learnt.fit;
      chain =
          chain_moved (before cnf.clauses log from.origin) (before cnf.clauses trimmed (get_or places from.origin 0)) (renumbered (length cnf.clauses) places)
          (map negation from.step.literals) from.step.hints
          (λ k number clause hint numbered.
          moved_number cnf log needed places trimmed whole from.origin number k from.step clause from.within from.there from.marked hint numbered)
          learnt.chain;
      named = λ l h.
          named_moved (before cnf.clauses log from.origin) (before cnf.clauses trimmed (get_or places from.origin 0)) (renumbered (length cnf.clauses) places) l
          from.step.hints
          (λ k number clause hint numbered.
          moved_number cnf log needed places trimmed whole from.origin number k from.step clause from.within from.there from.marked hint numbered)
          (learnt.named l h);
      is_new = λ nonempty.
          new_moved (before cnf.clauses log from.origin) (before cnf.clauses trimmed (get_or places from.origin 0)) from.step.literals
          (among_before cnf log needed places trimmed whole from.origin from.within from.marked) (learnt.is_new nonempty);
    }))

-- the last step stays the last
last_place : (cnf : Cnf) (log : List Step) (needed : List Bool) (places : List ℕ) (trimmed : List Step) → IsWhole cnf log needed places trimmed
    → (j : ℕ) (step : Step) → slice_get trimmed j ≡ Some step → j ≤ get_or places (length log - 1) 0
last_place cnf log needed places trimmed whole j step here =
    let from = whole.trimming.back j step here in
    let within = from.within in
    let moved = from.moved in
    elim (within_or from.origin (length log)) [
      | inl before ↦
          let rises = whole.trimming.rising from.origin (length log - 1) (omega (arith, before)) (omega (arith, before)) from.marked in
          omega (arith, rises, moved)
      | inr last ↦
          let same : from.origin ≡ length log - 1 = omega (arith, last, within) in
          let e = ap (λ n. get_or places n 0) same in
          omega (arith, e, moved)
    ]

pub trimmed_closing : (cnf : Cnf) (log : List Step) (needed : List Bool) (places : List ℕ) (trimmed : List Step) → IsWhole cnf log needed places trimmed
    → IsClosing cnf trimmed
trimmed_closing cnf log needed places trimmed whole =
    let log_within = slice_get_within log (length log - 1) whole.closing.last whole.closing.ends in
    let stays = whole.trimming.forth (length log - 1) whole.closing.last log_within whole.closing.ends whole.needs.last in
    let place_within = slice_get_within trimmed (get_or places (length log - 1) 0) (trimmed_step (length cnf.clauses) places whole.closing.last) stays in
    record {
      learnt = trimmed_learnt cnf log needed places trimmed whole;
      nonempty = λ j step here below e.
          let from = whole.trimming.back j step here in
          whole.closing.nonempty from.origin from.step from.there (not_last from below) (ap (λ (s : Step). s.literals) (sym from.same) ∙ e);
      last = trimmed_step (length cnf.clauses) places whole.closing.last;
      ends = ap (slice_get trimmed) (place_is place_within (final place_within)) ∙ stays;
      closes = whole.closing.closes;
    }
  where
    -- the step after the last place would be after the last
    final : get_or places (length log - 1) 0 < length trimmed → length trimmed ≤ get_or places (length log - 1) 0 + 1
    final below =
        elim (within_or (get_or places (length log - 1) 0) (length trimmed)) [
          | inl more ↦
              let step = some_step trimmed (get_or places (length log - 1) 0 + 1) more in
              let bound = last_place cnf log needed places trimmed whole (get_or places (length log - 1) 0 + 1) step.0 step.1 in
              absurd (omega (arith, bound))
          | inr done ↦ done
        ]
      where
        some_step : (xs : List Step) (i : ℕ) → i < length xs → (x : Step) × (slice_get xs i ≡ Some x)
        some_step [] i h = absurd (omega (arith, h))
        some_step (x ∷ xs) zero h = (x, refl)
        some_step (x ∷ xs) (suc i) h = some_step xs i (omega (arith, h))

    place_is : get_or places (length log - 1) 0 < length trimmed → length trimmed ≤ get_or places (length log - 1) 0 + 1
        → length trimmed - 1 ≡ get_or places (length log - 1) 0
    place_is h k = omega (arith, h, k)

    not_last : {j : ℕ} {step : Step} (from : IsFrom (length cnf.clauses) log needed (length log) places j step) → j + 1 < length trimmed → from.origin + 1 < length log
    not_last {j} {step} from below =
        elim (within_or from.origin (length log)) [
          | inl before ↦ before
          | inr last ↦
              let within = from.within in
              let same : from.origin ≡ length log - 1 = omega (arith, last, within) in
              let log_within = slice_get_within log (length log - 1) whole.closing.last whole.closing.ends in
              let stays = whole.trimming.forth (length log - 1) whole.closing.last log_within whole.closing.ends whole.needs.last in
              let place_within = slice_get_within trimmed (get_or places (length log - 1) 0) (trimmed_step (length cnf.clauses) places whole.closing.last) stays in
              let bound = final place_within in
              let e = ap (λ n. get_or places n 0) same in
              let moved = from.moved in
              absurd (omega (arith, e, moved, bound, below))
        ]

-- each step but the last is a hint of a later one
trimmed_used : (cnf : Cnf) (log : List Step) (needed : List Bool) (places : List ℕ) (trimmed : List Step) → IsWhole cnf log needed places trimmed
    → (i : ℕ) → i + 1 < length log → IsMarked needed i → IsUsed trimmed (get_or places i 0) (length cnf.clauses + (get_or places i 0 + 1))
trimmed_used cnf log needed places trimmed whole i below marked =
    let hinted = whole.needs.used i marked below in
    let within = slice_get_within log hinted.place hinted.step hinted.there in
    record {
      place = get_or places hinted.place 0;
      later = whole.trimming.rising i hinted.place hinted.later within marked;
      step = trimmed_step (length cnf.clauses) places hinted.step;
      there = whole.trimming.forth hinted.place hinted.step within hinted.there hinted.marked;
      position = hinted.position;
      hint =
          mapped_get (renumbered (length cnf.clauses) places) hinted.step.hints hinted.position (length cnf.clauses + (i + 1)) hinted.hint
          ∙ ap Some (renumbered_step (length cnf.clauses) places (length cnf.clauses + (i + 1)) i refl);
    }

pub trimmed_lean : (cnf : Cnf) (log : List Step) (needed : List Bool) (places : List ℕ) (trimmed : List Step) (limit : ℕ) → IsWhole cnf log needed places trimmed
    → length log ≤ limit → Lean cnf trimmed limit
trimmed_lean cnf log needed places trimmed limit whole count =
    let closing = trimmed_closing cnf log needed places trimmed whole in
    let short = whole.trimming.short in
    record {
      count = omega (arith, short, count);
      nonempty = closing.nonempty;
      is_new = λ j step here. (closing.learnt j step here).is_new;
      used = λ j step here below.
          let from = whole.trimming.back j step here in
          subst (λ n. IsUsed trimmed n (length cnf.clauses + (n + 1))) from.moved
          (trimmed_used cnf log needed places trimmed whole from.origin (origin_before from below) from.marked);
      chained = λ j step here. (closing.learnt j step here).chain;
      named = λ j step here below. (closing.learnt j step here).named;
    }
  where
    origin_before : {j : ℕ} {step : Step} (from : IsFrom (length cnf.clauses) log needed (length log) places j step) → j + 1 < length trimmed → from.origin + 1 < length log
    origin_before {j} {step} from below =
        elim (within_or from.origin (length log)) [
          | inl before ↦ before
          | inr last ↦
              let within = from.within in
              let same : from.origin ≡ length log - 1 = omega (arith, last, within) in
              let e = ap (λ n. get_or places n 0) same in
              let moved = from.moved in
              let closing = trimmed_closing cnf log needed places trimmed whole in
              let top = slice_get_within trimmed (length trimmed - 1) closing.last closing.ends in
              let bound = last_place cnf log needed places trimmed whole (length trimmed - 1) closing.last closing.ends in
              absurd (omega (arith, e, moved, bound, below, top))
        ]
