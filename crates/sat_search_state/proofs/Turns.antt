-- Propagation of one entry, a clause at a time.
use Rattle.std.proofs.Common.{◌≡◌, ◌⊎◌, inl, inr, ℕ, zero, suc, ◌+◌, ◌-◌, ◌<◌, ◌≤◌, true, List, [], ◌∷◌, ◌++◌, Some, None, length, set, refl, ap, sym, ◌∙◌, subst, arith}
use Rattle.std.specs.Prelude.{slice_get}
use Rattle.std.specs.List.{list_all}
use Rattle.std.proofs.lemmas.Option.{slice_get_within, get_or_from_slice_get}
use Rattle.std.proofs.lemmas.List.{length-set, length_push}
use Rattle.std.proofs.lemmas.List.Sums.{AllPass-from_list_all}
use Rattle.cnf_core.specs.Codes.{code_of, code_within}
use Rattle.clause_check_spec.specs.declared.Literal.{Literal}
use Rattle.clause_check_spec.specs.Clause.{Clause, negation, is_of, are_of}
use Rattle.sat_search_spec.specs.declared.Entry.{Entry}
use Rattle.sat_search_spec.specs.declared.Watch.{Watch}
use Rattle.sat_search_spec.specs.declared.Watcher.{Watcher}
use Rattle.sat_search_spec.specs.Clauses.{Has}
use Rattle.sat_search_spec.specs.Trail.{Trailed, IsAt, IsAbsent, IsTrueBefore, IsForced, IsConflict}
use Rattle.sat_search_spec.specs.Watches.{IsSatisfied, IsGuarded, fixed, two, AreGuarded, Watched, list_of, IsListed, IsBlocker, IsRunning, IsTurning, IsElsewhere}
use Rattle.sat_search_spec.proofs.Members.{same_or_other, same_or_negated, negations_same, negation_twice, place_of, has_push}
use Rattle.sat_search_spec.proofs.Trails.{get_left, get_last, get_cases, some_same, trail_more}
use Rattle.sat_search_spec.proofs.Guards.{guarded_next, guarded_satisfied, guarded_moved, guarded_earlier, guarded_more, all_more}
use Rattle.sat_search_state.specs.Lists.{IsAdded, IsRemoved, IsReplaced}
use Rattle.sat_search_state.specs.Visits.{IsOpen, AreFalse, IsBeside, IsLooking}
use Rattle.sat_search_state.proofs.Changes.{set_cases, set_same, listed_added, listed_new, blockers_added, listed_replaced, blockers_replaced}

equal_or_other : (a b : ℕ) → (a ≡ b) ⊎ (a ≡ b → ⊥)
equal_or_other a b = grind arith

-- ---- literals of clauses

pub clause_of : (variables : ℕ) (clauses : List Clause) (i : ℕ) (clause : Clause) → are_of variables clauses ≡ true → slice_get clauses i ≡ Some clause
    → list_all (is_of variables) clause ≡ true
clause_of variables clauses i clause named here =
    subst (λ c. list_all (is_of variables) c ≡ true) (get_or_from_slice_get clauses i clause clause here)
    (AllPass-from_list_all (list_all (is_of variables)) clauses named i clause (slice_get_within clauses i clause here))

pub literal_of : (variables : ℕ) (clause : Clause) (l : Literal) → list_all (is_of variables) clause ≡ true → Has clause l → is_of variables l ≡ true
literal_of variables clause l named h =
    let at = place_of clause l h in
    subst (λ m. is_of variables m ≡ true) (get_or_from_slice_get clause at.0 l l at.1)
    (AllPass-from_list_all (is_of variables) clause named at.0 l (slice_get_within clause at.0 l at.1))

-- the list of a literal of the variables is there
pub code_below : (clauses : List Clause) (trail : Trailed) (watched : Watched) (l : Literal) → IsRunning clauses trail watched → is_of trail.variables l ≡ true → code_of l < length watched.lists
code_below clauses trail watched l running named =
    let within = code_within trail.variables l named in
    let below = within.1 in
    let room = running.room in
    omega (arith, below, room)

has_first : (clause : Clause) (trail : List Entry) (head : ℕ) (watch : Watch) → IsGuarded clause trail head watch → Has clause watch.first
has_first clause trail head watch (fixed f s satisfied) = f
has_first clause trail head watch (two f s other guard_first guard_second) = f

has_second : (clause : Clause) (trail : List Entry) (head : ℕ) (watch : Watch) → IsGuarded clause trail head watch → Has clause watch.second
has_second clause trail head watch (fixed f s satisfied) = s
has_second clause trail head watch (two f s other guard_first guard_second) = s

guarded_one : (clause : Clause) (trail : List Entry) (head : ℕ) (watch : Watch) → watch.first ≡ watch.second → IsGuarded clause trail head watch → IsGuarded clause trail (head + 1) watch
guarded_one clause trail head watch same (fixed f s satisfied) = fixed f s satisfied
guarded_one clause trail head watch same (two f s other guard_first guard_second) = absurd (other same)

-- ---- the start and the end of a turn

pub turn_start : (clauses : List Clause) (trail : Trailed) (watched : Watched) (entry : Entry) (falsified : Literal) → IsRunning clauses trail watched
    → slice_get trail.entries watched.head ≡ Some entry → falsified ≡ negation entry.literal → IsTurning clauses trail watched falsified 0
turn_start clauses trail watched entry falsified running here e = record {
  running = running;
  turned = record { entry = entry; there = here; same = true_now };
  after = λ i clause watch at there.
      elim (same_or_other watch.first falsified) [
        | inl first ↦
            elim (running.lists i watch there) [
              | inl same ↦ inl (guarded_one clause trail.entries watched.head watch same (running.guarded.guarded i clause watch at there))
              | inr listed ↦ inr (subst (λ l. IsListed (list_of watched.lists l) 0 i) first listed.0)
            ]
        | inr not_first ↦
            elim (same_or_other watch.second falsified) [
              | inl second ↦
                  elim (running.lists i watch there) [
                    | inl same ↦ inl (guarded_one clause trail.entries watched.head watch same (running.guarded.guarded i clause watch at there))
                    | inr listed ↦ inr (subst (λ l. IsListed (list_of watched.lists l) 0 i) second listed.1)
                  ]
              | inr not_second ↦
                  inl (guarded_next clause trail.entries watched.head watch entry here
                  (λ f. not_first (sym (negations_same falsified watch.first (sym true_now ∙ f))))
                  (λ f. not_second (sym (negations_same falsified watch.second (sym true_now ∙ f))))
                  (running.guarded.guarded i clause watch at there))
            ]
      ];
}
  where
    true_now : entry.literal ≡ negation falsified
    true_now = sym (negation_twice entry.literal) ∙ ap negation (sym e)

pub turn_end : (clauses : List Clause) (trail : Trailed) (watched : Watched) (falsified : Literal) (next : ℕ) → IsTurning clauses trail watched falsified next
    → slice_get (list_of watched.lists falsified) next ≡ None → IsRunning clauses trail (record watched { head = watched.head + 1 })
turn_end clauses trail watched falsified next turning none =
    let running = turning.running in record {
      sound = running.sound;
      guarded = record {
        count = running.guarded.count;
        guarded = λ i clause watch at there.
            elim (turning.after i clause watch at there) [
              | inl guarded ↦ guarded
              | inr listed ↦ absurd (past (list_of watched.lists falsified) next listed.place listed.watcher none listed.later listed.there)
            ];
      };
      lists = running.lists;
      blockers = running.blockers;
      room = running.room;
      within = let below = slice_get_within trail.entries watched.head turning.turned.entry turning.turned.there in omega (arith, below);
      pending = λ i entry h here. running.pending i entry (omega (arith, h)) here;
    }
  where
    past : (xs : List Watcher) (n k : ℕ) (w : Watcher) → slice_get xs n ≡ None → n ≤ k → slice_get xs k ≡ Some w → ⊥
    past [] n k w gone le there = cc
    past (x ∷ xs) zero k w gone le there = cc
    past (x ∷ xs) (suc n) zero w gone le there = omega (arith, le)
    past (x ∷ xs) (suc n) (suc k) w gone le there = past xs n k w gone (omega (arith, le)) there

-- ---- the clause of a watcher is guarded now

pub turn_more : (clauses : List Clause) (trail : Trailed) (watched : Watched) (falsified : Literal) (next : ℕ) (watcher : Watcher) → IsTurning clauses trail watched falsified next
    → slice_get (list_of watched.lists falsified) next ≡ Some watcher
    → ((clause : Clause) (watch : Watch) → slice_get clauses watcher.clause ≡ Some clause → slice_get watched.watches watcher.clause ≡ Some watch
    → IsGuarded clause trail.entries watched.head watch → IsGuarded clause trail.entries (watched.head + 1) watch)
    → IsTurning clauses trail watched falsified (next + 1)
turn_more clauses trail watched falsified next watcher turning here guards = record {
  running = turning.running;
  turned = turning.turned;
  after = λ i clause watch at there.
      elim (turning.after i clause watch at there) [
        | inl guarded ↦ inl guarded
        | inr listed ↦
            elim (equal_or_other listed.place next) [
              | inl same ↦
                  let is_watcher = some_same (list_of watched.lists falsified) listed.place next listed.watcher watcher same listed.there here in
                  let index : watcher.clause ≡ i = ap (λ (w : Watcher). w.clause) (sym is_watcher) ∙ listed.same in
                  inl (guards clause watch (ap (slice_get clauses) index ∙ at) (ap (slice_get watched.watches) index ∙ there)
                  (turning.running.guarded.guarded i clause watch at there))
              | inr apart ↦
                  let later = listed.later in
                  inr (record { place = listed.place; watcher = listed.watcher; later = omega (arith, later, apart); there = listed.there; same = listed.same })
            ]
      ];
}

satisfied_now : (clauses : List Clause) (trail : Trailed) (watched : Watched) (falsified : Literal) (next : ℕ) (clause : Clause) (place : ℕ) (l : Literal)
    → (turning : IsTurning clauses trail watched falsified next) → IsAt trail.entries place l → Has clause l → IsSatisfied clause trail.entries turning.turned.entry.level
satisfied_now clauses trail watched falsified next clause place l turning at has =
    let level = turning.running.pending watched.head turning.turned.entry (omega arith) turning.turned.there in
    let top = turning.running.sound.top place at.entry at.there in
    record {
      place = place;
      entry = at.entry;
      there = at.there;
      has = subst (λ m. Has clause m) (sym at.same) has;
      within = omega (arith, level, top);
    }

-- the blocker is true
pub turn_blocked : (clauses : List Clause) (trail : Trailed) (watched : Watched) (falsified : Literal) (next : ℕ) (watcher : Watcher) (place : ℕ)
    → IsTurning clauses trail watched falsified next → slice_get (list_of watched.lists falsified) next ≡ Some watcher → IsAt trail.entries place watcher.blocker
    → IsTurning clauses trail watched falsified (next + 1)
turn_blocked clauses trail watched falsified next watcher place turning here at =
    turn_more clauses trail watched falsified next watcher turning here
    (λ clause watch c w guarded.
    let blocker = turning.running.blockers falsified next watcher here in
    let same_some : Some blocker.clause ≡ Some clause = sym blocker.there ∙ c in
    let same : blocker.clause ≡ clause = cc in
    guarded_satisfied clause trail.entries watched.head watch turning.turned.entry turning.turned.there
    (satisfied_now clauses trail watched falsified next clause place watcher.blocker turning at (subst (λ x. Has x watcher.blocker) same blocker.has)) guarded)

-- a watched literal is true
pub turn_satisfied : (clauses : List Clause) (trail : Trailed) (watched : Watched) (falsified : Literal) (next : ℕ) (watcher : Watcher) (watch : Watch) (other : Literal) (place : ℕ)
    → IsTurning clauses trail watched falsified next → slice_get (list_of watched.lists falsified) next ≡ Some watcher
    → slice_get watched.watches watcher.clause ≡ Some watch → (other ≡ watch.first) ⊎ (other ≡ watch.second) → IsAt trail.entries place other
    → IsTurning clauses trail watched falsified (next + 1)
turn_satisfied clauses trail watched falsified next watcher watch other place turning here there sides at =
    turn_more clauses trail watched falsified next watcher turning here
    (λ clause w c w_there guarded.
    let same_some : Some w ≡ Some watch = sym w_there ∙ there in
    let same : w ≡ watch = cc in
    guarded_satisfied clause trail.entries watched.head w turning.turned.entry turning.turned.there
    (satisfied_now clauses trail watched falsified next clause place other turning at (has_side clause w guarded same sides)) guarded)
  where
    has_side : (clause : Clause) (w : Watch) → IsGuarded clause trail.entries watched.head w → w ≡ watch → (other ≡ watch.first) ⊎ (other ≡ watch.second) → Has clause other
    has_side clause w guarded same (inl e) =
        subst (λ l. Has clause l) (ap (λ (x : Watch). x.first) same ∙ sym e) (has_first clause trail.entries watched.head w guarded)
    has_side clause w guarded same (inr e) =
        subst (λ l. Has clause l) (ap (λ (x : Watch). x.second) same ∙ sym e) (has_second clause trail.entries watched.head w guarded)

-- both watches are the literal that became false: the clause was true before
pub turn_one : (clauses : List Clause) (trail : Trailed) (watched : Watched) (falsified : Literal) (next : ℕ) (watcher : Watcher) (watch : Watch)
    → IsTurning clauses trail watched falsified next → slice_get (list_of watched.lists falsified) next ≡ Some watcher
    → slice_get watched.watches watcher.clause ≡ Some watch → watch.first ≡ watch.second → IsTurning clauses trail watched falsified (next + 1)
turn_one clauses trail watched falsified next watcher watch turning here there e =
    turn_more clauses trail watched falsified next watcher turning here
    (λ clause w c w_there guarded.
    let same_some : Some w ≡ Some watch = sym w_there ∙ there in
    let same : w ≡ watch = cc in
    guarded_one clause trail.entries watched.head w (ap (λ (x : Watch). x.first) same ∙ e ∙ sym (ap (λ (x : Watch). x.second) same)) guarded)

-- the clause is watched at other literals
pub turn_elsewhere : (clauses : List Clause) (trail : Trailed) (watched : Watched) (falsified : Literal) (next : ℕ) (watcher : Watcher)
    → IsTurning clauses trail watched falsified next → slice_get (list_of watched.lists falsified) next ≡ Some watcher → IsElsewhere watched watcher.clause falsified
    → IsTurning clauses trail watched falsified (next + 1)
turn_elsewhere clauses trail watched falsified next watcher turning here elsewhere =
    turn_more clauses trail watched falsified next watcher turning here
    (λ clause w c w_there guarded.
    let same_some : Some w ≡ Some elsewhere.watch = sym w_there ∙ elsewhere.there in
    let same : w ≡ elsewhere.watch = cc in
    guarded_next clause trail.entries watched.head w turning.turned.entry turning.turned.there
    (λ f. elsewhere.first (sym (ap (λ (x : Watch). x.first) same) ∙ sym (negations_same falsified w.first (sym turning.turned.same ∙ f))))
    (λ f. elsewhere.second (sym (ap (λ (x : Watch). x.second) same) ∙ sym (negations_same falsified w.second (sym turning.turned.same ∙ f))))
    guarded)

-- ---- a look at the clause

-- the clause that is looked at, and the literal that is left
pub record IsSeen (clauses : List Clause) (trail : Trailed) (watched : Watched) (watcher : Watcher) (watch : Watch) (other : Literal) : Type 0 where
  pub clause : Clause
  pub there : slice_get clauses watcher.clause ≡ Some clause
  pub guarded : IsGuarded clause trail.entries watched.head watch
  pub has : Has clause other
  pub side : (other ≡ watch.first) ⊎ (other ≡ watch.second)

pub seen : (clauses : List Clause) (trail : Trailed) (watched : Watched) (falsified : Literal) (next : ℕ) (watcher : Watcher) (other : Literal)
    → (beside : IsBeside clauses trail watched falsified next watcher other) → IsSeen clauses trail watched watcher beside.watch other
seen clauses trail watched falsified next watcher other beside =
    let blocker = beside.turning.running.blockers falsified next watcher beside.there in
    let guarded = beside.turning.running.guarded.guarded watcher.clause blocker.clause beside.watch blocker.there beside.watched_there in
    elim beside.sides [
      | inl e ↦
          record {
            clause = blocker.clause;
            there = blocker.there;
            guarded = guarded;
            has = subst (λ l. Has blocker.clause l) e.1 (has_second blocker.clause trail.entries watched.head beside.watch guarded);
            side = inr (sym e.1);
          }
      | inr e ↦
          record {
            clause = blocker.clause;
            there = blocker.there;
            guarded = guarded;
            has = subst (λ l. Has blocker.clause l) e.1 (has_first blocker.clause trail.entries watched.head beside.watch guarded);
            side = inl (sym e.1);
          }
    ]

pub other_of_variables : (clauses : List Clause) (trail : Trailed) (watched : Watched) (falsified : Literal) (next : ℕ) (watcher : Watcher) (other : Literal)
    → IsBeside clauses trail watched falsified next watcher other → is_of trail.variables other ≡ true
other_of_variables clauses trail watched falsified next watcher other beside =
    let see = seen clauses trail watched falsified next watcher other beside in
    literal_of trail.variables see.clause other
    (clause_of trail.variables clauses watcher.clause see.clause beside.turning.running.sound.of_variables see.there) see.has

-- all literals are false
pub turn_fails : (clauses : List Clause) (trail : Trailed) (watched : Watched) (falsified : Literal) (next : ℕ) (watcher : Watcher) (other : Literal) (clause : Clause) (place : ℕ)
    → IsLooking clauses trail watched falsified next watcher other → slice_get clauses watcher.clause ≡ Some clause → AreFalse clause trail other
    → IsAt trail.entries place (negation other) → IsConflict clauses trail.entries (watcher.clause + 1)
turn_fails clauses trail watched falsified next watcher other clause place looking here all_false at = record {
  clause = clause;
  numbered = record { positive = omega arith; there = ap (slice_get clauses) (let e : watcher.clause + 1 - 1 ≡ watcher.clause = omega arith in e) ∙ here };
  negated = λ l h.
      elim (all_false l h) [
        | inl e ↦
            record {
              place = place;
              entry = at.entry;
              earlier = slice_get_within trail.entries place at.entry at.there;
              there = at.there;
              same = at.same ∙ ap negation (sym e);
            }
        | inr before ↦ before
      ];
}

-- all but one are false, which has no value
abbrev pub forced_entry : Trailed → Watcher → Literal → Entry
forced_entry trail watcher other = record { literal = other; reason = watcher.clause + 1; level = trail.level }

pub turn_forced : (clauses : List Clause) (trail : Trailed) (watched : Watched) (falsified : Literal) (next : ℕ) (watcher : Watcher) (other : Literal) (clause : Clause)
    → IsLooking clauses trail watched falsified next watcher other → slice_get clauses watcher.clause ≡ Some clause → AreFalse clause trail other
    → IsAbsent trail.entries (negation other)
    → IsTurning clauses (record trail { entries = trail.entries ++ forced_entry trail watcher other ∷ [] }) watched falsified (next + 1)
turn_forced clauses trail watched falsified next watcher other clause looking here all_false not_false =
    let turning = looking.beside.turning in
    let running = turning.running in
    let see = seen clauses trail watched falsified next watcher other looking.beside in
    let head_below = slice_get_within trail.entries watched.head turning.turned.entry turning.turned.there in
    let count = length_push trail.entries (forced_entry trail watcher other) in
    let running_more : IsRunning clauses (record trail { entries = trail.entries ++ forced_entry trail watcher other ∷ [] }) watched = record {
      sound = record {
        of_variables = running.sound.of_variables;
        is_trail =
            trail_more trail.variables clauses trail.entries (forced_entry trail watcher other) running.sound.is_trail
            (other_of_variables clauses trail watched falsified next watcher other looking.beside) fresh running.sound.top
            (λ positive. is_forced see) (λ zero_reason. absurd (omega (arith, zero_reason)));
        top = λ i entry at.
            elim (get_cases trail.entries (forced_entry trail watcher other) i entry at) [
              | inl before ↦ running.sound.top i entry before
              | inr last ↦ let level = ap (λ (e : Entry). e.level) last.1 in omega (arith, level)
            ];
      };
      guarded = all_more clauses trail.entries (forced_entry trail watcher other) watched.head watched.watches (omega (arith, head_below)) running.guarded;
      lists = running.lists;
      blockers = running.blockers;
      room = running.room;
      within = omega (arith, head_below, count);
      pending = λ i entry h at.
          elim (get_cases trail.entries (forced_entry trail watcher other) i entry at) [
            | inl before ↦ running.pending i entry h before
            | inr last ↦ ap (λ (e : Entry). e.level) last.1
          ];
    }
    in
    let turning_more : IsTurning clauses (record trail { entries = trail.entries ++ forced_entry trail watcher other ∷ [] }) watched falsified next = record {
      running = running_more;
      turned = record {
        entry = turning.turned.entry;
        there = get_left trail.entries (forced_entry trail watcher other) watched.head turning.turned.entry turning.turned.there;
        same = turning.turned.same;
      };
      after = λ i c w at there.
          elim (turning.after i c w at there) [
            | inl guarded ↦ inl (guarded_more c trail.entries (forced_entry trail watcher other) (watched.head + 1) w (omega (arith, head_below)) guarded)
            | inr listed ↦ inr listed
          ];
    }
    in
    turn_satisfied clauses (record trail { entries = trail.entries ++ forced_entry trail watcher other ∷ [] }) watched falsified next watcher looking.beside.watch other (length trail.entries)
    turning_more looking.beside.there looking.beside.watched_there see.side
    (record { entry = forced_entry trail watcher other; there = get_last trail.entries (forced_entry trail watcher other); same = refl })
  where
    fresh : (i : ℕ) (a : Entry) → slice_get trail.entries i ≡ Some a → a.literal.variable ≡ other.variable → ⊥
    fresh i a at e =
        elim (same_or_negated a.literal other e) [
          | inl same ↦ looking.not_true i a at same
          | inr negated ↦ not_false i a at negated
        ]

    is_forced : IsSeen clauses trail watched watcher looking.beside.watch other → IsForced clauses trail.entries (length trail.entries) other (watcher.clause + 1)
    is_forced see =
        let same_some : Some see.clause ≡ Some clause = sym see.there ∙ here in
        let same : see.clause ≡ clause = cc in
        record {
          clause = clause;
          numbered = record { positive = omega arith; there = ap (slice_get clauses) (let e : watcher.clause + 1 - 1 ≡ watcher.clause = omega arith in e) ∙ here };
          has = subst (λ c. Has c other) same see.has;
          others = all_false;
        }

-- ---- a watch that moves

pub turn_moved : (clauses : List Clause) (trail : Trailed) (old new : Watched) (falsified : Literal) (next : ℕ) (watcher moved : Watcher) (watch : Watch)
    → (looking : IsLooking clauses trail old falsified next watcher watch.second)
    → ((clause : Clause) → slice_get clauses watcher.clause ≡ Some clause → IsOpen clause trail watch.second watch.first)
    → new.watches ≡ set old.watches watcher.clause watch → new.head ≡ old.head → length new.lists ≡ length old.lists
    → moved.clause ≡ watcher.clause → moved.blocker ≡ watch.second → IsAdded old.lists new.lists watch.first moved
    → IsTurning clauses trail new falsified (next + 1) × IsElsewhere new watcher.clause falsified × (list_of new.lists falsified ≡ list_of old.lists falsified)
turn_moved clauses trail old new falsified next watcher moved watch looking is_open e head room moved_clause moved_blocker added =
    let turning = looking.beside.turning in
    let running = turning.running in
    let see = seen clauses trail old falsified next watcher watch.second looking.beside in
    let opened = is_open see.clause see.there in
    let below = slice_get_within old.watches watcher.clause looking.beside.watch looking.beside.watched_there in
    let not_falsified : watch.first ≡ falsified → ⊥ =
    λ f. opened.not_false old.head turning.turned.entry turning.turned.there (turning.turned.same ∙ ap negation (sym f))
    in
    let same_list : list_of new.lists falsified ≡ list_of old.lists falsified = added.others falsified (λ f. not_falsified (sym f)) in
    let guarded_now : IsGuarded see.clause trail.entries (old.head + 1) watch =
    guarded_moved see.clause trail.entries old.head looking.beside.watch watch turning.turned.entry turning.turned.there see.side
    (λ f. looking.apart (sym (negations_same falsified watch.second (sym turning.turned.same ∙ f))))
    opened.has opened.apart opened.not_false see.guarded
    in (
      record {
        running = record {
          sound = running.sound;
          guarded = record {
            count = ap length e ∙ length-set old.watches watcher.clause watch ∙ running.guarded.count;
            guarded = λ i clause w at there.
                subst (λ n. IsGuarded clause trail.entries n w) (sym head)
                (elim (set_cases old.watches watcher.clause i watch w below (ap (λ ws. slice_get ws i) (sym e) ∙ there)) as (λ _. IsGuarded clause trail.entries old.head w) [
                  | inl here ↦
                      let same_some : Some see.clause ≡ Some clause = sym see.there ∙ ap (slice_get clauses) (sym here.0) ∙ at in
                      let same : see.clause ≡ clause = cc in
                      subst (λ x. IsGuarded clause trail.entries old.head x) (sym here.1)
                      (subst (λ c. IsGuarded c trail.entries old.head watch) same (guarded_earlier see.clause trail.entries old.head watch guarded_now))
                  | inr other ↦ running.guarded.guarded i clause w at other.1
                ]);
          };
          lists = λ i w there.
              elim (set_cases old.watches watcher.clause i watch w below (ap (λ ws. slice_get ws i) (sym e) ∙ there)) [
                | inl here ↦
                    inr (
                      subst (λ (x : Watch). IsListed (list_of new.lists x.first) 0 i) (sym here.1)
                          (subst (λ n. IsListed (list_of new.lists watch.first) 0 n) (moved_clause ∙ sym here.0) (listed_new old.lists new.lists watch.first moved added)),
                      subst (λ (x : Watch). IsListed (list_of new.lists x.second) 0 i) (sym here.1)
                          (subst (λ n. IsListed (list_of new.lists watch.second) 0 n) (sym here.0)
                          (listed_added old.lists new.lists watch.first moved added watch.second 0 watcher.clause (other_listed looking))),
                    )
                | inr other ↦
                    elim (running.lists i w other.1) [
                      | inl same ↦ inl same
                      | inr both ↦
                          inr (listed_added old.lists new.lists watch.first moved added w.first 0 i both.0, listed_added old.lists new.lists watch.first moved added w.second 0 i both.1)
                    ]
              ];
          blockers =
              blockers_added clauses old.lists new.lists watch.first moved added
              (record {
                clause = see.clause;
                there = ap (slice_get clauses) moved_clause ∙ see.there;
                has = subst (λ l. Has see.clause l) (sym moved_blocker) see.has;
              }) running.blockers;
          room = room ∙ running.room;
          within = let h = running.within in omega (arith, h, head);
          pending = λ i entry h at. running.pending i entry (omega (arith, h, head)) at;
        };
        turned = subst (λ n. IsAt trail.entries n (negation falsified)) (sym head) turning.turned;
        after = λ i clause w at there.
            elim (set_cases old.watches watcher.clause i watch w below (ap (λ ws. slice_get ws i) (sym e) ∙ there)) [
              | inl here ↦
                  let same_some : Some see.clause ≡ Some clause = sym see.there ∙ ap (slice_get clauses) (sym here.0) ∙ at in
                  let same : see.clause ≡ clause = cc in
                  inl (subst (λ n. IsGuarded clause trail.entries (n + 1) w) (sym head)
                  (subst (λ x. IsGuarded clause trail.entries (old.head + 1) x) (sym here.1)
                  (subst (λ c. IsGuarded c trail.entries (old.head + 1) watch) same guarded_now)))
              | inr other ↦
                  elim (turning.after i clause w at other.1) [
                    | inl guarded ↦ inl (subst (λ n. IsGuarded clause trail.entries (n + 1) w) (sym head) guarded)
                    | inr listed ↦
                        inr (subst (λ xs. IsListed xs (next + 1) i) (sym same_list)
                        (later_listed i other.0 listed))
                  ]
            ];
      },
      record {
        watch = watch;
        there = ap (λ ws. slice_get ws watcher.clause) e ∙ set_same old.watches watcher.clause watch below;
        first = not_falsified;
        second = looking.apart;
      },
      same_list,
    )
  where
    other_listed : IsLooking clauses trail old falsified next watcher watch.second → IsListed (list_of old.lists watch.second) 0 watcher.clause
    other_listed look =
        elim (look.beside.turning.running.lists watcher.clause look.beside.watch look.beside.watched_there) [
          | inl same ↦
              elim look.beside.sides [
                | inl s ↦ absurd (look.apart (sym s.1 ∙ sym same ∙ s.0))
                | inr s ↦ absurd (look.apart (sym s.1 ∙ same ∙ s.0))
              ]
          | inr both ↦
              elim look.beside.sides [
                | inl s ↦ subst (λ l. IsListed (list_of old.lists l) 0 watcher.clause) s.1 both.1
                | inr s ↦ subst (λ l. IsListed (list_of old.lists l) 0 watcher.clause) s.1 both.0
              ]
        ]

    later_listed : (i : ℕ) → (i ≡ watcher.clause → ⊥) → IsListed (list_of old.lists falsified) next i → IsListed (list_of old.lists falsified) (next + 1) i
    later_listed i apart listed =
        elim (equal_or_other listed.place next) [
          | inl same ↦
              let is_watcher = some_same (list_of old.lists falsified) listed.place next listed.watcher watcher same listed.there looking.beside.there in
              absurd (apart (sym listed.same ∙ ap (λ (w : Watcher). w.clause) is_watcher))
          | inr other ↦
              let later = listed.later in
              record { place = listed.place; watcher = listed.watcher; later = omega (arith, later, other); there = listed.there; same = listed.same }
        ]

-- ---- a watcher that leaves

pub turn_removed : (clauses : List Clause) (trail : Trailed) (old new : Watched) (falsified : Literal) (next : ℕ) (watcher : Watcher)
    → IsTurning clauses trail old falsified (next + 1) → IsElsewhere old watcher.clause falsified → slice_get (list_of old.lists falsified) next ≡ Some watcher
    → new.watches ≡ old.watches → new.head ≡ old.head → length new.lists ≡ length old.lists → IsRemoved old.lists new.lists falsified next
    → IsTurning clauses trail new falsified next
turn_removed clauses trail old new falsified next watcher turning elsewhere here e head room is_removed =
    let running = turning.running in record {
      running = record {
        sound = running.sound;
        guarded =
            subst (λ n. AreGuarded clauses trail.entries n new.watches) (sym head) (subst (λ ws. AreGuarded clauses trail.entries old.head ws) (sym e) running.guarded);
        lists = λ i w there.
            let was : slice_get old.watches i ≡ Some w = ap (λ ws. slice_get ws i) (sym e) ∙ there in
            elim (running.lists i w was) [
              | inl same ↦ inl same
              | inr both ↦
                  inr (
                    listed_still i w.first (λ index f. elsewhere.first (ap (λ (x : Watch). x.first) (watch_is i w was index) ∙ f)) both.0,
                    listed_still i w.second (λ index f. elsewhere.second (ap (λ (x : Watch). x.second) (watch_is i w was index) ∙ f)) both.1,
                  )
            ];
        blockers = λ l k w there.
            elim (same_or_other l falsified) [
              | inl f ↦
                  let was = is_removed.here.back k w (subst (λ m. slice_get (list_of new.lists m) k ≡ Some w) f there) in
                  running.blockers falsified was.place w was.there
              | inr apart ↦ running.blockers l k w (ap (λ xs. slice_get xs k) (sym (is_removed.others l apart)) ∙ there)
            ];
        room = room ∙ running.room;
        within = let h = running.within in omega (arith, h, head);
        pending = λ i entry h at. running.pending i entry (omega (arith, h, head)) at;
      };
      turned = subst (λ n. IsAt trail.entries n (negation falsified)) (sym head) turning.turned;
      after = λ i clause w at there.
          elim (turning.after i clause w at (ap (λ ws. slice_get ws i) (sym e) ∙ there)) [
            | inl guarded ↦ inl (subst (λ n. IsGuarded clause trail.entries (n + 1) w) (sym head) guarded)
            | inr listed ↦
                let later = listed.later in
                let still = is_removed.here.stays listed.place listed.watcher listed.there (λ f. absurd (omega (arith, f, later))) in
                inr (record { place = still.now; watcher = listed.watcher; later = still.later (omega (arith, later)); there = still.there; same = listed.same })
          ];
    }
  where
    watch_is : (i : ℕ) (w : Watch) → slice_get old.watches i ≡ Some w → i ≡ watcher.clause → elsewhere.watch ≡ w
    watch_is i w was index = some_same old.watches watcher.clause i elsewhere.watch w (sym index) elsewhere.there was

    listed_still : (i : ℕ) (l : Literal) → (i ≡ watcher.clause → l ≡ falsified → ⊥) → IsListed (list_of old.lists l) 0 i → IsListed (list_of new.lists l) 0 i
    listed_still i l other listed =
        elim (same_or_other l falsified) [
          | inl f ↦
              let there = subst (λ m. slice_get (list_of old.lists m) listed.place ≡ Some listed.watcher) f listed.there in
              let still =
              is_removed.here.stays listed.place listed.watcher there
              (λ g. other (sym listed.same ∙ ap (λ (x : Watcher). x.clause) (some_same (list_of old.lists falsified) listed.place next listed.watcher watcher g there here)) f)
              in
              record {
                place = still.now;
                watcher = listed.watcher;
                later = omega arith;
                there = subst (λ m. slice_get (list_of new.lists m) still.now ≡ Some listed.watcher) (sym f) still.there;
                same = listed.same;
              }
          | inr apart ↦ subst (λ xs. IsListed xs 0 i) (sym (is_removed.others l apart)) listed
        ]

-- ---- a watcher with another blocker

pub turn_replaced : (clauses : List Clause) (trail : Trailed) (old new : Watched) (falsified : Literal) (next : ℕ) (watcher blocked : Watcher)
    → IsTurning clauses trail old falsified (next + 1) → slice_get (list_of old.lists falsified) next ≡ Some watcher → blocked.clause ≡ watcher.clause → IsBlocker clauses blocked
    → new.watches ≡ old.watches → new.head ≡ old.head → length new.lists ≡ length old.lists → IsReplaced old.lists new.lists falsified next blocked
    → IsTurning clauses trail new falsified (next + 1)
turn_replaced clauses trail old new falsified next watcher blocked turning here same_clause blocker e head room is_replaced =
    let running = turning.running in
    let still = listed_replaced old.lists new.lists falsified next watcher blocked is_replaced here same_clause in
    record {
      running = record {
        sound = running.sound;
        guarded =
            subst (λ n. AreGuarded clauses trail.entries n new.watches) (sym head) (subst (λ ws. AreGuarded clauses trail.entries old.head ws) (sym e) running.guarded);
        lists = λ i w there.
            elim (running.lists i w (ap (λ ws. slice_get ws i) (sym e) ∙ there)) [
              | inl same ↦ inl same
              | inr both ↦ inr (still w.first 0 i both.0, still w.second 0 i both.1)
            ];
        blockers =
            blockers_replaced clauses old.lists new.lists falsified next watcher blocked is_replaced here blocker running.blockers;
        room = room ∙ running.room;
        within = let h = running.within in omega (arith, h, head);
        pending = λ i entry h at. running.pending i entry (omega (arith, h, head)) at;
      };
      turned = subst (λ n. IsAt trail.entries n (negation falsified)) (sym head) turning.turned;
      after = λ i clause w at there.
          elim (turning.after i clause w at (ap (λ ws. slice_get ws i) (sym e) ∙ there)) [
            | inl guarded ↦ inl (subst (λ n. IsGuarded clause trail.entries (n + 1) w) (sym head) guarded)
            | inr listed ↦ inr (still falsified (next + 1) i listed)
          ];
    }

-- ---- the other watch settles it

pub beside_stays : (clauses : List Clause) (trail : Trailed) (watched : Watched) (falsified : Literal) (next : ℕ) (watcher : Watcher) (other : Literal)
    → IsBeside clauses trail watched falsified next watcher other → (other ≡ falsified) ⊎ ((place : ℕ) × IsAt trail.entries place other)
    → IsTurning clauses trail watched falsified (next + 1)
beside_stays clauses trail watched falsified next watcher other beside (inl e) =
    turn_one clauses trail watched falsified next watcher beside.watch beside.turning beside.there beside.watched_there
    (elim beside.sides [ inl s ↦ s.0 ∙ sym e ∙ sym s.1 | inr s ↦ s.1 ∙ e ∙ sym s.0 ])
beside_stays clauses trail watched falsified next watcher other beside (inr at) =
    turn_satisfied clauses trail watched falsified next watcher beside.watch other at.0 beside.turning beside.there beside.watched_there
    (elim beside.sides [ inl s ↦ inr (sym s.1) | inr s ↦ inl (sym s.1) ]) at.1

-- the first literals of a clause
pub false_more : (clause : Clause) (trail : Trailed) (other l : Literal) → AreFalse clause trail other
    → (l ≡ other) ⊎ IsTrueBefore trail.entries (length trail.entries) (negation l) → AreFalse (clause ++ l ∷ []) trail other
false_more clause trail other l all_false one m h =
    elim (has_push clause l m h) [
      | inl there ↦ all_false m there
      | inr e ↦ subst (λ x. (x ≡ other) ⊎ IsTrueBefore trail.entries (length trail.entries) (negation x)) (sym e) one
    ]

-- ---- indices and codes

pub clause_below : (clauses : List Clause) (trail : Trailed) (watched : Watched) (falsified : Literal) (next : ℕ) (watcher : Watcher) → IsTurning clauses trail watched falsified next
    → slice_get (list_of watched.lists falsified) next ≡ Some watcher → watcher.clause < length clauses
clause_below clauses trail watched falsified next watcher turning here =
    let blocker = turning.running.blockers falsified next watcher here in
    slice_get_within clauses watcher.clause blocker.clause blocker.there

pub watch_below : (clauses : List Clause) (trail : Trailed) (watched : Watched) (falsified : Literal) (next : ℕ) (watcher : Watcher) → IsTurning clauses trail watched falsified next
    → slice_get (list_of watched.lists falsified) next ≡ Some watcher → watcher.clause < length watched.watches
watch_below clauses trail watched falsified next watcher turning here =
    let below = clause_below clauses trail watched falsified next watcher turning here in
    let count = turning.running.guarded.count in
    omega (arith, below, count)

pub blocker_named : (clauses : List Clause) (trail : Trailed) (watched : Watched) (falsified : Literal) (next : ℕ) (watcher : Watcher) → IsTurning clauses trail watched falsified next
    → slice_get (list_of watched.lists falsified) next ≡ Some watcher → is_of trail.variables watcher.blocker ≡ true
blocker_named clauses trail watched falsified next watcher turning here =
    let blocker = turning.running.blockers falsified next watcher here in
    literal_of trail.variables blocker.clause watcher.blocker
    (clause_of trail.variables clauses watcher.clause blocker.clause turning.running.sound.of_variables blocker.there) blocker.has

-- the literal that became false is of the variables
pub falsified_code : (clauses : List Clause) (trail : Trailed) (watched : Watched) (falsified : Literal) (next : ℕ) → IsTurning clauses trail watched falsified next
    → code_of falsified < length watched.lists
falsified_code clauses trail watched falsified next turning =
    code_below clauses trail watched falsified turning.running
    (subst (λ l. is_of trail.variables l ≡ true) turning.turned.same
    (turning.running.sound.is_trail.of_variables watched.head turning.turned.entry turning.turned.there))

pub open_code : (clauses : List Clause) (trail : Trailed) (watched : Watched) (falsified : Literal) (next : ℕ) (watcher : Watcher) (other first : Literal)
    → IsLooking clauses trail watched falsified next watcher other
    → ((clause : Clause) → slice_get clauses watcher.clause ≡ Some clause → IsOpen clause trail other first) → code_of first < length watched.lists
open_code clauses trail watched falsified next watcher other first looking is_open =
    let see = seen clauses trail watched falsified next watcher other looking.beside in
    let opened = is_open see.clause see.there in
    code_below clauses trail watched first looking.beside.turning.running
    (literal_of trail.variables see.clause first
    (clause_of trail.variables clauses watcher.clause see.clause looking.beside.turning.running.sound.of_variables see.there) opened.has)
