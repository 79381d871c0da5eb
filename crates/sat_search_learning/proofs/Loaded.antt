-- The clauses that a search begins with.
use Rattle.std.proofs.Common.{◌≡◌, ◌⊎◌, inl, inr, ℕ, zero, suc, ◌+◌, ◌-◌, ◌*◌, ◌<◌, ◌≤◌, Bool, true, false, List, [], ◌∷◌, ◌++◌, Some, None, length, map, take, drop, refl, ap, sym, ◌∙◌, subst, arith}
use Rattle.std.specs.Prelude.{slice_get, ◌&&◌}
use Rattle.std.specs.List.{list_all}
use Rattle.std.specs.Prelude.{◌==◌}
use Rattle.std.proofs.lemmas.Option.{slice_get_within, get_or_from_slice_get}
use Rattle.std.proofs.lemmas.Bool.Decides.{nat_tests}
use Rattle.cnf_core.specs.Codes.{code_of, code_within}
use Rattle.std.proofs.lemmas.List.{length_push, take_more, take-append-drop, map-id}
use Rattle.std.proofs.lemmas.List.Folds.{list_all-append}
use Rattle.clause_check_spec.specs.declared.Literal.{Literal}
use Rattle.clause_check_spec.specs.Clause.{Clause, Cnf, negation, is_of, are_of}
use Rattle.clause_check_spec.specs.Log.{Step}
use Rattle.sat_search_spec.specs.declared.Entry.{Entry}
use Rattle.sat_search_spec.specs.declared.Watch.{Watch}
use Rattle.sat_search_spec.specs.Clauses.{Has, Numbered}
use Rattle.sat_search_spec.specs.Chain.{Chain}
use Rattle.sat_search_spec.specs.Logs.{IsClosing}
use Rattle.sat_search_spec.specs.Trail.{Trailed, IsAt, IsAbsent, IsTrueBefore, IsForced, IsTrail, IsSound, IsConflict}
use Rattle.sat_search_spec.specs.Watches.{IsGuarded, AreGuarded, AreBlockers, Watched, IsRunning}
use Rattle.sat_search_spec.proofs.Members.{and_both, has_nothing, has_push}
use Rattle.sat_search_spec.proofs.Trails.{get_left, get_last, get_cases, numbered_more, trail_more, trail_clauses}
use Rattle.sat_search_spec.proofs.Guards.{guarded_first, guarded_fixed, all_more, all_with}
use Rattle.sat_search_spec.proofs.Logs.{no_steps}
use Rattle.sat_search_spec.proofs.Trims.{chain_moved}
use Rattle.sat_search_state.specs.Lists.{IsAttached}
use Rattle.sat_search_analysis.specs.Explained.{IsEmptyLearnt}
use Rattle.sat_search_learning.specs.Search.{IsUnit, IsTrueUnit, AreSame}
use Rattle.sat_search_learning.proofs.Levels.{fresh}
use Rattle.sat_search_learning.proofs.Learnt.{closing_log}

-- ---- one more clause

pub named_with : (variables : ℕ) (clauses : List Clause) (clause : Clause) → are_of variables clauses ≡ true → list_all (is_of variables) clause ≡ true
    → are_of variables (clauses ++ clause ∷ []) ≡ true
named_with variables clauses clause all one =
    list_all-append (list_all (is_of variables)) clauses (clause ∷ [])
    ∙ and_both (are_of variables clauses) (list_all (is_of variables) clause && true) all (and_both (list_all (is_of variables) clause) true one refl)

pub sound_with : (clauses : List Clause) (trail : Trailed) (clause : Clause) → IsSound clauses trail → list_all (is_of trail.variables) clause ≡ true → IsSound (clauses ++ clause ∷ []) trail
sound_with clauses trail clause sound named = record {
  of_variables = named_with trail.variables clauses clause sound.of_variables named;
  is_trail = trail_clauses trail.variables clauses clause trail.entries sound.is_trail;
  top = sound.top;
}

pub running_with : (clauses : List Clause) (trail : Trailed) (old new : Watched) (clause : Clause) (watch : Watch) → IsRunning clauses trail old
    → list_all (is_of trail.variables) clause ≡ true → IsAttached old new watch → Has clause watch.first → Has clause watch.second
    → IsGuarded clause trail.entries old.head watch → IsRunning (clauses ++ clause ∷ []) trail new
running_with clauses trail old new clause watch running named attached first second one = record {
  sound = sound_with clauses trail clause running.sound named;
  guarded =
      subst (λ n. AreGuarded (clauses ++ clause ∷ []) trail.entries n new.watches) (sym attached.head)
      (subst (λ ws. AreGuarded (clauses ++ clause ∷ []) trail.entries old.head ws) (sym attached.watches)
      (all_with clauses trail.entries old.head old.watches clause watch running.guarded one));
  lists = attached.lists running.lists;
  blockers = attached.blockers clauses clause (sym running.guarded.count) first second running.blockers;
  room = attached.room ∙ running.room;
  within = let h = attached.head in let w = running.within in omega (arith, h, w);
  pending = λ i entry h at. running.pending i entry (let e = attached.head in omega (arith, e, h)) at;
}

-- two literals are watched, before anything was propagated
pub loaded_two : (clauses : List Clause) (trail : Trailed) (old new : Watched) (clause : Clause) (watch : Watch) → IsRunning clauses trail old → old.head ≡ 0
    → list_all (is_of trail.variables) clause ≡ true → IsAttached old new watch → Has clause watch.first → Has clause watch.second → (watch.second ≡ watch.first → ⊥)
    → IsRunning (clauses ++ clause ∷ []) trail new
loaded_two clauses trail old new clause watch running head named attached first second apart =
    running_with clauses trail old new clause watch running named attached first second
    (subst (λ n. IsGuarded clause trail.entries n watch) (sym head) (guarded_first clause trail.entries watch first second (λ e. apart (sym e))))

-- ---- a unit clause

pub unit_true : (clauses : List Clause) (trail : Trailed) (watched : Watched) (l : Literal) (place : ℕ) → IsUnit clauses trail watched l → IsAt trail.entries place l
    → IsTrueUnit clauses trail watched l
unit_true clauses trail watched l place unit at = record {
  given = unit.given;
  clause = unit.clause;
  clauses_are = unit.clauses_are;
  sound = subst (λ c. IsSound c trail) (sym unit.clauses_are) (sound_with unit.given trail unit.clause unit.running.sound unit.of_variables);
  guarded = unit.running.guarded;
  lists = unit.running.lists;
  blockers = unit.running.blockers;
  room = unit.running.room;
  first = unit.first;
  undecided = unit.undecided;
  has = unit.has;
  place = place;
  at = at;
}

pub unit_forced : (clauses : List Clause) (trail : Trailed) (watched : Watched) (l : Literal) (number : ℕ) → IsUnit clauses trail watched l → number ≡ length clauses
    → is_of trail.variables l ≡ true → IsAbsent trail.entries l → IsAbsent trail.entries (negation l)
    → IsTrueUnit clauses (record trail { entries = trail.entries ++ (record { literal = l; reason = number; level = trail.level }) ∷ [] }) watched l
unit_forced clauses trail watched l number unit e named not_true not_false = record {
  given = unit.given;
  clause = unit.clause;
  clauses_are = unit.clauses_are;
  sound = record {
    of_variables = sound.of_variables;
    is_trail =
        trail_more trail.variables clauses trail.entries entry sound.is_trail named (fresh trail l not_true not_false)
        (λ i a at. sound.top i a at) (λ positive. is_forced)
        (λ none. absurd (omega (arith, none, e, count)));
    top = λ i a at.
        elim (get_cases trail.entries entry i a at) [
          | inl before ↦ sound.top i a before
          | inr last ↦ let level = ap (λ (x : Entry). x.level) last.1 in omega (arith, level)
        ];
  };
  guarded = all_more unit.given trail.entries entry watched.head watched.watches unit.running.within unit.running.guarded;
  lists = unit.running.lists;
  blockers = unit.running.blockers;
  room = unit.running.room;
  first = unit.first;
  undecided = unit.undecided;
  has = unit.has;
  place = length trail.entries;
  at = record { entry = entry; there = get_last trail.entries entry; same = refl };
}
  where
    entry : Entry
    entry = record { literal = l; reason = number; level = trail.level }

    sound : IsSound clauses trail
    sound = subst (λ c. IsSound c trail) (sym unit.clauses_are) (sound_with unit.given trail unit.clause unit.running.sound unit.of_variables)

    count : length clauses ≡ length unit.given + 1
    count = ap length unit.clauses_are ∙ length_push unit.given unit.clause

    is_forced : IsForced clauses trail.entries (length trail.entries) l number
    is_forced = record {
      clause = unit.clause;
      numbered = record {
        positive = omega (arith, e, count);
        there =
            ap (slice_get clauses) (let n : number - 1 ≡ length unit.given = omega (arith, e, count) in n)
            ∙ ap (λ c. slice_get c (length unit.given)) unit.clauses_are ∙ get_last unit.given unit.clause;
      };
      has = unit.has;
      others = λ m h. inl (unit.same m h);
    }

-- the literal is true before every decision
pub loaded_one : (clauses : List Clause) (trail : Trailed) (old new : Watched) (l : Literal) → IsTrueUnit clauses trail old l
    → IsAttached old new (record { first = l; second = l }) → IsRunning clauses trail new
loaded_one clauses trail old new l unit attached = record {
  sound = unit.sound;
  guarded =
      subst (λ c. AreGuarded c trail.entries new.head new.watches) (sym unit.clauses_are)
      (subst (λ n. AreGuarded (unit.given ++ unit.clause ∷ []) trail.entries n new.watches) (sym attached.head)
      (subst (λ ws. AreGuarded (unit.given ++ unit.clause ∷ []) trail.entries old.head ws) (sym attached.watches)
      (all_with unit.given trail.entries old.head old.watches unit.clause watch unit.guarded
      (guarded_fixed unit.clause trail.entries old.head watch unit.place unit.at.entry unit.at.there unit.has unit.has
      (subst (λ m. Has unit.clause m) (sym unit.at.same) unit.has)
      (let top = unit.sound.top unit.place unit.at.entry unit.at.there in let level = unit.undecided in omega (arith, top, level))))));
  lists = attached.lists unit.lists;
  blockers =
      subst (λ c. AreBlockers c new.lists) (sym unit.clauses_are)
      (attached.blockers unit.given unit.clause (sym unit.guarded.count) unit.has unit.has unit.blockers);
  room = attached.room ∙ unit.room;
  within = let h = attached.head in let z = unit.first in omega (arith, h, z);
  pending = λ i entry h at.
      let top = unit.sound.top i entry at in
      let level = unit.undecided in
      let same : entry.level ≡ trail.level = omega (arith, top, level) in
      same;
}
  where
    watch : Watch
    watch = record { first = l; second = l }

-- ---- a false clause

pub unit_false : (clauses : List Clause) (trail : Trailed) (watched : Watched) (l : Literal) (place number : ℕ) → IsUnit clauses trail watched l → number ≡ length clauses
    → IsAt trail.entries place (negation l) → IsSound clauses trail × IsConflict clauses trail.entries number
unit_false clauses trail watched l place number unit e at =
    let count = ap length unit.clauses_are ∙ length_push unit.given unit.clause in (
      subst (λ c. IsSound c trail) (sym unit.clauses_are) (sound_with unit.given trail unit.clause unit.running.sound unit.of_variables),
      record {
        clause = unit.clause;
        numbered = record {
          positive = omega (arith, e, count);
          there =
              ap (slice_get clauses) (let n : number - 1 ≡ length unit.given = omega (arith, e, count) in n)
              ∙ ap (λ c. slice_get c (length unit.given)) unit.clauses_are ∙ get_last unit.given unit.clause;
        };
        negated = λ m h.
            record {
              place = place;
              entry = at.entry;
              earlier = slice_get_within trail.entries place at.entry at.there;
              there = at.there;
              same = at.same ∙ ap negation (sym (unit.same m h));
            };
      },
    )

pub empty_false : (clauses all : List Clause) (trail : Trailed) (clause : Clause) (number : ℕ) → IsSound clauses trail → all ≡ clauses ++ clause ∷ [] → clause ≡ []
    → number ≡ length all → IsSound all trail × IsConflict all trail.entries number
empty_false clauses all trail clause number sound e empty f =
    let count = ap length e ∙ length_push clauses clause in (
      subst (λ c. IsSound c trail) (sym e) (sound_with clauses trail clause sound (ap (list_all (is_of trail.variables)) empty)),
      record {
        clause = clause;
        numbered = record {
          positive = omega (arith, f, count);
          there =
              ap (slice_get all) (let n : number - 1 ≡ length clauses = omega (arith, f, count) in n)
              ∙ ap (λ c. slice_get c (length clauses)) e ∙ get_last clauses clause;
        };
        negated = λ m h. absurd (has_nothing m (subst (λ c. Has c m) empty h));
      },
    )

-- ---- the empty clause, learnt from the first clauses

numbered_left : (clauses more : List Clause) (number : ℕ) (clause : Clause) → Numbered clauses number clause → Numbered (clauses ++ more) number clause
numbered_left clauses more number clause numbered = record { positive = numbered.positive; there = get_front clauses more (number - 1) clause numbered.there }
  where
    get_front : (xs ys : List Clause) (i : ℕ) (x : Clause) → slice_get xs i ≡ Some x → slice_get (xs ++ ys) i ≡ Some x
    get_front [] ys i x h = cc
    get_front (z ∷ xs) ys zero x h = h
    get_front (z ∷ xs) ys (suc i) x h = get_front xs ys i x h

pub refuted_log : (cnf : Cnf) (clauses more : List Clause) (step : Step) → cnf.clauses ≡ clauses ++ more → IsEmptyLearnt clauses step → IsClosing cnf (step ∷ [])
refuted_log cnf clauses more step e learnt =
    closing_log cnf cnf.clauses [] step (no_steps cnf)
    (record {
      nothing = learnt.nothing;
      chain =
          subst (λ c. Chain c [] step.hints) (sym e)
          (subst (λ h. Chain (clauses ++ more) [] h) (map-id step.hints)
          (chain_moved clauses (clauses ++ more) (λ n. n) [] step.hints (λ k number clause hint numbered. numbered_left clauses more number clause numbered) learnt.chain));
    })

-- ---- codes, and the first clauses

pub code_named : (trail : Trailed) (watched : Watched) (l : Literal) → length watched.lists ≡ 2 * trail.variables + 2 → is_of trail.variables l ≡ true → code_of l < length watched.lists
code_named trail watched l room named = let below = (code_within trail.variables l named).1 in omega (arith, below, room)

pub unit_code : (clauses : List Clause) (trail : Trailed) (watched : Watched) (l : Literal) → IsTrueUnit clauses trail watched l → code_of l < length watched.lists
unit_code clauses trail watched l unit =
    code_named trail watched l unit.room
    (subst (λ m. is_of trail.variables m ≡ true) unit.at.same (unit.sound.is_trail.of_variables unit.place unit.at.entry unit.at.there))

pub front_more : (all clauses new : List Clause) (i : ℕ) (clause : Clause) → clauses ≡ take i all → new ≡ clauses ++ clause ∷ [] → slice_get all i ≡ Some clause → new ≡ take (i + 1) all
front_more all clauses new i clause e f here =
    f ∙ ap (λ c. c ++ clause ∷ []) e ∙ ap (λ c. take i all ++ c ∷ []) (sym (get_or_from_slice_get all i clause clause here))
    ∙ sym (take_more all i clause (slice_get_within all i clause here))

pub nothing_of : (xs : List Literal) → (length xs == 0) ≡ true → xs ≡ []
nothing_of [] e = refl
nothing_of (x ∷ xs) e = absurd (never (length xs) e)
  where
    never : (n : ℕ) → (suc n == 0) ≡ true → ⊥
    never n f = grind (arith, nat_tests)

pub something_of : (xs : List Literal) → (length xs == 0) ≡ false → 0 < length xs
something_of [] e = absurd (never e)
  where
    never : (0 == 0) ≡ false → ⊥
    never f = grind (arith, nat_tests)
something_of (x ∷ xs) e = omega arith
