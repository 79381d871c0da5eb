-- Watched literals: what they show of a trail and of its cuts, and each step that keeps them.
use Rattle.std.proofs.Common.{◌≡◌, ◌⊎◌, inl, inr, ℕ, zero, suc, ◌+◌, ◌-◌, ◌<◌, ◌≤◌, Bool, true, false, List, [], ◌∷◌, ◌++◌, Some, None, length, take, set, refl, ap, sym, ◌∙◌, subst, arith}
use Rattle.std.specs.Prelude.{slice_get}
use Rattle.std.proofs.lemmas.Option.{slice_get_within}
use Rattle.std.proofs.lemmas.List.{length_push}
use Rattle.clause_check_spec.specs.declared.Literal.{Literal}
use Rattle.clause_check_spec.specs.Clause.{Clause, negation}
use Rattle.clause_check_spec.specs.Step.{is_true}
use Rattle.sat_search_spec.specs.declared.Entry.{Entry}
use Rattle.sat_search_spec.specs.declared.Watch.{Watch}
use Rattle.sat_search_spec.specs.declared.Watcher.{Watcher}
use Rattle.sat_search_spec.specs.Clauses.{Has, IsLive, AreLive}
use Rattle.sat_search_spec.specs.Trail.{truths, IsTrueBefore, IsTrail, IsCut}
use Rattle.sat_search_spec.specs.Watches.{IsSatisfied, Guards, IsGuarded, fixed, two, AreGuarded, list_of, IsListed, AreListed}
use Rattle.sat_search_spec.proofs.Members.{true_or_false, same_or_other}
use Rattle.sat_search_spec.proofs.Findings.{finding_holds, live_by_two}
use Rattle.sat_search_spec.proofs.Trails.{get_left, get_last, get_cases, get_taken, taken_get, some_same, before_has, has_before, not_both, cut_before}

-- ---- a clause is live at each cut before what is still to be propagated

satisfied_live : (clause : Clause) (trail : List Entry) (level cut_level m : ℕ) → IsSatisfied clause trail level → level ≤ cut_level → IsCut trail cut_level m
    → IsLive (truths (take m trail)) clause
satisfied_live clause trail level cut_level m satisfied within cut =
    let up_to = satisfied.within in
    let before = cut_before trail cut_level m satisfied.place satisfied.entry cut satisfied.there (omega (arith, up_to, within)) in
    inl (finding_holds (truths (take m trail)) clause satisfied.entry.literal satisfied.has
    (before_has trail m satisfied.entry.literal (record { place = satisfied.place; entry = satisfied.entry; earlier = before; there = satisfied.there; same = refl })))

guard_live : (clause : Clause) (trail : List Entry) (head cut_level m : ℕ) (l : Literal) → Guards clause trail head l → IsCut trail cut_level m → m ≤ head
    → Has (truths (take m trail)) (negation l) → IsLive (truths (take m trail)) clause
guard_live clause trail head cut_level m l guard cut h false_now =
    let before = has_before trail m (negation l) false_now in
    let below = before.earlier in
    satisfied_live clause trail before.entry.level cut_level m
    (guard before.place before.entry (omega (arith, below, h)) before.there before.same)
    (cut.below before.place before.entry before.earlier before.there) cut

pub guarded_live : (clause : Clause) (trail : List Entry) (head cut_level m : ℕ) (watch : Watch) → IsGuarded clause trail head watch → IsCut trail cut_level m → m ≤ head
    → IsLive (truths (take m trail)) clause
guarded_live clause trail head cut_level m watch (fixed has_first has_second satisfied) cut h =
    satisfied_live clause trail 0 cut_level m satisfied (omega arith) cut
guarded_live clause trail head cut_level m watch (two has_first has_second other guard_first guard_second) cut h =
    elim (true_or_false (is_true (truths (take m trail)) (negation watch.first))) [
      | inl f ↦ guard_live clause trail head cut_level m watch.first guard_first cut h f
      | inr unset ↦
          elim (true_or_false (is_true (truths (take m trail)) (negation watch.second))) [
            | inl f ↦ guard_live clause trail head cut_level m watch.second guard_second cut h f
            | inr unset' ↦ live_by_two (truths (take m trail)) clause watch.first watch.second has_first has_second other unset unset'
          ]
    ]

some_watch : {X : Type 0} (xs : List X) (i : ℕ) → i < length xs → (x : X) × (slice_get xs i ≡ Some x)
some_watch [] i below = absurd (omega arith)
some_watch (x ∷ xs) zero below = (x, refl)
some_watch (x ∷ xs) (suc i) below = some_watch xs i (omega arith)

pub all_live : (clauses : List Clause) (trail : List Entry) (head cut_level m : ℕ) (watches : List Watch) → AreGuarded clauses trail head watches
    → IsCut trail cut_level m → m ≤ head → AreLive (truths (take m trail)) clauses
all_live clauses trail head cut_level m watches guarded cut h i clause here =
    let below = slice_get_within clauses i clause here in
    let count = guarded.count in
    let watch = some_watch watches i (omega (arith, below, count)) in
    guarded_live clause trail head cut_level m watch.0 (guarded.guarded i clause watch.0 here watch.1) cut h

-- ---- one more entry

satisfied_more : (clause : Clause) (trail : List Entry) (more : Entry) (level : ℕ) → IsSatisfied clause trail level → IsSatisfied clause (trail ++ more ∷ []) level
satisfied_more clause trail more level satisfied = record {
  place = satisfied.place;
  entry = satisfied.entry;
  there = get_left trail more satisfied.place satisfied.entry satisfied.there;
  has = satisfied.has;
  within = satisfied.within;
}

guard_more : (clause : Clause) (trail : List Entry) (more : Entry) (head : ℕ) (l : Literal) → head ≤ length trail → Guards clause trail head l → Guards clause (trail ++ more ∷ []) head l
guard_more clause trail more head l h guard i entry below here e =
    elim (get_cases trail more i entry here) [
      | inl there ↦ satisfied_more clause trail more entry.level (guard i entry below there e)
      | inr last ↦ absurd (let place = last.0 in omega (arith, place, below, h))
    ]

pub guarded_more : (clause : Clause) (trail : List Entry) (more : Entry) (head : ℕ) (watch : Watch) → head ≤ length trail → IsGuarded clause trail head watch
    → IsGuarded clause (trail ++ more ∷ []) head watch
guarded_more clause trail more head watch h (fixed has_first has_second satisfied) = fixed has_first has_second (satisfied_more clause trail more 0 satisfied)
guarded_more clause trail more head watch h (two has_first has_second other guard_first guard_second) =
    two has_first has_second other (guard_more clause trail more head watch.first h guard_first) (guard_more clause trail more head watch.second h guard_second)

pub all_more : (clauses : List Clause) (trail : List Entry) (more : Entry) (head : ℕ) (watches : List Watch) → head ≤ length trail → AreGuarded clauses trail head watches
    → AreGuarded clauses (trail ++ more ∷ []) head watches
all_more clauses trail more head watches h guarded = record {
  count = guarded.count;
  guarded = λ i clause watch here there. guarded_more clause trail more head watch h (guarded.guarded i clause watch here there);
}

-- ---- the entries before a cut

satisfied_taken : (clause : Clause) (trail : List Entry) (level cut_level m : ℕ) → IsSatisfied clause trail level → level ≤ cut_level → IsCut trail cut_level m
    → IsSatisfied clause (take m trail) level
satisfied_taken clause trail level cut_level m satisfied within cut =
    let up_to = satisfied.within in
    let before = cut_before trail cut_level m satisfied.place satisfied.entry cut satisfied.there (omega (arith, up_to, within)) in
    record {
      place = satisfied.place;
      entry = satisfied.entry;
      there = taken_get m trail satisfied.place satisfied.entry before satisfied.there;
      has = satisfied.has;
      within = satisfied.within;
    }

guard_taken : (clause : Clause) (trail : List Entry) (head cut_level m : ℕ) (l : Literal) → IsCut trail cut_level m → m ≤ head → Guards clause trail head l → Guards clause (take m trail) m l
guard_taken clause trail head cut_level m l cut h guard i entry below here e =
    let there = get_taken m trail i entry here in
    satisfied_taken clause trail entry.level cut_level m (guard i entry (omega (arith, below, h)) there.1 e)
    (cut.below i entry there.0 there.1) cut

pub guarded_taken : (clause : Clause) (trail : List Entry) (head cut_level m : ℕ) (watch : Watch) → IsCut trail cut_level m → m ≤ head → IsGuarded clause trail head watch
    → IsGuarded clause (take m trail) m watch
guarded_taken clause trail head cut_level m watch cut h (fixed has_first has_second satisfied) = fixed has_first has_second (satisfied_taken clause trail 0 cut_level m satisfied (omega arith) cut)
guarded_taken clause trail head cut_level m watch cut h (two has_first has_second other guard_first guard_second) =
    two has_first has_second other
    (guard_taken clause trail head cut_level m watch.first cut h guard_first) (guard_taken clause trail head cut_level m watch.second cut h guard_second)

pub all_taken : (clauses : List Clause) (trail : List Entry) (head cut_level m : ℕ) (watches : List Watch) → IsCut trail cut_level m → m ≤ head → AreGuarded clauses trail head watches
    → AreGuarded clauses (take m trail) m watches
all_taken clauses trail head cut_level m watches cut h guarded = record {
  count = guarded.count;
  guarded = λ i clause watch here there. guarded_taken clause trail head cut_level m watch cut h (guarded.guarded i clause watch here there);
}

-- ---- propagation of the entry at `head`

last_or_before : (i n : ℕ) → i < n + 1 → (i ≡ n) ⊎ (i < n)
last_or_before i n h = grind arith

guard_next : (clause : Clause) (trail : List Entry) (head : ℕ) (l : Literal) (entry : Entry) → slice_get trail head ≡ Some entry → Guards clause trail head l
    → (entry.literal ≡ negation l → IsSatisfied clause trail entry.level) → Guards clause trail (head + 1) l
guard_next clause trail head l entry at guard new i e below here negated =
    elim (last_or_before i head below) [
      | inl same ↦
          let is_entry = some_same trail i head e entry same here at in
          subst (λ (x : Entry). IsSatisfied clause trail x.level) (sym is_entry)
          (new (sym (ap (λ (x : Entry). x.literal) is_entry) ∙ negated))
      | inr before ↦ guard i e before here negated
    ]

-- neither watch becomes false
pub guarded_next : (clause : Clause) (trail : List Entry) (head : ℕ) (watch : Watch) (entry : Entry) → slice_get trail head ≡ Some entry
    → (entry.literal ≡ negation watch.first → ⊥) → (entry.literal ≡ negation watch.second → ⊥) → IsGuarded clause trail head watch
    → IsGuarded clause trail (head + 1) watch
guarded_next clause trail head watch entry at first second (fixed has_first has_second satisfied) = fixed has_first has_second satisfied
guarded_next clause trail head watch entry at first second (two has_first has_second other guard_first guard_second) =
    two has_first has_second other
    (guard_next clause trail head watch.first entry at guard_first (λ e. absurd (first e)))
    (guard_next clause trail head watch.second entry at guard_second (λ e. absurd (second e)))

-- a literal is true at no later a level
pub guarded_satisfied : (clause : Clause) (trail : List Entry) (head : ℕ) (watch : Watch) (entry : Entry) → slice_get trail head ≡ Some entry
    → IsSatisfied clause trail entry.level → IsGuarded clause trail head watch → IsGuarded clause trail (head + 1) watch
guarded_satisfied clause trail head watch entry at satisfied (fixed has_first has_second satisfied_first) = fixed has_first has_second satisfied_first
guarded_satisfied clause trail head watch entry at satisfied (two has_first has_second other guard_first guard_second) =
    two has_first has_second other
    (guard_next clause trail head watch.first entry at guard_first (λ e. satisfied))
    (guard_next clause trail head watch.second entry at guard_second (λ e. satisfied))

-- a watch moves to a literal that is not false
pub guarded_moved : (clause : Clause) (trail : List Entry) (head : ℕ) (watch moved : Watch) (entry : Entry) → slice_get trail head ≡ Some entry
    → (moved.second ≡ watch.first) ⊎ (moved.second ≡ watch.second) → (entry.literal ≡ negation moved.second → ⊥)
    → Has clause moved.first → (moved.first ≡ moved.second → ⊥)
    → ((i : ℕ) (e : Entry) → slice_get trail i ≡ Some e → e.literal ≡ negation moved.first → ⊥)
    → IsGuarded clause trail head watch → IsGuarded clause trail (head + 1) moved
guarded_moved clause trail head watch moved entry at stays unset has_new apart fresh (fixed has_first has_second satisfied) =
    fixed has_new (stays_in has_first has_second stays) satisfied
  where
    stays_in : Has clause watch.first → Has clause watch.second → (moved.second ≡ watch.first) ⊎ (moved.second ≡ watch.second) → Has clause moved.second
    stays_in f s (inl e) = subst (λ l. Has clause l) (sym e) f
    stays_in f s (inr e) = subst (λ l. Has clause l) (sym e) s
guarded_moved clause trail head watch moved entry at stays unset has_new apart fresh (two has_first has_second other guard_first guard_second) =
    elim stays [
      | inl e ↦
          two has_new (subst (λ l. Has clause l) (sym e) has_first) apart (λ i x below here negated. absurd (fresh i x here negated))
          (guard_next clause trail head moved.second entry at (subst (λ l. Guards clause trail head l) (sym e) guard_first) (λ negated. absurd (unset negated)))
      | inr e ↦
          two has_new (subst (λ l. Has clause l) (sym e) has_second) apart (λ i x below here negated. absurd (fresh i x here negated))
          (guard_next clause trail head moved.second entry at (subst (λ l. Guards clause trail head l) (sym e) guard_second) (λ negated. absurd (unset negated)))
    ]

-- so it is before, too
pub guarded_earlier : (clause : Clause) (trail : List Entry) (head : ℕ) (watch : Watch) → IsGuarded clause trail (head + 1) watch → IsGuarded clause trail head watch
guarded_earlier clause trail head watch (fixed has_first has_second satisfied) = fixed has_first has_second satisfied
guarded_earlier clause trail head watch (two has_first has_second other guard_first guard_second) =
    two has_first has_second other (λ i e below. guard_first i e (omega arith)) (λ i e below. guard_second i e (omega arith))

-- ---- learnt clauses

pub guarded_fixed : (clause : Clause) (trail : List Entry) (head : ℕ) (watch : Watch) (place : ℕ) (entry : Entry) → slice_get trail place ≡ Some entry
    → Has clause watch.first → Has clause watch.second → Has clause entry.literal → entry.level ≤ 0 → IsGuarded clause trail head watch
guarded_fixed clause trail head watch place entry here has_first has_second has level = fixed has_first has_second (record { place = place; entry = entry; there = here; has = has; within = level })

-- the first watch is true, the second false at no earlier a level
pub guarded_asserting : (variables : ℕ) (clauses : List Clause) (clause : Clause) (trail : List Entry) (head : ℕ) (watch : Watch) (place : ℕ) (entry : Entry)
    → IsTrail variables clauses trail → slice_get trail place ≡ Some entry → entry.literal ≡ watch.first → Has clause watch.first → Has clause watch.second
    → (watch.first ≡ watch.second → ⊥)
    → ((i : ℕ) (e : Entry) → slice_get trail i ≡ Some e → e.literal ≡ negation watch.second → entry.level ≤ e.level)
    → IsGuarded clause trail head watch
guarded_asserting variables clauses clause trail head watch place entry is_trail here same has_first has_second other later =
    two has_first has_second other
    (λ i e below there negated. absurd (not_both variables clauses trail is_trail i place e entry there here (negated ∙ ap negation (sym same))))
    (λ i e below there negated.
    record { place = place; entry = entry; there = here; has = subst (λ l. Has clause l) (sym same) has_first; within = later i e there negated })

-- two literals, before anything was propagated
pub guarded_first : (clause : Clause) (trail : List Entry) (watch : Watch) → Has clause watch.first → Has clause watch.second → (watch.first ≡ watch.second → ⊥)
    → IsGuarded clause trail 0 watch
guarded_first clause trail watch has_first has_second other =
    two has_first has_second other (λ i e below. absurd (omega arith)) (λ i e below. absurd (omega arith))

pub all_with : (clauses : List Clause) (trail : List Entry) (head : ℕ) (watches : List Watch) (clause : Clause) (watch : Watch) → AreGuarded clauses trail head watches
    → IsGuarded clause trail head watch → AreGuarded (clauses ++ clause ∷ []) trail head (watches ++ watch ∷ [])
all_with clauses trail head watches clause watch guarded one =
    let count = guarded.count in record {
      count = length_push watches watch ∙ ap (λ n. n + 1) count ∙ sym (length_push clauses clause);
      guarded = λ i c w here there.
          elim (get_cases clauses clause i c here) [
            | inl here' ↦
                elim (get_cases watches watch i w there) [
                  | inl there' ↦ guarded.guarded i c w here' there'
                  | inr last ↦ absurd (let below = slice_get_within clauses i c here' in let place = last.0 in omega (arith, below, place, count))
                ]
            | inr last ↦
                elim (get_cases watches watch i w there) [
                  | inl there' ↦ absurd (let below = slice_get_within watches i w there' in let place = last.0 in omega (arith, below, place, count))
                  | inr last' ↦
                      subst (λ c. IsGuarded c trail head w) (sym last.1) (subst (λ w. IsGuarded clause trail head w) (sym last'.1) one)
                ]
          ];
    }
