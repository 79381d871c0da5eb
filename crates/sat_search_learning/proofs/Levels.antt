-- One more level, and back to an earlier one.
use Rattle.std.proofs.Common.{◌≡◌, ◌⊎◌, inl, inr, ℕ, zero, suc, ◌+◌, ◌-◌, ◌*◌, ◌<◌, ◌≤◌, Bool, true, false, List, [], ◌∷◌, ◌++◌, Some, None, length, take, refl, ap, sym, ◌∙◌, subst, arith}
use Rattle.std.specs.Prelude.{slice_get}
use Rattle.std.proofs.lemmas.Option.{slice_get_within}
use Rattle.std.proofs.lemmas.List.{length_push, length-take-le, take_all}
use Rattle.clause_check_spec.specs.declared.Literal.{Literal}
use Rattle.clause_check_spec.specs.Clause.{Clause, negation}
use Rattle.sat_search_spec.specs.declared.Entry.{Entry}
use Rattle.sat_search_spec.specs.Clauses.{AreLive}
use Rattle.sat_search_spec.specs.Trail.{Trailed, truths, IsAbsent, IsTrail, IsCut, IsSound}
use Rattle.sat_search_spec.specs.Watches.{AreGuarded, Watched, IsRunning}
use Rattle.sat_search_spec.proofs.Members.{same_or_negated}
use Rattle.sat_search_spec.proofs.Trails.{get_cases, get_taken, trail_more, trail_taken}
use Rattle.sat_search_spec.proofs.Guards.{all_live, all_more, all_taken}
use Rattle.sat_search_learning.specs.Search.{IsUndecided, IsDecidedBy, IsRewound}

some_entry : (xs : List Entry) (n : ℕ) → n < length xs → (x : Entry) × (slice_get xs n ≡ Some x)
some_entry [] n h = absurd (omega (arith, h))
some_entry (x ∷ xs) zero h = (x, refl)
some_entry (x ∷ xs) (suc n) h = some_entry xs n (omega (arith, h))

lt_or_le : (a b : ℕ) → (a < b) ⊎ (b ≤ a)
lt_or_le a b = grind arith

pub fresh : (trail : Trailed) (l : Literal) → IsAbsent trail.entries l → IsAbsent trail.entries (negation l)
    → (i : ℕ) (a : Entry) → slice_get trail.entries i ≡ Some a → a.literal.variable ≡ l.variable → ⊥
fresh trail l not_true not_false i a at e =
    elim (same_or_negated a.literal l e) [
      | inl same ↦ not_true i a at same
      | inr negated ↦ not_false i a at negated
    ]

-- ---- a decision

pub decided : (clauses : List Clause) (old new : Trailed) (watched : Watched) (l : Literal) → IsRunning clauses old watched → watched.head ≡ length old.entries → IsUndecided old l
    → IsDecidedBy old new l → IsRunning clauses new watched
decided clauses old new watched l running head undecided by =
    subst (λ t. IsRunning clauses t watched) (sym by.same) (record {
      sound = record {
        of_variables = running.sound.of_variables;
        is_trail =
            trail_more old.variables clauses old.entries entry running.sound.is_trail undecided.of_variables
            (fresh old l undecided.not_true undecided.not_false)
            (λ i a at. let top = running.sound.top i a at in omega (arith, top))
            (λ positive. absurd (omega (arith, positive)))
            (λ none. record { positive = omega arith; first = λ i a below at. let top = running.sound.top i a at in omega (arith, top) });
        top = λ i a at.
            elim (get_cases old.entries entry i a at) [
              | inl before ↦ let top = running.sound.top i a before in omega (arith, top)
              | inr last ↦ let level = ap (λ (e : Entry). e.level) last.1 in omega (arith, level)
            ];
      };
      guarded = all_more clauses old.entries entry watched.head watched.watches (omega (arith, head)) running.guarded;
      lists = running.lists;
      blockers = running.blockers;
      room = running.room;
      within = let count = length_push old.entries entry in omega (arith, count, head);
      pending = λ i a h at.
          elim (get_cases old.entries entry i a at) [
            | inl before ↦ let below = slice_get_within old.entries i a before in absurd (omega (arith, below, h, head))
            | inr last ↦ ap (λ (e : Entry). e.level) last.1
          ];
    })
  where
    entry : Entry
    entry = record { literal = l; reason = 0; level = old.level + 1 }

-- ---- back to an earlier level

-- a cut at an earlier level is before what is still to be propagated
pub cut_before_head : (clauses : List Clause) (trail : Trailed) (watched : Watched) (level place : ℕ) → IsRunning clauses trail watched → IsCut trail.entries level place
    → level < trail.level → place ≤ watched.head
cut_before_head clauses trail watched level place running cut lower =
    elim (lt_or_le watched.head place) [
      | inl before ↦
          let within = cut.within in
          let entry = some_entry trail.entries watched.head (omega (arith, before, within)) in
          let below = cut.below watched.head entry.0 before entry.1 in
          let same = running.pending watched.head entry.0 (omega arith) entry.1 in
          absurd (omega (arith, below, same, lower))
      | inr past ↦ past
    ]

pub rewound : (clauses : List Clause) (old new : Trailed) (old_watched new_watched : Watched) (level : ℕ) → IsRunning clauses old old_watched → level < old.level
    → IsRewound old new old_watched new_watched level → IsRunning clauses new new_watched
rewound clauses old new old_watched new_watched level running lower back =
    subst (λ t. IsRunning clauses t new_watched) (sym back.trail)
    (subst (λ w. IsRunning clauses (record { variables = old.variables; entries = take back.place old.entries; level = level }) w) (sym back.watched)
    (record {
      sound = record {
        of_variables = running.sound.of_variables;
        is_trail = trail_taken old.variables clauses old.entries back.place running.sound.is_trail;
        top = λ i entry at. let there = get_taken back.place old.entries i entry at in back.cut.below i entry there.0 there.1;
      };
      guarded =
          all_taken clauses old.entries old_watched.head level back.place old_watched.watches back.cut
          (cut_before_head clauses old old_watched level back.place running back.cut lower) running.guarded;
      lists = running.lists;
      blockers = running.blockers;
      room = running.room;
      within = let count = length-take-le back.place old.entries back.cut.within in omega (arith, count);
      pending = λ i entry h at. let there = get_taken back.place old.entries i entry at in let below = there.0 in absurd (omega (arith, below, h));
    }))

-- clauses are live at each earlier level
pub live_at : (clauses : List Clause) (trail : Trailed) (watched : Watched) (level place : ℕ) → IsRunning clauses trail watched → IsCut trail.entries level place
    → level < trail.level → AreLive (truths (take place trail.entries)) clauses
live_at clauses trail watched level place running cut lower =
    all_live clauses trail.entries watched.head level place watched.watches running.guarded cut
    (cut_before_head clauses trail watched level place running cut lower)

-- and on the whole trail, where all was propagated
pub live_now : (clauses : List Clause) (trail : Trailed) (watched : Watched) → IsRunning clauses trail watched → watched.head ≡ length trail.entries
    → AreLive (truths (take (length trail.entries) trail.entries)) clauses
live_now clauses trail watched running head =
    all_live clauses trail.entries watched.head trail.level (length trail.entries) watched.watches running.guarded
    (record {
      within = omega arith;
      below = λ i entry h at. running.sound.top i entry at;
      above = λ i entry h at. absurd (let below = slice_get_within trail.entries i entry at in omega (arith, below, h));
    })
    (omega (arith, head))

pub decided_length : (old new : Trailed) (l : Literal) → IsDecidedBy old new l → length new.entries ≡ length old.entries + 1
decided_length old new l by =
    ap (λ (t : Trailed). length t.entries) by.same ∙ length_push old.entries (record { literal = l; reason = 0; level = old.level + 1 })
