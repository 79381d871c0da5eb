-- Marks of the literals of a clause, one after the other.
use Rattle.std.proofs.Common.{◌≡◌, ◌⊎◌, inl, inr, ℕ, ◌+◌, ◌-◌, ◌<◌, ◌≤◌, Bool, true, false, List, [], ◌∷◌, ◌++◌, Option, Some, None, length, get_or, set, replicate, refl, ap, sym, ◌∙◌, subst, arith}
use Rattle.std.specs.Prelude.{slice_get}
use Rattle.std.specs.List.{list_all}
use Rattle.std.proofs.lemmas.Option.{slice_get_within, get_or_from_slice_get}
use Rattle.std.proofs.lemmas.List.{length-set, length-replicate, get_or-set_same, get_or-set_other, get_or_past, get_or-replicate}
use Rattle.std.proofs.lemmas.List.Sums.{AllPass-from_list_all}
use Rattle.std.proofs.lemmas.Bool.Decides.{nat_tests}
use Rattle.clause_check_spec.specs.declared.Literal.{Literal}
use Rattle.clause_check_spec.specs.Clause.{Clause, negation, is_of, are_of}
use Rattle.sat_search_spec.specs.declared.Entry.{Entry}
use Rattle.sat_search_spec.specs.Clauses.{Has, Numbered}
use Rattle.sat_search_spec.specs.Trail.{IsAt, IsAbsent, IsTrueBefore}
use Rattle.sat_search_spec.specs.Analysis.{IsMarked, IsFalseMarked, IsFalseAt, IsMarking}
use Rattle.sat_search_spec.proofs.Members.{negation_twice, has_nothing, has_left, has_last, has_push, place_of}

same_or_other : (a b : ℕ) → (a ≡ b) ⊎ (a ≡ b → ⊥)
same_or_other a b = grind arith

pub marked_within : (marks : List Bool) (i : ℕ) → IsMarked marks i → i < length marks
marked_within marks i marked = by_place (lt_or_le i (length marks))
  where
    lt_or_le : (a b : ℕ) → (a < b) ⊎ (b ≤ a)
    lt_or_le a b = grind arith

    by_place : (i < length marks) ⊎ (length marks ≤ i) → i < length marks
    by_place (inl lt) = lt
    by_place (inr le) = let past = get_or_past marks i false le in cc

marked_set : (marks : List Bool) (i j : ℕ) → IsMarked marks i → IsMarked (set marks j true) i
marked_set marks i j marked =
    elim (same_or_other i j) [
      | inl same ↦ subst (λ n. IsMarked (set marks n true) i) same (get_or-set_same marks i true false (marked_within marks i marked))
      | inr other ↦ get_or-set_other marks j i true false other ∙ marked
    ]

set_marked : (marks : List Bool) (i j : ℕ) → IsMarked (set marks j true) i → IsMarked marks i ⊎ (i ≡ j)
set_marked marks i j marked =
    elim (same_or_other i j) [
      | inl same ↦ inr same
      | inr other ↦ inl (sym (get_or-set_other marks j i true false other) ∙ marked)
    ]

false_at_more : (trail : List Entry) (clause : Clause) (l : Literal) (i : ℕ) → IsFalseAt trail clause i → IsFalseAt trail (clause ++ l ∷ []) i
false_at_more trail clause l i at = record { entry = at.entry; there = at.there; has = has_left clause (l ∷ []) (negation at.entry.literal) at.has }

-- the literal that is excepted
pub marking_excepted : (trail : List Entry) (clause : Clause) (excepted l : Literal) (first marks : List Bool) → l ≡ excepted → IsMarking trail clause excepted first marks
    → IsMarking trail (clause ++ l ∷ []) excepted first marks
marking_excepted trail clause excepted l first marks e marking = record {
  count = marking.count;
  kept = marking.kept;
  all = λ m h.
      elim (has_push clause l m h) [
        | inl there ↦ marking.all m there
        | inr same ↦ inl (same ∙ e)
      ];
  only = λ i h.
      elim (marking.only i h) [
        | inl before ↦ inl before
        | inr at ↦ inr (false_at_more trail clause l i at)
      ];
}

-- one whose negation is at a place
pub marking_more : (trail : List Entry) (clause : Clause) (excepted l : Literal) (first marks : List Bool) (place : ℕ) → length marks ≡ length trail
    → IsAt trail place (negation l) → IsMarking trail clause excepted first marks → IsMarking trail (clause ++ l ∷ []) excepted first (set marks place true)
marking_more trail clause excepted l first marks place count at marking = record {
  count = length-set marks place true ∙ marking.count;
  kept = λ i h. marked_set marks i place (marking.kept i h);
  all = λ m h.
      elim (has_push clause l m h) [
        | inl there ↦
            elim (marking.all m there) [
              | inl e ↦ inl e
              | inr marked ↦
                  inr (record {
                    place = marked.place;
                    entry = marked.entry;
                    there = marked.there;
                    negated = marked.negated;
                    marked = marked_set marks marked.place place marked.marked;
                  })
            ]
        | inr same ↦
            let within = slice_get_within trail place at.entry at.there in
            inr (record {
              place = place;
              entry = at.entry;
              there = at.there;
              negated = at.same ∙ ap negation (sym same);
              marked = get_or-set_same marks place true false (omega (arith, within, count));
            })
      ];
  only = λ i h.
      elim (set_marked marks i place h) [
        | inl was ↦
            elim (marking.only i was) [
              | inl before ↦ inl before
              | inr false_at ↦ inr (false_at_more trail clause l i false_at)
            ]
        | inr same ↦
            inr (record {
              entry = at.entry;
              there = ap (slice_get trail) same ∙ at.there;
              has = subst (λ m. Has (clause ++ l ∷ []) m) (sym (ap negation at.same ∙ negation_twice l)) (has_last clause l);
            })
      ];
}

-- ---- literals of clauses

pub clause_of : (variables : ℕ) (clauses : List Clause) (i : ℕ) (clause : Clause) → are_of variables clauses ≡ true → slice_get clauses i ≡ Some clause
    → list_all (is_of variables) clause ≡ true
clause_of variables clauses i clause named here =
    subst (λ c. list_all (is_of variables) c ≡ true) (get_or_from_slice_get clauses i clause clause here)
    (AllPass-from_list_all (list_all (is_of variables)) clauses named i clause (slice_get_within clauses i clause here))

pub literal_of : (variables : ℕ) (clause : Clause) (l : Literal) → list_all (is_of variables) clause ≡ true → Has clause l → is_of variables l ≡ true
literal_of variables clause l named h =
    let at = place_of clause l h in
    subst (λ m. is_of variables m ≡ true) (get_or_from_slice_get clause at.0 l l at.1)
    (AllPass-from_list_all (is_of variables) clause named at.0 l (slice_get_within clause at.0 l at.1))

pub no_variable : (variables : ℕ) (l : Literal) → l.variable ≡ 0 → is_of variables l ≡ true → ⊥
no_variable variables l e named = absurd (grind (arith, nat_tests))

pub none_of_replicate : (n i : ℕ) → IsMarked (replicate n false) i → ⊥
none_of_replicate n i marked =
    let within = marked_within (replicate n false) i marked in
    let count = length-replicate n false in
    let unmarked = get_or-replicate n i false false (omega (arith, within, count)) in cc
