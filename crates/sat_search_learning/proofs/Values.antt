-- Values of variables, and the model that is read off a trail on which every variable has one.
use Rattle.std.proofs.Common.{◌≡◌, ◌⊎◌, inl, inr, ℕ, zero, suc, ◌+◌, ◌-◌, ◌<◌, ◌≤◌, Bool, true, false, List, [], ◌∷◌, ◌++◌, Some, None, length, get_or, map, take, refl, ap, sym, ◌∙◌, subst, arith}
use Rattle.std.specs.Prelude.{not, slice_get, if◌then◌else◌}
use Rattle.std.specs.List.{list_all, list_any}
use Rattle.std.proofs.lemmas.Option.{slice_get_within, slice_get-get_or, get_or_from_slice_get}
use Rattle.std.proofs.lemmas.List.{take_all, length_push, get_or_append_left, get_or_push}
use Rattle.std.proofs.lemmas.List.Sums.{AllPass-from_list_all}
use Rattle.std.proofs.lemmas.Bool.Decides.{nat_tests}
use Rattle.clause_check_spec.specs.declared.Literal.{Literal}
use Rattle.clause_check_spec.specs.Clause.{Clause, Cnf, Valuation, holds, satisfies_clause, satisfies, negation, is_of, are_of}
use Rattle.clause_check_spec.specs.Step.{is_true}
use Rattle.cnf_core.specs.Bits.{valuation}
use Rattle.sat_search_spec.specs.declared.Entry.{Entry}
use Rattle.sat_search_spec.specs.Clauses.{Has, IsLive, AreLive}
use Rattle.sat_search_spec.specs.Trail.{Trailed, truths, IsTrueBefore, IsAbsent, IsTrail}
use Rattle.sat_search_spec.proofs.Members.{true_or_false, and_both, and_left, and_right, same_or_negated, negation_twice, place_of}
use Rattle.sat_search_spec.proofs.Findings.{any_some, live_has}
use Rattle.sat_search_spec.proofs.Trails.{before_has, has_before, not_both_before}
use Rattle.sat_search_learning.specs.Search.{HasValue, AllHaveValue, positive_literal, IsReadOff}

below_or_at : (i n : ℕ) → i ≤ n + 1 → (i ≡ n + 1) ⊎ (i ≤ n)
below_or_at i n h = grind arith

pub one_value_more : (trail : Trailed) (last : ℕ) → AllHaveValue trail last → HasValue trail (last + 1) → AllHaveValue trail (last + 1)
one_value_more trail last all one variable positive within =
    elim (below_or_at variable last within) [
      | inl e ↦ subst (λ v. HasValue trail v) (sym e) one
      | inr below ↦ all variable positive below
    ]

-- ---- the model

named_low : (variables : ℕ) (l : Literal) → is_of variables l ≡ true → 1 ≤ l.variable
named_low variables l e = grind (arith, nat_tests)

named_high : (variables : ℕ) (l : Literal) → is_of variables l ≡ true → l.variable ≤ variables
named_high variables l e = grind (arith, nat_tests)

positive_is : (l : Literal) → l.is_negated ≡ false → positive_literal l.variable ≡ l
positive_is l e = ap (λ b. let m : Literal = record { variable = l.variable; is_negated = b } in m) (sym e)

negative_is : (l : Literal) → l.is_negated ≡ true → positive_literal l.variable ≡ negation l
negative_is l e = ap (λ b. let m : Literal = record { variable = l.variable; is_negated = not b } in m) (sym e)

-- a true literal holds
literal_holds : (clauses : List Clause) (trail : Trailed) (bits : List Bool) (l : Literal) → IsTrail trail.variables clauses trail.entries → IsReadOff trail trail.variables bits
    → is_of trail.variables l ≡ true → IsTrueBefore trail.entries (length trail.entries) l → holds (valuation bits) l ≡ true
literal_holds clauses trail bits l is_trail read named before =
    by_sign l.is_negated refl (get_or bits (l.variable - 1) false) refl
  where
    low : 1 ≤ l.variable
    low = named_low trail.variables l named

    high : l.variable ≤ trail.variables
    high = named_high trail.variables l named

    by_sign : (s : Bool) → l.is_negated ≡ s → (b : Bool) → get_or bits (l.variable - 1) false ≡ b
        → (if l.is_negated then not (get_or bits (l.variable - 1) false) else get_or bits (l.variable - 1) false) ≡ true
    by_sign false e true f = ap (λ s. if s then not (get_or bits (l.variable - 1) false) else get_or bits (l.variable - 1) false) e ∙ f
    by_sign false e false f =
        absurd (read.negative l.variable low high f before.place before.entry before.there (before.same ∙ sym (positive_is l e)))
    by_sign true e false f = ap (λ s. if s then not (get_or bits (l.variable - 1) false) else get_or bits (l.variable - 1) false) e ∙ ap not f
    by_sign true e true f =
        absurd (not_both_before trail.variables clauses trail.entries is_trail (length trail.entries) (length trail.entries) l before
        (subst (λ m. IsTrueBefore trail.entries (length trail.entries) m) (negative_is l e) (read.positive l.variable low high f)))

pub literal_of : (variables : ℕ) (clause : Clause) (l : Literal) → list_all (is_of variables) clause ≡ true → Has clause l → is_of variables l ≡ true
literal_of variables clause l named h =
    let at = place_of clause l h in
    subst (λ m. is_of variables m ≡ true) (get_or_from_slice_get clause at.0 l l at.1)
    (AllPass-from_list_all (is_of variables) clause named at.0 l (slice_get_within clause at.0 l at.1))

clause_satisfied : (clauses : List Clause) (trail : Trailed) (bits : List Bool) (clause : Clause) → IsTrail trail.variables clauses trail.entries
    → IsReadOff trail trail.variables bits → AllHaveValue trail trail.variables → list_all (is_of trail.variables) clause ≡ true
    → IsLive (truths (take (length trail.entries) trail.entries)) clause → satisfies_clause (valuation bits) clause ≡ true
clause_satisfied clauses trail bits clause is_trail read all named live =
    elim (live_has (truths (take (length trail.entries) trail.entries)) clause live) [
      | inl at ↦ true_one at.0 at.1 (has_before trail.entries (length trail.entries) at.0 at.2)
      | inr at ↦
          let l_named = literal_of trail.variables clause at.0 named at.1 in
          let value = all at.0.variable (named_low trail.variables at.0 l_named) (named_high trail.variables at.0 l_named) in
          elim (same_or_negated value.entry.literal at.0 value.same) [
            | inl e ↦ true_one at.0 at.1 (before value.place value.entry at.0 value.there e)
            | inr e ↦
                let gone = before_has trail.entries (length trail.entries) (negation at.0) (before value.place value.entry (negation at.0) value.there e) in
                let unset = at.2 in
                cc
          ]
    ]
  where
    true_one : (l : Literal) → Has clause l → IsTrueBefore trail.entries (length trail.entries) l → satisfies_clause (valuation bits) clause ≡ true
    true_one l h t = any_some (holds (valuation bits)) clause l h (literal_holds clauses trail bits l is_trail read (literal_of trail.variables clause l named h) t)

    before : (place : ℕ) (entry : Entry) (l : Literal) → slice_get trail.entries place ≡ Some entry → entry.literal ≡ l → IsTrueBefore trail.entries (length trail.entries) l
    before place entry l here e = record { place = place; entry = entry; earlier = slice_get_within trail.entries place entry here; there = here; same = e }

all_front : (clauses : List Clause) (trail : Trailed) (bits : List Bool) (front more : List Clause) → IsTrail trail.variables clauses trail.entries
    → IsReadOff trail trail.variables bits → AllHaveValue trail trail.variables → are_of trail.variables (front ++ more) ≡ true
    → AreLive (truths (take (length trail.entries) trail.entries)) (front ++ more) → satisfies (valuation bits) front ≡ true
all_front clauses trail bits [] more is_trail read all named live = refl
all_front clauses trail bits (c ∷ front) more is_trail read all named live =
    and_both (satisfies_clause (valuation bits) c) (satisfies (valuation bits) front)
    (clause_satisfied clauses trail bits c is_trail read all (and_left (list_all (is_of trail.variables) c) (are_of trail.variables (front ++ more)) named) (live 0 c refl))
    (all_front clauses trail bits front more is_trail read all (and_right (list_all (is_of trail.variables) c) (are_of trail.variables (front ++ more)) named) (λ i. live (suc i)))

-- the first clauses of those that are live
pub all_satisfied : (clauses given more : List Clause) (trail : Trailed) (bits : List Bool) → clauses ≡ given ++ more → IsTrail trail.variables clauses trail.entries
    → IsReadOff trail trail.variables bits → AllHaveValue trail trail.variables → are_of trail.variables clauses ≡ true
    → AreLive (truths (take (length trail.entries) trail.entries)) clauses → satisfies (valuation bits) given ≡ true
all_satisfied clauses given more trail bits e is_trail read all named live =
    all_front clauses trail bits given more is_trail read all (subst (λ c. are_of trail.variables c ≡ true) e named)
    (subst (λ c. AreLive (truths (take (length trail.entries) trail.entries)) c) e live)
