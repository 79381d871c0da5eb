-- An assignment that satisfies the clauses before a step that follows satisfies the step.
use Rattle.std.proofs.Common.{◌≡◌, ℕ, suc, ◌+◌, ◌-◌, Bool, true, false, List, [], ◌∷◌, ◌++◌, map, Option, Some, None, refl, ap, sym, ◌∙◌, subst, arith, inl, inr, ◌⊎◌}
use Rattle.std.specs.Prelude.{◌==◌, ◌&&◌, ◌||◌, not, filter, slice_get, cond, if◌then◌else◌}
use Rattle.std.specs.List.{list_any, list_all}
use Rattle.std.proofs.lemmas.Bool.Decides.{Decides-eqb}
use Rattle.std.proofs.lemmas.Option.{slice_get_within, get_or_from_slice_get}
use Rattle.std.proofs.lemmas.List.Sums.{AllPass-from_list_all}
use Rattle.clause_check_spec.specs.declared.Literal.{Literal}
use Rattle.clause_check_spec.specs.declared.StepFaultKind.TheVariants.{Literals}
use Rattle.clause_check_spec.specs.Clause.{Clause, Valuation, holds, satisfies_clause, satisfies, negation, same_literal, same_sign}
use Rattle.clause_check_spec.specs.Step.{is_true, is_false, Finding, Missing, Holds, Several, Forces, Fails, found_among, finding, finding_of, finding_at, Outcome, Follows, Refused, outcome_of, is_nothing, propagate, are_fit, outcome}

-- ---- literals

abbrev sign_value : Bool → Bool → Bool
sign_value negated value = if negated then not value else value

flipped : (negated value : Bool) → sign_value (not negated) value ≡ not (sign_value negated value)
flipped true true = refl
flipped true false = refl
flipped false true = refl
flipped false false = refl

holds-negation : (values : Valuation) (l : Literal) → holds values (negation l) ≡ not (holds values l)
holds-negation values l = flipped l.is_negated (values l.variable)

signs : (a b value : Bool) → same_sign a b ≡ true → sign_value a value ≡ sign_value b value
signs true true value e = refl
signs true false value e = cc
signs false true value e = cc
signs false false value e = refl

both : (a b : Bool) → (a && b) ≡ true → (a ≡ true) × (b ≡ true)
both true true e = (refl, refl)
both true false e = cc
both false b e = cc

holds-same : (values : Valuation) (a b : Literal) → same_literal a b ≡ true → holds values a ≡ holds values b
holds-same values a b e =
    let parts = both (a.variable == b.variable) (same_sign a.is_negated b.is_negated) e in
    signs a.is_negated b.is_negated (values a.variable) parts.1
    ∙ ap (λ v. sign_value b.is_negated (values v)) ((Decides-eqb a.variable b.variable).0 parts.0)

-- ---- true and false literals

AllHold : Valuation → List Literal → Type 0
AllHold values truths = list_all (holds values) truths ≡ true

either : (a b : Bool) (P : Type 0) → (a || b) ≡ true → (a ≡ true → P) → (b ≡ true → P) → P
either true b P e f g = f refl
either false b P e f g = g e

true_holds : (values : Valuation) (truths : List Literal) (l : Literal) → list_all (holds values) truths ≡ true → is_true truths l ≡ true
    → holds values l ≡ true
true_holds values [] l all e = cc
true_holds values (t ∷ truths) l all e =
    let parts = both (holds values t) (list_all (holds values) truths) all in
    either (same_literal l t) (is_true truths l) (holds values l ≡ true) e
    (λ same. holds-same values l t same ∙ parts.0)
    (true_holds values truths l parts.1)

not_true : (b : Bool) → not b ≡ true → b ≡ false
not_true true e = cc
not_true false e = refl

false_fails : (values : Valuation) (truths : List Literal) (l : Literal) → list_all (holds values) truths ≡ true → is_false truths l ≡ true
    → holds values l ≡ false
false_fails values truths l all e =
    not_true (holds values l) (sym (holds-negation values l) ∙ true_holds values truths (negation l) all e)

-- ---- a clause that is satisfied

abbrev not_false : List Literal → Literal → Bool
not_false truths l = not (is_false truths l)

kept_case : (values : Valuation) (truths : List Literal) (l : Literal) (rest : List Literal) (b : Bool) → is_false truths l ≡ b → list_all (holds values) truths ≡ true
    → (holds values l || list_any (holds values) rest) ≡ true
    → (list_any (holds values) rest ≡ true → list_any (holds values) (filter (not_false truths) rest) ≡ true)
    → list_any (holds values) (cond (not b) (l ∷ filter (not_false truths) rest) (filter (not_false truths) rest)) ≡ true
kept_case values truths l rest true e all satisfied more =
    either (holds values l) (list_any (holds values) rest) (list_any (holds values) (filter (not_false truths) rest) ≡ true) satisfied
    (λ here. let gone = false_fails values truths l all e in cc) more
kept_case values truths l rest false e all satisfied more =
    either (holds values l) (list_any (holds values) rest) ((holds values l || list_any (holds values) (filter (not_false truths) rest)) ≡ true) satisfied
    (λ here. ap (λ b. b || list_any (holds values) (filter (not_false truths) rest)) here)
    (λ there. or_right (holds values l) (list_any (holds values) (filter (not_false truths) rest)) (more there))
  where
    or_right : (a b : Bool) → b ≡ true → (a || b) ≡ true
    or_right true b e = refl
    or_right false b e = e

-- a literal that holds is not false
kept : (values : Valuation) (truths : List Literal) (clause : List Literal) → list_all (holds values) truths ≡ true → list_any (holds values) clause ≡ true
    → list_any (holds values) (filter (not_false truths) clause) ≡ true
kept values truths [] all satisfied = satisfied
kept values truths (l ∷ rest) all satisfied =
    kept_case values truths l rest (is_false truths l) refl all satisfied (kept values truths rest all)

all_alike : (values : Valuation) (l : Literal) (others : List Literal) → list_all (same_literal l) others ≡ true → list_any (holds values) others ≡ true
    → holds values l ≡ true
all_alike values l [] same satisfied = cc
all_alike values l (o ∷ others) same satisfied =
    let parts = both (same_literal l o) (list_all (same_literal l) others) same in
    either (holds values o) (list_any (holds values) others) (holds values l ≡ true) satisfied
    (λ here. holds-same values l o parts.0 ∙ here) (all_alike values l others parts.1)

forced_case : (values : Valuation) (l m : Literal) (others : List Literal) (b : Bool) → list_all (same_literal l) others ≡ b
    → (if b then Forces l else Several) ≡ Forces m → (holds values l || list_any (holds values) others) ≡ true → holds values m ≡ true
forced_case values l m others true alike e satisfied =
    let same : l ≡ m = cc in
    subst (λ k. holds values k ≡ true) same
    (either (holds values l) (list_any (holds values) others) (holds values l ≡ true) satisfied (λ here. here) (all_alike values l others alike))
forced_case values l m others false alike e satisfied = cc

forced : (values : Valuation) (open_literals : List Literal) (m : Literal) → found_among open_literals ≡ Forces m
    → list_any (holds values) open_literals ≡ true → holds values m ≡ true
forced values [] m e satisfied = cc
forced values (l ∷ others) m e satisfied = forced_case values l m others (list_all (same_literal l) others) refl e satisfied

failed_case : (l : Literal) (b : Bool) → (if b then Forces l else Several) ≡ Fails → ⊥
failed_case l true e = cc
failed_case l false e = cc

failed : (values : Valuation) (open_literals : List Literal) → found_among open_literals ≡ Fails → list_any (holds values) open_literals ≡ true → ⊥
failed values [] e satisfied = cc
failed values (l ∷ others) e satisfied = failed_case l (list_all (same_literal l) others) e

forces_satisfied : (values : Valuation) (truths : List Literal) (clause : Clause) (m : Literal) → list_all (holds values) truths ≡ true → satisfies_clause values clause ≡ true
    → finding truths clause ≡ Forces m → holds values m ≡ true
unfolding finding
forces_satisfied values truths clause m all satisfied e =
    by_truth (list_any (is_true truths) clause) refl e
  where
    by_truth : (b : Bool) → list_any (is_true truths) clause ≡ b → (if b then Holds else found_among (filter (not_false truths) clause)) ≡ Forces m
        → holds values m ≡ true
    by_truth true here f = cc
    by_truth false here f = forced values (filter (not_false truths) clause) m f (kept values truths clause all satisfied)

fails_unsatisfied : (values : Valuation) (truths : List Literal) (clause : Clause) → list_all (holds values) truths ≡ true → satisfies_clause values clause ≡ true
    → finding truths clause ≡ Fails → ⊥
unfolding finding
fails_unsatisfied values truths clause all satisfied e = by_truth (list_any (is_true truths) clause) refl e
  where
    by_truth : (b : Bool) → list_any (is_true truths) clause ≡ b → (if b then Holds else found_among (filter (not_false truths) clause)) ≡ Fails → ⊥
    by_truth true here f = cc
    by_truth false here f = failed values (filter (not_false truths) clause) f (kept values truths clause all satisfied)

-- ---- the clause of a number

satisfied_at : (values : Valuation) (clauses : List Clause) (i : ℕ) (clause : Clause) → satisfies values clauses ≡ true → slice_get clauses i ≡ Some clause
    → satisfies_clause values clause ≡ true
satisfied_at values clauses i clause satisfied here =
    let bound = slice_get_within clauses i clause here in
    subst (λ c. satisfies_clause values c ≡ true) (get_or_from_slice_get clauses i clause clause here)
    (AllPass-from_list_all (satisfies_clause values) clauses satisfied i clause bound)

found_clause : (clauses : List Clause) (truths : List Literal) (number : ℕ) (found : Finding) → finding_at clauses truths number ≡ found
    → (found ≡ Missing) ⊎ ((clause : Clause) × (slice_get clauses (number - 1) ≡ Some clause) × (finding truths clause ≡ found))
found_clause clauses truths number found e = by_number (number == 0) refl e
  where
    by_clause : (o : Option Clause) → slice_get clauses (number - 1) ≡ o → finding_of truths o ≡ found
        → (found ≡ Missing) ⊎ ((clause : Clause) × (slice_get clauses (number - 1) ≡ Some clause) × (finding truths clause ≡ found))
    by_clause None here f = inl (sym f)
    by_clause (Some clause) here f = inr (clause, here, f)

    by_number : (b : Bool) → (number == 0) ≡ b → (if b then Missing else finding_of truths (slice_get clauses (number - 1))) ≡ found
        → (found ≡ Missing) ⊎ ((clause : Clause) × (slice_get clauses (number - 1) ≡ Some clause) × (finding truths clause ≡ found))
    by_number true here f = inl (sym f)
    by_number false here f = by_clause (slice_get clauses (number - 1)) refl f

-- ---- the hints

all_with : (values : Valuation) (truths : List Literal) (l : Literal) → list_all (holds values) truths ≡ true → holds values l ≡ true
    → list_all (holds values) (truths ++ l ∷ []) ≡ true
all_with values [] l all here = ap (λ b. b && true) here
all_with values (t ∷ truths) l all here =
    let parts = both (holds values t) (list_all (holds values) truths) all in
    ap (λ b. b && list_all (holds values) (truths ++ l ∷ [])) parts.0 ∙ all_with values truths l parts.1 here

by_finding : (values : Valuation) (clauses : List Clause) (truths : List Literal) (number hint : ℕ) (is_last : Bool) (on : Literal → Outcome)
    → satisfies values clauses ≡ true → list_all (holds values) truths ≡ true
    → (found : Finding) → finding_at clauses truths number ≡ found → outcome_of hint is_last found on ≡ Follows
    → ((l : Literal) → holds values l ≡ true → on l ≡ Follows → ⊥) → ⊥
by_finding values clauses truths number hint is_last on satisfied all Missing f e rest = cc
by_finding values clauses truths number hint is_last on satisfied all Holds f e rest = cc
by_finding values clauses truths number hint is_last on satisfied all Several f e rest = cc
by_finding values clauses truths number hint is_last on satisfied all (Forces l) f e rest =
    elim (found_clause clauses truths number (Forces l) f) [
      | inl gone ↦ cc
      | inr there ↦ rest l (forces_satisfied values truths there.0 l all (satisfied_at values clauses (number - 1) there.0 satisfied there.1) there.2) e
    ]
by_finding values clauses truths number hint is_last on satisfied all Fails f e rest =
    elim (found_clause clauses truths number Fails f) [
      | inl gone ↦ cc
      | inr there ↦ fails_unsatisfied values truths there.0 all (satisfied_at values clauses (number - 1) there.0 satisfied there.1) there.2
    ]

-- where a propagation ends in a conflict no model of the clauses makes true all that was made true
propagate_sound : (values : Valuation) (clauses : List Clause) (hints : List ℕ) (truths : List Literal) (count : ℕ) → satisfies values clauses ≡ true
    → list_all (holds values) truths ≡ true → propagate clauses hints truths count ≡ Follows → ⊥
unfolding propagate
propagate_sound values clauses [] truths count satisfied all e = cc
propagate_sound values clauses (number ∷ hints) truths count satisfied all e =
    by_finding values clauses truths number (count + 1) (is_nothing hints) (λ l. propagate clauses hints (truths ++ l ∷ []) (count + 1)) satisfied all
    (finding_at clauses truths number) refl e
    (λ l here. propagate_sound values clauses hints (truths ++ l ∷ []) (count + 1) satisfied (all_with values truths l all here))

unsatisfied : (values : Valuation) (literals : List Literal) → satisfies_clause values literals ≡ false → list_all (holds values) (map negation literals) ≡ true
unsatisfied values [] e = refl
unsatisfied values (l ∷ literals) e =
    let parts = neither (holds values l) (list_any (holds values) literals) e in
    ap (λ b. b && list_all (holds values) (map negation literals)) (holds-negation values l ∙ ap not parts.0) ∙ unsatisfied values literals parts.1
  where
    neither : (a b : Bool) → (a || b) ≡ false → (a ≡ false) × (b ≡ false)
    neither true b e = cc
    neither false b e = (refl, e)

satisfied_or_not : (values : Valuation) (clauses : List Clause) (literals : List Literal) (hints : List ℕ) (b : Bool) → satisfies_clause values literals ≡ b
    → satisfies values clauses ≡ true → propagate clauses hints (map negation literals) 0 ≡ Follows → b ≡ true
satisfied_or_not values clauses literals hints true e satisfied f = refl
satisfied_or_not values clauses literals hints false e satisfied f =
    absurd (propagate_sound values clauses hints (map negation literals) 0 satisfied (unsatisfied values literals e) f)

by_fit : (variables : ℕ) (clauses : List Clause) (literals : List Literal) (hints : List ℕ) (fit : Bool)
    → (if fit then propagate clauses hints (map negation literals) 0 else Refused 0 Literals) ≡ Follows
    → (values : Valuation) → satisfies values clauses ≡ true → satisfies_clause values literals ≡ true
by_fit variables clauses literals hints true e values satisfied = satisfied_or_not values clauses literals hints (satisfies_clause values literals) refl satisfied e
by_fit variables clauses literals hints false e values satisfied = cc

-- a model of the clauses satisfies a step that follows
pub outcome_sound : (variables : ℕ) (clauses : List Clause) (literals : List Literal) (hints : List ℕ) → outcome variables clauses literals hints ≡ Follows
    → (values : Valuation) → satisfies values clauses ≡ true → satisfies_clause values literals ≡ true
unfolding outcome
outcome_sound variables clauses literals hints e values satisfied =
    by_fit variables clauses literals hints (are_fit variables literals) e values satisfied
