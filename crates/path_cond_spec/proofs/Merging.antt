-- What several conditionals as one mean: one of them is true, and those that are true agree.
use Rattle.std.proofs.Common.{◌≡◌, ◌∙◌, Bool, true, false, ◌||◌, cond, List, [], ◌∷◌, refl, sym, ap, subst, inl, inr}
use Rattle.std.specs.List.{fold, list_any, All}
use Rattle.std.proofs.lemmas.List.Elements.{All-head, All-tail}
use Rattle.std.proofs.lemmas.Bool.{and_parts, or_cases, cases_Bool, false≢true}
use Rattle.term_core_spec.specs.declared.Variable.{Variable}
use Rattle.term_core_spec.specs.Term.{Term, or_term, choose}
use Rattle.term_core_spec.specs.Same.{same_term}
use Rattle.term_core_spec.specs.Substitution.{State}
use Rattle.term_core_spec.specs.Value.{Assignment, Value, Truth, value, IsOfSort}
use Rattle.term_core_spec.proofs.Same.{same_is}
use Rattle.term_core_spec.proofs.Soundness.{cond_value}
use Rattle.graph_core_spec.specs.Run.{is_truth}
use Rattle.path_cond_spec.specs.Conditions.{Conditional, any_of, is_common, chosen, merged}
use Rattle.path_cond_spec.specs.Passages.{holds}
use Rattle.path_cond_spec.proofs.Truths.{IsTruth, truth_is, value-truth, value-or, value-choose, or-false, or_assoc}

module _ (a : Assignment) where
  -- the condition has a truth value
  abbrev pub IsTested : Conditional → Type 0
  IsTested c = IsTruth a c.condition

  -- one of the conditions is true
  abbrev pub some_holds : List Conditional → Bool
  some_holds cs = list_any (λ (c : Conditional). holds a c.condition) cs

  any_from : (t : Term) (rest : List Conditional) → IsTruth a t → All IsTested rest
      → value a (fold (λ (u : Term) (d : Conditional). or_term u d.condition) t rest) ≡ Truth (holds a t || some_holds rest)
  any_from t [] here others = here ∙ ap Truth (sym (or-false (holds a t)))
  any_from t (d ∷ rest) here others =
      let of_d : IsTested d = All-head IsTested d rest others in
      let both : value a (or_term t d.condition) ≡ Truth (holds a t || holds a d.condition) = value-or a t d.condition (holds a t) (holds a d.condition) here of_d in
      any_from (or_term t d.condition) rest (truth_is a (or_term t d.condition) _ both) (All-tail IsTested d rest others)
      ∙ ap Truth (ap (λ (p : Bool). p || some_holds rest) (ap is_truth both) ∙ or_assoc (holds a t) (holds a d.condition) (some_holds rest))

  pub any-value : (cs : List Conditional) → All IsTested cs → value a (any_of cs) ≡ Truth (some_holds cs)
  any-value [] tested = value-truth a false
  any-value (c ∷ rest) tested = any_from c.condition rest (All-head IsTested c rest tested) (All-tail IsTested c rest tested)

  module _ (v : Variable) (w : Value) where
    -- where the condition is true, the variable has the value w
    abbrev pub Gives : Conditional → Type 0
    Gives c = holds a c.condition ≡ true → value a (c.state v) ≡ w

    common-value : (t : Term) (rest : List Conditional) → is_common v t rest ≡ true → All Gives rest → some_holds rest ≡ true → value a t ≡ w
    common-value t [] same give some = absurd (false≢true some)
    common-value t (d ∷ rest) same give some =
        let parts = and_parts (same_term t (d.state v)) (is_common v t rest) same in
        elim (or_cases (holds a d.condition) (some_holds rest) some) [
          | inl here ↦ ap (value a) (same_is t (d.state v) parts.0) ∙ All-head Gives d rest give here
          | inr later ↦ common-value t rest parts.1 (All-tail Gives d rest give) later
        ]

    chosen-value : (c : Conditional) (rest : List Conditional) → All IsTested (c ∷ rest) → All Gives (c ∷ rest) → (holds a c.condition || some_holds rest) ≡ true
        → value a (chosen v c rest) ≡ w
    unfolding chosen
    chosen-value c [] tested give some = All-head Gives c [] give (sym (or-false (holds a c.condition)) ∙ some)
    chosen-value c (d ∷ rest) tested give some =
        let is : value a (choose c.condition (c.state v) (chosen v d rest)) ≡ cond (holds a c.condition) (value a (c.state v)) (value a (chosen v d rest)) =
        value-choose a c.condition (c.state v) (chosen v d rest) (holds a c.condition) (All-head IsTested c (d ∷ rest) tested) in
        elim (cases_Bool (holds a c.condition)) [
          | inl here ↦ is ∙ ap (λ (p : Bool). cond p (value a (c.state v)) (value a (chosen v d rest))) here ∙ All-head Gives c (d ∷ rest) give here
          | inr away ↦
              let later : some_holds (d ∷ rest) ≡ true = ap (λ (p : Bool). p || some_holds (d ∷ rest)) (sym away) ∙ some in
              is ∙ ap (λ (p : Bool). cond p (value a (c.state v)) (value a (chosen v d rest))) away
              ∙ chosen-value d rest (All-tail IsTested c (d ∷ rest) tested) (All-tail Gives c (d ∷ rest) give) later
        ]

    either_value : (test : Bool) (c : Conditional) (rest : List Conditional) → is_common v (c.state v) rest ≡ test → All IsTested (c ∷ rest) → All Gives (c ∷ rest)
        → (holds a c.condition || some_holds rest) ≡ true → value a (cond test (c.state v) (chosen v c rest)) ≡ w
    either_value true c rest same tested give some = elim (or_cases (holds a c.condition) (some_holds rest) some) [
      | inl here ↦ All-head Gives c rest give here
      | inr later ↦ common-value (c.state v) rest same (All-tail Gives c rest give) later
    ]
    either_value false c rest same tested give some = chosen-value c rest tested give some

    -- those that are true agree on the variable, and one of them is true: so the merged state has that value
    pub merged-value : (start : State) (cs : List Conditional) → All IsTested cs → All Gives cs → some_holds cs ≡ true → value a (merged start cs v) ≡ w
    unfolding merged
    merged-value start [] tested give some = absurd (false≢true some)
    merged-value start (c ∷ rest) tested give some = either_value (is_common v (c.state v) rest) c rest refl tested give some

  -- ---- sorts

  module _ (v : Variable) where
    -- the variable has a value of its sort
    abbrev pub IsFit : Conditional → Type 0
    IsFit c = IsOfSort v.sort (value a (c.state v))

    chosen-sort : (c : Conditional) (rest : List Conditional) → All IsTested (c ∷ rest) → All IsFit (c ∷ rest) → IsOfSort v.sort (value a (chosen v c rest))
    unfolding chosen
    chosen-sort c [] tested fit = All-head IsFit c [] fit
    chosen-sort c (d ∷ rest) tested fit =
        subst (IsOfSort v.sort) (sym (value-choose a c.condition (c.state v) (chosen v d rest) (holds a c.condition) (All-head IsTested c (d ∷ rest) tested)))
        (cond_value v.sort (holds a c.condition) (value a (c.state v)) (value a (chosen v d rest)) (All-head IsFit c (d ∷ rest) fit)
        (chosen-sort d rest (All-tail IsTested c (d ∷ rest) tested) (All-tail IsFit c (d ∷ rest) fit)))

    either_sort : (test : Bool) (x y : Term) → IsOfSort v.sort (value a x) → IsOfSort v.sort (value a y) → IsOfSort v.sort (value a (cond test x y))
    either_sort true x y of_x of_y = of_x
    either_sort false x y of_x of_y = of_y

    pub merged-sort : (start : State) (cs : List Conditional) → IsOfSort v.sort (value a (start v)) → All IsTested cs → All IsFit cs → IsOfSort v.sort (value a (merged start cs v))
    unfolding merged
    merged-sort start [] of_start tested fit = of_start
    merged-sort start (c ∷ rest) of_start tested fit =
        either_sort (is_common v (c.state v) rest) (c.state v) (chosen v c rest) (All-head IsFit c rest fit) (chosen-sort c rest tested fit)
