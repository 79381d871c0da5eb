-- Each line of a block keeps the invariant.
use Rattle.std.proofs.Common.{◌≡◌, ℕ, Bool, true, false, cond, List, [], ◌∷◌, map, Some, None, refl, sym, ap, ◌∙◌, eqb-true}
use Rattle.std.specs.Prelude.{◌==◌, ◌&&◌, not}
use Rattle.std.specs.List.{AllByRecursion}
use Rattle.std.proofs.lemmas.Bool.{and_parts}
use Rattle.std.proofs.lemmas.Option.{same_Some, cond_some}
use Rattle.term_core_spec.specs.declared.Sort.TheVariants as sort
use Rattle.term_core_spec.specs.Term.{Term, truth}
use Rattle.term_core_spec.specs.Sort.{sort_of, sort_of_atom, sort_of_unary}
use Rattle.term_core_spec.specs.Value.{Truth, Assignment, value, unary_value}
use Rattle.term_core_spec.proofs.Same.{same_is}
use Rattle.term_core_spec.proofs.Sorts.{as_truth}
use Rattle.term_core_spec.proofs.Soundness.{value-sort}
use Rattle.memory_spec.specs.Runs.{Run, AreBytes}
use Rattle.term_norm_spec.proofs.Keeps.{value-truth}
use Rattle.term_norm_spec.proofs.Soundness.{keeps_normal}
use Rattle.word_steps_spec.specs.Numbers.{Fact, Other, State, Reading, operation_at, term_at, now_at, rebuilt, at_places, made, operand_at, signed, same_sign, reading, is_fact, are_facts, is_bool}
use Rattle.word_steps_spec.specs.Lines.{with_fact, with_truth_at, is_refuted_by, argument_fact, with_merge}
use Rattle.word_steps_spec.specs.Invariant.{IsFact, IsMerge, AgreesOn, AgreesAt, Refutes, Holds}
use Rattle.word_steps_spec.proofs.Places.{made-value, made-sort}
use Rattle.word_steps_spec.proofs.Renewing.{now_sort, rebuilt_sort, rebuilt_value, renew_holds}

-- ---- what is known of a fact

same_sign-true : (a b : Bool) → same_sign a b ≡ true → a ≡ b
same_sign-true true b e = sym e
same_sign-true false true e = absurd (cc)
same_sign-true false false e = refl

fact_of : (P : Fact → Type 0) (fs : List Fact) (f : Fact) → AllByRecursion P fs → is_fact fs f ≡ true → (g : Fact) × P g × (g.number ≡ f.number) × (g.holds ≡ f.holds)
unfolding is_fact
fact_of P [] f h e = absurd (cc)
fact_of P (g ∷ fs) f h e = by (g.number == f.number && same_sign g.holds f.holds) refl e (fact_of P fs f h.1)
  where
    by : (test : Bool) → (g.number == f.number && same_sign g.holds f.holds) ≡ test → cond test true (is_fact fs f) ≡ true
        → (is_fact fs f ≡ true → (d : Fact) × P d × (d.number ≡ f.number) × (d.holds ≡ f.holds))
        → (d : Fact) × P d × (d.number ≡ f.number) × (d.holds ≡ f.holds)
    by true same d again =
        let tests = and_parts (g.number == f.number) (same_sign g.holds f.holds) same in
        (g, h.0, eqb-true g.number f.number tests.0, same_sign-true g.holds f.holds tests.1)
    by false other d again = again d

cond_true : {X : Type 0} (test : Bool) (x : X) (y : X) → cond test (Some x) None ≡ Some y → (test ≡ true) × (x ≡ y)
cond_true test x y e = cond_some test x y e

-- ---- one more fact, one more merge

module _ (runs : List Run) (small : AreBytes runs) (goal : Term) where
  pub fact_holds : (f : Fact) (s : State) → Holds runs goal s → IsFact s.numbers f
      → ((assignment : Assignment) → Refutes runs goal assignment → AgreesOn assignment s.numbers f) → Holds runs goal (with_fact runs f s)
  fact_holds f s h is says =
      renew_holds runs small goal f.number (record s { facts = f ∷ s.facts }) (record {
        state = record { fit = h.state.fit; true_or_false = (is, h.state.true_or_false); alike = h.state.alike };
        agrees = λ assignment refutes.
            let before = h.agrees assignment refutes in
            record { on_facts = (says assignment refutes, before.on_facts); on_nows = before.on_nows; on_merges = before.on_merges };
      })

  pub merge_holds : (x : ℕ) (o : Other) (s : State) → Holds runs goal s → IsMerge s.numbers (record { number = x; other = o })
      → ((assignment : Assignment) → Refutes runs goal assignment → AgreesAt assignment s.numbers (record { number = x; other = o })) → Holds runs goal (with_merge runs x o s)
  merge_holds x o s h is says =
      renew_holds runs small goal x (record s { merges = record { number = x; other = o } ∷ s.merges }) (record {
        state = record { fit = h.state.fit; true_or_false = h.state.true_or_false; alike = (is, h.state.alike) };
        agrees = λ assignment refutes.
            let before = h.agrees assignment refutes in
            record { on_facts = before.on_facts; on_nows = before.on_nows; on_merges = (says assignment refutes, before.on_merges) };
      })

-- ---- facts as they are read

pub signed_value : (assignment : Assignment) (b : Bool) (t : Term) → value assignment t ≡ Truth b → value assignment (signed b t) ≡ Truth true
unfolding value unary_value
signed_value assignment true t e = e
signed_value assignment false t e = rw e refl

pub signed_sort : (b : Bool) (t : Term) → sort_of t ≡ Some sort.Truth → sort_of (signed b t) ≡ Some sort.Truth
unfolding sort_of sort_of_unary
signed_sort true t e = e
signed_sort false t e = rw e refl

module _ (runs : List Run) (small : AreBytes runs) (goal : Term) (s : State) (h : Holds runs goal s) where
  pub fact_sort : (f : Fact) → is_fact s.facts f ≡ true → sort_of (term_at s.numbers f.number) ≡ Some sort.Truth
  fact_sort f named =
      let g = fact_of (IsFact s.numbers) s.facts f h.state.true_or_false named in
      ap (λ i. sort_of (term_at s.numbers i)) (sym g.2) ∙ g.1.truth

  pub fact_value : (f : Fact) → is_fact s.facts f ≡ true → (assignment : Assignment) → Refutes runs goal assignment → value assignment (term_at s.numbers f.number) ≡ Truth f.holds
  fact_value f named assignment refutes =
      let g = fact_of (AgreesOn assignment s.numbers) s.facts f (h.agrees assignment refutes).on_facts named in
      ap (λ i. value assignment (term_at s.numbers i)) (sym g.2) ∙ g.1 ∙ ap Truth g.3

  read_sort : (as_made : Bool) (k : ℕ) → sort_of (term_at s.numbers k) ≡ Some sort.Truth → sort_of (cond as_made (term_at s.numbers k) (rebuilt runs s.numbers k)) ≡ Some sort.Truth
  read_sort true k e = e
  read_sort false k e = rebuilt_sort runs small s.numbers h.state.fit k sort.Truth e

  read_value : (as_made : Bool) (k : ℕ) (assignment : Assignment) → Refutes runs goal assignment
      → value assignment (cond as_made (term_at s.numbers k) (rebuilt runs s.numbers k)) ≡ value assignment (term_at s.numbers k)
  read_value true k assignment refutes = refl
  read_value false k assignment refutes =
      rebuilt_value runs small s.numbers h.state.fit k assignment refutes.assigns refutes.fixed (h.agrees assignment refutes).on_nows

  pub reading_sort : (r : Reading) → is_fact s.facts r.fact ≡ true → sort_of (reading runs s.numbers r) ≡ Some sort.Truth
  reading_sort r named = signed_sort r.fact.holds _ (read_sort r.as_made r.fact.number (fact_sort r.fact named))

  pub reading_value : (r : Reading) → is_fact s.facts r.fact ≡ true → (assignment : Assignment) → Refutes runs goal assignment → value assignment (reading runs s.numbers r) ≡ Truth true
  reading_value r named assignment refutes =
      signed_value assignment r.fact.holds _ (read_value r.as_made r.fact.number assignment refutes ∙ fact_value r.fact named assignment refutes)

  pub readings_sorts : (rs : List Reading) → are_facts s.facts rs ≡ true → AllByRecursion (λ t. sort_of t ≡ Some sort.Truth) (map (reading runs s.numbers) rs)
  unfolding are_facts
  readings_sorts [] named = tt
  readings_sorts (r ∷ rs) named =
      let both = and_parts (is_fact s.facts r.fact) (are_facts s.facts rs) named in
      (reading_sort r both.0, readings_sorts rs both.1)

  pub readings_values : (rs : List Reading) → are_facts s.facts rs ≡ true → (assignment : Assignment) → Refutes runs goal assignment
      → AllByRecursion (λ t. value assignment t ≡ Truth true) (map (reading runs s.numbers) rs)
  unfolding are_facts
  readings_values [] named assignment refutes = tt
  readings_values (r ∷ rs) named assignment refutes =
      let both = and_parts (is_fact s.facts r.fact) (are_facts s.facts rs) named in
      (reading_value r both.0 assignment refutes, readings_values rs both.1 assignment refutes)

  -- ---- `fact F K`

  -- an argument in whose place a truth value is put
  module _ (f : Fact) (named : is_fact s.facts f ≡ true) (place x : ℕ) (at : operand_at place (operation_at s.numbers f.number) ≡ Some x)
      (x_sort : sort_of (term_at s.numbers x) ≡ Some sort.Truth) where
    abbrev put : Bool → ℕ → ℕ → Term
    put b i y = cond (i == place) (truth b) (now_at s.numbers y)

    abbrev over : Bool → Term
    over b = made (at_places (λ i y. put b i y) (operation_at s.numbers f.number))

    put_sort : (b : Bool) (i y : ℕ) → operand_at i (operation_at s.numbers f.number) ≡ Some y → sort_of (put b i y) ≡ sort_of (now_at s.numbers y)
    unfolding sort_of sort_of_atom
    put_sort b i y here = by (i == place) refl
      where
        by : (test : Bool) → (i == place) ≡ test → sort_of (cond test (truth b) (now_at s.numbers y)) ≡ sort_of (now_at s.numbers y)
        by false e = refl
        by true e =
            let one : x ≡ y = same_Some x y (sym at ∙ ap (λ j. operand_at j (operation_at s.numbers f.number)) (sym (eqb-true i place e)) ∙ here) in
            sym (ap (λ j. sort_of (now_at s.numbers j)) (sym one) ∙ now_sort s.numbers h.state.fit x ∙ x_sort)

    put_value : (b : Bool) (assignment : Assignment) → Refutes runs goal assignment → value assignment (term_at s.numbers x) ≡ Truth b
        → (i y : ℕ) → operand_at i (operation_at s.numbers f.number) ≡ Some y → value assignment (put b i y) ≡ value assignment (term_at s.numbers y)
    unfolding value
    put_value b assignment refutes is i y here = by (i == place) refl
      where
        by : (test : Bool) → (i == place) ≡ test → value assignment (cond test (truth b) (now_at s.numbers y)) ≡ value assignment (term_at s.numbers y)
        by false e = (h.agrees assignment refutes).on_nows y
        by true e =
            let one : x ≡ y = same_Some x y (sym at ∙ ap (λ j. operand_at j (operation_at s.numbers f.number)) (sym (eqb-true i place e)) ∙ here) in
            sym is ∙ ap (λ j. value assignment (term_at s.numbers j)) one

    over_sort : (b : Bool) → sort_of (over b) ≡ Some sort.Truth
    over_sort b =
        made-sort (λ i y. put b i y) (λ i y. term_at s.numbers y) (operation_at s.numbers f.number)
        (λ i y here. put_sort b i y here ∙ now_sort s.numbers h.state.fit y)
        ∙ ap sort_of (sym (h.state.fit.makes f.number)) ∙ fact_sort f named

    over_value : (b : Bool) (assignment : Assignment) → Refutes runs goal assignment → value assignment (term_at s.numbers x) ≡ Truth b
        → value assignment (with_truth_at runs s.numbers f.number place b) ≡ Truth f.holds
    over_value b assignment refutes is =
        (keeps_normal runs small (over b) sort.Truth (over_sort b)).value_is assignment refutes.assigns refutes.fixed
        ∙ made-value (λ i y. put b i y) (λ i y. term_at s.numbers y) assignment (operation_at s.numbers f.number) (put_value b assignment refutes is)
        ∙ ap (value assignment) (sym (h.state.fit.makes f.number)) ∙ fact_value f named assignment refutes

    -- the argument isn't the truth value with which the fact would not hold
    refuted : (b : Bool) → is_refuted_by runs s.numbers f place b ≡ true → (assignment : Assignment) → Refutes runs goal assignment → value assignment (term_at s.numbers x) ≡ Truth b → ⊥
    refuted b test assignment refutes is =
        both f.holds
        (sym (value-truth assignment (not f.holds))
        ∙ sym (ap (value assignment) (same_is (with_truth_at runs s.numbers f.number place b) (truth (not f.holds)) test)) ∙ over_value b assignment refutes is)
      where
        both : (c : Bool) → Truth (not c) ≡ Truth c → ⊥
        both true e = cc
        both false e = cc

    -- it is the other one
    other_truth : (b : Bool) → is_refuted_by runs s.numbers f place b ≡ true → (assignment : Assignment) → Refutes runs goal assignment → value assignment (term_at s.numbers x) ≡ Truth (not b)
    other_truth b test assignment refutes =
        let is = as_truth (value assignment (term_at s.numbers x)) (value-sort assignment refutes.assigns (term_at s.numbers x) sort.Truth x_sort) in
        by b is.0 test is.1
      where
        by : (b c : Bool) → is_refuted_by runs s.numbers f place b ≡ true → value assignment (term_at s.numbers x) ≡ Truth c → value assignment (term_at s.numbers x) ≡ Truth (not b)
        by true true t e = absurd (refuted true t assignment refutes e)
        by true false t e = e
        by false true t e = e
        by false false t e = absurd (refuted false t assignment refutes e)

    -- the fact that is known of the argument
    pub known_argument : (g : Fact) → argument_fact runs s.numbers f place x ≡ Some g → (g.number ≡ x)
        × ((assignment : Assignment) → Refutes runs goal assignment → value assignment (term_at s.numbers x) ≡ Truth g.holds)
    known_argument g e = on_bool (is_bool (term_at s.numbers x)) e
      where
        on_false : (test : Bool) → is_refuted_by runs s.numbers f place false ≡ test → cond test (Some (record { number = x; holds = true })) None ≡ Some g
            → (g.number ≡ x) × ((assignment : Assignment) → Refutes runs goal assignment → value assignment (term_at s.numbers x) ≡ Truth g.holds)
        on_false true t d =
            let is : record { number = x; holds = true } ≡ g = same_Some (record { number = x; holds = true }) g d in
            (sym (ap (λ (k : Fact). k.number) is), λ assignment refutes. other_truth false t assignment refutes ∙ ap (λ (k : Fact). Truth k.holds) is)
        on_false false t d = absurd (cc)

        on_true : (test : Bool) → is_refuted_by runs s.numbers f place true ≡ test
            → cond test (Some (record { number = x; holds = false })) (cond (is_refuted_by runs s.numbers f place false) (Some (record { number = x; holds = true })) None) ≡ Some g
            → (g.number ≡ x) × ((assignment : Assignment) → Refutes runs goal assignment → value assignment (term_at s.numbers x) ≡ Truth g.holds)
        on_true true t d =
            let is : record { number = x; holds = false } ≡ g = same_Some (record { number = x; holds = false }) g d in
            (sym (ap (λ (k : Fact). k.number) is), λ assignment refutes. other_truth true t assignment refutes ∙ ap (λ (k : Fact). Truth k.holds) is)
        on_true false t d = on_false (is_refuted_by runs s.numbers f place false) refl d

        on_bool : (test : Bool)
            → cond test (cond (is_refuted_by runs s.numbers f place true) (Some (record { number = x; holds = false }))
            (cond (is_refuted_by runs s.numbers f place false) (Some (record { number = x; holds = true })) None)) None ≡ Some g
            → (g.number ≡ x) × ((assignment : Assignment) → Refutes runs goal assignment → value assignment (term_at s.numbers x) ≡ Truth g.holds)
        on_bool true d = on_true (is_refuted_by runs s.numbers f place true) refl d
        on_bool false d = absurd (cc)
