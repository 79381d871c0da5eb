-- What is left after a block is enough.
use Rattle.std.proofs.Common.{◌≡◌, ℕ, Bool, true, false, List, [], ◌∷◌, ◌++◌, map, Option, Some, None, option_and_then, refl, sym, ◌∙◌, subst}
use Rattle.std.specs.Prelude.{◌&&◌}
use Rattle.std.specs.List.{AllByRecursion}
use Rattle.std.proofs.lemmas.Bool.{and_parts}
use Rattle.std.proofs.lemmas.Option.{cond_some}
use Rattle.term_core_spec.specs.declared.Sort.TheVariants as sort
use Rattle.term_core_spec.specs.Term.{Term, not_term, and_term}
use Rattle.term_core_spec.specs.Sort.{sort_of, sort_of_atom, sort_of_unary, sort_of_binary}
use Rattle.term_core_spec.specs.Value.{Truth, Assignment, IsAssignment, value, unary_value, binary_value}
use Rattle.term_core_spec.proofs.Sorts.{as_truth}
use Rattle.term_core_spec.proofs.Soundness.{value-sort}
use Rattle.memory_spec.specs.Runs.{Run, AreBytes}
use Rattle.term_norm_spec.specs.Fixed.{HoldsFixed}
use Rattle.term_norm_spec.proofs.Soundness.{keeps_normal}
use Rattle.word_steps_spec.specs.Numbers.{State, Reading, start, is_number, term_at, rebuilt, signed, reading, are_facts, is_bool}
use Rattle.word_steps_spec.specs.Lines.{after_lines, and_all, conjunction, not_all, End, Keep, Case, Block, kept_goal, left, goals_after}
use Rattle.word_steps_spec.specs.Invariant.{Refutes, Holds, IsValid}
use Rattle.word_steps_spec.proofs.Sorts.{bool_sort}
use Rattle.word_steps_spec.proofs.Renewing.{rebuilt_sort}
use Rattle.word_steps_spec.proofs.Keeping.{signed_sort, signed_value, readings_sorts, readings_values}
use Rattle.word_steps_spec.proofs.Starting.{start_holds}
use Rattle.word_steps_spec.proofs.Lines.{lines_hold}

-- ---- conjunctions

abbrev pub AreBools : List Term → Type 0
AreBools ts = AllByRecursion (λ t. sort_of t ≡ Some sort.Truth) ts

abbrev AreTrue : Assignment → List Term → Type 0
AreTrue assignment ts = AllByRecursion (λ t. value assignment t ≡ Truth true) ts

and_all_sort : (t : Term) (ts : List Term) → sort_of t ≡ Some sort.Truth → AreBools ts → sort_of (and_all t ts) ≡ Some sort.Truth
unfolding and_all sort_of sort_of_binary
and_all_sort t [] e h = e
and_all_sort t (u ∷ ts) e h = and_all_sort (and_term t u) ts (rw (e, h.0) refl) h.1

conjunction_sort : (ts : List Term) → AreBools ts → sort_of (conjunction ts) ≡ Some sort.Truth
unfolding sort_of sort_of_atom
conjunction_sort [] h = refl
conjunction_sort (t ∷ ts) h = and_all_sort t ts h.0 h.1

and_all_true : (assignment : Assignment) (t : Term) (ts : List Term) → value assignment t ≡ Truth true → AreTrue assignment ts → value assignment (and_all t ts) ≡ Truth true
unfolding and_all value binary_value
and_all_true assignment t [] e h = e
and_all_true assignment t (u ∷ ts) e h = and_all_true assignment (and_term t u) ts (rw (e, h.0) refl) h.1

conjunction_true : (assignment : Assignment) (ts : List Term) → AreTrue assignment ts → value assignment (conjunction ts) ≡ Truth true
unfolding value
conjunction_true assignment [] h = refl
conjunction_true assignment (t ∷ ts) h = and_all_true assignment t ts h.0 h.1

module _ (runs : List Run) (small : AreBytes runs) where
  not_sort : (ts : List Term) → AreBools ts → sort_of (not_term (conjunction ts)) ≡ Some sort.Truth
  unfolding sort_of sort_of_unary
  not_sort ts h = rw (conjunction_sort ts h) refl

  pub not_all_sort : (ts : List Term) → AreBools ts → sort_of (not_all runs ts) ≡ Some sort.Truth
  not_all_sort ts h = (keeps_normal runs small (not_term (conjunction ts)) sort.Truth (not_sort ts h)).sorted

  -- where all are true, the goal that they are not is false
  not_all_false : (ts : List Term) → AreBools ts → (assignment : Assignment) → IsAssignment assignment → HoldsFixed runs assignment → AreTrue assignment ts
      → value assignment (not_all runs ts) ≡ Truth false
  unfolding value unary_value
  not_all_false ts h assignment assigns fixed are =
      (keeps_normal runs small (not_term (conjunction ts)) sort.Truth (not_sort ts h)).value_is assignment assigns fixed
      ∙ rw (conjunction_true assignment ts are) refl

  pub all_append : (P : Term → Type 0) (xs ys : List Term) → AllByRecursion P xs → AllByRecursion P ys → AllByRecursion P (xs ++ ys)
  all_append P [] ys h g = g
  all_append P (x ∷ xs) ys h g = (h.0, all_append P xs ys h.1 g)

  module _ (goal : Term) where
    false_true : (b : Bool) → Truth b ≡ Truth true → Truth b ≡ Truth false → ⊥
    false_true b e d = let one : Truth true ≡ Truth false = sym e ∙ d in cc

    -- a goal of the kept facts and some terms that hold is false where the goal is
    pub kept_false : (s : State) → Holds runs goal s → (kept : List Reading) → are_facts s.facts kept ≡ true → (more : List Term) → AreBools more
        → (assignment : Assignment) → Refutes runs goal assignment → AreTrue assignment more → value assignment (kept_goal runs s kept more) ≡ Truth false
    kept_false s h kept named more sorts assignment refutes are =
        not_all_false (map (reading runs s.numbers) kept ++ more)
        (all_append (λ t. sort_of t ≡ Some sort.Truth) (map (reading runs s.numbers) kept) more (readings_sorts runs small goal s h kept named) sorts)
        assignment refutes.assigns refutes.fixed
        (all_append (λ t. value assignment t ≡ Truth true) (map (reading runs s.numbers) kept) more (readings_values runs small goal s h kept named assignment refutes) are)

    -- the goals after `case`: one has the number as a fact, the other its opposite
    case_refuted : (s : State) → Holds runs goal s → (kept : List Reading) (x : ℕ) → are_facts s.facts kept ≡ true → sort_of (term_at s.numbers x) ≡ Some sort.Truth
        → ((b : Bool) → IsValid runs (kept_goal runs s kept (signed b (rebuilt runs s.numbers x) ∷ []))) → (assignment : Assignment) → Refutes runs goal assignment → ⊥
    case_refuted s h kept x named x_sort valid assignment refutes =
        let r_sort = rebuilt_sort runs small s.numbers h.state.fit x sort.Truth x_sort in
        let case = as_truth (value assignment (rebuilt runs s.numbers x)) (value-sort assignment refutes.assigns (rebuilt runs s.numbers x) sort.Truth r_sort) in
        let false_there =
        kept_false s h kept named (signed case.0 (rebuilt runs s.numbers x) ∷ []) (signed_sort case.0 (rebuilt runs s.numbers x) r_sort, tt) assignment refutes
        (signed_value assignment case.0 (rebuilt runs s.numbers x) case.1, tt) in
        let one : Truth true ≡ Truth false = sym (valid case.0 assignment refutes.assigns refutes.fixed) ∙ false_there in
        cc

    -- where what is left is valid, nothing refutes the goal
    none_refutes : (s : State) → Holds runs goal s → (end : End) (goals : List Term) → left runs s end ≡ Some goals → AllByRecursion (IsValid runs) goals
        → (assignment : Assignment) → Refutes runs goal assignment → ⊥
    unfolding left
    none_refutes s h (Keep kept) goals e valid assignment refutes =
        let passed = cond_some (are_facts s.facts kept) (kept_goal runs s kept [] ∷ []) goals e in
        let is_valid : AllByRecursion (IsValid runs) (kept_goal runs s kept [] ∷ []) = subst (AllByRecursion (IsValid runs)) (sym passed.1) valid in
        let one : Truth true ≡ Truth false = sym (is_valid.0 assignment refutes.assigns refutes.fixed) ∙ kept_false s h kept passed.0 [] tt assignment refutes tt in
        cc
    none_refutes s h (Case kept x) goals e valid assignment refutes =
        let one = kept_goal runs s kept (signed true (rebuilt runs s.numbers x) ∷ []) in
        let other = kept_goal runs s kept (signed false (rebuilt runs s.numbers x) ∷ []) in
        let passed = cond_some (are_facts s.facts kept && (is_number s.numbers x && is_bool (term_at s.numbers x))) (one ∷ other ∷ []) goals e in
        let both = and_parts (are_facts s.facts kept) (is_number s.numbers x && is_bool (term_at s.numbers x)) passed.0 in
        let are_valid : AllByRecursion (IsValid runs) (one ∷ other ∷ []) = subst (AllByRecursion (IsValid runs)) (sym passed.1) valid in
        case_refuted s h kept x both.0 (bool_sort (term_at s.numbers x) (and_parts (is_number s.numbers x) (is_bool (term_at s.numbers x)) both.1).1) (each are_valid.0 are_valid.1.0) assignment refutes
      where
        each : IsValid runs (kept_goal runs s kept (signed true (rebuilt runs s.numbers x) ∷ [])) → IsValid runs (kept_goal runs s kept (signed false (rebuilt runs s.numbers x) ∷ []))
            → (b : Bool) → IsValid runs (kept_goal runs s kept (signed b (rebuilt runs s.numbers x) ∷ []))
        each f g true = f
        each f g false = g

  -- valid goals after a block give a valid goal
  pub block_is_enough : (goal : Term) → sort_of goal ≡ Some sort.Truth → (block : Block) (goals : List Term) → goals_after runs goal block ≡ Some goals
      → AllByRecursion (IsValid runs) goals → IsValid runs goal
  block_is_enough goal goal_sort block goals e valid assignment assigns fixed =
      let truth_value = as_truth (value assignment goal) (value-sort assignment assigns goal sort.Truth goal_sort) in
      by truth_value.0 truth_value.1
    where
      after : (o : Option State) → after_lines runs (start goal) block.lines ≡ o → option_and_then (λ s. left runs s block.end) o ≡ Some goals
          → Refutes runs goal assignment → ⊥
      after None d e refutes = cc
      after (Some s) d e refutes =
          none_refutes goal s (lines_hold runs small goal block.lines (start goal) s (start_holds runs goal goal_sort) d) block.end goals e valid assignment refutes

      by : (b : Bool) → value assignment goal ≡ Truth b → value assignment goal ≡ Truth true
      by true is = is
      by false is = absurd (after (after_lines runs (start goal) block.lines) refl e (record { assigns = assigns; fixed = fixed; falsifies = is }))
