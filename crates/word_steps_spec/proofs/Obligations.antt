-- What is left after a block: truth values in normal form, of which each assignment that refutes the goal refutes one.
use Rattle.std.proofs.Common.{◌≡◌, ℕ, ◌⊎◌, Bool, true, false, List, [], ◌∷◌, ◌++◌, map, Option, Some, None, option_and_then, inl, inr, refl, subst}
use Rattle.std.specs.Prelude.{◌&&◌}
use Rattle.std.specs.List.{AllByRecursion}
use Rattle.std.proofs.lemmas.Bool.{and_parts}
use Rattle.std.proofs.lemmas.Option.{cond_some}
use Rattle.term_core_spec.specs.declared.Sort.TheVariants as sort
use Rattle.term_core_spec.specs.Term.{Term, not_term}
use Rattle.term_core_spec.specs.Sort.{sort_of}
use Rattle.term_core_spec.specs.Value.{Truth, Assignment, value}
use Rattle.term_core_spec.proofs.Sorts.{as_truth}
use Rattle.term_core_spec.proofs.Soundness.{value-sort}
use Rattle.memory_spec.specs.Runs.{Run, AreBytes}
use Rattle.term_norm_spec.specs.Normal.{normal}
use Rattle.term_norm_spec.proofs.Settled.{normal_again}
use Rattle.word_steps_spec.specs.Numbers.{State, Reading, start, is_number, term_at, rebuilt, signed, reading, are_facts, is_bool}
use Rattle.word_steps_spec.specs.Lines.{after_lines, conjunction, End, Keep, Case, Block, kept_goal, left, goals_after}
use Rattle.word_steps_spec.specs.Invariant.{Refutes, RefutesOne, Holds}
use Rattle.word_steps_spec.proofs.Sorts.{bool_sort}
use Rattle.word_steps_spec.proofs.Renewing.{rebuilt_sort}
use Rattle.word_steps_spec.proofs.Keeping.{signed_sort, signed_value, readings_sorts}
use Rattle.word_steps_spec.proofs.Starting.{start_holds}
use Rattle.word_steps_spec.proofs.Lines.{lines_hold}
use Rattle.word_steps_spec.proofs.Left.{AreBools, not_all_sort, all_append, kept_false}

module _ (runs : List Run) (small : AreBytes runs) (goal : Term) where
  -- what holds of what is left after each state that has the invariant holds of what is left after a block
  pub after_block : (P : List Term → Type 0) → sort_of goal ≡ Some sort.Truth → (block : Block) (goals : List Term)
      → ((s : State) → Holds runs goal s → left runs s block.end ≡ Some goals → P goals) → goals_after runs goal block ≡ Some goals → P goals
  after_block P goal_sort block goals f e = by (after_lines runs (start goal) block.lines) refl e
    where
      by : (o : Option State) → after_lines runs (start goal) block.lines ≡ o → option_and_then (λ s. left runs s block.end) o ≡ Some goals → P goals
      by None d e = absurd (cc)
      by (Some s) d e = f s (lines_hold runs small goal block.lines (start goal) s (start_holds runs goal goal_sort) d) e

  -- ---- sorts

  abbrev case_term : State → ℕ → Bool → Term
  case_term s x b = signed b (rebuilt runs s.numbers x)

  kept_sort : (s : State) → Holds runs goal s → (kept : List Reading) → are_facts s.facts kept ≡ true → (more : List Term) → AreBools more
      → sort_of (kept_goal runs s kept more) ≡ Some sort.Truth
  kept_sort s h kept named more sorts =
      not_all_sort runs small (map (reading runs s.numbers) kept ++ more)
      (all_append runs small (λ t. sort_of t ≡ Some sort.Truth) (map (reading runs s.numbers) kept) more (readings_sorts runs small goal s h kept named) sorts)

  pub left_sorts : (s : State) → Holds runs goal s → (end : End) (goals : List Term) → left runs s end ≡ Some goals → AreBools goals
  unfolding left
  left_sorts s h (Keep kept) goals e =
      let passed = cond_some (are_facts s.facts kept) (kept_goal runs s kept [] ∷ []) goals e in
      subst AreBools passed.1 (kept_sort s h kept passed.0 [] tt, tt)
  left_sorts s h (Case kept x) goals e =
      let passed = cond_some (are_facts s.facts kept && (is_number s.numbers x && is_bool (term_at s.numbers x)))
      (kept_goal runs s kept (case_term s x true ∷ []) ∷ kept_goal runs s kept (case_term s x false ∷ []) ∷ []) goals e in
      let both = and_parts (are_facts s.facts kept) (is_number s.numbers x && is_bool (term_at s.numbers x)) passed.0 in
      let x_sort = bool_sort (term_at s.numbers x) (and_parts (is_number s.numbers x) (is_bool (term_at s.numbers x)) both.1).1 in
      let r_sort = rebuilt_sort runs small s.numbers h.state.fit x sort.Truth x_sort in
      subst AreBools passed.1 (
        kept_sort s h kept both.0 (case_term s x true ∷ []) (signed_sort true (rebuilt runs s.numbers x) r_sort, tt),
        (kept_sort s h kept both.0 (case_term s x false ∷ []) (signed_sort false (rebuilt runs s.numbers x) r_sort, tt), tt),
      )

  -- ---- normal forms

  pub left_normal : (s : State) (end : End) (goals : List Term) → left runs s end ≡ Some goals → AllByRecursion (λ t. normal runs t ≡ t) goals
  unfolding left
  left_normal s (Keep kept) goals e =
      let passed = cond_some (are_facts s.facts kept) (kept_goal runs s kept [] ∷ []) goals e in
      subst (AllByRecursion (λ t. normal runs t ≡ t)) passed.1 (normal_again runs (not_term (conjunction (map (reading runs s.numbers) kept ++ []))), tt)
  left_normal s (Case kept x) goals e =
      let passed = cond_some (are_facts s.facts kept && (is_number s.numbers x && is_bool (term_at s.numbers x)))
      (kept_goal runs s kept (case_term s x true ∷ []) ∷ kept_goal runs s kept (case_term s x false ∷ []) ∷ []) goals e in
      subst (AllByRecursion (λ t. normal runs t ≡ t)) passed.1 (
        normal_again runs (not_term (conjunction (map (reading runs s.numbers) kept ++ case_term s x true ∷ []))),
        (normal_again runs (not_term (conjunction (map (reading runs s.numbers) kept ++ case_term s x false ∷ []))), tt),
      )

  -- ---- assignments that refute the goal

  pub left_refuted : (s : State) → Holds runs goal s → (end : End) (goals : List Term) → left runs s end ≡ Some goals
      → (assignment : Assignment) → Refutes runs goal assignment → RefutesOne runs goals assignment
  unfolding left RefutesOne
  left_refuted s h (Keep kept) goals e assignment refutes =
      let passed = cond_some (are_facts s.facts kept) (kept_goal runs s kept [] ∷ []) goals e in
      subst (λ ts. RefutesOne runs ts assignment) passed.1
      (inl (record { assigns = refutes.assigns; fixed = refutes.fixed; falsifies = kept_false runs small goal s h kept passed.0 [] tt assignment refutes tt }))
  left_refuted s h (Case kept x) goals e assignment refutes =
      let passed = cond_some (are_facts s.facts kept && (is_number s.numbers x && is_bool (term_at s.numbers x)))
      (kept_goal runs s kept (case_term s x true ∷ []) ∷ kept_goal runs s kept (case_term s x false ∷ []) ∷ []) goals e in
      let both = and_parts (are_facts s.facts kept) (is_number s.numbers x && is_bool (term_at s.numbers x)) passed.0 in
      let x_sort = bool_sort (term_at s.numbers x) (and_parts (is_number s.numbers x) (is_bool (term_at s.numbers x)) both.1).1 in
      let r_sort = rebuilt_sort runs small s.numbers h.state.fit x sort.Truth x_sort in
      let case = as_truth (value assignment (rebuilt runs s.numbers x)) (value-sort assignment refutes.assigns (rebuilt runs s.numbers x) sort.Truth r_sort) in
      subst (λ ts. RefutesOne runs ts assignment) passed.1 (by both.0 r_sort case.0 case.1)
    where
      refuted : are_facts s.facts kept ≡ true → sort_of (rebuilt runs s.numbers x) ≡ Some sort.Truth → (b : Bool) → value assignment (rebuilt runs s.numbers x) ≡ Truth b
          → Refutes runs (kept_goal runs s kept (case_term s x b ∷ [])) assignment
      refuted named r_sort b is = record {
        assigns = refutes.assigns;
        fixed = refutes.fixed;
        falsifies =
            kept_false runs small goal s h kept named (case_term s x b ∷ []) (signed_sort b (rebuilt runs s.numbers x) r_sort, tt) assignment refutes
            (signed_value assignment b (rebuilt runs s.numbers x) is, tt);
      }

      by : are_facts s.facts kept ≡ true → sort_of (rebuilt runs s.numbers x) ≡ Some sort.Truth → (b : Bool) → value assignment (rebuilt runs s.numbers x) ≡ Truth b
          → Refutes runs (kept_goal runs s kept (case_term s x true ∷ [])) assignment ⊎ (Refutes runs (kept_goal runs s kept (case_term s x false ∷ [])) assignment ⊎ ⊥)
      by named r_sort true is = inl (refuted named r_sort true is)
      by named r_sort false is = inr (inl (refuted named r_sort false is))
