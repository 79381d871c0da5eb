-- Renewing a number keeps what holds of a state.
use Rattle.std.proofs.Common.{◌≡◌, ℕ, zero, suc, Bool, true, false, cond, List, [], ◌∷◌, Option, Some, None, ◌⊎◌, inl, inr, refl, sym, ap, ◌∙◌, eqb-true}
use Rattle.std.specs.Prelude.{◌==◌}
use Rattle.std.specs.List.{AllByRecursion}
use Rattle.std.proofs.lemmas.Option.{same_Some}
use Rattle.term_core_spec.specs.declared.Sort.{Sort}
use Rattle.term_core_spec.specs.declared.Sort.TheVariants as sort
use Rattle.term_core_spec.specs.Term.{Term}
use Rattle.term_core_spec.specs.Sort.{sort_of, sort_of_atom}
use Rattle.term_core_spec.specs.Value.{Truth, Assignment, IsAssignment, value}
use Rattle.memory_spec.specs.Runs.{Run, AreBytes}
use Rattle.term_norm_spec.specs.Fixed.{HoldsFixed}
use Rattle.term_norm_spec.proofs.Soundness.{keeps_normal}
use Rattle.word_steps_spec.specs.Numbers.{Operation, Number, Fact, Merge, Other, Numbered, Known, State, is_number, operation_at, term_at, now_at, term_over, rebuilt, at_places, made, operand_at, known_truth, merged_with, other_term, other_now, truth_or, other_or, renewed, with_now, renew, renew_up_to}
use Rattle.word_steps_spec.specs.Invariant.{IsThere, AreNumbers, IsFact, IsMerge, IsState, AgreesOn, AgreesAt, Agrees, Holds}
use Rattle.word_steps_spec.proofs.Sorts.{alike_sort}
use Rattle.word_steps_spec.proofs.Places.{made-same, made-value, made-sort}
use Rattle.word_steps_spec.proofs.Lookups.{with_now-operation, with_now-term, with_now-now, with_now-there}

pub all_map : {X : Type 0} (P Q : X → Type 0) (xs : List X) → ((x : X) → P x → Q x) → AllByRecursion P xs → AllByRecursion Q xs
all_map P Q [] f h = tt
all_map {X} P Q (x ∷ xs) f h = (f x h.0, all_map P Q xs f h.1)

-- ---- terms that numbers keep

-- the numbers that there were are there, with the terms that they had
pub record KeepTerms (numbers more : List Number) : Type 0 where
  pub there : (k : ℕ) → is_number numbers k ≡ true → is_number more k ≡ true
  pub terms : (k : ℕ) → is_number numbers k ≡ true → term_at more k ≡ term_at numbers k

module _ (numbers more : List Number) (keep : KeepTerms numbers more) where
  kept_other : (o : Other) → IsThere numbers o → other_term more o ≡ other_term numbers o
  kept_other (Numbered y) h = keep.terms y h
  kept_other (Known constant) h = refl

  kept_there : (o : Other) → IsThere numbers o → IsThere more o
  kept_there (Numbered y) h = keep.there y h
  kept_there (Known constant) h = tt

  pub kept_fact : (f : Fact) → IsFact numbers f → IsFact more f
  kept_fact f h = record { there = keep.there f.number h.there; truth = ap sort_of (keep.terms f.number h.there) ∙ h.truth }

  pub kept_merge : (m : Merge) → IsMerge numbers m → IsMerge more m
  kept_merge m h = record {
    there = keep.there m.number h.there;
    other_there = kept_there m.other h.other_there;
    alike = rw (keep.terms m.number h.there, kept_other m.other h.other_there) h.alike;
  }

  module _ (assignment : Assignment) where
    kept_on_fact : (f : Fact) → IsFact numbers f → AgreesOn assignment numbers f → AgreesOn assignment more f
    kept_on_fact f h e = ap (value assignment) (keep.terms f.number h.there) ∙ e

    pub kept_on_facts : (fs : List Fact) → AllByRecursion (IsFact numbers) fs → AllByRecursion (AgreesOn assignment numbers) fs → AllByRecursion (AgreesOn assignment more) fs
    kept_on_facts [] h e = tt
    kept_on_facts (f ∷ fs) h e = (kept_on_fact f h.0 e.0, kept_on_facts fs h.1 e.1)

    kept_on_merge : (m : Merge) → IsMerge numbers m → AgreesAt assignment numbers m → AgreesAt assignment more m
    kept_on_merge m h e =
        ap (value assignment) (keep.terms m.number h.there) ∙ e ∙ sym (ap (value assignment) (kept_other m.other h.other_there))

    pub kept_on_merges : (ms : List Merge) → AllByRecursion (IsMerge numbers) ms → AllByRecursion (AgreesAt assignment numbers) ms → AllByRecursion (AgreesAt assignment more) ms
    kept_on_merges [] h e = tt
    kept_on_merges (m ∷ ms) h e = (kept_on_merge m h.0 e.0, kept_on_merges ms h.1 e.1)

-- ---- a number that is now t

module _ (numbers : List Number) (k : ℕ) (t : Term) where
  pub now_keeps : KeepTerms numbers (with_now numbers k t)
  now_keeps = record { there = λ j h. with_now-there numbers k t j ∙ h; terms = λ j h. with_now-term numbers k t j }

  now_over : (o : Operation ℕ) → term_over (with_now numbers k t) o ≡ term_over numbers o
  now_over o = made-same (λ i x. term_at (with_now numbers k t) x) (λ i x. term_at numbers x) o (λ i x at. with_now-term numbers k t x)

  -- t is of the sort of k
  pub now_fits : ((s : Sort) → sort_of (term_at numbers k) ≡ Some s → sort_of t ≡ Some s) → AreNumbers numbers → AreNumbers (with_now numbers k t)
  now_fits fits h = record {
    makes = λ j. with_now-term numbers k t j ∙ h.makes j ∙ sym (now_over (operation_at numbers j)) ∙ ap (term_over (with_now numbers k t)) (sym (with_now-operation numbers k t j));
    within = λ j i x at. with_now-there numbers k t x ∙ h.within j i x (sym (ap (operand_at i) (with_now-operation numbers k t j)) ∙ at);
    sorted = λ j. record {
      sort = (h.sorted j).sort;
      was = ap sort_of (with_now-term numbers k t j) ∙ (h.sorted j).was;
      is = of j (with_now-now numbers k t j);
    };
  }
    where
      of : (j : ℕ) → (now_at (with_now numbers k t) j ≡ now_at numbers j) ⊎ ((j ≡ k) × (now_at (with_now numbers k t) j ≡ t))
          → sort_of (now_at (with_now numbers k t) j) ≡ Some ((h.sorted j).sort)
      of j (inl e) = ap sort_of e ∙ (h.sorted j).is
      of j (inr e) = ap sort_of e.1 ∙ fits ((h.sorted j).sort) (sym (ap (λ i. sort_of (term_at numbers i)) e.0) ∙ (h.sorted j).was)

  -- t has the value of k
  pub now_agrees : (assignment : Assignment) → value assignment t ≡ value assignment (term_at numbers k)
      → ((j : ℕ) → value assignment (now_at numbers j) ≡ value assignment (term_at numbers j))
      → (j : ℕ) → value assignment (now_at (with_now numbers k t) j) ≡ value assignment (term_at (with_now numbers k t) j)
  now_agrees assignment e h j = of (with_now-now numbers k t j) ∙ sym (ap (value assignment) (with_now-term numbers k t j))
    where
      of : (now_at (with_now numbers k t) j ≡ now_at numbers j) ⊎ ((j ≡ k) × (now_at (with_now numbers k t) j ≡ t))
          → value assignment (now_at (with_now numbers k t) j) ≡ value assignment (term_at numbers j)
      of (inl d) = ap (value assignment) d ∙ h j
      of (inr d) = ap (value assignment) d.1 ∙ e ∙ sym (ap (λ i. value assignment (term_at numbers i)) d.0)

-- ---- what facts and merges say of a number

module _ (numbers : List Number) (k : ℕ) where
  truth_sort : (fs : List Fact) → AllByRecursion (IsFact numbers) fs → (b : Bool) → known_truth fs k ≡ Some b → sort_of (term_at numbers k) ≡ Some sort.Truth
  unfolding known_truth
  truth_sort [] h b e = absurd (cc)
  truth_sort (f ∷ fs) h b e = by (f.number == k) refl e (truth_sort fs h.1 b)
    where
      by : (test : Bool) → (f.number == k) ≡ test → cond test (Some f.holds) (known_truth fs k) ≡ Some b
          → (known_truth fs k ≡ Some b → sort_of (term_at numbers k) ≡ Some sort.Truth) → sort_of (term_at numbers k) ≡ Some sort.Truth
      by true same d again = ap (λ i. sort_of (term_at numbers i)) (sym (eqb-true f.number k same)) ∙ h.0.truth
      by false other d again = again d

  truth_value : (assignment : Assignment) (fs : List Fact) → AllByRecursion (AgreesOn assignment numbers) fs → (b : Bool) → known_truth fs k ≡ Some b
      → value assignment (term_at numbers k) ≡ Truth b
  unfolding known_truth
  truth_value assignment [] h b e = absurd (cc)
  truth_value assignment (f ∷ fs) h b e = by (f.number == k) refl e (truth_value assignment fs h.1 b)
    where
      by : (test : Bool) → (f.number == k) ≡ test → cond test (Some f.holds) (known_truth fs k) ≡ Some b
          → (known_truth fs k ≡ Some b → value assignment (term_at numbers k) ≡ Truth b) → value assignment (term_at numbers k) ≡ Truth b
      by true same d again = ap (λ i. value assignment (term_at numbers i)) (sym (eqb-true f.number k same)) ∙ h.0 ∙ ap Truth (same_Some f.holds b d)
      by false other d again = again d

  merge_alike : (ms : List Merge) → AllByRecursion (IsMerge numbers) ms → (o : Other) → merged_with ms k ≡ Some o → sort_of (term_at numbers k) ≡ sort_of (other_term numbers o)
  unfolding merged_with
  merge_alike [] h o e = absurd (cc)
  merge_alike (m ∷ ms) h o e = by (m.number == k) refl e (merge_alike ms h.1 o)
    where
      by : (test : Bool) → (m.number == k) ≡ test → cond test (Some m.other) (merged_with ms k) ≡ Some o
          → (merged_with ms k ≡ Some o → sort_of (term_at numbers k) ≡ sort_of (other_term numbers o)) → sort_of (term_at numbers k) ≡ sort_of (other_term numbers o)
      by true same d again =
          ap (λ i. sort_of (term_at numbers i)) (sym (eqb-true m.number k same))
          ∙ alike_sort (term_at numbers m.number) (other_term numbers m.other) h.0.alike
          ∙ ap (λ x. sort_of (other_term numbers x)) (same_Some m.other o d)
      by false other d again = again d

  merge_value : (assignment : Assignment) (ms : List Merge) → AllByRecursion (AgreesAt assignment numbers) ms → (o : Other) → merged_with ms k ≡ Some o
      → value assignment (term_at numbers k) ≡ value assignment (other_term numbers o)
  unfolding merged_with
  merge_value assignment [] h o e = absurd (cc)
  merge_value assignment (m ∷ ms) h o e = by (m.number == k) refl e (merge_value assignment ms h.1 o)
    where
      by : (test : Bool) → (m.number == k) ≡ test → cond test (Some m.other) (merged_with ms k) ≡ Some o
          → (merged_with ms k ≡ Some o → value assignment (term_at numbers k) ≡ value assignment (other_term numbers o))
          → value assignment (term_at numbers k) ≡ value assignment (other_term numbers o)
      by true same d again =
          ap (λ i. value assignment (term_at numbers i)) (sym (eqb-true m.number k same)) ∙ h.0 ∙ ap (λ x. value assignment (other_term numbers x)) (same_Some m.other o d)
      by false other d again = again d

-- the sort of what a number is now is that of its term
pub now_sort : (numbers : List Number) → AreNumbers numbers → (k : ℕ) → sort_of (now_at numbers k) ≡ sort_of (term_at numbers k)
now_sort numbers h k = (h.sorted k).is ∙ sym ((h.sorted k).was)

other_sort : (numbers : List Number) → AreNumbers numbers → (o : Other) → sort_of (other_now numbers o) ≡ sort_of (other_term numbers o)
other_sort numbers h (Numbered y) = now_sort numbers h y
other_sort numbers h (Known constant) = refl

other_value : (numbers : List Number) (assignment : Assignment) → ((k : ℕ) → value assignment (now_at numbers k) ≡ value assignment (term_at numbers k))
    → (o : Other) → value assignment (other_now numbers o) ≡ value assignment (other_term numbers o)
other_value numbers assignment h (Numbered y) = h y
other_value numbers assignment h (Known constant) = refl

-- ---- renewing

module _ (runs : List Run) (small : AreBytes runs) where
  over_nows : (numbers : List Number) → AreNumbers numbers → (k : ℕ) → sort_of (made (at_places (λ i x. now_at numbers x) (operation_at numbers k))) ≡ sort_of (term_at numbers k)
  over_nows numbers h k =
      made-sort (λ i x. now_at numbers x) (λ i x. term_at numbers x) (operation_at numbers k) (λ i x at. now_sort numbers h x) ∙ ap sort_of (sym (h.makes k))

  pub rebuilt_sort : (numbers : List Number) → AreNumbers numbers → (k : ℕ) (s : Sort) → sort_of (term_at numbers k) ≡ Some s → sort_of (rebuilt runs numbers k) ≡ Some s
  rebuilt_sort numbers h k s e = (keeps_normal runs small (made (at_places (λ i x. now_at numbers x) (operation_at numbers k))) s (over_nows numbers h k ∙ e)).sorted

  pub rebuilt_value : (numbers : List Number) → AreNumbers numbers → (k : ℕ) (assignment : Assignment) → IsAssignment assignment → HoldsFixed runs assignment
      → ((j : ℕ) → value assignment (now_at numbers j) ≡ value assignment (term_at numbers j)) → value assignment (rebuilt runs numbers k) ≡ value assignment (term_at numbers k)
  rebuilt_value numbers h k assignment assigns fixed nows =
      (keeps_normal runs small (made (at_places (λ i x. now_at numbers x) (operation_at numbers k))) ((h.sorted k).sort) (over_nows numbers h k ∙ (h.sorted k).was)).value_is assignment assigns fixed
      ∙ made-value (λ i x. now_at numbers x) (λ i x. term_at numbers x) assignment (operation_at numbers k) (λ i x at. nows x)
      ∙ ap (value assignment) (sym (h.makes k))

  renewed_sort : (s : State) → IsState s → (k : ℕ) (q : Sort) → sort_of (term_at s.numbers k) ≡ Some q → sort_of (renewed runs s k) ≡ Some q
  unfolding sort_of sort_of_atom
  renewed_sort s h k q e = by_fact (known_truth s.facts k) refl
    where
      by_merge : (o : Option Other) → merged_with s.merges k ≡ o → sort_of (other_or s.numbers o (rebuilt runs s.numbers k)) ≡ Some q
      by_merge (Some other) d = other_sort s.numbers h.fit other ∙ sym (merge_alike s.numbers k s.merges h.alike other d) ∙ e
      by_merge None d = rebuilt_sort s.numbers h.fit k q e

      by_fact : (o : Option Bool) → known_truth s.facts k ≡ o → sort_of (truth_or o (other_or s.numbers (merged_with s.merges k) (rebuilt runs s.numbers k))) ≡ Some q
      by_fact (Some b) d = sym (truth_sort s.numbers k s.facts h.true_or_false b d) ∙ e
      by_fact None d = by_merge (merged_with s.merges k) refl

  renewed_value : (s : State) → IsState s → (k : ℕ) (assignment : Assignment) → IsAssignment assignment → HoldsFixed runs assignment → Agrees s assignment
      → value assignment (renewed runs s k) ≡ value assignment (term_at s.numbers k)
  unfolding value
  renewed_value s h k assignment assigns fixed agrees = by_fact (known_truth s.facts k) refl
    where
      by_merge : (o : Option Other) → merged_with s.merges k ≡ o → value assignment (other_or s.numbers o (rebuilt runs s.numbers k)) ≡ value assignment (term_at s.numbers k)
      by_merge (Some other) d = other_value s.numbers assignment agrees.on_nows other ∙ sym (merge_value s.numbers k assignment s.merges agrees.on_merges other d)
      by_merge None d = rebuilt_value s.numbers h.fit k assignment assigns fixed agrees.on_nows

      by_fact : (o : Option Bool) → known_truth s.facts k ≡ o
          → value assignment (truth_or o (other_or s.numbers (merged_with s.merges k) (rebuilt runs s.numbers k))) ≡ value assignment (term_at s.numbers k)
      by_fact (Some b) d = sym (truth_value s.numbers k assignment s.facts agrees.on_facts b d)
      by_fact None d = by_merge (merged_with s.merges k) refl

  pub renew_holds : (goal : Term) (k : ℕ) (s : State) → Holds runs goal s → Holds runs goal (renew runs k s)
  unfolding renew
  renew_holds goal k s h =
      let keep = now_keeps s.numbers k (renewed runs s k) in
      record {
        state = record {
          fit = now_fits s.numbers k (renewed runs s k) (λ q e. renewed_sort s h.state k q e) h.state.fit;
          true_or_false = all_map (IsFact s.numbers) (IsFact (with_now s.numbers k (renewed runs s k))) s.facts (kept_fact s.numbers (with_now s.numbers k (renewed runs s k)) keep) h.state.true_or_false;
          alike = all_map (IsMerge s.numbers) (IsMerge (with_now s.numbers k (renewed runs s k))) s.merges (kept_merge s.numbers (with_now s.numbers k (renewed runs s k)) keep) h.state.alike;
        };
        agrees = λ assignment refutes.
            let before = h.agrees assignment refutes in
            let same = renewed_value s h.state k assignment refutes.assigns refutes.fixed before in
            record {
              on_facts = kept_on_facts s.numbers (with_now s.numbers k (renewed runs s k)) keep assignment s.facts h.state.true_or_false before.on_facts;
              on_nows = now_agrees s.numbers k (renewed runs s k) assignment same before.on_nows;
              on_merges = kept_on_merges s.numbers (with_now s.numbers k (renewed runs s k)) keep assignment s.merges h.state.alike before.on_merges;
            };
      }

  pub renew_up_to_holds : (goal : Term) (count : ℕ) (s : State) → Holds runs goal s → Holds runs goal (renew_up_to runs count s)
  unfolding renew_up_to
  renew_up_to_holds goal zero s h = h
  renew_up_to_holds goal (suc count) s h = renew_holds goal (suc count) (renew_up_to runs count s) (renew_up_to_holds goal count s h)
