-- Each line of a block keeps the invariant.
use Rattle.std.proofs.Common.{◌≡◌, ℕ, zero, suc, ◌+◌, Bool, true, false, cond, List, [], ◌∷◌, ◌++◌, length, map, slice_get, Option, Some, None, option_and_then, unwrap_or, ◌⊎◌, inl, inr, refl, sym, ap, ◌∙◌, subst}
use Rattle.std.specs.Prelude.{◌==◌, ◌&&◌, not, nat_lt}
use Rattle.std.proofs.lemmas.Bool.{and_parts}
use Rattle.std.proofs.lemmas.Option.{same_Some, cond_some}
use Rattle.term_core_spec.specs.declared.Sort.{Sort}
use Rattle.term_core_spec.specs.declared.Sort.TheVariants as sort
use Rattle.term_core_spec.specs.declared.Atom.{Atom}
use Rattle.term_core_spec.specs.declared.BinaryOperator.TheVariants as binary
use Rattle.term_core_spec.specs.Term.{Term, Leaf, equal}
use Rattle.term_core_spec.specs.Sort.{sort_of, sort_of_binary, with_two}
use Rattle.term_core_spec.specs.Value.{Assignment, value}
use Rattle.memory_spec.specs.Runs.{Run, AreBytes}
use Rattle.term_norm_spec.proofs.Equals.{Alike, truths, words, alike_of}
use Rattle.word_steps_spec.specs.Numbers.{Operation, Number, Fact, Numbered, Known, State, Reading, number_at, is_number, operation_at, term_at, now_at, term_over, operands, operand_at, renewed, renew, renew_up_to, reading, same_sign, is_fact, are_facts, is_bool, are_alike, has_sort}
use Rattle.word_steps_spec.specs.Lines.{MergeRule, DecisionRule, merges_by, decided_by, Line, Next, Argument, Parts, Renew, RenewAll, MergeBy, DecideBy, Zone, SWEEPS, are_numbers, is_open, is_value, new_number, with_number, next_number, with_fact, argument_fact, with_argument_fact, with_next_place, with_places, with_merge, merged, merged_if, with_constant, decided, decided_if, zoned, zoned_if, applied, after_lines}
use Rattle.word_steps_spec.specs.Invariant.{IsSorted, AreNumbers, IsFact, IsMerge, Holds}
use Rattle.word_steps_spec.proofs.Places.{made-same}
use Rattle.word_steps_spec.proofs.Lookups.{push-either, push-same, push-there}
use Rattle.word_steps_spec.proofs.Sorts.{bool_sort}
use Rattle.word_steps_spec.proofs.Renewing.{all_map, KeepTerms, kept_fact, kept_merge, kept_on_facts, kept_on_merges, now_keeps, now_sort, renew_holds, renew_up_to_holds}
use Rattle.word_steps_spec.proofs.Keeping.{fact_holds, merge_holds, readings_values, known_argument}
use Rattle.word_steps_spec.specs.Zones.{says_zone}
use Rattle.word_steps_spec.proofs.ZonesHold.{zone_sound}
use Rattle.word_steps_spec.proofs.Rules.{merges_sound, decided_sound}

-- ---- one more number

each_number : (numbers : List Number) (ks : List ℕ) → are_numbers numbers ks ≡ true → (i x : ℕ) → slice_get ks i ≡ Some x → is_number numbers x ≡ true
each_number numbers [] all i x e = absurd (cc)
each_number numbers (k ∷ ks) all zero x e = ap (is_number numbers) (sym (same_Some k x e)) ∙ (and_parts (is_number numbers k) (are_numbers numbers ks) all).0
each_number numbers (k ∷ ks) all (suc i) x e = each_number numbers ks (and_parts (is_number numbers k) (are_numbers numbers ks) all).1 i x e

value_sort : (t : Term) → is_value t ≡ true → (s : Sort) × (sort_of t ≡ Some s)
value_sort t h = by ((alike_of t t sort.Truth (bool_sort (equal t t) h)).1)
  where
    by : Alike t t → (s : Sort) × (sort_of t ≡ Some s)
    by (truths first second) = (sort.Truth, first)
    by (words w first second) = (sort.Word w, first)

module _ (numbers : List Number) (operation : Operation ℕ) (there : are_numbers numbers (operands operation) ≡ true) where
  abbrev new : Number
  new = new_number numbers operation

  abbrev more : List Number
  more = numbers ++ new ∷ []

  operand_there : (i x : ℕ) → operand_at i operation ≡ Some x → is_number numbers x ≡ true
  operand_there zero x e = absurd (cc)
  operand_there (suc i) x e = each_number numbers (operands operation) there i x e

  pub push_keeps : KeepTerms numbers more
  push_keeps = record { there = push-there numbers new; terms = λ k h. ap (λ (n : Number). n.term) (push-same numbers new k h) }

  -- a term over numbers that were there
  over_same : (o : Operation ℕ) → ((i x : ℕ) → operand_at i o ≡ Some x → is_number numbers x ≡ true) → term_over more o ≡ term_over numbers o
  over_same o within = made-same (λ i x. term_at more x) (λ i x. term_at numbers x) o (λ i x at. push_keeps.terms x (within i x at))

  module _ (h : AreNumbers numbers) where
    push_makes : (k : ℕ) → term_at more k ≡ term_over more (operation_at more k)
    push_makes k = by (push-either numbers new k)
      where
        by : (number_at more k ≡ number_at numbers k) ⊎ ((k ≡ suc (length numbers)) × (number_at more k ≡ new)) → term_at more k ≡ term_over more (operation_at more k)
        by (inl e) =
            ap (λ (n : Number). n.term) e ∙ h.makes k ∙ sym (over_same (operation_at numbers k) (h.within k)) ∙ ap (λ (n : Number). term_over more n.operation) (sym e)
        by (inr e) = ap (λ (n : Number). n.term) e.1 ∙ sym (over_same operation operand_there) ∙ ap (λ (n : Number). term_over more n.operation) (sym e.1)

    push_within : (k i x : ℕ) → operand_at i (operation_at more k) ≡ Some x → is_number more x ≡ true
    push_within k i x at = push-there numbers new x (by (push-either numbers new k))
      where
        by : (number_at more k ≡ number_at numbers k) ⊎ ((k ≡ suc (length numbers)) × (number_at more k ≡ new)) → is_number numbers x ≡ true
        by (inl e) = h.within k i x (sym (ap (λ (n : Number). operand_at i n.operation) e) ∙ at)
        by (inr e) = operand_there i x (sym (ap (λ (n : Number). operand_at i n.operation) e.1) ∙ at)

    push_sorted : is_value (term_over numbers operation) ≡ true → (k : ℕ) → IsSorted more k
    push_sorted sorted k = by (push-either numbers new k)
      where
        by : (number_at more k ≡ number_at numbers k) ⊎ ((k ≡ suc (length numbers)) × (number_at more k ≡ new)) → IsSorted more k
        by (inl e) = record {
          sort = (h.sorted k).sort;
          was = ap (λ (n : Number). sort_of n.term) e ∙ (h.sorted k).was;
          is = ap (λ (n : Number). sort_of n.now) e ∙ (h.sorted k).is;
        }
        by (inr e) =
            let found = value_sort (term_over numbers operation) sorted in
            record {
              sort = found.0;
              was = ap (λ (n : Number). sort_of n.term) e.1 ∙ found.1;
              is = ap (λ (n : Number). sort_of n.now) e.1 ∙ found.1;
            }

    pub push_fits : is_value (term_over numbers operation) ≡ true → AreNumbers more
    push_fits sorted = record { makes = push_makes; within = push_within; sorted = push_sorted sorted }

  pub push_nows : (assignment : Assignment) → ((k : ℕ) → value assignment (now_at numbers k) ≡ value assignment (term_at numbers k))
      → (k : ℕ) → value assignment (now_at more k) ≡ value assignment (term_at more k)
  push_nows assignment h k = by (push-either numbers new k)
    where
      by : (number_at more k ≡ number_at numbers k) ⊎ ((k ≡ suc (length numbers)) × (number_at more k ≡ new)) → value assignment (now_at more k) ≡ value assignment (term_at more k)
      by (inl e) = ap (λ (n : Number). value assignment n.now) e ∙ h k ∙ sym (ap (λ (n : Number). value assignment n.term) e)
      by (inr e) = ap (λ (n : Number). value assignment n.now) e.1 ∙ sym (ap (λ (n : Number). value assignment n.term) e.1)

-- ---- terms of one sort

alike_by_sorts : (x y u v : Term) → sort_of u ≡ sort_of x → sort_of v ≡ sort_of y → are_alike x y ≡ true → are_alike u v ≡ true
unfolding sort_of
alike_by_sorts x y u v e d h =
    ap (λ o. has_sort (with_two (sort_of_binary binary.Equal) o (sort_of v)) sort.Truth) e
    ∙ ap (λ o. has_sort (with_two (sort_of_binary binary.Equal) (sort_of x) o) sort.Truth) d ∙ h

module _ (runs : List Run) (small : AreBytes runs) (goal : Term) where
  pub next_holds : (operation : Operation ℕ) (s t : State) → Holds runs goal s → next_number runs operation s ≡ Some t → Holds runs goal t
  next_holds operation s t h e =
      let passed = cond_some (are_numbers s.numbers (operands operation) && (not (is_open operation) && is_value (term_over s.numbers operation))) (with_number runs operation s) t e in
      let both = and_parts (are_numbers s.numbers (operands operation)) (not (is_open operation) && is_value (term_over s.numbers operation)) passed.0 in
      let sorted = (and_parts (not (is_open operation)) (is_value (term_over s.numbers operation)) both.1).1 in
      let keep = push_keeps s.numbers operation both.0 in
      let more : List Number = s.numbers ++ new_number s.numbers operation ∷ [] in
      subst (Holds runs goal) passed.1
      (renew_holds runs small goal (suc (length s.numbers)) (record s { numbers = s.numbers ++ new_number s.numbers operation ∷ [] }) (record {
        state = record {
          fit = push_fits s.numbers operation both.0 h.state.fit sorted;
          true_or_false = all_map (IsFact s.numbers) (IsFact more) s.facts (kept_fact s.numbers more keep) h.state.true_or_false;
          alike = all_map (IsMerge s.numbers) (IsMerge more) s.merges (kept_merge s.numbers more keep) h.state.alike;
        };
        agrees = λ assignment refutes.
            let before = h.agrees assignment refutes in
            record {
              on_facts = kept_on_facts s.numbers more keep assignment s.facts h.state.true_or_false before.on_facts;
              on_nows = push_nows s.numbers operation both.0 assignment before.on_nows;
              on_merges = kept_on_merges s.numbers more keep assignment s.merges h.state.alike before.on_merges;
            };
      }))

  -- ---- facts about arguments

  -- a state that the fact is still one of
  pub record StillHolds (f : Fact) (s : State) : Type 0 where
    pub holds : Holds runs goal s
    pub named : is_fact s.facts f ≡ true

  is_fact_more : (g f : Fact) (fs : List Fact) → is_fact fs f ≡ true → is_fact (g ∷ fs) f ≡ true
  unfolding is_fact
  is_fact_more g f fs e = by (g.number == f.number && same_sign g.holds f.holds)
    where
      by : (test : Bool) → cond test true (is_fact fs f) ≡ true
      by true = refl
      by false = e

  with_fact_named : (g f : Fact) (s : State) → is_fact s.facts f ≡ true → is_fact ((with_fact runs g s).facts) f ≡ true
  unfolding renew
  with_fact_named g f s e = is_fact_more g f s.facts e

  pub argument_holds : (f : Fact) (place : ℕ) (s t : State) → StillHolds f s → with_argument_fact runs f place s ≡ Some t → StillHolds f t
  argument_holds f place s t h e = on_place (operand_at place (operation_at s.numbers f.number)) refl e
    where
      on_fact : (x : ℕ) → operand_at place (operation_at s.numbers f.number) ≡ Some x → (o : Option Fact) → argument_fact runs s.numbers f place x ≡ o
          → option_and_then (λ g. Some (with_fact runs g s)) o ≡ Some t → StillHolds f t
      on_fact x at None d e = absurd (cc)
      on_fact x at (Some g) d e =
          let is_bool_x = cond_some_test (is_bool (term_at s.numbers x)) _ g d in
          let x_sort = bool_sort (term_at s.numbers x) is_bool_x in
          let says = known_argument runs small goal s h.holds f h.named place x at x_sort g d in
          let x_there = h.holds.state.fit.within f.number place x at in
          let g_fact : IsFact s.numbers g = record {
            there = ap (is_number s.numbers) says.0 ∙ x_there;
            truth = ap (λ k. sort_of (term_at s.numbers k)) says.0 ∙ x_sort;
          } in
          subst (StillHolds f) (same_Some (with_fact runs g s) t e) (record {
            holds = fact_holds runs small goal g s h.holds g_fact (λ assignment refutes. ap (λ k. value assignment (term_at s.numbers k)) says.0 ∙ says.1 assignment refutes);
            named = with_fact_named g f s h.named;
          })
        where
          cond_some_test : (test : Bool) (o : Option Fact) (g : Fact) → cond test o None ≡ Some g → test ≡ true
          cond_some_test true o g e = refl
          cond_some_test false o g e = absurd (cc)

      on_place : (o : Option ℕ) → operand_at place (operation_at s.numbers f.number) ≡ o
          → option_and_then (λ x. option_and_then (λ g. Some (with_fact runs g s)) (argument_fact runs s.numbers f place x)) o ≡ Some t → StillHolds f t
      on_place None at e = absurd (cc)
      on_place (Some x) at e = on_fact x at (argument_fact runs s.numbers f place x) refl e

  pub places_hold : (f : Fact) (count : ℕ) (s t : State) → StillHolds f s → with_places runs f count s ≡ Some t → StillHolds f t
  unfolding with_places
  places_hold f zero s t h e = absurd (cc)
  places_hold f (suc i) s t h e = by (with_places runs f i s) refl e (places_hold f i s)
    where
      last : (so_far : State) → StillHolds f so_far → (o : Option State) → with_argument_fact runs f (suc i) so_far ≡ o → Some (unwrap_or o so_far) ≡ Some t → StillHolds f t
      last so_far g (Some u) d e = subst (StillHolds f) (same_Some u t e) (argument_holds f (suc i) so_far u g d)
      last so_far g None d e = subst (StillHolds f) (same_Some so_far t e) g

      by : (o : Option State) → with_places runs f i s ≡ o → with_next_place runs f (suc i) s o ≡ Some t
          → ((u : State) → StillHolds f s → with_places runs f i s ≡ Some u → StillHolds f u) → StillHolds f t
      by None d e again = argument_holds f (suc i) s t h e
      by (Some so_far) d e again = last so_far (again so_far h d) (with_argument_fact runs f (suc i) so_far) refl e

  -- ---- merges

  renew_keeps : (x : ℕ) (s : State) → KeepTerms s.numbers ((renew runs x s).numbers)
  unfolding renew
  renew_keeps x s = now_keeps s.numbers x (renewed runs s x)

  renew_facts : (x : ℕ) (s : State) → (renew runs x s).facts ≡ s.facts
  unfolding renew
  renew_facts x s = refl

  alike_nows : (numbers : List Number) → AreNumbers numbers → (x y : ℕ) → are_alike (term_at numbers x) (term_at numbers y) ≡ true → are_alike (now_at numbers x) (now_at numbers y) ≡ true
  alike_nows numbers h x y e = alike_by_sorts (term_at numbers x) (term_at numbers y) (now_at numbers x) (now_at numbers y) (now_sort numbers h x) (now_sort numbers h y) e

  -- a rule whose test holds once x is renewed
  merge_by : (rule : MergeRule) (x y : ℕ) (facts : List Reading) (s t : State) → Holds runs goal s → are_facts s.facts facts ≡ true
      → IsMerge s.numbers (record { number = x; other = Numbered y }) → merged runs rule x y facts s ≡ Some t → Holds runs goal t
  merge_by rule x y facts s t h named is e =
      let passed = cond_some (merges_by rule (map (reading runs s.numbers) facts) (now_at s.numbers x) (now_at s.numbers y)) (with_merge runs x (Numbered y) s) t e in
      subst (Holds runs goal) passed.1
      (merge_holds runs small goal x (Numbered y) s h is (λ assignment refutes.
      let before = h.agrees assignment refutes in
      sym (before.on_nows x)
      ∙ merges_sound rule (map (reading runs s.numbers) facts) (now_at s.numbers x) (now_at s.numbers y) (alike_nows s.numbers h.state.fit x y is.alike) assignment refutes.assigns
      (readings_values runs small goal s h facts named assignment refutes) passed.0
      ∙ before.on_nows y))

  merged_holds : (rule : MergeRule) (x y : ℕ) (facts : List Reading) (s t : State) → Holds runs goal s → merged_if runs rule x y facts s ≡ Some t → Holds runs goal t
  merged_holds rule x y facts s t h e = by (is_number s.numbers x && (is_number s.numbers y && (are_alike (term_at s.numbers x) (term_at s.numbers y) && are_facts s.facts facts))) refl e
    where
      by : (test : Bool) → (is_number s.numbers x && (is_number s.numbers y && (are_alike (term_at s.numbers x) (term_at s.numbers y) && are_facts s.facts facts))) ≡ test
          → cond test (merged runs rule x y facts (renew runs x s)) None ≡ Some t → Holds runs goal t
      by true tests d =
          let one = and_parts (is_number s.numbers x) (is_number s.numbers y && (are_alike (term_at s.numbers x) (term_at s.numbers y) && are_facts s.facts facts)) tests in
          let two = and_parts (is_number s.numbers y) (are_alike (term_at s.numbers x) (term_at s.numbers y) && are_facts s.facts facts) one.1 in
          let three = and_parts (are_alike (term_at s.numbers x) (term_at s.numbers y)) (are_facts s.facts facts) two.1 in
          merge_by rule x y facts (renew runs x s) t (renew_holds runs small goal x s h) (ap (λ fs. are_facts fs facts) (renew_facts x s) ∙ three.1)
          (kept_merge s.numbers ((renew runs x s).numbers) (renew_keeps x s) (record { number = x; other = Numbered y }) (record { there = one.0; other_there = two.0; alike = three.0 }))
          d
      by false tests d = absurd (cc)

  -- ---- decisions

  decide_by : (rule : DecisionRule) (x : ℕ) (facts : List Reading) (s t : State) → Holds runs goal s → are_facts s.facts facts ≡ true → is_number s.numbers x ≡ true
      → decided runs rule x facts s ≡ Some t → Holds runs goal t
  decide_by rule x facts s t h named there e = by (decided_by rule (map (reading runs s.numbers) facts) (now_at s.numbers x)) refl e
    where
      by : (o : Option Atom) → decided_by rule (map (reading runs s.numbers) facts) (now_at s.numbers x) ≡ o → option_and_then (with_constant runs x s) o ≡ Some t → Holds runs goal t
      by None d e = absurd (cc)
      by (Some constant) d e =
          let passed = cond_some (are_alike (term_at s.numbers x) (Leaf constant)) (with_merge runs x (Known constant) s) t e in
          subst (Holds runs goal) passed.1
          (merge_holds runs small goal x (Known constant) s h (record { there = there; other_there = tt; alike = passed.0 }) (λ assignment refutes.
          let before = h.agrees assignment refutes in
          sym (before.on_nows x)
          ∙ decided_sound rule (map (reading runs s.numbers) facts) (now_at s.numbers x) constant
          (alike_by_sorts (term_at s.numbers x) (Leaf constant) (now_at s.numbers x) (Leaf constant) (now_sort s.numbers h.state.fit x) refl passed.0)
          assignment refutes.assigns (readings_values runs small goal s h facts named assignment refutes) d))

  decided_holds : (rule : DecisionRule) (x : ℕ) (facts : List Reading) (s t : State) → Holds runs goal s → decided_if runs rule x facts s ≡ Some t → Holds runs goal t
  decided_holds rule x facts s t h e = by (is_number s.numbers x && are_facts s.facts facts) refl e
    where
      by : (test : Bool) → (is_number s.numbers x && are_facts s.facts facts) ≡ test → cond test (decided runs rule x facts (renew runs x s)) None ≡ Some t → Holds runs goal t
      by true tests d =
          let both = and_parts (is_number s.numbers x) (are_facts s.facts facts) tests in
          decide_by rule x facts (renew runs x s) t (renew_holds runs small goal x s h) (ap (λ fs. are_facts fs facts) (renew_facts x s) ∙ both.1)
          ((renew_keeps x s).there x both.0) d
      by false tests d = absurd (cc)

  -- ---- a fact by `zone`

  zone_by : (x : ℕ) (facts : List Reading) (s t : State) → Holds runs goal s → are_facts s.facts facts ≡ true → IsFact s.numbers (record { number = x; holds = true })
      → zoned runs x facts s ≡ Some t → Holds runs goal t
  zone_by x facts s t h named is e =
      let passed = cond_some (says_zone (map (reading runs s.numbers) facts) (now_at s.numbers x)) (with_fact runs (record { number = x; holds = true }) s) t e in
      subst (Holds runs goal) passed.1
      (fact_holds runs small goal (record { number = x; holds = true }) s h is (λ assignment refutes.
      let before = h.agrees assignment refutes in
      sym (before.on_nows x)
      ∙ zone_sound assignment refutes.assigns (map (reading runs s.numbers) facts) (now_at s.numbers x) (readings_values runs small goal s h facts named assignment refutes) passed.0))

  zoned_holds : (x : ℕ) (facts : List Reading) (s t : State) → Holds runs goal s → zoned_if runs x facts s ≡ Some t → Holds runs goal t
  zoned_holds x facts s t h e = by (is_number s.numbers x && (is_bool (term_at s.numbers x) && are_facts s.facts facts)) refl e
    where
      by : (test : Bool) → (is_number s.numbers x && (is_bool (term_at s.numbers x) && are_facts s.facts facts)) ≡ test
          → cond test (zoned runs x facts (renew runs x s)) None ≡ Some t → Holds runs goal t
      by true tests d =
          let one = and_parts (is_number s.numbers x) (is_bool (term_at s.numbers x) && are_facts s.facts facts) tests in
          let two = and_parts (is_bool (term_at s.numbers x)) (are_facts s.facts facts) one.1 in
          zone_by x facts (renew runs x s) t (renew_holds runs small goal x s h) (ap (λ fs. are_facts fs facts) (renew_facts x s) ∙ two.1)
          (kept_fact s.numbers ((renew runs x s).numbers) (renew_keeps x s) (record { number = x; holds = true }) (record { there = one.0; truth = bool_sort (term_at s.numbers x) two.0 }))
          d
      by false tests d = absurd (cc)

  -- ---- lines

  pub swept_holds : (count : ℕ) (s : State) → Holds runs goal s → Holds runs goal (record s { sweeps = count })
  swept_holds count s h = record {
    state = record { fit = h.state.fit; true_or_false = h.state.true_or_false; alike = h.state.alike };
    agrees = λ assignment refutes.
        let before = h.agrees assignment refutes in
        record { on_facts = before.on_facts; on_nows = before.on_nows; on_merges = before.on_merges };
  }

  pub line_holds : (line : Line) (s t : State) → Holds runs goal s → applied runs s line ≡ Some t → Holds runs goal t
  unfolding applied
  line_holds (Next operation) s t h e = next_holds operation s t h e
  line_holds (Argument f place) s t h e = by (is_fact s.facts f) refl e
    where
      by : (test : Bool) → is_fact s.facts f ≡ test → cond test (with_argument_fact runs f place s) None ≡ Some t → Holds runs goal t
      by true named d = (argument_holds f place s t (record { holds = h; named = named }) d).holds
      by false named d = absurd (cc)
  line_holds (Parts f) s t h e = by (is_fact s.facts f) refl e
    where
      by : (test : Bool) → is_fact s.facts f ≡ test → cond test (with_places runs f (length (operands (operation_at s.numbers f.number))) s) None ≡ Some t → Holds runs goal t
      by true named d = (places_hold f (length (operands (operation_at s.numbers f.number))) s t (record { holds = h; named = named }) d).holds
      by false named d = absurd (cc)
  line_holds (Renew k) s t h e =
      subst (Holds runs goal) (cond_some (is_number s.numbers k) (renew runs k s) t e).1 (renew_holds runs small goal k s h)
  line_holds RenewAll s t h e =
      subst (Holds runs goal) (cond_some (nat_lt s.sweeps SWEEPS) (renew_up_to runs (length s.numbers) (record s { sweeps = s.sweeps + 1 })) t e).1
      (renew_up_to_holds runs small goal (length s.numbers) (record s { sweeps = s.sweeps + 1 }) (swept_holds (s.sweeps + 1) s h))
  line_holds (MergeBy rule x y facts) s t h e = merged_holds rule x y facts s t h e
  line_holds (DecideBy rule x facts) s t h e = decided_holds rule x facts s t h e
  line_holds (Zone x facts) s t h e = zoned_holds x facts s t h e

  pub lines_hold : (lines : List Line) (s t : State) → Holds runs goal s → after_lines runs s lines ≡ Some t → Holds runs goal t
  unfolding after_lines
  lines_hold [] s t h e = subst (Holds runs goal) (same_Some s t e) h
  lines_hold (line ∷ rest) s t h e = by (applied runs s line) refl e (λ next g. lines_hold rest next t g)
    where
      by : (o : Option State) → applied runs s line ≡ o → option_and_then (λ next. after_lines runs next rest) o ≡ Some t
          → ((next : State) → Holds runs goal next → after_lines runs next rest ≡ Some t → Holds runs goal t) → Holds runs goal t
      by None d e again = absurd (cc)
      by (Some next) d e again = again next (line_holds line s next h d) e
