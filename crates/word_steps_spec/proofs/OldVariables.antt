-- A block brings no new variable.
use Rattle.std.proofs.Common.{◌≡◌, ℕ, zero, suc, Bool, true, false, cond, List, [], ◌∷◌, ◌++◌, length, map, Option, Some, None, unwrap_or, option_and_then, ◌⊎◌, inl, inr, refl, sym, ap, ◌∙◌, subst}
use Rattle.std.specs.Prelude.{◌+◌, ◌==◌, ◌&&◌, not, nat_lt}
use Rattle.std.specs.List.{AllByRecursion, list_any}
use Rattle.std.proofs.lemmas.Bool.{and_parts}
use Rattle.std.proofs.lemmas.Option.{same_Some, cond_some}
use Rattle.term_core_spec.specs.declared.Sort.TheVariants as sort
use Rattle.term_core_spec.specs.declared.Width.{Width}
use Rattle.term_core_spec.specs.declared.Atom.{Atom}
use Rattle.term_core_spec.specs.declared.Atom.TheVariants as atom
use Rattle.term_core_spec.specs.Term.{Term, Leaf, Unary, Binary, Ternary, Quaternary, Octonary, truth, not_term, and_term, Occurs}
use Rattle.term_core_spec.specs.Sort.{sort_of}
use Rattle.term_core_spec.specs.Subterms.{with_term, with_subterms, subterms, IsIn}
use Rattle.term_core_spec.specs.Same.{same_term}
use Rattle.term_core_spec.proofs.Subterms.{in_either, in_one}
use Rattle.memory_spec.specs.Runs.{Run, AreBytes}
use Rattle.term_norm_spec.specs.Normal.{normal}
use Rattle.term_norm_spec.proofs.Variables.{occurs-normal}
use Rattle.word_steps_spec.specs.Numbers.{Operation, Alone, One, Two, Three, Four, Eight, operands, at_places, operand_at, made, Number, Fact, Other, Numbered, Known, Merge, State, missing, start, number_of_subterm, is_number, number_at, operation_at, term_at, now_at, term_over, rebuilt, known_truth, merged_with, truth_or, other_or, renewed, with_now, renew, renew_up_to, Reading, signed, reading, is_fact, are_facts, is_bool, are_alike}
use Rattle.word_steps_spec.specs.Zones.{says_zone}
use Rattle.word_steps_spec.specs.Lines.{MergeRule, DecisionRule, merges_by, decided_by, Line, Next, Argument, Parts, Renew, RenewAll, MergeBy, DecideBy, Zone, SWEEPS, are_numbers, is_open, is_value, new_number, with_number, next_number, with_fact, argument_fact, with_argument_fact, with_next_place, with_places, with_merge, merged, merged_if, with_constant, decided, decided_if, zoned, zoned_if, applied, after_lines, and_all, conjunction, End, Keep, Case, Block, kept_goal, left, goals_after}
use Rattle.word_steps_spec.specs.Invariant.{AreNumbers, HasOnlyOf, Holds}
use Rattle.word_steps_spec.proofs.Lookups.{with_now-term, with_now-now, push-either}
use Rattle.word_steps_spec.proofs.Renewing.{renew_holds, renew_up_to_holds}
use Rattle.word_steps_spec.proofs.Starting.{start_number, start_holds}
use Rattle.word_steps_spec.proofs.Lines.{push_fits, StillHolds, places_hold, swept_holds, line_holds, lines_hold}
use Rattle.word_steps_spec.proofs.Decisions.{IsConstant, a_truth, a_word, decides_constants}

module _ (runs : List Run) (small : AreBytes runs) (goal : Term) where
  -- a term that has only variables of the goal
  abbrev Only : Term → Type 0
  Only t = HasOnlyOf goal t

  -- ---- terms

  only_normal : (t : Term) → Only t → Only (normal runs t)
  only_normal t h v o = h v (occurs-normal runs t v o)

  only_truth : (b : Bool) → Only (truth b)
  unfolding Occurs
  only_truth b v o = absurd o

  only_word : (width : Width) (n : ℕ) → Only (Leaf (atom.Constant width n))
  unfolding Occurs
  only_word width n v o = absurd o

  only_signed : (b : Bool) (t : Term) → Only t → Only (signed b t)
  unfolding Occurs
  only_signed true t h v o = h v o
  only_signed false t h v o = h v o

  only_made : (o : Operation ℕ) (f : ℕ → ℕ → Term) → ((i x : ℕ) → Only (f i x)) → ((atom : Atom) → o ≡ Alone atom → Only (Leaf atom)) → Only (made (at_places f o))
  unfolding made at_places Occurs
  only_made (Alone atom) f h g v o = g atom refl v o
  only_made (One p a) f h g v o = h 1 a v o
  only_made (Two p a b) f h g v (inl o) = h 1 a v o
  only_made (Two p a b) f h g v (inr o) = h 2 b v o
  only_made (Three p a b c) f h g v (inl o) = h 1 a v o
  only_made (Three p a b c) f h g v (inr (inl o)) = h 2 b v o
  only_made (Three p a b c) f h g v (inr (inr o)) = h 3 c v o
  only_made (Four p a b c d) f h g v (inl o) = h 1 a v o
  only_made (Four p a b c d) f h g v (inr (inl o)) = h 2 b v o
  only_made (Four p a b c d) f h g v (inr (inr (inl o))) = h 3 c v o
  only_made (Four p a b c d) f h g v (inr (inr (inr o))) = h 4 d v o
  only_made (Eight a b c d e i j k) f h g v (inl o) = h 1 a v o
  only_made (Eight a b c d e i j k) f h g v (inr (inl o)) = h 2 b v o
  only_made (Eight a b c d e i j k) f h g v (inr (inr (inl o))) = h 3 c v o
  only_made (Eight a b c d e i j k) f h g v (inr (inr (inr (inl o)))) = h 4 d v o
  only_made (Eight a b c d e i j k) f h g v (inr (inr (inr (inr (inl o))))) = h 5 e v o
  only_made (Eight a b c d e i j k) f h g v (inr (inr (inr (inr (inr (inl o)))))) = h 6 i v o
  only_made (Eight a b c d e i j k) f h g v (inr (inr (inr (inr (inr (inr (inl o))))))) = h 7 j v o
  only_made (Eight a b c d e i j k) f h g v (inr (inr (inr (inr (inr (inr (inr o))))))) = h 8 k v o

  -- ---- the subterms of the goal

  abbrev AllOld : List Term → Type 0
  AllOld ts = (u : Term) → IsIn u ts → Only u

  old_term : (t : Term) (ts : List Term) → Only t → AllOld ts → AllOld (with_term t ts)
  old_term t ts ht h u at = by (list_any (same_term t) ts) at
    where
      last : IsIn u ts ⊎ IsIn u (t ∷ []) → Only u
      last (inl here) = h u here
      last (inr here) = subst Only (sym (in_one u t here)) ht

      by : (test : Bool) → IsIn u (cond test ts (ts ++ t ∷ [])) → Only u
      by true here = h u here
      by false here = last (in_either u ts (t ∷ []) here)

  old_subterms : (t : Term) (ts : List Term) → Only t → AllOld ts → AllOld (with_subterms t ts)
  unfolding with_subterms Occurs
  old_subterms (Leaf a) ts ht h = old_term (Leaf a) ts ht h
  old_subterms (Unary o a) ts ht h = old_term (Unary o a) _ ht (old_subterms a ts ht h)
  old_subterms (Binary o a b) ts ht h = old_term (Binary o a b) _ ht (old_subterms b _ (λ v u. ht v (inr u)) (old_subterms a ts (λ v u. ht v (inl u)) h))
  old_subterms (Ternary o a b c) ts ht h =
      old_term (Ternary o a b c) _ ht (old_subterms c _ (λ v u. ht v (inr (inr u))) (old_subterms b _ (λ v u. ht v (inr (inl u))) (old_subterms a ts (λ v u. ht v (inl u)) h)))
  old_subterms (Quaternary o a b c d) ts ht h =
      old_term (Quaternary o a b c d) _ ht
      (old_subterms d _ (λ v u. ht v (inr (inr (inr u)))) (old_subterms c _ (λ v u. ht v (inr (inr (inl u)))) (old_subterms b _ (λ v u. ht v (inr (inl u))) (old_subterms a ts (λ v u. ht v (inl u)) h))))
  old_subterms (Octonary a b c d e f g i) ts ht h =
      old_term (Octonary a b c d e f g i) _ ht
      (old_subterms i _ (λ v u. ht v (inr (inr (inr (inr (inr (inr (inr u))))))))
      (old_subterms g _ (λ v u. ht v (inr (inr (inr (inr (inr (inr (inl u))))))))
      (old_subterms f _ (λ v u. ht v (inr (inr (inr (inr (inr (inl u)))))))
      (old_subterms e _ (λ v u. ht v (inr (inr (inr (inr (inl u))))))
      (old_subterms d _ (λ v u. ht v (inr (inr (inr (inl u)))))
      (old_subterms c _ (λ v u. ht v (inr (inr (inl u)))) (old_subterms b _ (λ v u. ht v (inr (inl u))) (old_subterms a ts (λ v u. ht v (inl u)) h))))))))

  -- ---- states

  abbrev OldOther : Other → Type 0
  OldOther (Numbered y) = Unit {0}
  OldOther (Known c) = Only (Leaf c)

  record IsOld (s : State) : Type 0 where
    pub terms : (k : ℕ) → Only (term_at s.numbers k)
    pub nows : (k : ℕ) → Only (now_at s.numbers k)
    pub merges : AllByRecursion (λ (m : Merge). OldOther m.other) s.merges

  old_start : sort_of goal ≡ Some sort.Truth → IsOld (start goal)
  old_start goal_sort = record { terms = λ k. (of k).0; nows = λ k. (of k).1; merges = tt }
    where
      old : AllOld (subterms goal)
      old = old_subterms goal [] (λ v o. o) (λ u at. absurd (cc))

      of : (k : ℕ) → Only (term_at (start goal).numbers k) × Only (now_at (start goal).numbers k)
      of k = by (start_number runs goal goal_sort k)
        where
          by : (number_at (start goal).numbers k ≡ missing) ⊎ ((u : Term) × IsIn u (subterms goal) × (number_at (start goal).numbers k ≡ number_of_subterm (subterms goal) u))
              → Only (term_at (start goal).numbers k) × Only (now_at (start goal).numbers k)
          by (inl e) = (subst (λ (n : Number). Only n.term) (sym e) (only_truth false), subst (λ (n : Number). Only n.now) (sym e) (only_truth false))
          by (inr is) = (subst (λ (n : Number). Only n.term) (sym is.2) (old is.0 is.1), subst (λ (n : Number). Only n.now) (sym is.2) (old is.0 is.1))

  -- ---- renewing

  old_leaf : (s : State) → AreNumbers s.numbers → IsOld s → (k : ℕ) (atom : Atom) → operation_at s.numbers k ≡ Alone atom → Only (Leaf atom)
  unfolding made at_places
  old_leaf s fit old k atom e = subst Only (fit.makes k ∙ ap (term_over s.numbers) e) (old.terms k)

  old_rebuilt : (s : State) → AreNumbers s.numbers → IsOld s → (k : ℕ) → Only (rebuilt runs s.numbers k)
  old_rebuilt s fit old k =
      only_normal (made (at_places (λ i x. now_at s.numbers x) (operation_at s.numbers k)))
      (only_made (operation_at s.numbers k) (λ i x. now_at s.numbers x) (λ i x. old.nows x) (old_leaf s fit old k))

  old_merge : (ms : List Merge) → AllByRecursion (λ (m : Merge). OldOther m.other) ms → (k : ℕ) (o : Other) → merged_with ms k ≡ Some o → OldOther o
  unfolding merged_with
  old_merge [] h k o e = absurd (cc)
  old_merge (m ∷ ms) h k o e = by (m.number == k) e (old_merge ms h.1 k o)
    where
      by : (test : Bool) → cond test (Some m.other) (merged_with ms k) ≡ Some o → (merged_with ms k ≡ Some o → OldOther o) → OldOther o
      by true d again = subst OldOther (same_Some m.other o d) h.0
      by false d again = again d

  old_renewed : (s : State) → AreNumbers s.numbers → IsOld s → (k : ℕ) → Only (renewed runs s k)
  old_renewed s fit old k = by (known_truth s.facts k)
    where
      of_merge : (o : Option Other) → merged_with s.merges k ≡ o → Only (other_or s.numbers o (rebuilt runs s.numbers k))
      of_merge (Some (Numbered y)) e = old.nows y
      of_merge (Some (Known c)) e = old_merge s.merges old.merges k (Known c) e
      of_merge None e = old_rebuilt s fit old k

      by : (o : Option Bool) → Only (truth_or o (other_or s.numbers (merged_with s.merges k) (rebuilt runs s.numbers k)))
      by (Some b) = only_truth b
      by None = of_merge (merged_with s.merges k) refl

  old_renew : (k : ℕ) (s : State) → AreNumbers s.numbers → IsOld s → IsOld (renew runs k s)
  unfolding renew
  old_renew k s fit old = record {
    terms = λ j. subst Only (sym (with_now-term s.numbers k (renewed runs s k) j)) (old.terms j);
    nows = λ j. by j (with_now-now s.numbers k (renewed runs s k) j);
    merges = old.merges;
  }
    where
      by : (j : ℕ) → (now_at (with_now s.numbers k (renewed runs s k)) j ≡ now_at s.numbers j) ⊎ ((j ≡ k) × (now_at (with_now s.numbers k (renewed runs s k)) j ≡ renewed runs s k))
          → Only (now_at (with_now s.numbers k (renewed runs s k)) j)
      by j (inl e) = subst Only (sym e) (old.nows j)
      by j (inr e) = subst Only (sym e.1) (old_renewed s fit old k)

  old_renew_up_to : (count : ℕ) (s : State) → Holds runs goal s → IsOld s → IsOld (renew_up_to runs count s)
  unfolding renew_up_to
  old_renew_up_to zero s h old = old
  old_renew_up_to (suc count) s h old =
      old_renew (suc count) (renew_up_to runs count s) (renew_up_to_holds runs small goal count s h).state.fit (old_renew_up_to count s h old)

  -- ---- lines

  closed_leaf : (o : Operation ℕ) → not (is_open o) ≡ true → (leaf : Atom) → o ≡ Alone leaf → Only (Leaf leaf)
  unfolding Occurs
  closed_leaf o h leaf e = by leaf (ap (λ p. not (is_open p)) (sym e) ∙ h)
    where
      by : (leaf : Atom) → not (is_open (Alone leaf)) ≡ true → Only (Leaf leaf)
      by (atom.Truth b) d v u = absurd u
      by (atom.Constant w n) d v u = absurd u
      by (atom.Open x) d v u = absurd (cc)

  old_next : (operation : Operation ℕ) (s t : State) → Holds runs goal s → IsOld s → next_number runs operation s ≡ Some t → IsOld t
  old_next operation s t h old e =
      let passed = cond_some (are_numbers s.numbers (operands operation) && (not (is_open operation) && is_value (term_over s.numbers operation))) (with_number runs operation s) t e in
      let both = and_parts (are_numbers s.numbers (operands operation)) (not (is_open operation) && is_value (term_over s.numbers operation)) passed.0 in
      let tests = and_parts (not (is_open operation)) (is_value (term_over s.numbers operation)) both.1 in
      subst IsOld passed.1
      (old_renew (suc (length s.numbers)) (record s { numbers = s.numbers ++ new_number s.numbers operation ∷ [] })
      (push_fits s.numbers operation both.0 h.state.fit tests.1)
      (record { terms = λ k. (of tests.0 k).0; nows = λ k. (of tests.0 k).1; merges = old.merges }))
    where
      of : not (is_open operation) ≡ true → (k : ℕ)
          → Only (term_at (s.numbers ++ new_number s.numbers operation ∷ []) k) × Only (now_at (s.numbers ++ new_number s.numbers operation ∷ []) k)
      of closed k = by (push-either s.numbers (new_number s.numbers operation) k)
        where
          new : Only (term_over s.numbers operation)
          new = only_made operation (λ i x. term_at s.numbers x) (λ i x. old.terms x) (closed_leaf operation closed)

          by : (number_at (s.numbers ++ new_number s.numbers operation ∷ []) k ≡ number_at s.numbers k)
              ⊎ ((k ≡ suc (length s.numbers)) × (number_at (s.numbers ++ new_number s.numbers operation ∷ []) k ≡ new_number s.numbers operation))
              → Only (term_at (s.numbers ++ new_number s.numbers operation ∷ []) k) × Only (now_at (s.numbers ++ new_number s.numbers operation ∷ []) k)
          by (inl e) = (subst (λ (n : Number). Only n.term) (sym e) (old.terms k), subst (λ (n : Number). Only n.now) (sym e) (old.nows k))
          by (inr e) = (subst (λ (n : Number). Only n.term) (sym e.1) new, subst (λ (n : Number). Only n.now) (sym e.1) new)

  old_fact : (f : Fact) (s : State) → AreNumbers s.numbers → IsOld s → IsOld (with_fact runs f s)
  old_fact f s fit old = old_renew f.number (record s { facts = f ∷ s.facts }) fit (record { terms = old.terms; nows = old.nows; merges = old.merges })

  old_argument : (f : Fact) (place : ℕ) (s t : State) → AreNumbers s.numbers → IsOld s → with_argument_fact runs f place s ≡ Some t → IsOld t
  old_argument f place s t fit old e = on_place (operand_at place (operation_at s.numbers f.number)) e
    where
      on_fact : (o : Option Fact) → option_and_then (λ g. Some (with_fact runs g s)) o ≡ Some t → IsOld t
      on_fact (Some g) d = subst IsOld (same_Some (with_fact runs g s) t d) (old_fact g s fit old)
      on_fact None d = absurd (cc)

      on_place : (o : Option ℕ) → option_and_then (λ x. option_and_then (λ g. Some (with_fact runs g s)) (argument_fact runs s.numbers f place x)) o ≡ Some t → IsOld t
      on_place (Some x) d = on_fact (argument_fact runs s.numbers f place x) d
      on_place None d = absurd (cc)

  old_places : (f : Fact) (count : ℕ) (s t : State) → StillHolds runs small goal f s → IsOld s → with_places runs f count s ≡ Some t → IsOld t
  unfolding with_places
  old_places f zero s t h old e = absurd (cc)
  old_places f (suc i) s t h old e = by (with_places runs f i s) refl e (old_places f i s)
    where
      last : (so_far : State) → AreNumbers so_far.numbers → IsOld so_far → (o : Option State) → with_argument_fact runs f (suc i) so_far ≡ o → Some (unwrap_or o so_far) ≡ Some t → IsOld t
      last so_far fit is_old (Some u) d g = subst IsOld (same_Some u t g) (old_argument f (suc i) so_far u fit is_old d)
      last so_far fit is_old None d g = subst IsOld (same_Some so_far t g) is_old

      by : (o : Option State) → with_places runs f i s ≡ o → with_next_place runs f (suc i) s o ≡ Some t
          → ((u : State) → StillHolds runs small goal f s → IsOld s → with_places runs f i s ≡ Some u → IsOld u) → IsOld t
      by None d g again = old_argument f (suc i) s t h.holds.state.fit old g
      by (Some so_far) d g again =
          last so_far (places_hold runs small goal f i s so_far h d).holds.state.fit (again so_far h old d) (with_argument_fact runs f (suc i) so_far) refl g

  -- x renewed once more, with one more merge
  old_with_merge : (x : ℕ) (o : Other) (s : State) → AreNumbers s.numbers → IsOld s → OldOther o → IsOld (with_merge runs x o s)
  old_with_merge x o s fit old is =
      old_renew x (record s { merges = record { number = x; other = o } ∷ s.merges }) fit (record { terms = old.terms; nows = old.nows; merges = (is, old.merges) })

  old_merged : (rule : MergeRule) (x y : ℕ) (facts : List Reading) (s t : State) → Holds runs goal s → IsOld s → merged_if runs rule x y facts s ≡ Some t → IsOld t
  old_merged rule x y facts s t h old e =
      first (is_number s.numbers x && (is_number s.numbers y && (are_alike (term_at s.numbers x) (term_at s.numbers y) && are_facts s.facts facts))) e
    where
      fit : AreNumbers (renew runs x s).numbers
      fit = (renew_holds runs small goal x s h).state.fit

      second : (test : Bool) → cond test (Some (with_merge runs x (Numbered y) (renew runs x s))) None ≡ Some t → IsOld t
      second true d = subst IsOld (same_Some (with_merge runs x (Numbered y) (renew runs x s)) t d) (old_with_merge x (Numbered y) (renew runs x s) fit (old_renew x s h.state.fit old) tt)
      second false d = absurd (cc)

      first : (test : Bool) → cond test (merged runs rule x y facts (renew runs x s)) None ≡ Some t → IsOld t
      first true d = second (merges_by rule (map (reading runs (renew runs x s).numbers) facts) (now_at (renew runs x s).numbers x) (now_at (renew runs x s).numbers y)) d
      first false d = absurd (cc)

  only_constant : (c : Atom) → IsConstant c → Only (Leaf c)
  only_constant c (a_truth b) = only_truth b
  only_constant c (a_word width n) = only_word width n

  old_decided : (rule : DecisionRule) (x : ℕ) (facts : List Reading) (s t : State) → Holds runs goal s → IsOld s → decided_if runs rule x facts s ≡ Some t → IsOld t
  old_decided rule x facts s t h old e = first (is_number s.numbers x && are_facts s.facts facts) e
    where
      fit : AreNumbers (renew runs x s).numbers
      fit = (renew_holds runs small goal x s h).state.fit

      third : (c : Atom) → IsConstant c → (test : Bool) → cond test (Some (with_merge runs x (Known c) (renew runs x s))) None ≡ Some t → IsOld t
      third c is true d =
          subst IsOld (same_Some (with_merge runs x (Known c) (renew runs x s)) t d) (old_with_merge x (Known c) (renew runs x s) fit (old_renew x s h.state.fit old) (only_constant c is))
      third c is false d = absurd (cc)

      second : (o : Option Atom) → decided_by rule (map (reading runs (renew runs x s).numbers) facts) (now_at (renew runs x s).numbers x) ≡ o
          → option_and_then (with_constant runs x (renew runs x s)) o ≡ Some t → IsOld t
      second (Some c) g d =
          third c (decides_constants c rule (map (reading runs (renew runs x s).numbers) facts) (now_at (renew runs x s).numbers x) g) (are_alike (term_at (renew runs x s).numbers x) (Leaf c)) d
      second None g d = absurd (cc)

      first : (test : Bool) → cond test (decided runs rule x facts (renew runs x s)) None ≡ Some t → IsOld t
      first true d = second (decided_by rule (map (reading runs (renew runs x s).numbers) facts) (now_at (renew runs x s).numbers x)) refl d
      first false d = absurd (cc)

  old_zoned : (x : ℕ) (facts : List Reading) (s t : State) → Holds runs goal s → IsOld s → zoned_if runs x facts s ≡ Some t → IsOld t
  old_zoned x facts s t h old e = first (is_number s.numbers x && (is_bool (term_at s.numbers x) && are_facts s.facts facts)) e
    where
      second : (test : Bool) → cond test (Some (with_fact runs (record { number = x; holds = true }) (renew runs x s))) None ≡ Some t → IsOld t
      second true d =
          subst IsOld (same_Some (with_fact runs (record { number = x; holds = true }) (renew runs x s)) t d)
          (old_fact (record { number = x; holds = true }) (renew runs x s) (renew_holds runs small goal x s h).state.fit (old_renew x s h.state.fit old))
      second false d = absurd (cc)

      first : (test : Bool) → cond test (zoned runs x facts (renew runs x s)) None ≡ Some t → IsOld t
      first true d = second (says_zone (map (reading runs (renew runs x s).numbers) facts) (now_at (renew runs x s).numbers x)) d
      first false d = absurd (cc)

  old_line : (line : Line) (s t : State) → Holds runs goal s → IsOld s → applied runs s line ≡ Some t → IsOld t
  unfolding applied
  old_line (Next operation) s t h old e = old_next operation s t h old e
  old_line (Argument f place) s t h old e = by (is_fact s.facts f) e
    where
      by : (test : Bool) → cond test (with_argument_fact runs f place s) None ≡ Some t → IsOld t
      by true d = old_argument f place s t h.state.fit old d
      by false d = absurd (cc)
  old_line (Parts f) s t h old e = by (is_fact s.facts f) refl e
    where
      by : (test : Bool) → is_fact s.facts f ≡ test → cond test (with_places runs f (length (operands (operation_at s.numbers f.number))) s) None ≡ Some t → IsOld t
      by true named d = old_places f (length (operands (operation_at s.numbers f.number))) s t (record { holds = h; named = named }) old d
      by false named d = absurd (cc)
  old_line (Renew k) s t h old e = subst IsOld (cond_some (is_number s.numbers k) (renew runs k s) t e).1 (old_renew k s h.state.fit old)
  old_line RenewAll s t h old e =
      subst IsOld (cond_some (nat_lt s.sweeps SWEEPS) (renew_up_to runs (length s.numbers) (record s { sweeps = s.sweeps + 1 })) t e).1
      (old_renew_up_to (length s.numbers) (record s { sweeps = s.sweeps + 1 }) (swept_holds runs small goal (s.sweeps + 1) s h) (record { terms = old.terms; nows = old.nows; merges = old.merges }))
  old_line (MergeBy rule x y facts) s t h old e = old_merged rule x y facts s t h old e
  old_line (DecideBy rule x facts) s t h old e = old_decided rule x facts s t h old e
  old_line (Zone x facts) s t h old e = old_zoned x facts s t h old e

  old_lines : (lines : List Line) (s t : State) → Holds runs goal s → IsOld s → after_lines runs s lines ≡ Some t → IsOld t
  unfolding after_lines
  old_lines [] s t h old e = subst IsOld (same_Some s t e) old
  old_lines (line ∷ rest) s t h old e = by (applied runs s line) refl e (λ next g is. old_lines rest next t g is)
    where
      by : (o : Option State) → applied runs s line ≡ o → option_and_then (λ next. after_lines runs next rest) o ≡ Some t
          → ((next : State) → Holds runs goal next → IsOld next → after_lines runs next rest ≡ Some t → IsOld t) → IsOld t
      by None d e again = absurd (cc)
      by (Some next) d e again = again next (line_holds runs small goal line s next h d) (old_line line s next h old d) e

  -- ---- what is left

  only_and_all : (t : Term) (ts : List Term) → Only t → AllByRecursion Only ts → Only (and_all t ts)
  unfolding and_all Occurs
  only_and_all t [] h g = h
  only_and_all t (u ∷ ts) h g = only_and_all (and_term t u) ts (both h g.0) g.1
    where
      both : Only t → Only u → Only (and_term t u)
      both ht hu v (inl o) = ht v o
      both ht hu v (inr o) = hu v o

  only_conjunction : (ts : List Term) → AllByRecursion Only ts → Only (conjunction ts)
  only_conjunction [] g = only_truth true
  only_conjunction (t ∷ ts) g = only_and_all t ts g.0 g.1

  only_not : (t : Term) → Only t → Only (not_term t)
  unfolding Occurs
  only_not t h v o = h v o

  old_reading : (s : State) → AreNumbers s.numbers → IsOld s → (r : Reading) → Only (reading runs s.numbers r)
  old_reading s fit old r = only_signed r.fact.holds _ (by r.as_made)
    where
      by : (test : Bool) → Only (cond test (term_at s.numbers r.fact.number) (rebuilt runs s.numbers r.fact.number))
      by true = old.terms r.fact.number
      by false = old_rebuilt s fit old r.fact.number

  old_readings : (s : State) → AreNumbers s.numbers → IsOld s → (rs : List Reading) (more : List Term) → AllByRecursion Only more → AllByRecursion Only (map (reading runs s.numbers) rs ++ more)
  old_readings s fit old [] more h = h
  old_readings s fit old (r ∷ rs) more h = (old_reading s fit old r, old_readings s fit old rs more h)

  old_goal : (s : State) → AreNumbers s.numbers → IsOld s → (kept : List Reading) (more : List Term) → AllByRecursion Only more → Only (kept_goal runs s kept more)
  old_goal s fit old kept more h =
      only_normal (not_term (conjunction (map (reading runs s.numbers) kept ++ more)))
      (only_not (conjunction (map (reading runs s.numbers) kept ++ more)) (only_conjunction (map (reading runs s.numbers) kept ++ more) (old_readings s fit old kept more h)))

  old_left : (s : State) → AreNumbers s.numbers → IsOld s → (end : End) (goals : List Term) → left runs s end ≡ Some goals → AllByRecursion Only goals
  unfolding left
  old_left s fit old (Keep kept) goals e =
      let passed = cond_some (are_facts s.facts kept) (kept_goal runs s kept [] ∷ []) goals e in
      subst (AllByRecursion Only) passed.1 (old_goal s fit old kept [] tt, tt)
  old_left s fit old (Case kept x) goals e =
      let one = kept_goal runs s kept (signed true (rebuilt runs s.numbers x) ∷ []) in
      let other = kept_goal runs s kept (signed false (rebuilt runs s.numbers x) ∷ []) in
      let passed = cond_some (are_facts s.facts kept && (is_number s.numbers x && is_bool (term_at s.numbers x))) (one ∷ other ∷ []) goals e in
      subst (AllByRecursion Only) passed.1 (
        old_goal s fit old kept (signed true (rebuilt runs s.numbers x) ∷ []) (only_signed true (rebuilt runs s.numbers x) (old_rebuilt s fit old x), tt),
        (old_goal s fit old kept (signed false (rebuilt runs s.numbers x) ∷ []) (only_signed false (rebuilt runs s.numbers x) (old_rebuilt s fit old x), tt), tt),
      )

  -- the goals that are left have only variables of the goal
  pub old_after_block : sort_of goal ≡ Some sort.Truth → (block : Block) (goals : List Term) → goals_after runs goal block ≡ Some goals → AllByRecursion (HasOnlyOf goal) goals
  old_after_block goal_sort block goals e = by (after_lines runs (start goal) block.lines) refl e
    where
      by : (o : Option State) → after_lines runs (start goal) block.lines ≡ o → option_and_then (λ s. left runs s block.end) o ≡ Some goals → AllByRecursion (HasOnlyOf goal) goals
      by None d e = absurd (cc)
      by (Some s) d e =
          old_left s (lines_hold runs small goal block.lines (start goal) s (start_holds runs goal goal_sort) d).state.fit
          (old_lines block.lines (start goal) s (start_holds runs goal goal_sort) (old_start goal_sort) d) block.end goals e
