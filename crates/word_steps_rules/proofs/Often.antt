-- Two monomials are the same exactly where they have equally many atoms, and each as often.
use Rattle.std.proofs.Common.{◌≡◌, ℕ, suc, ◌+◌, ◌<◌, Bool, true, false, cond, List, [], ◌∷◌, length, Option, Some, None, refl, sym, ap, ◌∙◌, subst, eqb-true, arith}
use Rattle.std.specs.Prelude.{◌==◌, ◌&&◌, nat_eq, option_map}
use Rattle.std.proofs.lemmas.Bool.{and_parts, and_from, eq-eqb}
use Rattle.std.proofs.lemmas.Option.{same_Some}
use Rattle.term_core_spec.specs.Term.{Term}
use Rattle.term_bank.specs.Nodes.{tree_at, AreDistinct}
use Rattle.term_sorts.proofs.Orders as orders
use Rattle.term_sorts.proofs.Orders.{AreWithin}
use Rattle.word_steps_spec.specs.Polynomial as spec
use Rattle.word_steps_rules.specs.Monomials.{times_among, are_equally_often, without_id, holds_of, same_ids}
use Rattle.term_sorts.specs.Order.{terms_of}

same_bools : (a b : Bool) → (a ≡ true → b ≡ true) → (b ≡ true → a ≡ true) → a ≡ b
same_bools true true f g = refl
same_bools true false f g = sym (f refl)
same_bools false true f g = g refl
same_bools false false f g = refl

-- ---- how often

abbrev tick : Bool → ℕ
tick b = cond b 1 0

times-cons : (k x : ℕ) (rest : List ℕ) → times_among k (x ∷ rest) ≡ tick (k == x) + times_among k rest
unfolding times_among
times-cons k x rest = by (k == x)
  where
    by : (test : Bool) → cond test (suc (times_among k rest)) (times_among k rest) ≡ tick test + times_among k rest
    by true = omega arith
    by false = omega arith

nothing : (k : ℕ) → times_among k [] ≡ 0
unfolding times_among
nothing k = refl

none : (k : ℕ) → 0 < times_among k [] → ⊥
none k above = omega (arith, above, nothing k)

-- ---- one taken out

pub taken_length : (id : ℕ) (xs rest : List ℕ) → without_id id xs ≡ Some rest → length xs ≡ suc (length rest)
unfolding without_id
taken_length id [] rest e = absurd (cc)
taken_length id (x ∷ xs) rest e = by (nat_eq id x) (without_id id xs) refl e (taken_length id xs)
  where
    by : (test : Bool) (o : Option (List ℕ)) → without_id id xs ≡ o → cond test (Some xs) (option_map (λ others. x ∷ others) o) ≡ Some rest
        → ((r : List ℕ) → without_id id xs ≡ Some r → length xs ≡ suc (length r)) → length (x ∷ xs) ≡ suc (length rest)
    by true o f g later = ap (λ l. suc (length l)) (same_Some xs rest g)
    by false (Some others) f g later = ap suc (later others f) ∙ ap (λ l. suc (length l)) (same_Some (x ∷ others) rest g)
    by false None f g later = absurd (cc)

pub taken_times : (id : ℕ) (xs rest : List ℕ) (k : ℕ) → without_id id xs ≡ Some rest → times_among k xs ≡ tick (k == id) + times_among k rest
unfolding without_id
taken_times id [] rest k e = absurd (cc)
taken_times id (x ∷ xs) rest k e = by (nat_eq id x) (without_id id xs) refl refl e (λ r. taken_times id xs r k)
  where
    by : (test : Bool) (o : Option (List ℕ)) → nat_eq id x ≡ test → without_id id xs ≡ o → cond test (Some xs) (option_map (λ others. x ∷ others) o) ≡ Some rest
        → ((r : List ℕ) → without_id id xs ≡ Some r → times_among k xs ≡ tick (k == id) + times_among k r) → times_among k (x ∷ xs) ≡ tick (k == id) + times_among k rest
    by true o same f g later =
        times-cons k x xs ∙ ap (λ y. tick (k == y) + times_among k xs) (sym (eqb-true id x same)) ∙ ap (λ l. tick (k == id) + times_among k l) (same_Some xs rest g)
    by false (Some others) same f g later =
        let below : times_among k xs ≡ tick (k == id) + times_among k others = later others f in
        let here : times_among k (x ∷ xs) ≡ tick (k == x) + times_among k xs = times-cons k x xs in
        let there : times_among k (x ∷ others) ≡ tick (k == x) + times_among k others = times-cons k x others in
        let is : times_among k (x ∷ others) ≡ times_among k rest = ap (times_among k) (same_Some (x ∷ others) rest g) in
        omega (arith, below, here, there, is)
    by false None same f g later = absurd (cc)

pub not_there : (id : ℕ) (xs : List ℕ) → without_id id xs ≡ None → times_among id xs ≡ 0
unfolding without_id
not_there id [] e = nothing id
not_there id (x ∷ xs) e = by (nat_eq id x) (without_id id xs) refl refl e (not_there id xs)
  where
    by : (test : Bool) (o : Option (List ℕ)) → nat_eq id x ≡ test → without_id id xs ≡ o → cond test (Some xs) (option_map (λ others. x ∷ others) o) ≡ None
        → (without_id id xs ≡ None → times_among id xs ≡ 0) → times_among id (x ∷ xs) ≡ 0
    by true o same f g later = absurd (cc)
    by false (Some others) same f g later = absurd (cc)
    by false None same f g later =
        let here : times_among id (x ∷ xs) ≡ tick (id == x) + times_among id xs = times-cons id x xs in
        let none_here : tick (id == x) ≡ 0 = ap tick same in
        let rest : times_among id xs ≡ 0 = later f in
        omega (arith, here, none_here, rest)

-- ---- the same

same_counts : (f s : List ℕ) → same_ids f s ≡ true → (length f ≡ length s) × ((k : ℕ) → times_among k f ≡ times_among k s)
unfolding same_ids
same_counts [] [] e = (refl, λ k. refl)
same_counts [] (x ∷ rest) e = absurd (cc)
same_counts (id ∷ more) s e = by (without_id id s) refl e (same_counts more)
  where
    by : (o : Option (List ℕ)) → without_id id s ≡ o → holds_of (same_ids more) o ≡ true
        → ((r : List ℕ) → same_ids more r ≡ true → (length more ≡ length r) × ((k : ℕ) → times_among k more ≡ times_among k r))
        → (length (id ∷ more) ≡ length s) × ((k : ℕ) → times_among k (id ∷ more) ≡ times_among k s)
    by (Some r) is g later =
        let h = later r g in
        (ap suc h.0 ∙ sym (taken_length id s r is), λ k. times-cons k id more ∙ ap (λ n. tick (k == id) + n) (h.1 k) ∙ sym (taken_times id s r k is))
    by None is g later = absurd (cc)

counts_same : (f s : List ℕ) → length f ≡ length s → ((k : ℕ) → 0 < times_among k f → times_among k f ≡ times_among k s) → same_ids f s ≡ true
unfolding same_ids
counts_same [] [] e h = refl
counts_same [] (x ∷ rest) e h = absurd (omega (arith, e))
counts_same (id ∷ more) s e h = by (without_id id s) refl (counts_same more)
  where
    here : times_among id (id ∷ more) ≡ 1 + times_among id more
    here = times-cons id id more ∙ ap (λ b. tick b + times_among id more) (eq-eqb id id refl)

    by : (o : Option (List ℕ)) → without_id id s ≡ o
        → ((r : List ℕ) → length more ≡ length r → ((k : ℕ) → 0 < times_among k more → times_among k more ≡ times_among k r) → same_ids more r ≡ true)
        → holds_of (same_ids more) o ≡ true
    by (Some r) is later =
        later r (let l = taken_length id s r is in omega (arith, e, l))
        (λ k above.
        let first : times_among k (id ∷ more) ≡ tick (k == id) + times_among k more = times-cons k id more in
        let second : times_among k s ≡ tick (k == id) + times_among k r = taken_times id s r k is in
        let same : times_among k (id ∷ more) ≡ times_among k s = h k (omega (arith, above, first)) in
        omega (arith, first, second, same))
    by None is later =
        let zero_there : times_among id s ≡ 0 = not_there id s is in
        let same : times_among id (id ∷ more) ≡ times_among id s = h id (omega (arith, here)) in
        absurd (omega (arith, here, same, zero_there))

often_is : (ids f s : List ℕ) → are_equally_often ids f s ≡ true → (k : ℕ) → 0 < times_among k ids → times_among k f ≡ times_among k s
unfolding are_equally_often
often_is [] f s e k above = absurd (none k above)
often_is (id ∷ rest) f s e k above =
    let parts = and_parts (times_among id f == times_among id s) (are_equally_often rest f s) e in
    by (k == id) refl (eqb-true (times_among id f) (times_among id s) parts.0) (often_is rest f s parts.1 k)
  where
    by : (test : Bool) → (k == id) ≡ test → times_among id f ≡ times_among id s → (0 < times_among k rest → times_among k f ≡ times_among k s) → times_among k f ≡ times_among k s
    by true same here later = subst (λ j. times_among j f ≡ times_among j s) (sym (eqb-true k id same)) here
    by false same here later =
        later (let cons : times_among k (id ∷ rest) ≡ tick (k == id) + times_among k rest = times-cons k id rest in let no : tick (k == id) ≡ 0 = ap tick same in omega (arith, above, cons, no))

is_often : (ids f s : List ℕ) → ((k : ℕ) → 0 < times_among k ids → times_among k f ≡ times_among k s) → are_equally_often ids f s ≡ true
unfolding are_equally_often
is_often [] f s h = refl
is_often (id ∷ rest) f s h =
    and_from (times_among id f == times_among id s) (are_equally_often rest f s)
    (eq-eqb (times_among id f) (times_among id s)
    (h id (let cons : times_among id (id ∷ rest) ≡ tick (id == id) + times_among id rest = times-cons id id rest in let one : tick (id == id) ≡ 1 = ap tick (eq-eqb id id refl) in omega (arith, cons, one))))
    (is_often rest f s (λ k above. h k (let cons : times_among k (id ∷ rest) ≡ tick (k == id) + times_among k rest = times-cons k id rest in omega (arith, above, cons))))

pub same_by_counts : (f s : List ℕ) → (length f == length s && are_equally_often f f s) ≡ same_ids f s
same_by_counts f s =
    same_bools (length f == length s && are_equally_often f f s) (same_ids f s)
    (λ e. let parts = and_parts (length f == length s) (are_equally_often f f s) e in counts_same f s (eqb-true (length f) (length s) parts.0) (often_is f f s parts.1))
    (λ e. let h = same_counts f s e in and_from (length f == length s) (are_equally_often f f s) (eq-eqb (length f) (length s) h.0) (is_often f f s (λ k above. h.1 k)))

-- ---- ids and terms

module _ (trees : List Term) (apart : AreDistinct trees) where
  without_is : (id : ℕ) (xs : List ℕ) → id < length trees → AreWithin (length trees) xs
      → spec.without (tree_at trees id) (terms_of trees xs) ≡ option_map (terms_of trees) (without_id id xs)
  unfolding without_id spec.without AreWithin
  without_is id [] less h = refl
  without_is id (x ∷ xs) less h =
      ap (λ b. cond b (Some (terms_of trees xs)) (option_map (λ others. tree_at trees x ∷ others) (spec.without (tree_at trees id) (terms_of trees xs))))
      (sym (orders.same_ids trees apart id x less h.0))
      ∙ ap (λ o. cond (nat_eq id x) (Some (terms_of trees xs)) (option_map (λ others. tree_at trees x ∷ others) o)) (without_is id xs less h.1)
      ∙ by (nat_eq id x) (without_id id xs)
    where
      by : (test : Bool) (o : Option (List ℕ)) → cond test (Some (terms_of trees xs)) (option_map (λ others. tree_at trees x ∷ others) (option_map (terms_of trees) o))
          ≡ option_map (terms_of trees) (cond test (Some xs) (option_map (λ others. x ∷ others) o))
      by true o = refl
      by false (Some l) = refl
      by false None = refl

  taken_within : (id : ℕ) (xs rest : List ℕ) → without_id id xs ≡ Some rest → AreWithin (length trees) xs → AreWithin (length trees) rest
  unfolding without_id AreWithin
  taken_within id [] rest e h = absurd (cc)
  taken_within id (x ∷ xs) rest e h = by (nat_eq id x) (without_id id xs) refl e (λ r f. taken_within id xs r f h.1)
    where
      by : (test : Bool) (o : Option (List ℕ)) → without_id id xs ≡ o → cond test (Some xs) (option_map (λ others. x ∷ others) o) ≡ Some rest
          → ((r : List ℕ) → without_id id xs ≡ Some r → AreWithin (length trees) r) → AreWithin (length trees) rest
      by true o f g later = subst (AreWithin (length trees)) (same_Some xs rest g) h.1
      by false (Some others) f g later = subst (AreWithin (length trees)) (same_Some (x ∷ others) rest g) (h.0, later others f)
      by false None f g later = absurd (cc)

  -- ids are the same atoms exactly where their terms are
  pub same_is : (f s : List ℕ) → AreWithin (length trees) f → AreWithin (length trees) s → spec.same_atoms (terms_of trees f) (terms_of trees s) ≡ same_ids f s
  unfolding same_ids spec.same_atoms AreWithin
  same_is [] [] hf hs = refl
  same_is [] (x ∷ rest) hf hs = refl
  same_is (id ∷ more) s hf hs =
      ap (spec.holds_of (spec.same_atoms (terms_of trees more))) (without_is id s hf.0 hs)
      ∙ by (without_id id s) (λ r e. same_is more r hf.1 (taken_within id s r e hs)) refl
    where
      by : (o : Option (List ℕ)) → ((r : List ℕ) → without_id id s ≡ Some r → spec.same_atoms (terms_of trees more) (terms_of trees r) ≡ same_ids more r) → without_id id s ≡ o
          → spec.holds_of (spec.same_atoms (terms_of trees more)) (option_map (terms_of trees) o) ≡ holds_of (same_ids more) o
      by None later e = refl
      by (Some r) later e = later r e
