-- The invariant holds of the first state of a block.
use Rattle.std.proofs.Common.{◌≡◌, ℕ, zero, suc, ◌<◌, Bool, true, false, cond, List, [], ◌∷◌, length, map, get_or, Some, ◌⊎◌, inl, inr, refl, sym, ap, ◌∙◌, arith}
use Rattle.std.specs.Prelude.{◌||◌}
use Rattle.std.specs.List.{list_any}
use Rattle.std.proofs.lemmas.Bool.{lt-ltb}
use Rattle.term_core_spec.specs.declared.Sort.TheVariants as sort
use Rattle.term_core_spec.specs.Term.{Term}
use Rattle.term_core_spec.specs.Sort.{sort_of, sort_of_atom}
use Rattle.term_core_spec.specs.Value.{Assignment, value}
use Rattle.term_core_spec.specs.Same.{same_term}
use Rattle.term_core_spec.specs.Subterms.{subterms, IsIn}
use Rattle.term_core_spec.proofs.Same.{same_is, same_itself}
use Rattle.term_core_spec.proofs.Subterms.{there, subterms-closed}
use Rattle.memory_spec.specs.Runs.{Run}
use Rattle.word_steps_spec.specs.Numbers.{Number, missing, number_at, is_number, operation_at, term_at, now_at, term_over, made, at_places, operands, operand_at, operation_of, place_in, number_of_subterm, start}
use Rattle.word_steps_spec.specs.Invariant.{IsSorted, Holds}
use Rattle.word_steps_spec.proofs.Places.{made-back, operand_in, operand_of}
use Rattle.word_steps_spec.proofs.Sorted.{subterms_sorted}

module _ (f : Term → Number) where
  -- a term of a list is at its place
  found : (ts : List Term) (t : Term) → IsIn t ts → (i : ℕ) × (place_in ts t ≡ suc i) × (i < length ts) × (get_or (map f ts) i missing ≡ f t)
  unfolding place_in
  found [] t at = absurd (cc)
  found (u ∷ ts) t at = by (same_term t u) refl at (found ts t)
    where
      by : (test : Bool) → same_term t u ≡ test → (test || list_any (same_term t) ts) ≡ true
          → (IsIn t ts → (i : ℕ) × (place_in ts t ≡ suc i) × (i < length ts) × (get_or (map f ts) i missing ≡ f t))
          → (i : ℕ) × (cond test 1 (suc (place_in ts t)) ≡ suc i) × (i < suc (length ts)) × (get_or (f u ∷ map f ts) i missing ≡ f t)
      by true same here again = (0, refl, omega arith, ap f (sym (same_is t u same)))
      by false other here again =
          let more = again here in
          (suc more.0, ap suc more.1, omega (arith, more.2), more.3)

  -- what is at a place is a term of the list
  listed : (ts : List Term) (i : ℕ) → (get_or (map f ts) i missing ≡ missing) ⊎ ((u : Term) × IsIn u ts × (get_or (map f ts) i missing ≡ f u))
  listed [] i = inl refl
  listed (t ∷ ts) zero = inr (t, rw (same_itself t) refl, refl)
  listed (t ∷ ts) (suc i) = by (listed ts i)
    where
      by : (get_or (map f ts) i missing ≡ missing) ⊎ ((u : Term) × IsIn u ts × (get_or (map f ts) i missing ≡ f u))
          → (get_or (map f ts) i missing ≡ missing) ⊎ ((u : Term) × IsIn u (t ∷ ts) × (get_or (map f ts) i missing ≡ f u))
      by (inl e) = inl e
      by (inr found) = inr (found.0, or_right (same_term found.0 t) (list_any (same_term found.0) ts) found.1, found.2)
        where
          or_right : (p q : Bool) → q ≡ true → (p || q) ≡ true
          or_right true q h = refl
          or_right false q h = h

length_map : (f : Term → Number) (ts : List Term) → length (map f ts) ≡ length ts
length_map f [] = refl
length_map f (t ∷ ts) = ap suc (length_map f ts)

module _ (runs : List Run) (goal : Term) (goal_sort : sort_of goal ≡ Some sort.Truth) where
  abbrev ts : List Term
  ts = subterms goal

  abbrev numbers : List Number
  numbers = map (number_of_subterm ts) ts

  -- a subterm has its number
  numbered : (t : Term) → IsIn t ts → (is_number numbers (place_in ts t) ≡ true) × (number_at numbers (place_in ts t) ≡ number_of_subterm ts t)
  unfolding is_number number_at
  numbered t at =
      let place = found (number_of_subterm ts) ts t at in (
        rw place.1 (lt-ltb place.0 (length numbers) (omega (arith, place.2, length_map (number_of_subterm ts) ts))),
        rw place.1 place.3,
      )

  -- a number is that of a subterm, or missing
  pub start_number : (k : ℕ) → (number_at numbers k ≡ missing) ⊎ ((u : Term) × IsIn u ts × (number_at numbers k ≡ number_of_subterm ts u))
  unfolding number_at
  start_number zero = inl refl
  start_number (suc i) = listed (number_of_subterm ts) ts i

  goal_in : IsIn goal ts
  goal_in = there goal []

  closed : (u : Term) → IsIn u ts → (i : ℕ) (a : Term) → operand_at i (operation_of u) ≡ Some a → IsIn a ts
  closed u at i a e = subterms-closed goal u at a (operand_in u i a e)

  makes : (k : ℕ) → term_at numbers k ≡ term_over numbers (operation_at numbers k)
  unfolding made at_places
  makes k = by (start_number k)
    where
      by : (number_at numbers k ≡ missing) ⊎ ((u : Term) × IsIn u ts × (number_at numbers k ≡ number_of_subterm ts u))
          → term_at numbers k ≡ term_over numbers (operation_at numbers k)
      by (inl e) = ap (λ (n : Number). n.term) e ∙ ap (λ (n : Number). term_over numbers n.operation) (sym e)
      by (inr is) =
          ap (λ (n : Number). n.term) is.2
          ∙ sym (made-back (term_at numbers) (place_in ts) is.0 (λ i u at. ap (λ (n : Number). n.term) ((numbered u (closed is.0 is.1 i u at)).1)))
          ∙ ap (λ (n : Number). term_over numbers n.operation) (sym is.2)

  within : (k i x : ℕ) → operand_at i (operation_at numbers k) ≡ Some x → is_number numbers x ≡ true
  unfolding operands
  within k i x at = by (start_number k)
    where
      none : (j : ℕ) → operand_at j (missing.operation) ≡ Some x → ⊥
      none zero e = cc
      none (suc j) e = cc

      by : (number_at numbers k ≡ missing) ⊎ ((u : Term) × IsIn u ts × (number_at numbers k ≡ number_of_subterm ts u)) → is_number numbers x ≡ true
      by (inl e) = absurd (none i (sym (ap (λ (n : Number). operand_at i n.operation) e) ∙ at))
      by (inr is) =
          let argument = operand_of (place_in ts) is.0 i x (sym (ap (λ (n : Number). operand_at i n.operation) is.2) ∙ at) in
          ap (is_number numbers) argument.2 ∙ (numbered argument.0 (subterms-closed goal is.0 is.1 argument.0 argument.1)).0

  sorted : (k : ℕ) → IsSorted numbers k
  unfolding sort_of sort_of_atom
  sorted k = by (start_number k)
    where
      by : (number_at numbers k ≡ missing) ⊎ ((u : Term) × IsIn u ts × (number_at numbers k ≡ number_of_subterm ts u)) → IsSorted numbers k
      by (inl e) = record {
        sort = sort.Truth;
        was = ap (λ (n : Number). sort_of n.term) e;
        is = ap (λ (n : Number). sort_of n.now) e;
      }
      by (inr is) =
          let s = subterms_sorted goal (sort.Truth, goal_sort) is.0 is.1 in
          record {
            sort = s.0;
            was = ap (λ (n : Number). sort_of n.term) is.2 ∙ s.1;
            is = ap (λ (n : Number). sort_of n.now) is.2 ∙ s.1;
          }

  nows : (assignment : Assignment) (k : ℕ) → value assignment (now_at numbers k) ≡ value assignment (term_at numbers k)
  nows assignment k = by (start_number k)
    where
      by : (number_at numbers k ≡ missing) ⊎ ((u : Term) × IsIn u ts × (number_at numbers k ≡ number_of_subterm ts u))
          → value assignment (now_at numbers k) ≡ value assignment (term_at numbers k)
      by (inl e) = ap (λ (n : Number). value assignment n.now) e ∙ sym (ap (λ (n : Number). value assignment n.term) e)
      by (inr is) = ap (λ (n : Number). value assignment n.now) is.2 ∙ sym (ap (λ (n : Number). value assignment n.term) is.2)

  pub start_holds : Holds runs goal (start goal)
  start_holds =
      let place = numbered goal goal_in in
      let term : term_at numbers (place_in ts goal) ≡ goal = ap (λ (n : Number). n.term) place.1 in
      record {
        state = record {
          fit = record { makes = makes; within = within; sorted = sorted };
          true_or_false = (record { there = place.0; truth = ap sort_of term ∙ goal_sort }, tt);
          alike = tt;
        };
        agrees = λ assignment refutes. record {
          on_facts = (ap (value assignment) term ∙ refutes.falsifies, tt);
          on_nows = nows assignment;
          on_merges = tt;
        };
      }
