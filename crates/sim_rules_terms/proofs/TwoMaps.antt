-- The terms of both sides' variables, by the maps of each.
use Rattle.std.proofs.Common.{◌≡◌, ℕ, ◌<◌, Bool, true, false, List, length, Option, Some, None, refl, subst}
use Rattle.std.specs.Prelude.{if◌then◌else◌}
use Rattle.std.proofs.lemmas.Option.{slice_get_within, same_Some}
use Rattle.term_core_spec.specs.declared.Variable.{Variable}
use Rattle.term_core_spec.specs.Same.{same_variable}
use Rattle.term_core_spec.specs.Term.{Term, open_term}
use Rattle.term_core_spec.specs.Substitution.{State}
use Rattle.term_bank.specs.Nodes.{Holds}
use Rattle.term_bank.proofs.Substitution.{is_at}
use Rattle.term_substitution.specs.States.{tree_or, AreBelow}
use Rattle.path_cond.specs.States.{IsMapOf}
use Rattle.sim_rules_spec.specs.Points.{of_sides, is_binary, is_source, zone_memory, binary_memory}
use Rattle.sim_rules_spec.specs.Rules.{terms_at}
use Rattle.sim_rules_terms.specs.Both.{both_ids}

module _ (a c : Variable → Option ℕ) where
  below_by : (n : ℕ) → AreBelow n a → AreBelow n c → (lent : Option ℕ) → ((j : ℕ) → lent ≡ Some j → j < n) → (b d e : Bool) (v : Variable) (i : ℕ)
      → (if b then a v else (if d then c v else (if e then lent else None))) ≡ Some i → i < n
  below_by n of_a of_c lent of_zone true d e v i is = of_a v i is
  below_by n of_a of_c lent of_zone false true e v i is = of_c v i is
  below_by n of_a of_c lent of_zone false false true v i is = of_zone i is
  below_by n of_a of_c lent of_zone false false false v i is = let bad : None ≡ Some i = is in absurd (cc)

  pub both_below : (n : ℕ) (lent : Option ℕ) → AreBelow n a → AreBelow n c → ((j : ℕ) → lent ≡ Some j → j < n) → AreBelow n (both_ids a c lent)
  both_below n lent of_a of_c of_zone v i is = below_by n of_a of_c lent of_zone (is_binary v.family) (is_source v.family) (same_variable v zone_memory) v i is

  module _ (trees : List Term) (s t : State) (of_a : IsMapOf trees a s) (of_c : IsMapOf trees c t) where
    current_by : (lent : Option ℕ) (other : Term) (b d e : Bool) (v : Variable) → tree_or trees (if e then lent else None) (open_term v) ≡ other
        → tree_or trees (if b then a v else (if d then c v else (if e then lent else None))) (open_term v) ≡ (if b then s v else (if d then t v else other))
    current_by lent other true d e v is = of_a.current v
    current_by lent other false true e v is = of_c.current v
    current_by lent other false false e v is = is

    -- where a frame starts
    pub start_map : IsMapOf trees (both_ids a c None) (of_sides s t open_term)
    start_map = record {
      current = λ v. current_by None (open_term v) (is_binary v.family) (is_source v.family) (same_variable v zone_memory) v (none (same_variable v zone_memory) v);
      below = both_below (length trees) None of_a.below of_c.below (λ j is. let bad : None ≡ Some j = is in absurd (cc));
    }
      where
        none : (e : Bool) (v : Variable) → tree_or trees (if e then None else None) (open_term v) ≡ open_term v
        none true v = refl
        none false v = refl

    -- at a point
    pub point_map : (lent : ℕ) → Holds trees lent (s binary_memory) → IsMapOf trees (both_ids a c (Some lent)) (terms_at s t)
    point_map lent holds = record {
      current = λ v. current_by (Some lent) (if same_variable v zone_memory then s binary_memory else open_term v) (is_binary v.family) (is_source v.family) (same_variable v zone_memory) v (there (same_variable v zone_memory) v);
      below = both_below (length trees) (Some lent) of_a.below of_c.below (λ j is. within j (is_zone j is));
    }
      where
        there : (e : Bool) (v : Variable) → tree_or trees (if e then Some lent else None) (open_term v) ≡ (if e then s binary_memory else open_term v)
        there true v = is_at trees lent (s binary_memory) holds
        there false v = refl

        is_zone : (j : ℕ) → Some lent ≡ Some j → lent ≡ j
        is_zone j is = same_Some lent j is

        within : (j : ℕ) → lent ≡ j → j < length trees
        within j is = subst (λ (k : ℕ). k < length trees) is (slice_get_within trees lent (s binary_memory) holds)
