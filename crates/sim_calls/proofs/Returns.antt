-- The terms of variables where both sides are back are those that the definition has.
use Rattle.std.proofs.Common.{◌≡◌, ◌∙◌, ℕ, ◌<◌, Bool, true, false, List, length, Option, Some, None, refl, sym, ap, subst}
use Rattle.std.specs.Prelude.{◌==◌, if◌then◌else◌, is_some}
use Rattle.std.specs.Option.{option_or}
use Rattle.std.proofs.lemmas.Bool.{false_from_ne_true, false≢true}
use Rattle.std.proofs.lemmas.Option.{slice_get_within}
use Rattle.term_core_spec.specs.declared.Family.{Family}
use Rattle.term_core_spec.specs.declared.Family.TheVariants as family
use Rattle.term_core_spec.specs.declared.Variable.{Variable}
use Rattle.term_core_spec.specs.Same.{same_variable}
use Rattle.term_core_spec.specs.Sort.{is_memory}
use Rattle.term_core_spec.proofs.Same.{variable-same}
use Rattle.term_core_spec.specs.Term.{Term, open_term}
use Rattle.term_core_spec.specs.Substitution.{State, substituted}
use Rattle.term_bank.specs.Nodes.{tree_at, Holds}
use Rattle.term_bank.proofs.Substitution.{is_at}
use Rattle.term_substitution.specs.States.{tree_or, AreBelow}
use Rattle.graph_core_spec.specs.Graph.{Binding}
use Rattle.graph_core_spec.specs.Run.{is_register}
use Rattle.path_cond.specs.Bound.{has}
use Rattle.path_cond.specs.States.{IsMapOf}
use Rattle.sim_rules_spec.specs.Calls.{Callee, left, left_memory, left_register, result_or, is_kept_register, source_returns, binary_returns}
use Rattle.sim_rules_spec.specs.Points.{Convention, binary_memory, zone_memory, is_binary, is_source}
use Rattle.sim_rules_spec.specs.Rules.{at_cut}
use Rattle.sim_calls.specs.Bound.{AreBound}
use Rattle.sim_calls.specs.Left.{AreLeft}
use Rattle.sim_calls.specs.Returned.{HasResult, register_id, source_id, returned_by, returning, returns_by}
use Rattle.sim_calls.proofs.Puts.{other_family}
use Rattle.sim_calls.proofs.Begins.{IsBelow, or_tree, or_below, if_below, none_below, some_below}

-- a map that has nothing but what a callee leaves
pub left_below : (trees : List Term) (variables : List Variable) (ids : Variable → Option ℕ) → AreLeft trees variables ids → AreBelow (length trees) ids
left_below trees variables ids are v i e = slice_get_within trees i (left v) (are.each v i e)

pub left_is : (trees : List Term) (variables : List Variable) (ids : Variable → Option ℕ) → AreLeft trees variables ids → (v : Variable) → has variables v ≡ true
    → tree_or trees (ids v) (open_term v) ≡ left v
left_is trees variables ids are v h = by (ids v) (are.listed v h) (are.each v)
  where
    by : (o : Option ℕ) → is_some o ≡ true → ((i : ℕ) → o ≡ Some i → Holds trees i (left v)) → tree_or trees o (open_term v) ≡ left v
    by None some each = absurd (false≢true some)
    by (Some i) some each = is_at trees i (left v) (each i refl)

module _ (trees : List Term) (variables : List Variable) (c : Convention) (callee : Callee) (outputs : List Binding) (memory : ℕ) (returned : Option ℕ)
    (lefts bound binary source : Variable → Option ℕ) (holds : Holds trees memory (left_memory c callee (at_cut c).binary)) (result : HasResult trees callee.result returned)
    (are_left : AreLeft trees variables lefts) (are_bound : AreBound trees outputs left bound)
    (of_b : IsMapOf trees binary (at_cut c).binary) (of_s : IsMapOf trees source (at_cut c).source) where
  -- ---- registers

  result_by : (t : Option Term) (o p : Option ℕ) (otherwise u : Term) → HasResult trees t o → tree_or trees p otherwise ≡ u
      → tree_or trees (option_or o p) otherwise ≡ result_or t u
  result_by (Some t) (Some i) p otherwise u h e = is_at trees i (substituted left t) h
  result_by (Some t) None p otherwise u h e = absurd h
  result_by None (Some i) p otherwise u h e = absurd h
  result_by None None p otherwise u h e = e

  register_by : (v : Variable) → has variables v ≡ true → (k x10 : Bool)
      → tree_or trees (if k then binary v else (if x10 then option_or returned (lefts v) else lefts v)) (open_term v)
      ≡ (if k then (at_cut c).binary v else (if x10 then result_or callee.result (left v) else left v))
  register_by v h true x10 = of_b.current v
  register_by v h false true = result_by callee.result returned (lefts v) (open_term v) (left v) result (left_is trees variables lefts are_left v h)
  register_by v h false false = left_is trees variables lefts are_left v h

  -- ---- the source

  other_by : (v : Variable) → has variables v ≡ true → (theirs : Bool)
      → tree_or trees (if theirs then lefts v else source v) (open_term v) ≡ (if theirs then left v else (at_cut c).source v)
  other_by v h true = left_is trees variables lefts are_left v h
  other_by v h false = of_s.current v

  source_is : (v : Variable) → has variables v ≡ true → tree_or trees (source_id bound lefts source v) (open_term v) ≡ source_returns (returning outputs) (at_cut c) v
  source_is v h =
      or_tree trees (bound v) (if is_memory v.sort then lefts v else source v) (open_term v)
      ∙ ap (tree_or trees (bound v)) (other_by v h (is_memory v.sort))
      ∙ are_bound.given (λ w. if is_memory w.sort then left w else (at_cut c).source w) v

  -- ---- both sides

  other : (f : Family) (v : Variable) → v.family ≡ f → (f ≡ family.ZoneMemory → ⊥)
      → open_term v ≡ (if same_variable v zone_memory then left_memory c callee (at_cut c).binary else open_term v)
  other f v e apart = sym (ap (λ (z : Bool). if z then left_memory c callee (at_cut c).binary else open_term v) (other_family v zone_memory f e apart))

  not_binary : (f : Family) (v : Variable) → v.family ≡ f → (f ≡ family.BinaryMemory → ⊥) → same_variable v binary_memory ≡ false
  not_binary f v e apart = other_family v binary_memory f e apart

  memory_by : (v : Variable) (b : Bool) → tree_or trees (if b then Some memory else binary v) (open_term v)
      ≡ (if b then left_memory c callee (at_cut c).binary else (at_cut c).binary v)
  memory_by v true = is_at trees memory (left_memory c callee (at_cut c).binary) holds
  memory_by v false = of_b.current v

  zone_by : (v : Variable) (z : Bool) → tree_or trees (if z then Some memory else None) (open_term v) ≡ (if z then left_memory c callee (at_cut c).binary else open_term v)
  zone_by v true = is_at trees memory (left_memory c callee (at_cut c).binary) holds
  zone_by v false = refl

  by_family : (f : Family) (v : Variable) → v.family ≡ f → has variables v ≡ true → tree_or trees (returned_by memory returned lefts bound binary source f v) (open_term v)
      ≡ (if is_binary f then (if same_variable v binary_memory then left_memory c callee (at_cut c).binary
      else (if is_register f then left_register callee (at_cut c).binary v else (at_cut c).binary v))
      else (if is_source f then source_returns (returning outputs) (at_cut c) v
      else (if same_variable v zone_memory then left_memory c callee (at_cut c).binary else open_term v)))
  by_family family.Register v e h =
      register_by v h (is_kept_register v.index) (v.index == 10)
      ∙ sym (ap (λ (b : Bool). if b then left_memory c callee (at_cut c).binary else left_register callee (at_cut c).binary v) (not_binary family.Register v e (λ bad. cc)))
  by_family family.Entry v e h =
      of_b.current v ∙ sym (ap (λ (b : Bool). if b then left_memory c callee (at_cut c).binary else (at_cut c).binary v) (not_binary family.Entry v e (λ bad. cc)))
  by_family family.Parameter v e h = source_is v h
  by_family family.Local v e h = source_is v h
  by_family family.IsSet v e h = source_is v h
  by_family family.SourceMemory v e h = source_is v h
  by_family family.BinaryMemory v e h = memory_by v (same_variable v binary_memory)
  by_family family.ZoneMemory v e h = zone_by v (same_variable v zone_memory)
  by_family family.Address v e h = other family.Address v e (λ bad. cc)
  by_family family.LoadedByte v e h = other family.LoadedByte v e (λ bad. cc)
  by_family family.Further v e h = source_is v h

  pub returned_is : (v : Variable) → has variables v ≡ true → tree_or trees (returned_by memory returned lefts bound binary source v.family v) (open_term v) ≡ returns_by c callee outputs v
  returned_is v h = by_family v.family v refl h

-- ---- ids are of the bank

pub result_below : (trees : List Term) (t : Option Term) (o : Option ℕ) → HasResult trees t o → IsBelow (length trees) o
result_below trees (Some t) (Some j) h = some_below (length trees) j (slice_get_within trees j (substituted left t) h)
result_below trees (Some t) None h = absurd h
result_below trees None (Some j) h = absurd h
result_below trees None None h = none_below (length trees)

module _ (n memory : ℕ) (returned : Option ℕ) (lefts bound binary source : Variable → Option ℕ) (less : memory < n) (of_r : IsBelow n returned)
    (of_l : AreBelow n lefts) (of_a : AreBelow n bound) (of_b : AreBelow n binary) (of_s : AreBelow n source) where
  register_below : (v : Variable) → IsBelow n (register_id returned lefts binary v)
  register_below v =
      if_below n (is_kept_register v.index) (binary v) (if v.index == 10 then option_or returned (lefts v) else lefts v) (of_b v)
      (if_below n (v.index == 10) (option_or returned (lefts v)) (lefts v) (or_below n returned (lefts v) of_r (of_l v)) (of_l v))

  source_below : (v : Variable) → IsBelow n (source_id bound lefts source v)
  source_below v =
      or_below n (bound v) (if is_memory v.sort then lefts v else source v) (of_a v) (if_below n (is_memory v.sort) (lefts v) (source v) (of_l v) (of_s v))

  below_family : (f : Family) (v : Variable) → IsBelow n (returned_by memory returned lefts bound binary source f v)
  below_family family.Register v = register_below v
  below_family family.Entry v = of_b v
  below_family family.Parameter v = source_below v
  below_family family.Local v = source_below v
  below_family family.IsSet v = source_below v
  below_family family.SourceMemory v = source_below v
  below_family family.BinaryMemory v = if_below n (same_variable v binary_memory) (Some memory) (binary v) (some_below n memory less) (of_b v)
  below_family family.ZoneMemory v = if_below n (same_variable v zone_memory) (Some memory) None (some_below n memory less) (none_below n)
  below_family family.Address v = none_below n
  below_family family.LoadedByte v = none_below n
  below_family family.Further v = source_below v

  pub returned_below : AreBelow n (λ v. returned_by memory returned lefts bound binary source v.family v)
  returned_below v = below_family v.family v
