-- The terms of variables where a callee begins are those that the definition has.
use Rattle.std.proofs.Common.{◌≡◌, ◌∙◌, ℕ, ◌<◌, Bool, true, false, List, length, Option, Some, None, refl, sym, ap, subst}
use Rattle.std.specs.Prelude.{◌||◌, if◌then◌else◌, unwrap_or}
use Rattle.std.specs.Option.{option_or}
use Rattle.std.proofs.lemmas.Option.{same_Some, slice_get_within}
use Rattle.term_core_spec.specs.declared.Width.TheVariants.{W8, W16, W32, W64}
use Rattle.term_core_spec.specs.declared.Sort.{Sort}
use Rattle.term_core_spec.specs.declared.Sort.TheVariants as sort
use Rattle.term_core_spec.specs.declared.Family.{Family}
use Rattle.term_core_spec.specs.declared.Family.TheVariants as family
use Rattle.term_core_spec.specs.declared.Variable.{Variable}
use Rattle.term_core_spec.specs.Same.{same_variable}
use Rattle.term_core_spec.specs.Sort.{is_memory}
use Rattle.term_core_spec.specs.Term.{Term, truth, constant, open_term}
use Rattle.term_core_spec.specs.Substitution.{State}
use Rattle.term_bank.specs.Nodes.{tree_at, Holds}
use Rattle.term_bank.proofs.Growth.{held}
use Rattle.term_bank.proofs.Substitution.{is_at}
use Rattle.term_substitution.specs.States.{tree_or, AreBelow}
use Rattle.graph_core_spec.specs.Graph.{Binding}
use Rattle.graph_core_spec.specs.Run.{is_shared, is_register, is_zone_end}
use Rattle.path_cond.specs.States.{IsMapOf}
use Rattle.sim_rules_spec.specs.Calls.{CallPair, unset_or, entered_terms, is_entry, binary_begins, source_begins}
use Rattle.sim_rules_spec.specs.Points.{Convention, binary_memory, zone_memory, is_binary, is_source}
use Rattle.sim_rules_spec.specs.Rules.{at_cut}
use Rattle.sim_calls.specs.declared.begun.Zeros.{Zeros}
use Rattle.sim_calls.specs.Begun.{AreZeros, zero_id, entered_id, begun_by, begins_by}
use Rattle.sim_calls.specs.Bound.{AreBound}
use Rattle.sim_calls.proofs.Puts.{other_family}

-- ---- ids are of the bank

-- whatever the option has is below a number
abbrev pub IsBelow : ℕ → Option ℕ → Type 0
IsBelow n o = (i : ℕ) → o ≡ Some i → i < n

pub or_below : (n : ℕ) (o p : Option ℕ) → IsBelow n o → IsBelow n p → IsBelow n (option_or o p)
or_below n None p a b i e = b i e
or_below n (Some j) p a b i e = a i e

pub if_below : (n : ℕ) (b : Bool) (o p : Option ℕ) → IsBelow n o → IsBelow n p → IsBelow n (if b then o else p)
if_below n true o p x y i e = x i e
if_below n false o p x y i e = y i e

pub none_below : (n : ℕ) → IsBelow n None
none_below n i bad = absurd (cc)

pub some_below : (n j : ℕ) → j < n → IsBelow n (Some j)
some_below n j less i is = subst (λ (k : ℕ). k < n) (same_Some j i is) less

pub unwrap_below : (n : ℕ) (o : Option ℕ) (j : ℕ) → IsBelow n o → j < n → unwrap_or o j < n
unwrap_below n None j below less = less
unwrap_below n (Some i) j below less = below i refl

module _ (trees : List Term) (zeros : Zeros) (are : AreZeros trees zeros) where
  zero_below : (srt : Sort) → IsBelow (length trees) (zero_id zeros srt)
  zero_below sort.Memory = none_below (length trees)
  zero_below sort.Truth = some_below (length trees) zeros.truth (slice_get_within trees zeros.truth (truth false) are.falsehood)
  zero_below (sort.Word W8) = some_below (length trees) zeros.byte (slice_get_within trees zeros.byte (constant W8 0) are.byte)
  zero_below (sort.Word W16) = some_below (length trees) zeros.half (slice_get_within trees zeros.half (constant W16 0) are.half)
  zero_below (sort.Word W32) = some_below (length trees) zeros.word (slice_get_within trees zeros.word (constant W32 0) are.word)
  zero_below (sort.Word W64) = some_below (length trees) zeros.double (slice_get_within trees zeros.double (constant W64 0) are.double)

  entered_below : (bound before : Variable → Option ℕ) → AreBelow (length trees) bound → AreBelow (length trees) before → (v : Variable)
      → IsBelow (length trees) (entered_id bound before zeros v)
  entered_below bound before x y v =
      or_below (length trees) (bound v) (if is_shared v then before v else zero_id zeros v.sort) (x v)
      (if_below (length trees) (is_shared v) (before v) (zero_id zeros v.sort) (y v) (zero_below v.sort))

module _ (trees : List Term) (zeros : Zeros) (are : AreZeros trees zeros) (memory : ℕ) (less : memory < length trees)
    (bound_binary binary bound_source source : Variable → Option ℕ) (of_bound_b : AreBelow (length trees) bound_binary) (of_b : AreBelow (length trees) binary)
    (of_bound_s : AreBelow (length trees) bound_source) (of_s : AreBelow (length trees) source) where
  binary_below : (v : Variable) → IsBelow (length trees) (entered_id bound_binary binary zeros v)
  binary_below = entered_below trees zeros are bound_binary binary of_bound_b of_b

  source_below : (v : Variable) → IsBelow (length trees) (entered_id bound_source source zeros v)
  source_below = entered_below trees zeros are bound_source source of_bound_s of_s

  below_family : (f : Family) (v : Variable) → IsBelow (length trees) (begun_by zeros memory bound_binary binary bound_source source f v)
  below_family family.Register v = binary_below v
  below_family family.Entry v = of_b v
  below_family family.Parameter v = source_below v
  below_family family.Local v = source_below v
  below_family family.IsSet v = source_below v
  below_family family.SourceMemory v = source_below v
  below_family family.BinaryMemory v = binary_below v
  below_family family.ZoneMemory v =
      if_below (length trees) (same_variable v zone_memory) (Some memory) None (some_below (length trees) memory less) (none_below (length trees))
  below_family family.Address v = none_below (length trees)
  below_family family.LoadedByte v = none_below (length trees)
  below_family family.Further v = source_below v

  pub begun_below : AreBelow (length trees) (λ v. begun_by zeros memory bound_binary binary bound_source source v.family v)
  begun_below v = below_family v.family v

-- ---- the terms of these ids

pub or_tree : (trees : List Term) (o p : Option ℕ) (otherwise : Term) → tree_or trees (option_or o p) otherwise ≡ tree_or trees o (tree_or trees p otherwise)
or_tree trees None p otherwise = refl
or_tree trees (Some i) p otherwise = refl

module _ (trees : List Term) (zeros : Zeros) (are_zeros : AreZeros trees zeros) where
  -- ---- a variable of a callee

  other_is : (srt : Sort) (r : Bool) (o : Option ℕ) (otherwise t : Term) → tree_or trees o otherwise ≡ t
      → tree_or trees (if is_memory srt || r then o else zero_id zeros srt) otherwise ≡ (if is_memory srt || r then t else unset_or srt t)
  other_is sort.Memory r o otherwise t e = e
  other_is sort.Truth true o otherwise t e = e
  other_is sort.Truth false o otherwise t e = is_at trees zeros.truth (truth false) are_zeros.falsehood
  other_is (sort.Word W8) true o otherwise t e = e
  other_is (sort.Word W8) false o otherwise t e = is_at trees zeros.byte (constant W8 0) are_zeros.byte
  other_is (sort.Word W16) true o otherwise t e = e
  other_is (sort.Word W16) false o otherwise t e = is_at trees zeros.half (constant W16 0) are_zeros.half
  other_is (sort.Word W32) true o otherwise t e = e
  other_is (sort.Word W32) false o otherwise t e = is_at trees zeros.word (constant W32 0) are_zeros.word
  other_is (sort.Word W64) true o otherwise t e = e
  other_is (sort.Word W64) false o otherwise t e = is_at trees zeros.double (constant W64 0) are_zeros.double

  module _ (bindings : List Binding) (s : State) (bound before : Variable → Option ℕ) (are : AreBound trees bindings s bound) (is : IsMapOf trees before s) where
    pub entered_is : (v : Variable) → tree_or trees (entered_id bound before zeros v) (open_term v) ≡ entered_terms bindings s v
    entered_is v =
        or_tree trees (bound v) (if is_shared v then before v else zero_id zeros v.sort) (open_term v)
        ∙ ap (tree_or trees (bound v)) (other_is v.sort (is_register v.family || is_zone_end v) (before v) (open_term v) (s v) (is.current v))
        ∙ are.given (λ w. if is_shared w then s w else unset_or w.sort (s w)) v

-- ---- the binary's memory

pub memory_holds : (trees : List Term) (bindings : List Binding) (s : State) (bound : Variable → Option ℕ) (memory : ℕ) → AreBound trees bindings s bound
    → Holds trees memory (s binary_memory) → Holds trees (unwrap_or (bound binary_memory) memory) (entered_terms bindings s binary_memory)
memory_holds trees bindings s bound memory are holds =
    by (bound binary_memory) (are.below binary_memory) (are.given (λ w. if is_shared w then s w else unset_or w.sort (s w)) binary_memory)
  where
    by : (o : Option ℕ) → ((i : ℕ) → o ≡ Some i → i < length trees) → tree_or trees o (s binary_memory) ≡ entered_terms bindings s binary_memory
        → Holds trees (unwrap_or o memory) (entered_terms bindings s binary_memory)
    by None below e = subst (Holds trees memory) e holds
    by (Some i) below e = held trees i (below i refl) ∙ ap Some e

-- ---- both sides

module _ (trees : List Term) (c : Convention) (calls : CallPair) (zeros : Zeros) (are : AreZeros trees zeros) (memory : ℕ)
    (bound_binary binary bound_source source : Variable → Option ℕ) (of_b : IsMapOf trees binary (at_cut c).binary) (of_s : IsMapOf trees source (at_cut c).source)
    (bound_b : AreBound trees calls.binary_inputs (at_cut c).binary bound_binary) (bound_s : AreBound trees calls.source_inputs (at_cut c).source bound_source)
    (holds : Holds trees memory (binary_begins calls (at_cut c) binary_memory)) where
  zone : (z : Bool) (v : Variable) → tree_or trees (if z then Some memory else None) (open_term v) ≡ (if z then binary_begins calls (at_cut c) binary_memory else open_term v)
  zone true v = is_at trees memory (binary_begins calls (at_cut c) binary_memory) holds
  zone false v = refl

  binary_is : (v : Variable) → tree_or trees (entered_id bound_binary binary zeros v) (open_term v) ≡ entered_terms calls.binary_inputs (at_cut c).binary v
  binary_is = entered_is trees zeros are calls.binary_inputs (at_cut c).binary bound_binary binary bound_b of_b

  source_is : (v : Variable) → tree_or trees (entered_id bound_source source zeros v) (open_term v) ≡ source_begins calls (at_cut c) v
  source_is = entered_is trees zeros are calls.source_inputs (at_cut c).source bound_source source bound_s of_s

  other : (f : Family) (v : Variable) → v.family ≡ f → (f ≡ family.ZoneMemory → ⊥)
      → open_term v ≡ (if same_variable v zone_memory then binary_begins calls (at_cut c) binary_memory else open_term v)
  other f v e apart = sym (ap (λ (z : Bool). if z then binary_begins calls (at_cut c) binary_memory else open_term v) (other_family v zone_memory f e apart))

  by_family : (f : Family) (v : Variable) → v.family ≡ f → tree_or trees (begun_by zeros memory bound_binary binary bound_source source f v) (open_term v)
      ≡ (if is_binary f then (if is_entry f then (at_cut c).binary v else entered_terms calls.binary_inputs (at_cut c).binary v)
      else (if is_source f then source_begins calls (at_cut c) v
      else (if same_variable v zone_memory then binary_begins calls (at_cut c) binary_memory else open_term v)))
  by_family family.Register v e = binary_is v
  by_family family.Entry v e = of_b.current v
  by_family family.Parameter v e = source_is v
  by_family family.Local v e = source_is v
  by_family family.IsSet v e = source_is v
  by_family family.SourceMemory v e = source_is v
  by_family family.BinaryMemory v e = binary_is v
  by_family family.ZoneMemory v e = zone (same_variable v zone_memory) v
  by_family family.Address v e = other family.Address v e (λ bad. cc)
  by_family family.LoadedByte v e = other family.LoadedByte v e (λ bad. cc)
  by_family family.Further v e = source_is v

  pub begun_map : AreBelow (length trees) (λ v. begun_by zeros memory bound_binary binary bound_source source v.family v)
      → IsMapOf trees (λ v. begun_by zeros memory bound_binary binary bound_source source v.family v) (begins_by c calls)
  begun_map below = record { current = λ v. by_family v.family v refl; below = below }
