-- A term is false under an assignment exactly where its flat term is under one.
use Rattle.std.proofs.Common.{◌≡◌, ◌≢◌, ℕ, zero, suc, ◌+◌, ◌^◌, ◌<◌, Bool, true, false, cond, List, [], ◌∷◌, Some, refl, ap, sym, ◌∙◌, subst, inl, inr, arith, ◌↔◌}
use Rattle.std.specs.Prelude.{◌==◌, ◌&&◌, slice_get, filter}
use Rattle.std.proofs.lemmas.Option.{same_Some}
use Rattle.std.proofs.Math.Nat.{mod-eq_of_lt}
use Rattle.term_core_spec.specs.declared.Width.TheVariants.{W8, W32}
use Rattle.term_core_spec.specs.declared.Sort.{Sort}
use Rattle.term_core_spec.specs.declared.Sort.TheVariants as sort
use Rattle.term_core_spec.specs.declared.Family.TheVariants as family
use Rattle.term_core_spec.specs.declared.Variable.{Variable}
use Rattle.term_core_spec.specs.declared.UnaryOperator.TheVariants as unary
use Rattle.term_core_spec.specs.declared.BinaryOperator.TheVariants as binary
use Rattle.term_core_spec.specs.Term.{Term, truth, open_term, not_term, or_term}
use Rattle.term_core_spec.specs.Sort.{is_memory, sort_of}
use Rattle.term_core_spec.proofs.Sorts.{as_word, same_sort-true}
use Rattle.term_core_spec.proofs.Soundness.{value-sort, at_memory}
use Rattle.term_core_spec.specs.Value.{Value, Truth, Number, Bytes, Assignment, IsAssignment, IsOfSort, value, unary_value, binary_value, loaded, low_bits}
use Rattle.mem_terms_spec.specs.Flat.{VariableLoad, FlatLoad, loads_of, index_of, byte_variable, without_loads, flattened, flat_loads, is_among, memories_of, is_from, pairs_of, consistent, flat_of}
use Rattle.mem_terms_spec.specs.Assignments.{term_of, number_of, with_bytes, first_byte, memory_back, rebuilt, LoadsFromVariables, HasNoBytes, IsAlwaysTrue}
use Rattle.mem_terms_spec.proofs.Lists.{at_index}
use Rattle.mem_terms_spec.proofs.Loads.{are_in-with_loads}
use Rattle.mem_terms_spec.proofs.Readable.{IsLoad}
use Rattle.mem_terms_spec.proofs.Forms.{AllLoads, IsGood, loads_good, without_loads-sort, AllFlat, all_filter, consistent-plain, truth_readable, flat_plain}
use Rattle.mem_terms_spec.proofs.Alike.{Agree, Gives, alike, byte_at, bytes_give, bytes_agree, with_bytes-assigns}
use Rattle.mem_terms_spec.proofs.Ties.{AreValuesOf, HasValues, IsRead, AllTrue, all_of-parts, consistent-true, IsThere, there_filter, first_is, pairs_of-parts, there_among}

-- ---- the values of the flat loads

byte_below : (w : Value) (n : ℕ) → w ≡ Number W8 n → IsOfSort (sort.Word W8) w → n < 2 ^ 8
byte_below w n e h = (subst (IsOfSort (sort.Word W8)) e h).1

-- a load of a memory at an address gives a byte
loaded_byte : (m : Value) (address : ℕ) → IsOfSort sort.Memory m → (byte : ℕ) × (loaded m (Number W32 address) ≡ Number W8 byte) × (byte < 2 ^ 8)
loaded_byte m address h =
    at_memory (λ v. (byte : ℕ) × (loaded v (Number W32 address) ≡ Number W8 byte) × (byte < 2 ^ 8)) m h
    (λ bytes below. (bytes (low_bits 32 address), refl, below (low_bits 32 address)))

at_sort : (A : Assignment) → IsAssignment A → (v : Variable) (s : Sort) → v.sort ≡ s → IsOfSort s (A v)
at_sort A h v s e = subst (λ s. IsOfSort s (A v)) e (h v)

load_value : (A : Assignment) (l : VariableLoad) → value A (term_of l) ≡ loaded (A l.memory) (value A l.address)
unfolding value binary_value
load_value A l = refl

open_value : (B : Assignment) (v : Variable) → value B (open_term v) ≡ B v
unfolding value
open_value B v = refl

-- ---- from the term to its flat term

module _ (A : Assignment) (h : IsAssignment A) (all : List VariableLoad) where
  is_read : (l : VariableLoad) (k : ℕ) → IsGood (λ v. v.family ≢ family.LoadedByte) all l → slice_get all k ≡ Some l
      → IsRead A (with_bytes all A) (record { memory = l.memory; address = without_loads all l.address; byte = open_term (byte_variable k) })
  is_read l k good there =
      let same = alike A (with_bytes all A) all (bytes_give all A) l.address good.reads good.inside (bytes_agree all A l.address good.variables) in
      let address = as_word W32 (value A l.address) (value-sort A h l.address (sort.Word W32) good.is.at) in
      let byte = loaded_byte (A l.memory) address.0 (at_sort A h l.memory sort.Memory good.is.from) in
      let gives : value (with_bytes all A) (open_term (byte_variable k)) ≡ Number W8 byte.0 =
      open_value (with_bytes all A) (byte_variable k) ∙ byte_at all A k l there ∙ load_value A l ∙ ap (loaded (A l.memory)) address.1 ∙ byte.1 in
      record {
        value_is = record {
          at = address.0;
          gives = byte.0;
          is = record { address_is = same ∙ address.1; address_below = address.2; byte_is = gives; byte_below = byte.2 };
        };
        from = sym byte.1;
      }

  all_read : (k : ℕ) (xs : List VariableLoad) → AllLoads (IsGood (λ v. v.family ≢ family.LoadedByte) all) xs
      → ((i : ℕ) (l : VariableLoad) → slice_get xs i ≡ Some l → slice_get all (k + i) ≡ Some l) → AllFlat (IsRead A (with_bytes all A)) (flattened all k xs)
  all_read k [] good there = tt
  all_read k (l ∷ xs) good there =
      let here : slice_get all k ≡ Some l = (let e : k + 0 ≡ k = omega arith in subst (λ i. slice_get all i ≡ Some l) e (there 0 l refl)) in (
        is_read l k good.0 here,
        all_read (k + 1) xs good.1 (λ i m e. (let s : k + suc i ≡ k + 1 + i = omega arith in subst (λ j. slice_get all j ≡ Some m) s (there (suc i) m e))),
      )

or_false : (B : Assignment) (p t : Term) → value B p ≡ Truth true → value B t ≡ Truth false → value B (or_term (not_term p) t) ≡ Truth false
unfolding value unary_value binary_value
or_false B p t hp ht = rw (hp, ht) refl

no_shift : (all : List VariableLoad) (i : ℕ) (l : VariableLoad) → slice_get all i ≡ Some l → slice_get all (0 + i) ≡ Some l
no_shift all i l e = let s : i ≡ 0 + i = omega arith in subst (λ j. slice_get all j ≡ Some l) s e

pub flat_false : (t : Term) → sort_of t ≡ Some sort.Truth → LoadsFromVariables t → HasNoBytes t → (A : Assignment) → IsAssignment A → value A t ≡ Truth false
    → value (with_bytes (loads_of t) A) (flat_of t) ≡ Truth false
flat_false t s all fresh A h e =
    let reads = truth_readable t s all in
    let good = loads_good (λ v. v.family ≢ family.LoadedByte) t reads fresh in
    let same = alike A (with_bytes (loads_of t) A) (loads_of t) (bytes_give (loads_of t) A) t reads (are_in-with_loads t []) (bytes_agree (loads_of t) A t fresh) in
    or_false (with_bytes (loads_of t) A) (consistent (flat_loads t)) (without_loads (loads_of t) t)
    (consistent-true A (with_bytes (loads_of t) A) (flat_loads t) (all_read A h (loads_of t) 0 (loads_of t) good (no_shift (loads_of t))))
    (same ∙ e)

pub bytes_assign : (t : Term) → sort_of t ≡ Some sort.Truth → LoadsFromVariables t → (A : Assignment) → IsAssignment A → IsAssignment (with_bytes (loads_of t) A)
bytes_assign t s all A h =
    with_bytes-assigns (λ v. Unit {0}) (loads_of t) (loads_good (λ v. Unit {0}) t (truth_readable t s all) (λ v o. tt)) A h

-- ---- and back

or_parts : (p t : Value) → IsOfSort sort.Truth p → IsOfSort sort.Truth t → binary_value binary.Or (unary_value unary.Not p) t ≡ Truth false → (p ≡ Truth true) × (t ≡ Truth false)
unfolding binary_value unary_value
or_parts (Truth true) (Truth false) hp ht e = (refl, refl)
or_parts (Truth true) (Truth true) hp ht e = absurd (cc)
or_parts (Truth false) (Truth b) hp ht e = absurd (cc)
or_parts (Truth a) (Number w n) hp ht e = absurd ht
or_parts (Truth a) (Bytes m) hp ht e = absurd ht
or_parts (Number w n) t hp ht e = absurd hp
or_parts (Bytes m) t hp ht e = absurd hp

or_value : (B : Assignment) (p t : Term) → value B (or_term (not_term p) t) ≡ binary_value binary.Or (unary_value unary.Not (value B p)) (value B t)
unfolding value
or_value B p t = refl

module _ (B : Assignment) (h : IsAssignment B) (all : List VariableLoad) where
  -- the values of the terms of a load of a readable term
  has_values : (fine : Variable → Type 0) (l : VariableLoad) (k : ℕ) → IsGood fine all l
      → HasValues B (record { memory = l.memory; address = without_loads all l.address; byte = open_term (byte_variable k) })
  has_values fine l k good =
      let address = as_word W32 (value B (without_loads all l.address)) (value-sort B h (without_loads all l.address) (sort.Word W32) (without_loads-sort all l.address (sort.Word W32) good.is.at)) in
      let byte = as_word W8 (B (byte_variable k)) (h (byte_variable k)) in
      record {
        at = address.0;
        gives = byte.0;
        is = record { address_is = address.1; address_below = address.2; byte_is = open_value B (byte_variable k) ∙ byte.1; byte_below = byte.2 };
      }

  all_have_values : (fine : Variable → Type 0) (k : ℕ) (xs : List VariableLoad) → AllLoads (IsGood fine all) xs → AllFlat (HasValues B) (flattened all k xs)
  all_have_values fine k [] good = tt
  all_have_values fine k (l ∷ xs) good = (has_values fine l k good.0, all_have_values fine (k + 1) xs good.1)

  flat_at : (l : VariableLoad) (k i : ℕ) (xs : List VariableLoad) → slice_get xs i ≡ Some l
      → IsThere (record { memory = l.memory; address = without_loads all l.address; byte = open_term (byte_variable (k + i)) }) (flattened all k xs)
  unfolding IsThere
  flat_at l k i [] e = absurd (cc)
  flat_at l k zero (x ∷ xs) e =
      let s : k + 0 ≡ k = omega arith in
      let same : l ≡ x = sym (same_Some x l e) in
      inl (made l x (k + 0) k same s)
    where
      made : (l x : VariableLoad) (j k : ℕ) → l ≡ x → j ≡ k
          → (let f : FlatLoad = record { memory = l.memory; address = without_loads all l.address; byte = open_term (byte_variable j) } in f)
          ≡ record { memory = x.memory; address = without_loads all x.address; byte = open_term (byte_variable k) }
      made l x j k p q = cc
  flat_at l k (suc i) (x ∷ xs) e =
      let s : k + 1 + i ≡ k + suc i = omega arith in
      inr (subst (λ j. IsThere (record { memory = l.memory; address = without_loads all l.address; byte = open_term (byte_variable j) }) (flattened all (k + 1) xs)) s (flat_at l (k + 1) i xs e))

  memory_at : (l : VariableLoad) → IsLoad l → is_among l.memory (memories_of (flattened all 0 all)) ≡ true
      → rebuilt (flattened all 0 all) B l.memory ≡ memory_back B (flattened all 0 all) l.memory
  unfolding rebuilt
  memory_at l good among = both (is_memory l.memory.sort) (is_among l.memory (memories_of (flattened all 0 all))) (ap is_memory good.from) among
    where
      both : (test among : Bool) → test ≡ true → among ≡ true
          → cond (test && among) (memory_back B (flattened all 0 all) l.memory) (B l.memory) ≡ memory_back B (flattened all 0 all) l.memory
      both true true e f = refl
      both true false e f = absurd (cc)
      both false among e f = absurd (cc)

  module _ (fine : Variable → Type 0) (good : AllLoads (IsGood fine all) all) (ties : AllTrue B (pairs_of (memories_of (flattened all 0 all)) (flattened all 0 all))) where
    back_gives : Gives (rebuilt (flattened all 0 all) B) B all
    unfolding Gives
    back_gives l is there same =
        let k : ℕ = index_of l all in
        let x : FlatLoad = record { memory = l.memory; address = without_loads all l.address; byte = open_term (byte_variable k) } in
        let e : 0 + k ≡ k = omega arith in
        let is_listed : IsThere x (flattened all 0 all) =
        subst (λ j. IsThere (record { memory = l.memory; address = without_loads all l.address; byte = open_term (byte_variable j) }) (flattened all 0 all)) e (flat_at l 0 k all (at_index l all there)) in
        let among = there_among x [] (flattened all 0 all) is_listed in
        let address = as_word W32 (value B (without_loads all l.address)) (value-sort B h (without_loads all l.address) (sort.Word W32) (without_loads-sort all l.address (sort.Word W32) is.at)) in
        let byte = as_word W8 (B (byte_variable k)) (h (byte_variable k)) in
        let value_is : AreValuesOf B x address.0 byte.0 = record { address_is = address.1; address_below = address.2; byte_is = open_value B (byte_variable k) ∙ byte.1; byte_below = byte.2 } in
        let first : first_byte B address.0 (filter (is_from l.memory) (flattened all 0 all)) ≡ byte.0 =
        first_is B x address.0 byte.0 (filter (is_from l.memory) (flattened all 0 all))
        (all_filter (HasValues B) (is_from l.memory) (flattened all 0 all) (all_have_values fine 0 all good))
        (pairs_of-parts B l.memory (memories_of (flattened all 0 all)) (flattened all 0 all) ties among)
        (there_filter l.memory x (flattened all 0 all) refl is_listed) value_is in
        let low : low_bits 32 address.0 ≡ address.0 = mod-eq_of_lt address.2 in
        byte.1
        ∙ ap (Number W8) (sym (ap (λ n. first_byte B n (filter (is_from l.memory) (flattened all 0 all))) low ∙ first))
        ∙ sym (load_value (rebuilt (flattened all 0 all) B) l
        ∙ ap (loaded (rebuilt (flattened all 0 all) B l.memory)) (sym same ∙ address.1)
        ∙ ap (λ m. loaded m (Number W32 address.0)) (memory_at l is among))

  keeps : (t : Term) → Agree (rebuilt (flattened all 0 all) B) B t
  unfolding Agree rebuilt
  keeps t v n o = step (is_memory v.sort) refl
    where
      step : (test : Bool) → is_memory v.sort ≡ test
          → B v ≡ cond (test && is_among v (memories_of (flattened all 0 all))) (memory_back B (flattened all 0 all) v) (B v)
      step false e = refl
      step true e = absurd (n (same_sort-true v.sort sort.Memory e))

pub term_false : (t : Term) → sort_of t ≡ Some sort.Truth → LoadsFromVariables t → (B : Assignment) → IsAssignment B → value B (flat_of t) ≡ Truth false
    → value (rebuilt (flat_loads t) B) t ≡ Truth false
unfolding value
term_false t s all B h e =
    let reads = truth_readable t s all in
    let good = loads_good (λ v. Unit {0}) t reads (λ v o. tt) in
    let parts =
    or_parts (value B (consistent (flat_loads t))) (value B (without_loads (loads_of t) t))
    (value-sort B h (consistent (flat_loads t)) sort.Truth (consistent-plain t reads).truth_sort)
    (value-sort B h (without_loads (loads_of t) t) sort.Truth (without_loads-sort (loads_of t) t sort.Truth s))
    (sym (or_value B (consistent (flat_loads t)) (without_loads (loads_of t) t)) ∙ e)
    in
    let ties = (all_of-parts B (truth true) (pairs_of (memories_of (flat_loads t)) (flat_loads t)) parts.0).1 in
    let same = alike (rebuilt (flat_loads t) B) B (loads_of t) (back_gives B h (loads_of t) (λ v. Unit {0}) good ties) t reads (are_in-with_loads t []) (keeps B h (loads_of t) t) in
    sym same ∙ parts.1

-- ---- the memories are memories

first_below : (B : Assignment) (address : ℕ) (xs : List FlatLoad) → first_byte B address xs < 2 ^ 8
first_below B address [] = omega arith
first_below B address (x ∷ xs) = step (low_bits 32 (number_of (value B x.address)) == address) (first_below B address xs)
  where
    step : (test : Bool) → first_byte B address xs < 2 ^ 8 → cond test (low_bits 8 (number_of (value B x.byte))) (first_byte B address xs) < 2 ^ 8
    step true f = omega arith
    step false f = f

pub rebuilt_assigns : (xs : List FlatLoad) (B : Assignment) → IsAssignment B → IsAssignment (rebuilt xs B)
unfolding rebuilt
rebuilt_assigns xs B h v = step (is_memory v.sort) (is_among v (memories_of xs)) refl
  where
    step : (test among : Bool) → is_memory v.sort ≡ test → IsOfSort v.sort (cond (test && among) (memory_back B xs v) (B v))
    step true true e =
        subst (λ s. IsOfSort s (memory_back B xs v)) (sym (same_sort-true v.sort sort.Memory e)) (λ address. first_below B address (filter (is_from v) xs))
    step true false e = h v
    step false among e = h v

-- ---- equally valid

not_false : (x : Value) → IsOfSort sort.Truth x → (x ≡ Truth false → ⊥) → x ≡ Truth true
not_false (Truth true) h f = refl
not_false (Truth false) h f = absurd (f refl)
not_false (Number w n) h f = absurd h
not_false (Bytes m) h f = absurd h

pub equally : (t : Term) → sort_of t ≡ Some sort.Truth → LoadsFromVariables t → HasNoBytes t → IsAlwaysTrue t ↔ IsAlwaysTrue (flat_of t)
equally t s all fresh = (
  (λ valid B h. not_false (value B (flat_of t)) (value-sort B h (flat_of t) sort.Truth (flat_plain t s all).truth_sort)
      (λ e. contrary (value (rebuilt (flat_loads t) B) t) (valid (rebuilt (flat_loads t) B) (rebuilt_assigns (flat_loads t) B h)) (term_false t s all B h e))),
  (λ valid A h. not_false (value A t) (value-sort A h t sort.Truth s)
      (λ e. contrary (value (with_bytes (loads_of t) A) (flat_of t)) (valid (with_bytes (loads_of t) A) (bytes_assign t s all A h)) (flat_false t s all fresh A h e))),
)
  where
    contrary : (x : Value) → x ≡ Truth true → x ≡ Truth false → ⊥
    contrary x p q = cc
