-- The flat term is a truth value, and no memory occurs in it.
use Rattle.std.proofs.Common.{◌≡◌, ◌≢◌, ℕ, ◌+◌, Bool, true, false, List, [], ◌∷◌, ◌++◌, map, Option, Some, None, refl, ap, sym, ◌∙◌, subst, inl, inr}
use Rattle.std.specs.Prelude.{filter, if◌then◌else◌}
use Rattle.term_core_spec.specs.declared.Width.TheVariants.{W8, W32, W64}
use Rattle.term_core_spec.specs.declared.Sort.{Sort}
use Rattle.term_core_spec.specs.declared.Sort.TheVariants as sort
use Rattle.term_core_spec.specs.declared.Variable.{Variable}
use Rattle.term_core_spec.specs.declared.Atom.TheVariants as atom
use Rattle.term_core_spec.specs.declared.BinaryOperator.{BinaryOperator}
use Rattle.term_core_spec.specs.declared.BinaryOperator.TheVariants as binary
use Rattle.term_core_spec.specs.Term.{Term, Leaf, Unary, Binary, Ternary, Quaternary, Octonary, Occurs, truth, open_term, not_term, and_term, or_term}
use Rattle.term_core_spec.specs.Sort.{sort_of, sort_of_atom, sort_of_unary, sort_of_binary, sort_of_ternary, sort_of_quaternary, all_bytes}
use Rattle.term_core_spec.proofs.Sorts.{sort_if-some, with_one-some, with_two-some, with_three-some, with_four-some, load_is}
use Rattle.mem_terms_spec.specs.Flat.{VariableLoad, FlatLoad, load_of, is_in, with_load, with_loads, loads_of, index_of, byte_variable, byte_or, without_loads, flattened, flat_loads, agree, pairs, memories_of, is_from, pairs_of, all_of, consistent, flat_of}
use Rattle.mem_terms_spec.specs.Assignments.{LoadsFromVariables, IsWithoutMemory}
use Rattle.mem_terms_spec.proofs.Loads.{AreIn, are_in-with_loads}
use Rattle.mem_terms_spec.proofs.Readable.{IsLoad, Reads, IsReadable, IsTheLoad, is_the_load, byte_parts, readable}

-- ---- the sort is kept

byte_sort : (k : ℕ) → sort_of (open_term (byte_variable k)) ≡ Some (sort.Word W8)
unfolding sort_of sort_of_atom
byte_sort k = refl

-- a load is a byte
load_sort : (operator : BinaryOperator) (a b : Term) (l : VariableLoad) (s : Sort) → IsTheLoad operator a b l → sort_of (Binary operator a b) ≡ Some s → s ≡ sort.Word W8
load_sort operator a b l s is h =
    let e : Binary operator a b ≡ Binary binary.Load (Leaf (atom.Open l.memory)) l.address = (let e1 = is.operator_is in let e2 = is.memory_is in let e3 = is.address_is in cc) in
    (load_is (Leaf (atom.Open l.memory)) l.address s (ap sort_of (sym e) ∙ h)).0

module _ (all : List VariableLoad) where
  pub without_loads-sort : (t : Term) (s : Sort) → sort_of t ≡ Some s → sort_of (without_loads all t) ≡ Some s
  unfolding sort_of without_loads
  without_loads-sort (Leaf leaf) s h = h
  without_loads-sort (Unary operator a) s h =
      let parts = with_one-some (sort_of_unary operator) (sort_of a) s h in
      let e = without_loads-sort a parts.0 parts.1 in
      rw e parts.2
  without_loads-sort (Binary operator a b) s h =
      let parts = with_two-some (sort_of_binary operator) (sort_of a) (sort_of b) s h in
      let e1 = without_loads-sort a parts.0 parts.2 in
      let e2 = without_loads-sort b parts.1 parts.3 in
      let kept : sort_of (Binary operator (without_loads all a) (without_loads all b)) ≡ Some s = rw (e1, e2) parts.4 in
      by_load (load_of operator a b) refl kept
    where
      by_load : (o : Option VariableLoad) → load_of operator a b ≡ o → sort_of (Binary operator (without_loads all a) (without_loads all b)) ≡ Some s
          → sort_of (byte_or all o (Binary operator (without_loads all a) (without_loads all b))) ≡ Some s
      by_load None e kept = kept
      by_load (Some l) e kept = byte_sort _ ∙ ap Some (sym (load_sort operator a b l s (is_the_load operator a b l e) h))
  without_loads-sort (Ternary operator a b c) s h =
      let parts = with_three-some (sort_of_ternary operator) (sort_of a) (sort_of b) (sort_of c) s h in
      let e1 = without_loads-sort a parts.0 parts.3 in
      let e2 = without_loads-sort b parts.1 parts.4 in
      let e3 = without_loads-sort c parts.2 parts.5 in
      rw (e1, e2, e3) parts.6
  without_loads-sort (Quaternary operator a b c d) s h =
      let parts = with_four-some (sort_of_quaternary operator) (sort_of a) (sort_of b) (sort_of c) (sort_of d) s h in
      let e1 = without_loads-sort a parts.0 parts.4 in
      let e2 = without_loads-sort b parts.1 parts.5 in
      let e3 = without_loads-sort c parts.2 parts.6 in
      let e4 = without_loads-sort d parts.3 parts.7 in
      rw (e1, e2, e3, e4) parts.8
  without_loads-sort (Octonary a b c d i j k l) s h =
      let tests = sort_if-some (all_bytes (sort_of a ∷ sort_of b ∷ sort_of c ∷ sort_of d ∷ sort_of i ∷ sort_of j ∷ sort_of k ∷ sort_of l ∷ [])) (sort.Word W64) s h in
      let pa = byte_parts (sort_of a) (sort_of b ∷ sort_of c ∷ sort_of d ∷ sort_of i ∷ sort_of j ∷ sort_of k ∷ sort_of l ∷ []) tests.0 in
      let pb = byte_parts (sort_of b) (sort_of c ∷ sort_of d ∷ sort_of i ∷ sort_of j ∷ sort_of k ∷ sort_of l ∷ []) pa.1 in
      let pc = byte_parts (sort_of c) (sort_of d ∷ sort_of i ∷ sort_of j ∷ sort_of k ∷ sort_of l ∷ []) pb.1 in
      let pd = byte_parts (sort_of d) (sort_of i ∷ sort_of j ∷ sort_of k ∷ sort_of l ∷ []) pc.1 in
      let pi = byte_parts (sort_of i) (sort_of j ∷ sort_of k ∷ sort_of l ∷ []) pd.1 in
      let pj = byte_parts (sort_of j) (sort_of k ∷ sort_of l ∷ []) pi.1 in
      let pk = byte_parts (sort_of k) (sort_of l ∷ []) pj.1 in
      let pl = byte_parts (sort_of l) [] pk.1 in
      let e1 = without_loads-sort a (sort.Word W8) pa.0 in
      let e2 = without_loads-sort b (sort.Word W8) pb.0 in
      let e3 = without_loads-sort c (sort.Word W8) pc.0 in
      let e4 = without_loads-sort d (sort.Word W8) pd.0 in
      let e5 = without_loads-sort i (sort.Word W8) pi.0 in
      let e6 = without_loads-sort j (sort.Word W8) pj.0 in
      let e7 = without_loads-sort k (sort.Word W8) pk.0 in
      let e8 = without_loads-sort l (sort.Word W8) pl.0 in
      rw (e1, e2, e3, e4, e5, e6, e7, e8) (ap Some tests.1)

  -- ---- no memory is left

  byte_without : (k : ℕ) → IsWithoutMemory (open_term (byte_variable k))
  unfolding IsWithoutMemory
  byte_without k = λ e. cc

  pub without_loads-without : (t : Term) → IsReadable t → IsWithoutMemory (without_loads all t)
  unfolding IsReadable IsWithoutMemory without_loads
  without_loads-without (Leaf leaf) h = h
  without_loads-without (Unary operator a) h = without_loads-without a h
  without_loads-without (Binary operator a b) h = by_load (load_of operator a b) h.0 (λ r. without_loads-without a r) (without_loads-without b h.1)
    where
      by_load : (o : Option VariableLoad) → Reads operator o (IsReadable a) (IsReadable b) → (IsReadable a → IsWithoutMemory (without_loads all a)) → IsWithoutMemory (without_loads all b)
          → IsWithoutMemory (byte_or all o (Binary operator (without_loads all a) (without_loads all b)))
      by_load None reads first second = (reads.0, first reads.1, second)
      by_load (Some l) reads first second = byte_without (index_of l all)
  without_loads-without (Ternary operator a b c) h = (without_loads-without a h.0, without_loads-without b h.1, without_loads-without c h.2)
  without_loads-without (Quaternary operator a b c d) h =
      (without_loads-without a h.0, without_loads-without b h.1, without_loads-without c h.2, without_loads-without d h.3)
  without_loads-without (Octonary a b c d e f g i) h = (
    without_loads-without a h.0,
    without_loads-without b h.1,
    without_loads-without c h.2,
    without_loads-without d h.3,
    without_loads-without e h.4,
    without_loads-without f h.5,
    without_loads-without g h.6,
    without_loads-without i h.7,
  )

-- ---- each load of a term

-- what holds of each load in a list
abbrev pub AllLoads : (VariableLoad → Type 0) → List VariableLoad → Type 0
AllLoads P [] = Unit {0}
AllLoads P (l ∷ loads) = P l × AllLoads P loads

-- of a load of a readable term: each variable of its address is fine, and each load of it is in a list
pub record IsGood (fine : Variable → Type 0) (all : List VariableLoad) (l : VariableLoad) : Type 0 where
  pub is : IsLoad l
  pub reads : IsReadable l.address
  pub inside : AreIn l.address all
  pub variables : (v : Variable) → Occurs v l.address → fine v

all_last : (P : VariableLoad → Type 0) (xs : List VariableLoad) (l : VariableLoad) → AllLoads P xs → P l → AllLoads P (xs ++ l ∷ [])
all_last P [] l all p = (p, tt)
all_last P (x ∷ xs) l all p = (all.0, all_last P xs l all.1 p)

all_with : (P : VariableLoad → Type 0) (l : VariableLoad) (xs : List VariableLoad) → P l → AllLoads P xs → AllLoads P (with_load (Some l) xs)
all_with P l xs p all =
    elim (is_in l xs) as (λ t. AllLoads P (if t then xs else xs ++ l ∷ [])) [
      | true ↦ all
      | false ↦ all_last P xs l all p
    ]

module _ (fine : Variable → Type 0) (all : List VariableLoad) where
  pub with_loads-good : (t : Term) (xs : List VariableLoad) → IsReadable t → AreIn t all → ((v : Variable) → Occurs v t → fine v)
      → AllLoads (IsGood fine all) xs → AllLoads (IsGood fine all) (with_loads t xs)
  unfolding IsReadable AreIn Occurs with_loads
  with_loads-good (Leaf leaf) xs h i f k = k
  with_loads-good (Unary operator a) xs h i f k = with_loads-good a xs h i f k
  with_loads-good (Binary operator a b) xs h i f k =
      by_load (load_of operator a b) refl h.0
      (λ r. with_loads-good a xs r i.1 (λ v o. f v (inl o)) k)
      (λ ys. with_loads-good b ys h.1 i.2 (λ v o. f v (inr o)))
    where
      by_load : (o : Option VariableLoad) → load_of operator a b ≡ o → Reads operator o (IsReadable a) (IsReadable b) → (IsReadable a → AllLoads (IsGood fine all) (with_loads a xs))
          → ((ys : List VariableLoad) → AllLoads (IsGood fine all) ys → AllLoads (IsGood fine all) (with_loads b ys)) → AllLoads (IsGood fine all) (with_load o (with_loads b (with_loads a xs)))
      by_load None e reads first second = second (with_loads a xs) (first reads.1)
      by_load (Some l) e reads first second =
          let is = is_the_load operator a b l e in
          let nothing : with_loads a xs ≡ xs = ap (λ m. with_loads m xs) is.memory_is in
          let here : IsGood fine all l = record {
            is = reads;
            reads = subst IsReadable is.address_is h.1;
            inside = subst (λ d. AreIn d all) is.address_is i.2;
            variables = subst (λ d. (v : Variable) → Occurs v d → fine v) is.address_is (λ v o. f v (inr o));
          } in
          all_with (IsGood fine all) l (with_loads b (with_loads a xs)) here (second (with_loads a xs) (subst (AllLoads (IsGood fine all)) (sym nothing) k))
  with_loads-good (Ternary operator a b c) xs h i f k =
      with_loads-good c _ h.2 i.2 (λ v o. f v (inr (inr o))) (with_loads-good b _ h.1 i.1 (λ v o. f v (inr (inl o))) (with_loads-good a xs h.0 i.0 (λ v o. f v (inl o)) k))
  with_loads-good (Quaternary operator a b c d) xs h i f k =
      with_loads-good d _ h.3 i.3 (λ v o. f v (inr (inr (inr o))))
      (with_loads-good c _ h.2 i.2 (λ v o. f v (inr (inr (inl o))))
      (with_loads-good b _ h.1 i.1 (λ v o. f v (inr (inl o))) (with_loads-good a xs h.0 i.0 (λ v o. f v (inl o)) k)))
  with_loads-good (Octonary a b c d e j g l) xs h i f k =
      with_loads-good l _ h.7 i.7 (λ v o. f v (inr (inr (inr (inr (inr (inr (inr o))))))))
      (with_loads-good g _ h.6 i.6 (λ v o. f v (inr (inr (inr (inr (inr (inr (inl o))))))))
      (with_loads-good j _ h.5 i.5 (λ v o. f v (inr (inr (inr (inr (inr (inl o)))))))
      (with_loads-good e _ h.4 i.4 (λ v o. f v (inr (inr (inr (inr (inl o))))))
      (with_loads-good d _ h.3 i.3 (λ v o. f v (inr (inr (inr (inl o)))))
      (with_loads-good c _ h.2 i.2 (λ v o. f v (inr (inr (inl o))))
      (with_loads-good b _ h.1 i.1 (λ v o. f v (inr (inl o))) (with_loads-good a xs h.0 i.0 (λ v o. f v (inl o)) k)))))))

-- of the loads of a term
pub loads_good : (fine : Variable → Type 0) (t : Term) → IsReadable t → ((v : Variable) → Occurs v t → fine v) → AllLoads (IsGood fine (loads_of t)) (loads_of t)
loads_good fine t h f = with_loads-good fine (loads_of t) t [] h (are_in-with_loads t []) f tt

-- ---- what ties loads

-- loads by terms of their sorts, without memory
pub record IsFlat (x : FlatLoad) : Type 0 where
  pub address_sort : sort_of x.address ≡ Some (sort.Word W32)
  pub byte_sort_is : sort_of x.byte ≡ Some (sort.Word W8)
  pub address_without : IsWithoutMemory x.address
  pub byte_without_is : IsWithoutMemory x.byte

abbrev pub AllFlat : (FlatLoad → Type 0) → List FlatLoad → Type 0
AllFlat P [] = Unit {0}
AllFlat P (x ∷ xs) = P x × AllFlat P xs

pub flattened-flat : (fine : Variable → Type 0) (all : List VariableLoad) (k : ℕ) (xs : List VariableLoad) → AllLoads (IsGood fine all) xs → AllFlat IsFlat (flattened all k xs)
flattened-flat fine all k [] h = tt
flattened-flat fine all k (l ∷ loads) h = (
  record {
    address_sort = without_loads-sort all l.address (sort.Word W32) h.0.is.at;
    byte_sort_is = byte_sort k;
    address_without = without_loads-without all l.address h.0.reads;
    byte_without_is = byte_without all k;
  },
  flattened-flat fine all (k + 1) loads h.1,
)

-- a truth value without memory
pub record IsPlain (t : Term) : Type 0 where
  pub truth_sort : sort_of t ≡ Some sort.Truth
  pub without : IsWithoutMemory t

abbrev pub AllPlain : List Term → Type 0
AllPlain [] = Unit {0}
AllPlain (t ∷ terms) = IsPlain t × AllPlain terms

agree-plain : (x y : FlatLoad) → IsFlat x → IsFlat y → IsPlain (agree x y)
unfolding sort_of sort_of_unary sort_of_binary IsWithoutMemory
agree-plain x y hx hy =
    record {
      truth_sort = rw (hx.address_sort, hy.address_sort, hx.byte_sort_is, hy.byte_sort_is) refl;
      without = ((λ e. cc), ((λ e. cc), hx.address_without, hy.address_without), ((λ e. cc), hx.byte_without_is, hy.byte_without_is));
    }

plain_append : (xs ys : List Term) → AllPlain xs → AllPlain ys → AllPlain (xs ++ ys)
plain_append [] ys h k = k
plain_append (x ∷ xs) ys h k = (h.0, plain_append xs ys h.1 k)

agree_all-plain : (x : FlatLoad) (ys : List FlatLoad) → IsFlat x → AllFlat IsFlat ys → AllPlain (map (agree x) ys)
agree_all-plain x [] hx h = tt
agree_all-plain x (y ∷ ys) hx h = (agree-plain x y hx h.0, agree_all-plain x ys hx h.1)

pairs-plain : (xs : List FlatLoad) → AllFlat IsFlat xs → AllPlain (pairs xs)
pairs-plain [] h = tt
pairs-plain (x ∷ xs) h = plain_append (map (agree x) xs) (pairs xs) (agree_all-plain x xs h.0 h.1) (pairs-plain xs h.1)

-- what holds of all holds of those that a test keeps
pub all_filter : (P : FlatLoad → Type 0) (test : FlatLoad → Bool) (xs : List FlatLoad) → AllFlat P xs → AllFlat P (filter test xs)
all_filter P test [] h = tt
all_filter P test (x ∷ xs) h = step (test x) (all_filter P test xs h.1)
  where
    step : (b : Bool) → AllFlat P (filter test xs) → AllFlat P (if b then x ∷ filter test xs else filter test xs)
    step true rest = (h.0, rest)
    step false rest = rest

pairs_of-plain : (memories : List Variable) (xs : List FlatLoad) → AllFlat IsFlat xs → AllPlain (pairs_of memories xs)
pairs_of-plain [] xs h = tt
pairs_of-plain (m ∷ memories) xs h =
    plain_append (pairs (filter (is_from m) xs)) (pairs_of memories xs) (pairs-plain (filter (is_from m) xs) (all_filter IsFlat (is_from m) xs h)) (pairs_of-plain memories xs h)

and_plain : (t u : Term) → IsPlain t → IsPlain u → IsPlain (and_term t u)
unfolding sort_of sort_of_binary IsWithoutMemory
and_plain t u ht hu = record { truth_sort = rw (ht.truth_sort, hu.truth_sort) refl; without = ((λ e. cc), ht.without, hu.without) }

all_of-plain : (t : Term) (terms : List Term) → IsPlain t → AllPlain terms → IsPlain (all_of t terms)
all_of-plain t [] h all = h
all_of-plain t (u ∷ terms) h all = all_of-plain (and_term t u) terms (and_plain t u h all.0) all.1

true_plain : IsPlain (truth true)
unfolding sort_of sort_of_atom IsWithoutMemory
true_plain = record { truth_sort = refl; without = tt }

whole : (p t : Term) → IsPlain p → IsPlain t → IsPlain (or_term (not_term p) t)
unfolding sort_of sort_of_unary sort_of_binary IsWithoutMemory
whole p t hp ht = record { truth_sort = rw (hp.truth_sort, ht.truth_sort) refl; without = ((λ e. cc), hp.without, ht.without) }

truth_no_memory : sort.Truth ≢ sort.Memory
truth_no_memory e = cc

pub truth_readable : (t : Term) → sort_of t ≡ Some sort.Truth → LoadsFromVariables t → IsReadable t
truth_readable t h all = readable t sort.Truth h truth_no_memory all

pub consistent-plain : (t : Term) → IsReadable t → IsPlain (consistent (flat_loads t))
consistent-plain t h =
    let good = loads_good (λ v. Unit {0}) t h (λ v o. tt) in
    all_of-plain (truth true) (pairs_of (memories_of (flat_loads t)) (flat_loads t)) true_plain
    (pairs_of-plain (memories_of (flat_loads t)) (flat_loads t) (flattened-flat (λ v. Unit {0}) (loads_of t) 0 (loads_of t) good))

pub flat_plain : (t : Term) → sort_of t ≡ Some sort.Truth → LoadsFromVariables t → IsPlain (flat_of t)
flat_plain t h all =
    let reads = truth_readable t h all in
    whole (consistent (flat_loads t)) (without_loads (loads_of t) t) (consistent-plain t reads)
    (record { truth_sort = without_loads-sort (loads_of t) t sort.Truth h; without = without_loads-without (loads_of t) t reads })
