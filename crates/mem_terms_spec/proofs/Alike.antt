-- A term without its loads has the term's value, where each byte is what its load gives.
use Rattle.std.proofs.Common.{◌≡◌, ◌≢◌, ℕ, zero, suc, Bool, true, false, cond, List, [], ◌∷◌, map, get_or, Option, Some, None, refl, ap, sym, ◌∙◌, subst, inl, inr}
use Rattle.std.specs.Prelude.{slice_get}
use Rattle.std.proofs.lemmas.Option.{same_Some}
use Rattle.term_core_spec.specs.declared.Sort.TheVariants as sort
use Rattle.term_core_spec.specs.declared.Family.TheVariants as family
use Rattle.term_core_spec.specs.declared.Variable.{Variable}
use Rattle.term_core_spec.specs.declared.Atom.{Atom}
use Rattle.term_core_spec.specs.declared.Atom.TheVariants as atom
use Rattle.term_core_spec.specs.declared.BinaryOperator.{BinaryOperator}
use Rattle.term_core_spec.specs.declared.Width.TheVariants.{W8}
use Rattle.term_core_spec.specs.Term.{Term, Leaf, Unary, Binary, Ternary, Quaternary, Octonary, Occurs, OccursInAtom}
use Rattle.term_core_spec.specs.Same.{same_variable}
use Rattle.term_core_spec.proofs.Same.{variable-same}
use Rattle.term_core_spec.specs.Value.{Value, Assignment, IsAssignment, IsOfSort, value, value_of_atom}
use Rattle.term_core_spec.proofs.Soundness.{value-sort}
use Rattle.term_core_spec.specs.Sort.{sort_of, sort_of_atom, sort_of_binary}
use Rattle.mem_terms_spec.specs.Flat.{VariableLoad, load_of, is_in, index_of, byte_variable, byte_or, without_loads}
use Rattle.mem_terms_spec.specs.Assignments.{IsNoMemory, term_of, value_of_load, with_bytes}
use Rattle.mem_terms_spec.proofs.Lists.{variable_itself, at_index}
use Rattle.mem_terms_spec.proofs.Loads.{IfIn, AreIn}
use Rattle.mem_terms_spec.proofs.Readable.{IsLoad, Reads, IsReadable, IsTheLoad, is_the_load}
use Rattle.mem_terms_spec.proofs.Forms.{AllLoads, IsGood}

-- what both assignments give the variables that occur in a term and are no memories
unfoldable pub Agree : Assignment → Assignment → Term → Type 0
Agree A B t = (v : Variable) → v.sort ≢ sort.Memory → Occurs v t → B v ≡ A v

-- a byte is what its load gives, where that is known of its address
unfoldable pub Gives : Assignment → Assignment → List VariableLoad → Type 0
Gives A B all =
    (l : VariableLoad) → IsLoad l → is_in l all ≡ true → value B (without_loads all l.address) ≡ value A l.address → B (byte_variable (index_of l all)) ≡ value A (term_of l)

module _ (A B : Assignment) (all : List VariableLoad) (byte : Gives A B all) where
  leaf_alike : (leaf : Atom) → IsNoMemory leaf → ((v : Variable) → v.sort ≢ sort.Memory → OccursInAtom v leaf → B v ≡ A v) → value_of_atom B leaf ≡ value_of_atom A leaf
  leaf_alike (atom.Truth known) h f = refl
  leaf_alike (atom.Constant width number) h f = refl
  leaf_alike (atom.Open v) h f = f v h refl

  load_alike : (operator : BinaryOperator) (a b : Term) (l : VariableLoad) → IsTheLoad operator a b l → IsLoad l → is_in l all ≡ true → value B (without_loads all b) ≡ value A b
      → B (byte_variable (index_of l all)) ≡ value A (Binary operator a b)
  unfolding Gives
  load_alike operator a b l is good there e =
      let whole : Binary operator a b ≡ term_of l = (let e1 = is.operator_is in let e2 = is.memory_is in let e3 = is.address_is in cc) in
      byte l good there (subst (λ d. value B (without_loads all d) ≡ value A d) is.address_is e) ∙ ap (value A) (sym whole)

  pub alike : (t : Term) → IsReadable t → AreIn t all → Agree A B t → value B (without_loads all t) ≡ value A t
  unfolding value without_loads IsReadable AreIn Occurs Agree
  alike (Leaf leaf) h i f = leaf_alike leaf h f
  alike (Unary operator a) h i f = let e1 = alike a h i f in cc
  alike (Binary operator a b) h i f =
      by_load (load_of operator a b) refl h.0 i.0 (λ r. alike a r i.1 (λ v n o. f v n (inl o))) (alike b h.1 i.2 (λ v n o. f v n (inr o)))
    where
      by_load : (o : Option VariableLoad) → load_of operator a b ≡ o → Reads operator o (IsReadable a) (IsReadable b) → IfIn o all
          → (IsReadable a → value B (without_loads all a) ≡ value A a) → value B (without_loads all b) ≡ value A b
          → value B (byte_or all o (Binary operator (without_loads all a) (without_loads all b))) ≡ value A (Binary operator a b)
      by_load None e reads there first second = let e1 = first reads.1 in let e2 = second in cc
      by_load (Some l) e reads there first second = load_alike operator a b l (is_the_load operator a b l e) reads there second
  alike (Ternary operator a b c) h i f =
      let e1 = alike a h.0 i.0 (λ v n o. f v n (inl o)) in
      let e2 = alike b h.1 i.1 (λ v n o. f v n (inr (inl o))) in
      let e3 = alike c h.2 i.2 (λ v n o. f v n (inr (inr o))) in
      cc
  alike (Quaternary operator a b c d) h i f =
      let e1 = alike a h.0 i.0 (λ v n o. f v n (inl o)) in
      let e2 = alike b h.1 i.1 (λ v n o. f v n (inr (inl o))) in
      let e3 = alike c h.2 i.2 (λ v n o. f v n (inr (inr (inl o)))) in
      let e4 = alike d h.3 i.3 (λ v n o. f v n (inr (inr (inr o)))) in
      cc
  alike (Octonary a b c d e j g k) h i f =
      let e1 = alike a h.0 i.0 (λ v n o. f v n (inl o)) in
      let e2 = alike b h.1 i.1 (λ v n o. f v n (inr (inl o))) in
      let e3 = alike c h.2 i.2 (λ v n o. f v n (inr (inr (inl o)))) in
      let e4 = alike d h.3 i.3 (λ v n o. f v n (inr (inr (inr (inl o))))) in
      let e5 = alike e h.4 i.4 (λ v n o. f v n (inr (inr (inr (inr (inl o)))))) in
      let e6 = alike j h.5 i.5 (λ v n o. f v n (inr (inr (inr (inr (inr (inl o))))))) in
      let e7 = alike g h.6 i.6 (λ v n o. f v n (inr (inr (inr (inr (inr (inr (inl o)))))))) in
      let e8 = alike k h.7 i.7 (λ v n o. f v n (inr (inr (inr (inr (inr (inr (inr o)))))))) in
      rw (e1, e2, e3, e4, e5, e6, e7, e8) refl

-- ---- with the bytes that loads give

map_at : (f : VariableLoad → Value) (xs : List VariableLoad) (k : ℕ) (l : VariableLoad) (otherwise : Value) → slice_get xs k ≡ Some l → get_or (map f xs) k otherwise ≡ f l
map_at f [] k l otherwise e = absurd (cc)
map_at f (x ∷ xs) zero l otherwise e = ap f (same_Some x l e)
map_at f (x ∷ xs) (suc k) l otherwise e = map_at f xs k l otherwise e

module _ (all : List VariableLoad) (A : Assignment) where
  -- the byte at an index
  pub byte_at : (k : ℕ) (l : VariableLoad) → slice_get all k ≡ Some l → with_bytes all A (byte_variable k) ≡ value A (term_of l)
  unfolding with_bytes
  byte_at k l e = rw (variable_itself (byte_variable k)) (map_at (value_of_load A) all k l (A (byte_variable k)) e)

  pub bytes_give : Gives A (with_bytes all A) all
  unfolding Gives
  bytes_give l good there e = byte_at (index_of l all) l (at_index l all there)

  -- another variable is kept
  pub other_kept : (v : Variable) → v.family ≢ family.LoadedByte → with_bytes all A v ≡ A v
  unfolding with_bytes
  other_kept v other = step (same_variable v (byte_variable v.index)) refl
    where
      step : (test : Bool) → same_variable v (byte_variable v.index) ≡ test → cond test (get_or (map (value_of_load A) all) v.index (A v)) (A v) ≡ A v
      step false e = refl
      step true e = absurd (other (ap (λ w. w.family) (variable-same v (byte_variable v.index) e)))

  pub bytes_agree : (t : Term) → ((v : Variable) → Occurs v t → v.family ≢ family.LoadedByte) → Agree A (with_bytes all A) t
  unfolding Agree
  bytes_agree t f v n o = other_kept v (f v o)

-- ---- and they are bytes

load_sort : (A : Assignment) → IsAssignment A → (l : VariableLoad) → IsLoad l → IsOfSort (sort.Word W8) (value A (term_of l))
unfolding sort_of sort_of_atom sort_of_binary
load_sort A h l good = value-sort A h (term_of l) (sort.Word W8) (rw (good.from, good.at) refl)

bytes_sort : (fine : Variable → Type 0) (all : List VariableLoad) (A : Assignment) → IsAssignment A → (xs : List VariableLoad) → AllLoads (IsGood fine all) xs → (k : ℕ) (otherwise : Value)
    → IsOfSort (sort.Word W8) otherwise → IsOfSort (sort.Word W8) (get_or (map (value_of_load A) xs) k otherwise)
bytes_sort fine all A h [] good k otherwise o = o
bytes_sort fine all A h (x ∷ xs) good zero otherwise o = load_sort A h x good.0.is
bytes_sort fine all A h (x ∷ xs) good (suc k) otherwise o = bytes_sort fine all A h xs good.1 k otherwise o

pub with_bytes-assigns : (fine : Variable → Type 0) (all : List VariableLoad) → AllLoads (IsGood fine all) all → (A : Assignment) → IsAssignment A → IsAssignment (with_bytes all A)
unfolding with_bytes
with_bytes-assigns fine all good A h v = step (same_variable v (byte_variable v.index)) refl
  where
    step : (test : Bool) → same_variable v (byte_variable v.index) ≡ test → IsOfSort v.sort (cond test (get_or (map (value_of_load A) all) v.index (A v)) (A v))
    step false e = h v
    step true e =
        let s : v.sort ≡ sort.Word W8 = ap (λ w. w.sort) (variable-same v (byte_variable v.index) e) in
        subst (λ s. IsOfSort s (get_or (map (value_of_load A) all) v.index (A v))) (sym s)
        (bytes_sort fine all A h all good v.index (A v) (subst (λ s. IsOfSort s (A v)) s (h v)))
