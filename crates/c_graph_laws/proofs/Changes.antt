-- What nodes bind, and that variables stay like what a C run has.
use Rattle.std.proofs.Common.{◌≡◌, ◌∙◌, ◌≢◌, ◌⊎◌, ◌<◌, ◌^◌, inl, inr, ℕ, zero, suc, Bool, true, false, if◌then◌else◌, ℤ, refl, sym, ap, subst, List, [], ◌∷◌, Option, Some, None}
use Rattle.std.specs.Prelude.{slice_get, slice_set}
use Rattle.std.proofs.lemmas.Bool.{cases_eq, false_from_ne_true}
use Rattle.memory_spec.specs.Memory.{Memory, byte_at}
use Rattle.memory_spec.specs.Zones.{Zone}
use Rattle.term_core_spec.specs.declared.Sort.TheVariants as sort
use Rattle.term_core_spec.specs.declared.Variable.{Variable}
use Rattle.term_core_spec.specs.contracts.VariableEq.TheImpl.Laws as variable_laws
use Rattle.term_core_spec.specs.Term.{Term, truth}
use Rattle.term_core_spec.specs.Sort.{sort_of, sort_of_atom}
use Rattle.std.proofs.lemmas.List.Elements.{All-cons, All-nil}
use Rattle.term_core_spec.specs.Same.{same_variable}
use Rattle.term_core_spec.proofs.Same.{variable-same}
use Rattle.term_core_spec.specs.Value.{Truth, Number, Bytes, Assignment, IsAssignment, value}
use Rattle.graph_core_spec.specs.Graph.{Binding, IsBinding, AreBindings}
use Rattle.graph_core_spec.specs.Run.{bound}
use Rattle.graph_core_spec.proofs.Sorts.{bound_sorted}
use Rattle.c_types_spec.specs.declared.Scalar.{Scalar}
use Rattle.c_types_spec.specs.Values.{of_bits}
use Rattle.c_run_spec.specs.Evaluation.{Locals}
use Rattle.c_graph_spec.specs.State.{width_of, local, is_set, memory, zone_low, zone_high}
use Rattle.c_graph_spec.specs.Layout.{binding, set_local}
use Rattle.c_graph_laws.specs.Together.{HasLocal, unset, set, Alike}

-- ---- variables

same : (v : Variable) → same_variable v v ≡ true
same v = variable_laws.lawful.laws.refl v

differ : (v x : Variable) → v ≢ x → same_variable v x ≡ false
differ v x other = false_from_ne_true (same_variable v x) (λ e. other (variable-same v x e))

pub apart_local : (m n : ℕ) (t u : Scalar) → m ≢ n → local m t ≢ local n u
apart_local m n t u other e = other (ap (λ (v : Variable). v.index) e)

pub apart_set : (m n : ℕ) → m ≢ n → is_set m ≢ is_set n
apart_set m n other e = other (ap (λ (v : Variable). v.index) e)

pub local_no_set : (m n : ℕ) (t : Scalar) → local m t ≢ is_set n
local_no_set m n t e = let f = ap (λ (v : Variable). v.family) e in cc

pub set_no_local : (m n : ℕ) (t : Scalar) → is_set m ≢ local n t
set_no_local m n t e = let f = ap (λ (v : Variable). v.family) e in cc

-- ---- what is bound

module _ (s : Assignment) where
  pub bound_here : (x : Variable) (t : Term) (rest : List Binding) (others : Assignment) → bound (binding x t ∷ rest) s others x ≡ value s t
  unfolding bound
  bound_here x t rest others = ap (λ (b : Bool). if b then value s t else bound rest s others x) (same x)

  pub bound_there : (v x : Variable) (t : Term) (rest : List Binding) (others : Assignment) → v ≢ x → bound (binding x t ∷ rest) s others v ≡ bound rest s others v
  unfolding bound
  bound_there v x t rest others other = ap (λ (b : Bool). if b then value s t else bound rest s others v) (differ v x other)

  pub bound_none : (v : Variable) (others : Assignment) → bound [] s others v ≡ others v
  unfolding bound
  bound_none v others = refl

  pub truth_is : (b : Bool) → value s (truth b) ≡ Truth b
  unfolding value
  truth_is b = refl

pub truth_sorted : (b : Bool) → sort_of (truth b) ≡ Some sort.Truth
unfolding sort_of sort_of_atom
truth_sorted b = refl

-- ---- a list with one item changed

pub set_here : {X : Type 0} (xs : List X) (i : ℕ) (x y : X) → slice_get xs i ≡ Some y → slice_get (slice_set xs i x) i ≡ Some x
set_here [] i x y e = absurd (cc)
set_here (z ∷ xs) zero x y e = refl
set_here (z ∷ xs) (suc i) x y e = set_here xs i x y e

pub set_elsewhere : {X : Type 0} (xs : List X) (i j : ℕ) (x : X) → j ≢ i → slice_get (slice_set xs i x) j ≡ slice_get xs j
set_elsewhere [] i j x other = refl
set_elsewhere (z ∷ xs) zero zero x other = absurd (other refl)
set_elsewhere (z ∷ xs) zero (suc j) x other = refl
set_elsewhere (z ∷ xs) (suc i) zero x other = refl
set_elsewhere (z ∷ xs) (suc i) (suc j) x other = set_elsewhere xs i j x (λ e. other (ap suc e))

-- ---- the state

some_same : {X : Type 0} (o : Option X) (x y : X) → o ≡ Some x → o ≡ Some y → x ≡ y
some_same o x y e d = cc

-- the variables of a local that nothing binds
pub local_kept : (s t : Assignment) (number : ℕ) (type : Scalar) (value : Option ℤ) → t (is_set number) ≡ s (is_set number) → t (local number type) ≡ s (local number type)
    → HasLocal s number type value → HasLocal t number type value
local_kept s t number type _ e d (unset is) = unset (e ∙ is)
local_kept s t number type _ e d (set value is has) = set value (e ∙ is) (record { bits = has.bits; below = has.below; word = d ∙ has.word; value_is = has.value_is })

module _ (types : List Scalar) (locals : Locals) (bytes : Memory) (zone : Zone) (s : Assignment) (alike : Alike types locals bytes zone s) where
  -- a local gets a value, of a term that may speak of other values
  pub alike_set : (values : Assignment) → IsAssignment values → (number : ℕ) (type : Scalar) (x : Term) (v : ℤ) (n : ℕ) → slice_get types number ≡ Some type → sort_of x ≡ Some (sort.Word (width_of type))
      → n < 2 ^ type.width → value values x ≡ Number (width_of type) n → v ≡ of_bits type n
      → Alike types (slice_set locals number (Some v)) bytes zone (bound (set_local number type x) values s)
  alike_set values ranged number type x v n typed sorted below is_word is_value = record {
    sorted = bound_sorted (set_local number type x) values s bindings ranged alike.sorted;
    local_is = λ other other_type other_value ot ov. at other other_type other_value ot ov (cases_eq other number);
    local_there = λ other other_type ot. there other other_type ot (cases_eq other number);
    memory_is = elsewhere memory (λ e. let f = ap (λ (y : Variable). y.family) e in cc) (λ e. let f = ap (λ (y : Variable). y.family) e in cc) ∙ alike.memory_is;
    low_is = elsewhere zone_low (λ e. let f = ap (λ (y : Variable). y.family) e in cc) (λ e. let f = ap (λ (y : Variable). y.family) e in cc) ∙ alike.low_is;
    high_is = elsewhere zone_high (λ e. let f = ap (λ (y : Variable). y.family) e in cc) (λ e. let f = ap (λ (y : Variable). y.family) e in cc) ∙ alike.high_is;
  }
    where
      bindings : AreBindings (set_local number type x)
      bindings = All-cons IsBinding (binding (local number type) x) (binding (is_set number) (truth true) ∷ []) sorted (All-cons IsBinding (binding (is_set number) (truth true)) [] (truth_sorted true) (All-nil IsBinding))

      here : HasLocal (bound (set_local number type x) values s) number type (Some v)
      here = set v
          (bound_there values (is_set number) (local number type) x (binding (is_set number) (truth true) ∷ []) s (set_no_local number number type)
          ∙ bound_here values (is_set number) (truth true) [] s ∙ truth_is values true)
          (record { bits = n; below = below; word = bound_here values (local number type) x (binding (is_set number) (truth true) ∷ []) s ∙ is_word; value_is = is_value })

      elsewhere : (y : Variable) → y ≢ local number type → y ≢ is_set number → bound (set_local number type x) values s y ≡ s y
      elsewhere y a b = bound_there values y (local number type) x (binding (is_set number) (truth true) ∷ []) s a ∙ bound_there values y (is_set number) (truth true) [] s b ∙ bound_none values y s

      there : (other : ℕ) (other_type : Scalar) → slice_get types other ≡ Some other_type → (other ≡ number) ⊎ (other ≢ number) → (w : Option ℤ) × (slice_get (slice_set locals number (Some v)) other ≡ Some w)
      there other other_type ot (inl e) =
          let old = alike.local_there number type typed in
          (Some v, subst (λ (k : ℕ). slice_get (slice_set locals number (Some v)) k ≡ Some (Some v)) (sym e) (set_here locals number (Some v) old.0 old.1))
      there other other_type ot (inr e) = let old = alike.local_there other other_type ot in (old.0, set_elsewhere locals number other (Some v) e ∙ old.1)

      at : (other : ℕ) (other_type : Scalar) (w : Option ℤ) → slice_get types other ≡ Some other_type → slice_get (slice_set locals number (Some v)) other ≡ Some w
          → (other ≡ number) ⊎ (other ≢ number) → HasLocal (bound (set_local number type x) values s) other other_type w
      at other other_type w ot ow (inl e) =
          let same_type : type ≡ other_type = some_same (slice_get types number) type other_type typed (subst (λ (k : ℕ). slice_get types k ≡ Some other_type) e ot) in
          let old = alike.local_there number type typed in
          let same_value : Some v ≡ w = some_same (slice_get (slice_set locals number (Some v)) number) (Some v) w (set_here locals number (Some v) old.0 old.1)
          (subst (λ (k : ℕ). slice_get (slice_set locals number (Some v)) k ≡ Some w) e ow) in
          subst (λ (k : ℕ). HasLocal (bound (set_local number type x) values s) k other_type w) (sym e)
          (subst (λ (t : Scalar). HasLocal (bound (set_local number type x) values s) number t w) same_type
          (subst (λ (u : Option ℤ). HasLocal (bound (set_local number type x) values s) number type u) same_value here))
      at other other_type w ot ow (inr e) =
          local_kept s _ other other_type w
          (elsewhere (is_set other) (set_no_local other number type) (apart_set other number e))
          (elsewhere (local other other_type) (apart_local other number other_type type e) (local_no_set other number other_type))
          (alike.local_is other other_type w ot (sym (set_elsewhere locals number other (Some v) e) ∙ ow))

  -- a local loses its value
  pub alike_unset : (number : ℕ) (type : Scalar) → slice_get types number ≡ Some type
      → Alike types (slice_set locals number None) bytes zone (bound (binding (is_set number) (truth false) ∷ []) s s)
  alike_unset number type typed = record {
    sorted = bound_sorted (binding (is_set number) (truth false) ∷ []) s s
        (All-cons IsBinding (binding (is_set number) (truth false)) [] (truth_sorted false) (All-nil IsBinding)) alike.sorted alike.sorted;
    local_is = λ other other_type other_value ot ov. at other other_type other_value ot ov (cases_eq other number);
    local_there = λ other other_type ot. there other other_type ot (cases_eq other number);
    memory_is = elsewhere memory (λ e. let f = ap (λ (y : Variable). y.family) e in cc) ∙ alike.memory_is;
    low_is = elsewhere zone_low (λ e. let f = ap (λ (y : Variable). y.family) e in cc) ∙ alike.low_is;
    high_is = elsewhere zone_high (λ e. let f = ap (λ (y : Variable). y.family) e in cc) ∙ alike.high_is;
  }
    where
      elsewhere : (y : Variable) → y ≢ is_set number → bound (binding (is_set number) (truth false) ∷ []) s s y ≡ s y
      elsewhere y b = bound_there s y (is_set number) (truth false) [] s b ∙ bound_none s y s

      here : HasLocal (bound (binding (is_set number) (truth false) ∷ []) s s) number type None
      here = unset (bound_here s (is_set number) (truth false) [] s ∙ truth_is s false)

      there : (other : ℕ) (other_type : Scalar) → slice_get types other ≡ Some other_type → (other ≡ number) ⊎ (other ≢ number) → (w : Option ℤ) × (slice_get (slice_set locals number None) other ≡ Some w)
      there other other_type ot (inl e) =
          let old = alike.local_there number type typed in
          (None, subst (λ (k : ℕ). slice_get (slice_set locals number None) k ≡ Some None) (sym e) (set_here locals number None old.0 old.1))
      there other other_type ot (inr e) = let old = alike.local_there other other_type ot in (old.0, set_elsewhere locals number other None e ∙ old.1)

      at : (other : ℕ) (other_type : Scalar) (w : Option ℤ) → slice_get types other ≡ Some other_type → slice_get (slice_set locals number None) other ≡ Some w
          → (other ≡ number) ⊎ (other ≢ number) → HasLocal (bound (binding (is_set number) (truth false) ∷ []) s s) other other_type w
      at other other_type w ot ow (inl e) =
          let same_type : type ≡ other_type = some_same (slice_get types number) type other_type typed (subst (λ (k : ℕ). slice_get types k ≡ Some other_type) e ot) in
          let old = alike.local_there number type typed in
          let same_value : None ≡ w = some_same (slice_get (slice_set locals number None) number) None w (set_here locals number None old.0 old.1)
          (subst (λ (k : ℕ). slice_get (slice_set locals number None) k ≡ Some w) e ow) in
          subst (λ (k : ℕ). HasLocal (bound (binding (is_set number) (truth false) ∷ []) s s) k other_type w) (sym e)
          (subst (λ (t : Scalar). HasLocal (bound (binding (is_set number) (truth false) ∷ []) s s) number t w) same_type
          (subst (λ (u : Option ℤ). HasLocal (bound (binding (is_set number) (truth false) ∷ []) s s) number type u) same_value here))
      at other other_type w ot ow (inr e) =
          local_kept s _ other other_type w
          (elsewhere (is_set other) (apart_set other number e))
          (elsewhere (local other other_type) (local_no_set other number other_type))
          (alike.local_is other other_type w ot (sym (set_elsewhere locals number other None e) ∙ ow))

  -- the memory changes
  pub alike_stored : (x : Term) (new : Memory) → sort_of x ≡ Some sort.Memory → value s x ≡ Bytes (byte_at new)
      → Alike types locals new zone (bound (binding memory x ∷ []) s s)
  alike_stored x new sorted is = record {
    sorted = bound_sorted (binding memory x ∷ []) s s (All-cons IsBinding (binding memory x) [] sorted (All-nil IsBinding)) alike.sorted alike.sorted;
    local_is = λ number type w ot ow. local_kept s _ number type w (elsewhere (is_set number) (λ e. let f = ap (λ (y : Variable). y.family) e in cc))
        (elsewhere (local number type) (λ e. let f = ap (λ (y : Variable). y.family) e in cc)) (alike.local_is number type w ot ow);
    local_there = alike.local_there;
    memory_is = bound_here s memory x [] s ∙ is;
    low_is = elsewhere zone_low (λ e. let f = ap (λ (y : Variable). y.family) e in cc) ∙ alike.low_is;
    high_is = elsewhere zone_high (λ e. let f = ap (λ (y : Variable). y.family) e in cc) ∙ alike.high_is;
  }
    where
      elsewhere : (y : Variable) → y ≢ memory → bound (binding memory x ∷ []) s s y ≡ s y
      elsewhere y b = bound_there s y memory x [] s b ∙ bound_none s y s
