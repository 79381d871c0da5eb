-- The consistency constraint: loads of one memory at equal addresses are equal; and its value.
use Rattle.std.proofs.Common.{◌≡◌, ℕ, ◌^◌, ◌<◌, Bool, true, false, cond, List, [], ◌∷◌, ◌++◌, map, ◌⊎◌, refl, ap, sym, ◌∙◌, subst, inl, inr, eq-eqb, eqb-true}
use Rattle.std.specs.Prelude.{◌==◌, ◌||◌, not, filter}
use Rattle.std.proofs.Math.Nat.{mod-eq_of_lt}
use Rattle.term_core_spec.specs.declared.Width.TheVariants.{W8, W32}
use Rattle.term_core_spec.specs.declared.Variable.{Variable}
use Rattle.term_core_spec.specs.declared.BinaryOperator.TheVariants as binary
use Rattle.term_core_spec.specs.Term.{Term, truth, and_term}
use Rattle.term_core_spec.specs.Same.{same_variable}
use Rattle.term_core_spec.proofs.Same.{variable-same}
use Rattle.term_core_spec.specs.Value.{Value, Truth, Number, Bytes, Assignment, value, unary_value, binary_value, loaded, low_bits}
use Rattle.mem_terms_spec.specs.Flat.{FlatLoad, agree, pairs, is_among, with_memories, memories_of, is_from, pairs_of, all_of, consistent}
use Rattle.mem_terms_spec.specs.Assignments.{number_of, first_byte}
use Rattle.mem_terms_spec.proofs.Lists.{variable_itself}
use Rattle.mem_terms_spec.proofs.Forms.{AllFlat}

-- the values of a load's terms
pub record AreValuesOf (B : Assignment) (x : FlatLoad) (address byte : ℕ) : Type 0 where
  pub address_is : value B x.address ≡ Number W32 address
  pub address_below : address < 2 ^ 32
  pub byte_is : value B x.byte ≡ Number W8 byte
  pub byte_below : byte < 2 ^ 8

-- the terms of a load have an address and a byte as values
pub record HasValues (B : Assignment) (x : FlatLoad) : Type 0 where
  pub at : ℕ
  pub gives : ℕ
  pub is : AreValuesOf B x at gives

-- the byte is that of the memory under another assignment
pub record IsRead (A B : Assignment) (x : FlatLoad) : Type 0 where
  pub value_is : HasValues B x
  pub from : Number W8 value_is.gives ≡ loaded (A x.memory) (Number W32 value_is.at)

agree_value : (B : Assignment) (x y : FlatLoad) (m n p q : ℕ) → AreValuesOf B x m p → AreValuesOf B y n q → value B (agree x y) ≡ Truth (not (m == n) || (p == q))
unfolding value unary_value binary_value
agree_value B x y m n p q hx hy = rw (hx.address_is, hy.address_is, hx.byte_is, hy.byte_is) refl

-- ---- all are true

unfoldable pub AllTrue : Assignment → List Term → Type 0
AllTrue B [] = Unit {0}
AllTrue B (t ∷ terms) = (value B t ≡ Truth true) × AllTrue B terms

true_append : (B : Assignment) (xs ys : List Term) → AllTrue B xs → AllTrue B ys → AllTrue B (xs ++ ys)
unfolding AllTrue
true_append B [] ys h k = k
true_append B (x ∷ xs) ys h k = (h.0, true_append B xs ys h.1 k)

true_parts : (B : Assignment) (xs ys : List Term) → AllTrue B (xs ++ ys) → AllTrue B xs × AllTrue B ys
unfolding AllTrue
true_parts B [] ys h = (tt, h)
true_parts B (x ∷ xs) ys h = let rest = true_parts B xs ys h.1 in ((h.0, rest.0), rest.1)

and_true : (B : Assignment) (t u : Term) → value B t ≡ Truth true → value B u ≡ Truth true → value B (and_term t u) ≡ Truth true
unfolding value binary_value
and_true B t u h k = rw (h, k) refl

both_true : (x y : Value) → binary_value binary.And x y ≡ Truth true → (x ≡ Truth true) × (y ≡ Truth true)
unfolding binary_value
both_true (Truth true) (Truth true) e = (refl, refl)
both_true (Truth true) (Truth false) e = absurd (cc)
both_true (Truth false) (Truth b) e = absurd (cc)
both_true (Truth a) (Number w n) e = absurd (cc)
both_true (Truth a) (Bytes m) e = absurd (cc)
both_true (Number w n) y e = absurd (cc)
both_true (Bytes m) y e = absurd (cc)

pub all_of-true : (B : Assignment) (t : Term) (terms : List Term) → value B t ≡ Truth true → AllTrue B terms → value B (all_of t terms) ≡ Truth true
unfolding AllTrue
all_of-true B t [] h all = h
all_of-true B t (u ∷ terms) h all = all_of-true B (and_term t u) terms (and_true B t u h all.0) all.1

pub all_of-parts : (B : Assignment) (t : Term) (terms : List Term) → value B (all_of t terms) ≡ Truth true → (value B t ≡ Truth true) × AllTrue B terms
unfolding AllTrue value
all_of-parts B t [] h = (h, tt)
all_of-parts B t (u ∷ terms) h =
    let rest = all_of-parts B (and_term t u) terms h in
    let both = both_true (value B t) (value B u) rest.0 in
    (both.0, (both.1, rest.1))

-- ---- bytes that are loaded are consistent

number_is : (p q : ℕ) → Number W8 p ≡ Number W8 q → p ≡ q
number_is p q e = ap number_of e

tied_true : (m n p q : ℕ) → (m ≡ n → p ≡ q) → (not (m == n) || (p == q)) ≡ true
tied_true m n p q f = step (m == n) refl
  where
    step : (test : Bool) → (m == n) ≡ test → (not test || (p == q)) ≡ true
    step false e = refl
    step true e = rw (f (eqb-true m n e)) (eq-eqb q q refl)

read_agree : (A B : Assignment) (x y : FlatLoad) → IsRead A B x → IsRead A B y → x.memory ≡ y.memory → value B (agree x y) ≡ Truth true
read_agree A B x y hx hy e =
    let same : hx.value_is.at ≡ hy.value_is.at → hx.value_is.gives ≡ hy.value_is.gives =
    λ k. number_is hx.value_is.gives hy.value_is.gives (hx.from ∙ ap (λ v. loaded (A v) (Number W32 hx.value_is.at)) e ∙ ap (λ n. loaded (A y.memory) (Number W32 n)) k ∙ sym hy.from) in
    agree_value B x y hx.value_is.at hy.value_is.at hx.value_is.gives hy.value_is.gives hx.value_is.is hy.value_is.is
    ∙ ap Truth (tied_true hx.value_is.at hy.value_is.at hx.value_is.gives hy.value_is.gives same)

-- of one memory
pub record IsReadOf (A B : Assignment) (memory : Variable) (x : FlatLoad) : Type 0 where
  pub reads : IsRead A B x
  pub of : x.memory ≡ memory

module _ (A B : Assignment) where
  each_agree : (memory : Variable) (x : FlatLoad) (ys : List FlatLoad) → IsReadOf A B memory x → AllFlat (IsReadOf A B memory) ys → AllTrue B (map (agree x) ys)
  unfolding AllTrue
  each_agree memory x [] hx h = tt
  each_agree memory x (y ∷ ys) hx h = (read_agree A B x y hx.reads h.0.reads (hx.of ∙ sym h.0.of), each_agree memory x ys hx h.1)

  pairs_true : (memory : Variable) (xs : List FlatLoad) → AllFlat (IsReadOf A B memory) xs → AllTrue B (pairs xs)
  unfolding AllTrue
  pairs_true memory [] h = tt
  pairs_true memory (x ∷ xs) h = true_append B (map (agree x) xs) (pairs xs) (each_agree memory x xs h.0 h.1) (pairs_true memory xs h.1)

  of_memory : (memory : Variable) (xs : List FlatLoad) → AllFlat (IsRead A B) xs → AllFlat (IsReadOf A B memory) (filter (is_from memory) xs)
  of_memory memory [] h = tt
  of_memory memory (x ∷ xs) h = step (same_variable memory x.memory) refl (of_memory memory xs h.1)
    where
      step : (test : Bool) → same_variable memory x.memory ≡ test → AllFlat (IsReadOf A B memory) (filter (is_from memory) xs)
          → AllFlat (IsReadOf A B memory) (cond test (x ∷ filter (is_from memory) xs) (filter (is_from memory) xs))
      step true e rest = (record { reads = h.0; of = sym (variable-same memory x.memory e) }, rest)
      step false e rest = rest

  pairs_of-true : (memories : List Variable) (xs : List FlatLoad) → AllFlat (IsRead A B) xs → AllTrue B (pairs_of memories xs)
  unfolding AllTrue
  pairs_of-true [] xs h = tt
  pairs_of-true (m ∷ memories) xs h =
      true_append B (pairs (filter (is_from m) xs)) (pairs_of memories xs) (pairs_true m (filter (is_from m) xs) (of_memory m xs h)) (pairs_of-true memories xs h)

  pub consistent-true : (xs : List FlatLoad) → AllFlat (IsRead A B) xs → value B (consistent xs) ≡ Truth true
  unfolding value
  consistent-true xs h = all_of-true B (truth true) (pairs_of (memories_of xs) xs) refl (pairs_of-true (memories_of xs) xs h)

-- ---- consistent bytes are those of one memory

-- the load is in the list
unfoldable pub IsThere : FlatLoad → List FlatLoad → Type 0
IsThere x [] = ⊥
IsThere x (y ∷ ys) = (x ≡ y) ⊎ IsThere x ys

pub there_filter : (memory : Variable) (x : FlatLoad) (xs : List FlatLoad) → x.memory ≡ memory → IsThere x xs → IsThere x (filter (is_from memory) xs)
unfolding IsThere
there_filter memory x [] e h = h
there_filter memory x (y ∷ ys) e h = step (same_variable memory y.memory) refl (λ k. there_filter memory x ys e k) h
  where
    step : (test : Bool) → same_variable memory y.memory ≡ test → (IsThere x ys → IsThere x (filter (is_from memory) ys)) → (x ≡ y) ⊎ IsThere x ys
        → IsThere x (cond test (y ∷ filter (is_from memory) ys) (filter (is_from memory) ys))
    step true s f (inl k) = inl k
    step true s f (inr k) = inr (f k)
    step false s f (inl k) =
        let same : same_variable memory y.memory ≡ true = subst (λ m. same_variable memory m ≡ true) (sym e ∙ ap (λ z. z.memory) k) (variable_itself memory) in
        absurd (cc)
    step false s f (inr k) = f k

agree_same : (m n p q : ℕ) → (not (m == n) || (p == q)) ≡ true → m ≡ n → p ≡ q
agree_same m n p q h e = eqb-true p q (step (m == n) (eq-eqb m n e) h)
  where
    step : (test : Bool) → test ≡ true → (not test || (p == q)) ≡ true → (p == q) ≡ true
    step true s k = k
    step false s k = absurd (cc)

truth_is : (a b : Bool) → Truth a ≡ Truth b → a ≡ b
truth_is a b e = cc

module _ (B : Assignment) where
  -- agreement at equal addresses
  agreed : (x y : FlatLoad) (m n p q : ℕ) → AreValuesOf B x m p → AreValuesOf B y n q → value B (agree x y) ≡ Truth true → m ≡ n → p ≡ q
  agreed x y m n p q hx hy h e = agree_same m n p q (truth_is _ true (sym (agree_value B x y m n p q hx hy) ∙ h)) e

  found : (h x : FlatLoad) (n p : ℕ) (ys : List FlatLoad) → HasValues B h → AllTrue B (map (agree h) ys) → IsThere x ys → AreValuesOf B x n p
      → (w : HasValues B h) → w.at ≡ n → w.gives ≡ p
  unfolding AllTrue IsThere
  found h x n p [] hh all there hx w e = absurd there
  found h x n p (y ∷ ys) hh all (inl k) hx w e =
      agreed h x w.at n w.gives p w.is hx (subst (λ z. value B (agree h z) ≡ Truth true) (sym k) all.0) e
  found h x n p (y ∷ ys) hh all (inr k) hx w e = found h x n p ys hh all.1 k hx w e

  same_values : (x : FlatLoad) (m n p q : ℕ) → AreValuesOf B x m p → AreValuesOf B x n q → (m ≡ n) × (p ≡ q)
  same_values x m n p q h k = (ap number_of (sym h.address_is ∙ k.address_is), ap number_of (sym h.byte_is ∙ k.byte_is))

  -- the first byte at the address of a load is the load's
  pub first_is : (x : FlatLoad) (n p : ℕ) (ys : List FlatLoad) → AllFlat (HasValues B) ys → AllTrue B (pairs ys) → IsThere x ys → AreValuesOf B x n p → first_byte B n ys ≡ p
  unfolding AllTrue IsThere
  first_is x n p [] value_is all there hx = absurd there
  first_is x n p (y ∷ ys) value_is all there hx =
      let parts = true_parts B (map (agree y) ys) (pairs ys) all in
      let w : HasValues B y = value_is.0 in
      let address : low_bits 32 (number_of (value B y.address)) ≡ w.at = ap (λ v. low_bits 32 (number_of v)) w.is.address_is ∙ mod-eq_of_lt w.is.address_below in
      let byte : low_bits 8 (number_of (value B y.byte)) ≡ w.gives = ap (λ v. low_bits 8 (number_of v)) w.is.byte_is ∙ mod-eq_of_lt w.is.byte_below in
      step (low_bits 32 (number_of (value B y.address)) == n) refl w address byte parts.0 there (λ k. first_is x n p ys value_is.1 parts.1 k hx)
    where
      step : (test : Bool) → (low_bits 32 (number_of (value B y.address)) == n) ≡ test → (w : HasValues B y) → low_bits 32 (number_of (value B y.address)) ≡ w.at
          → low_bits 8 (number_of (value B y.byte)) ≡ w.gives → AllTrue B (map (agree y) ys) → (x ≡ y) ⊎ IsThere x ys → (IsThere x ys → first_byte B n ys ≡ p)
          → cond test (low_bits 8 (number_of (value B y.byte))) (first_byte B n ys) ≡ p
      step true e w address byte all (inl k) f =
          byte ∙ (same_values x w.at n w.gives p (subst (λ z. AreValuesOf B z w.at w.gives) (sym k) w.is) hx).1
      step true e w address byte all (inr k) f = byte ∙ found y x n p ys w all k hx w (sym address ∙ eqb-true _ n e)
      step false e w address byte all (inl k) f =
          let at : w.at ≡ n = (same_values x w.at n w.gives p (subst (λ z. AreValuesOf B z w.at w.gives) (sym k) w.is) hx).0 in
          let same : (low_bits 32 (number_of (value B y.address)) == n) ≡ true = eq-eqb _ n (address ∙ at) in
          absurd (cc)
      step false e w address byte all (inr k) f = f k

  -- the pairs of a memory among these
  pub pairs_of-parts : (memory : Variable) (memories : List Variable) (xs : List FlatLoad) → AllTrue B (pairs_of memories xs) → is_among memory memories ≡ true
      → AllTrue B (pairs (filter (is_from memory) xs))
  pairs_of-parts memory [] xs all e = absurd (cc)
  pairs_of-parts memory (m ∷ memories) xs all e =
      let parts = true_parts B (pairs (filter (is_from m) xs)) (pairs_of memories xs) all in
      step (same_variable memory m) refl parts.0 (λ k. pairs_of-parts memory memories xs parts.1 k) e
    where
      step : (test : Bool) → same_variable memory m ≡ test → AllTrue B (pairs (filter (is_from m) xs)) → (is_among memory memories ≡ true → AllTrue B (pairs (filter (is_from memory) xs)))
          → cond test true (is_among memory memories) ≡ true → AllTrue B (pairs (filter (is_from memory) xs))
      step true s here f k = subst (λ v. AllTrue B (pairs (filter (is_from v) xs))) (sym (variable-same memory m s)) here
      step false s here f k = f k

-- ---- the memories of loads

among_front : (memory : Variable) (xs ys : List Variable) → is_among memory xs ≡ true → is_among memory (xs ++ ys) ≡ true
among_front memory [] ys e = absurd (cc)
among_front memory (x ∷ xs) ys e = step (same_variable memory x) (is_among memory xs) (is_among memory (xs ++ ys)) (among_front memory xs ys) e
  where
    step : (test before after : Bool) → (before ≡ true → after ≡ true) → cond test true before ≡ true → cond test true after ≡ true
    step true before after f h = refl
    step false before after f h = f h

among_last : (memory : Variable) (xs : List Variable) → is_among memory (xs ++ memory ∷ []) ≡ true
among_last memory [] = rw (variable_itself memory) refl
among_last memory (x ∷ xs) = step (same_variable memory x) _ (among_last memory xs)
  where
    step : (test before : Bool) → before ≡ true → cond test true before ≡ true
    step true before h = refl
    step false before h = h

entered : List Variable → Variable → Bool → List Variable
entered memories memory test = cond test memories (memories ++ memory ∷ [])

entered_keeps : (memory other : Variable) (memories : List Variable) (test : Bool) → is_among memory memories ≡ true → is_among memory (entered memories other test) ≡ true
unfolding entered
entered_keeps memory other memories true h = h
entered_keeps memory other memories false h = among_front memory memories (other ∷ []) h

entered_has : (memory : Variable) (memories : List Variable) (test : Bool) → is_among memory memories ≡ test → is_among memory (entered memories memory test) ≡ true
unfolding entered
entered_has memory memories true h = h
entered_has memory memories false h = among_last memory memories

kept_among : (memory : Variable) (memories : List Variable) (xs : List FlatLoad) → is_among memory memories ≡ true → is_among memory (with_memories memories xs) ≡ true
unfolding entered
kept_among memory memories [] h = h
kept_among memory memories (x ∷ xs) h =
    kept_among memory (entered memories x.memory (is_among x.memory memories)) xs (entered_keeps memory x.memory memories (is_among x.memory memories) h)

pub there_among : (x : FlatLoad) (memories : List Variable) (xs : List FlatLoad) → IsThere x xs → is_among x.memory (with_memories memories xs) ≡ true
unfolding IsThere entered
there_among x memories [] h = absurd h
there_among x memories (y ∷ ys) (inl k) =
    kept_among x.memory (entered memories y.memory (is_among y.memory memories)) ys
    (subst (λ v. is_among v (entered memories y.memory (is_among y.memory memories)) ≡ true) (sym (ap (λ z. z.memory) k)) (entered_has y.memory memories (is_among y.memory memories) refl))
there_among x memories (y ∷ ys) (inr k) = there_among x (entered memories y.memory (is_among y.memory memories)) ys k
