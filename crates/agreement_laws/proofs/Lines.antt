-- What lines over words say, and bytes past all addresses.
use Rattle.std.proofs.Common.{◌≡◌, ◌∙◌, ◌⊎◌, ℕ, ◌%◌, ◌^◌, ◌<◌, ◌≤◌, ◌==◌, ◌&&◌, Bool, true, false, not, if◌then◌else◌, [], Option, Some, None, nat_lt, nat_le, refl, sym, ap}
use Rattle.std.specs.Prelude.{IfSome, bit_and}
use Rattle.std.specs.List.{All}
use Rattle.std.proofs.lemmas.Bool.{or_cases, and_from, lt-ltb, le-ltb, le-leb, ltb-false, eqb-true}
use Rattle.std.proofs.lemmas.List.Elements.{All-head}
use Rattle.term_core_spec.specs.declared.Width.TheVariants.{W32}
use Rattle.term_core_spec.specs.declared.WordOperator.TheVariants as operator
use Rattle.term_core_spec.specs.Term.{Term, equal, less, not_term, or_term, bit_and as and_words}
use Rattle.term_core_spec.specs.Value.{Value, Truth, Number, Bytes, Assignment, value, operation}
use Rattle.path_cond_spec.specs.Passages.{holds}
use Rattle.graph_core_spec.specs.Run.{is_truth}
use Rattle.graph_core_spec.specs.Fixed.{has_byte}
use Rattle.decompile_spec.specs.State.{entry_register}
use Rattle.decompile_laws.proofs.Values.{equal_evaluates, words_evaluates, less_evaluates, not_evaluates, or_evaluates}
use Rattle.sim_rules_spec.specs.Points.{bounded}
use Rattle.sim_rules_spec.specs.Calling.{word, at_entry, global_pointer_lines}
use Rattle.agreement_laws.proofs.ReadBack.{open_value}

-- ---- tests of addresses

pub not_less : (a b : ℕ) → not (nat_lt a b) ≡ true → b ≤ a
not_less a b h = by (nat_lt a b) refl h
  where
    by : (t : Bool) → nat_lt a b ≡ t → not t ≡ true → b ≤ a
    by true e h = absurd (let bad : false ≡ true = h in cc)
    by false e h = ltb-false a b e

pub within : (low high q : ℕ) → low ≤ q → q < high → (nat_le low q && nat_lt q high) ≡ true
within low high q from below = and_from (nat_le low q) (nat_lt q high) (le-leb low q from) (lt-ltb q high below)

-- ---- words that lines speak of

module _ (s : Assignment) where
  pub word_value : (n : ℕ) → value s (word n) ≡ Number W32 n
  unfolding value
  word_value n = refl

  -- the low bits of a word are 0
  pub no_rest : (x : Term) (mask k n : ℕ) → ((m : ℕ) → bit_and m mask ≡ m % k) → value s x ≡ Number W32 n
      → holds s (equal (and_words x (word mask)) (word 0)) ≡ true → n % k ≡ 0
  unfolding operation
  no_rest x mask k n low e h =
      sym (low n) ∙ eqb-true (bit_and n mask) 0
      (sym (ap is_truth (equal_evaluates s (and_words x (word mask)) (word 0) (bit_and n mask) 0
      (words_evaluates s operator.And x (word mask) n mask e (word_value mask)) (word_value 0))) ∙ h)

  -- two words are equal
  pub equal_back : (x y : Term) (m n : ℕ) → value s x ≡ Number W32 m → value s y ≡ Number W32 n → holds s (equal x y) ≡ true → m ≡ n
  equal_back x y m n ex ey h = eqb-true m n (sym (ap is_truth (equal_evaluates s x y m n ex ey)) ∙ h)

  -- one of two lines holds
  pub either_line : (x y : Term) (p q : Bool) → value s x ≡ Truth p → value s y ≡ Truth q → holds s (or_term x y) ≡ true → (p ≡ true) ⊎ (q ≡ true)
  either_line x y p q ex ey h = or_cases p q (sym (ap is_truth (or_evaluates s x y p q ex ey)) ∙ h)

  -- a word is not below another
  pub not_below : (x y : Term) (m n : ℕ) → value s x ≡ Number W32 m → value s y ≡ Number W32 n → holds s (not_term (less x y)) ≡ true → n ≤ m
  not_below x y m n ex ey h = not_less m n (sym (ap is_truth (not_evaluates s (less x y) (nat_lt m n) (less_evaluates s x y m n ex ey))) ∙ h)

  pub gp_is : (o : Option ℕ) (n : ℕ) → s (entry_register 3) ≡ Number W32 n → All (λ (line : Term). holds s line ≡ true) (global_pointer_lines o) → IfSome o (λ v. n ≡ v)
  gp_is None n e all = tt
  gp_is (Some v) n e all =
      eqb-true n v (sym (ap is_truth (equal_evaluates s (at_entry 3) (word v) n v (open_value s (entry_register 3) ∙ e) (word_value v)))
      ∙ All-head (λ (line : Term). holds s line ≡ true) (equal (at_entry 3) (word v)) [] all)

-- ---- bytes past all addresses

pub zero_past : (fixed : ℕ → Option ℕ) (bytes : ℕ → ℕ) (q : ℕ) → 2 ^ 32 ≤ q → has_byte (Bytes bytes) q (bounded fixed q) ≡ true → bytes q ≡ 0
zero_past fixed bytes q past h =
    eqb-true (bytes q) 0 (sym (ap (λ (b : Bool). has_byte (Bytes bytes) q (if b then fixed q else Some 0)) (le-ltb q (2 ^ 32) past)) ∙ h)

pub same_fixed : (f g : ℕ → ℕ) (q : ℕ) (o : Option ℕ) → f q ≡ g q → has_byte (Bytes f) q o ≡ true → has_byte (Bytes g) q o ≡ true
same_fixed f g q None e h = refl
same_fixed f g q (Some byte) e h = ap (λ (n : ℕ). n == byte) (sym e) ∙ h

pub same_bytes : (f g : ℕ → ℕ) → Bytes f ≡ Bytes g → (q : ℕ) → f q ≡ g q
same_bytes f g h q = ap (λ (u : Value). byte_of u) h
  where
    byte_of : Value → ℕ
    byte_of (Bytes bytes) = bytes q
    byte_of u = 0
