-- A normal form has each property that a term has together with its arguments, and so no variable that its term lacks.
use Rattle.std.specs.Prelude.{◌&&◌, ◌==◌, not}
use Rattle.std.proofs.Common.{◌≡◌, ℕ, zero, suc, ◌+◌, Bool, true, false, cond, List, [], ◌∷◌, slice_get, Option, Some, None, unwrap_or, option_and_then}
use Rattle.term_core_spec.specs.declared.Width.{Width}
use Rattle.term_core_spec.specs.declared.Width.TheVariants.{W16, W32, W64}
use Rattle.term_core_spec.specs.declared.Variable.{Variable}
use Rattle.term_core_spec.specs.declared.Atom.TheVariants as atom
use Rattle.term_core_spec.specs.declared.UnaryOperator.{UnaryOperator}
use Rattle.term_core_spec.specs.declared.UnaryOperator.TheVariants as unary
use Rattle.term_core_spec.specs.declared.WordOperator.{WordOperator}
use Rattle.term_core_spec.specs.declared.WordOperator.TheVariants as word
use Rattle.term_core_spec.specs.declared.BinaryOperator.{BinaryOperator}
use Rattle.term_core_spec.specs.declared.BinaryOperator.TheVariants as binary
use Rattle.term_core_spec.specs.declared.TernaryOperator.{TernaryOperator}
use Rattle.term_core_spec.specs.declared.TernaryOperator.TheVariants as ternary
use Rattle.term_core_spec.specs.declared.QuaternaryOperator.{QuaternaryOperator}
use Rattle.term_core_spec.specs.declared.QuaternaryOperator.TheVariants as quaternary
use Rattle.term_core_spec.specs.Term.{Term, Leaf, Unary, Binary, Ternary, Quaternary, Octonary, truth, constant, not_term, complement, load, low, byte, Occurs}
use Rattle.term_core_spec.specs.Value.{Value, Truth, Number, Bytes, low_bits}
use Rattle.term_core_spec.proofs.Variables.{Each, each-from_occurs, occurs-each}
use Rattle.memory_spec.specs.Runs.{Run, fixed_byte}
use Rattle.term_core_spec.specs.Sort.{bits, same_width}
use Rattle.term_core_spec.specs.Same.{same_term}
use Rattle.term_norm_spec.specs.Patterns.{is_constant, are_constants, is_true, is_false, is_zero, is_one, is_full, number_of, width_of, are_negations, are_complements, are_bytes_of, offset, is_source_memory, constant_of, under_not, under_complement, under_extension, base, part, under_first_byte, whole}
use Rattle.term_norm_spec.specs.Normal.{normal_not, normal_complement, normal_and, normal_or, normal_bit_and, normal_bit_or, normal_bit_xor, with_constant, add_constant, normal_add, normal_subtract, multiply_constant, normal_multiply, normal_equal, normal_less, arm_or, normal_choose, normal_shift, normal_extend, extended, normal_low, normal_byte, normal_join, byte_or, load_of_variable, normal_load, normal_unary, normal_word, normal_binary, normal_ternary, normal_quaternary, normal_octonary, normal}

-- a property of terms that a constant has, and an operator's term exactly where all its arguments have it
pub record IsHereditary (Q : Term → Type 0) : Type 0 where
  pub truths : (b : Bool) → Q (truth b)
  pub words : (w : Width) (n : ℕ) → Q (constant w n)
  pub one : (o : UnaryOperator) (a : Term) → Q a → Q (Unary o a)
  pub two : (o : BinaryOperator) (a b : Term) → Q a → Q b → Q (Binary o a b)
  pub three : (o : TernaryOperator) (a b c : Term) → Q a → Q b → Q c → Q (Ternary o a b c)
  pub four : (o : QuaternaryOperator) (a b c d : Term) → Q a → Q b → Q c → Q d → Q (Quaternary o a b c d)
  pub eight : (a b c d e f g i : Term) → Q a → Q b → Q c → Q d → Q e → Q f → Q g → Q i → Q (Octonary a b c d e f g i)
  pub of_one : (o : UnaryOperator) (a : Term) → Q (Unary o a) → Q a
  pub of_two : (o : BinaryOperator) (a b : Term) → Q (Binary o a b) → Q a × Q b
  pub of_three : (o : TernaryOperator) (a b c : Term) → Q (Ternary o a b c) → Q a × Q b × Q c
  pub of_four : (o : QuaternaryOperator) (a b c d : Term) → Q (Quaternary o a b c d) → Q a × Q b × Q c × Q d
  pub of_eight : (a b c d e f g i : Term) → Q (Octonary a b c d e f g i) → Q a × Q b × Q c × Q d × Q e × Q f × Q g × Q i

module _ (Q : Term → Type 0) (h : IsHereditary Q) where
  -- ---- choices, constants and optional terms

  if_has : (test : Bool) (u v : Term) → Q u → Q v → Q (cond test u v)
  if_has true u v hu hv = hu
  if_has false u v hu hv = hv

  constant_has : (v : Value) → Q (constant_of v)
  unfolding constant_of
  constant_has (Truth value) = h.truths value
  constant_has (Number width number) = h.words width number
  constant_has (Bytes memory) = h.truths false

  unfoldable Given : Option Term → Type 0
  Given (Some x) = Q x
  Given None = Unit {0}

  given_none : Given None
  unfolding Given
  given_none = tt

  given_some : (x : Term) → Q x → Given (Some x)
  unfolding Given
  given_some x hx = hx

  given_or : (o : Option Term) (otherwise : Term) → Given o → Q otherwise → Q (unwrap_or o otherwise)
  unfolding Given
  given_or (Some x) otherwise g ho = g
  given_or None otherwise g ho = ho

  given_if : (test : Bool) (o : Option Term) → Given o → Given (cond test o None)
  unfolding Given
  given_if true o g = g
  given_if false o g = tt

  given_then : (o : Option Term) (f : Term → Option Term) → Given o → ((x : Term) → Q x → Given (f x)) → Given (option_and_then f o)
  unfolding Given
  given_then (Some x) f g k = k x g
  given_then None f g k = tt

  unfoldable All : List Term → Type 0
  All [] = Unit {0}
  All (t ∷ rest) = Q t × All rest

  given_at : (ts : List Term) (k : ℕ) → All ts → Given (slice_get ts k)
  unfolding Given All
  given_at [] k a = tt
  given_at (t ∷ rest) zero a = a.0
  given_at (t ∷ rest) (suc k) a = given_at rest k a.1

  -- ---- what the rules look for

  under_not_has : (x : Term) → Q x → Given (under_not x)
  unfolding under_not
  under_not_has (Unary unary.Not x) hx = given_some x (h.of_one unary.Not x hx)
  under_not_has t hx = given_none

  under_complement_has : (x : Term) → Q x → Given (under_complement x)
  unfolding under_complement
  under_complement_has (Unary unary.Complement x) hx = given_some x (h.of_one unary.Complement x hx)
  under_complement_has t hx = given_none

  under_extension_has : (x : Term) → Q x → Given (under_extension x)
  unfolding under_extension
  under_extension_has (Unary (unary.ZeroExtend w) x) hx = given_some x (h.of_one (unary.ZeroExtend w) x hx)
  under_extension_has (Unary (unary.SignExtend w) x) hx = given_some x (h.of_one (unary.SignExtend w) x hx)
  under_extension_has t hx = given_none

  base_has : (x : Term) → Q x → Q (base x)
  unfolding base
  base_has (Binary (binary.Word word.Add) x (Leaf (atom.Constant width number))) hx = (h.of_two (binary.Word word.Add) x (constant width number) hx).0
  base_has t hx = hx

  part_has : (k : ℕ) (x : Term) → Q x → Given (part k x)
  unfolding part All
  part_has k (Binary binary.Join a b) hx = let p = h.of_two binary.Join a b hx in given_at (a ∷ b ∷ []) k (p.0, (p.1, tt))
  part_has k (Quaternary quaternary.Join a b c d) hx =
      let p = h.of_four quaternary.Join a b c d hx in
      given_at (a ∷ b ∷ c ∷ d ∷ []) k (p.0, (p.1, (p.2, (p.3, tt))))
  part_has k (Octonary a b c d e f g i) hx =
      let p = h.of_eight a b c d e f g i hx in
      given_at (a ∷ b ∷ c ∷ d ∷ e ∷ f ∷ g ∷ i ∷ []) k (p.0, (p.1, (p.2, (p.3, (p.4, (p.5, (p.6, (p.7, tt))))))))
  part_has k t hx = given_none

  first_byte_has : (x : Term) → Q x → Given (under_first_byte x)
  unfolding under_first_byte
  first_byte_has (Unary (unary.Byte place) x) hx = given_if (place == 0) (Some x) (given_some x (h.of_one (unary.Byte place) x hx))
  first_byte_has t hx = given_none

  whole_has : (width : Width) (ts : List Term) → All ts → Given (whole width ts)
  unfolding All
  whole_has width [] a = given_none
  whole_has width (t ∷ rest) a =
      given_then (under_first_byte t) (λ x. cond (same_width (width_of x) width) (cond (are_bytes_of x 1 rest) (Some x) None) None) (first_byte_has t a.0)
      (λ x hx. given_if (same_width (width_of x) width) (cond (are_bytes_of x 1 rest) (Some x) None) (given_if (are_bytes_of x 1 rest) (Some x) (given_some x hx)))

  -- ---- the rules

  not_has : (x : Term) → Q x → Q (normal_not x)
  unfolding normal_not
  not_has x hx = if_has (is_constant x) _ _ (constant_has _) (given_or (under_not x) (not_term x) (under_not_has x hx) (h.one unary.Not x hx))

  complement_has : (x : Term) → Q x → Q (normal_complement x)
  unfolding normal_complement
  complement_has x hx =
      if_has (is_constant x) _ _ (constant_has _) (given_or (under_complement x) (complement x) (under_complement_has x hx) (h.one unary.Complement x hx))

  and_has : (x y : Term) → Q x → Q y → Q (normal_and x y)
  unfolding normal_and
  and_has x y hx hy =
      if_has (is_constant x && is_constant y) _ _ (constant_has _)
      (if_has (is_false x) _ _ hx (if_has (is_false y) _ _ hy (if_has (is_true x) _ _ hy (if_has (is_true y) _ _ hx
      (if_has (same_term x y) _ _ hx (if_has (are_negations x y) _ _ (h.truths false) (h.two binary.And x y hx hy)))))))

  or_has : (x y : Term) → Q x → Q y → Q (normal_or x y)
  unfolding normal_or
  or_has x y hx hy =
      if_has (is_constant x && is_constant y) _ _ (constant_has _)
      (if_has (is_true x) _ _ hx (if_has (is_true y) _ _ hy (if_has (is_false x) _ _ hy (if_has (is_false y) _ _ hx
      (if_has (same_term x y) _ _ hx (if_has (are_negations x y) _ _ (h.truths true) (h.two binary.Or x y hx hy)))))))

  bit_and_has : (x y : Term) → Q x → Q y → Q (normal_bit_and x y)
  unfolding normal_bit_and
  bit_and_has x y hx hy =
      if_has (is_constant x && is_constant y) _ _ (constant_has _)
      (if_has (is_zero x) _ _ hx (if_has (is_zero y) _ _ hy (if_has (is_full x) _ _ hy (if_has (is_full y) _ _ hx
      (if_has (same_term x y) _ _ hx (if_has (are_complements x y) _ _ (h.words _ _) (h.two (binary.Word word.And) x y hx hy)))))))

  bit_or_has : (x y : Term) → Q x → Q y → Q (normal_bit_or x y)
  unfolding normal_bit_or
  bit_or_has x y hx hy =
      if_has (is_constant x && is_constant y) _ _ (constant_has _)
      (if_has (is_full x) _ _ hx (if_has (is_full y) _ _ hy (if_has (is_zero x) _ _ hy (if_has (is_zero y) _ _ hx
      (if_has (same_term x y) _ _ hx (if_has (are_complements x y) _ _ (h.words _ _) (h.two (binary.Word word.Or) x y hx hy)))))))

  bit_xor_has : (x y : Term) → Q x → Q y → Q (normal_bit_xor x y)
  unfolding normal_bit_xor
  bit_xor_has x y hx hy =
      if_has (is_constant x && is_constant y) _ _ (constant_has _)
      (if_has (same_term x y) _ _ (h.words _ _) (if_has (is_zero x) _ _ hy (if_has (is_zero y) _ _ hx (h.two (binary.Word word.Xor) x y hx hy))))

  add_constant_has : (width : Width) (x : Term) (d : ℕ) → Q x → Q (add_constant width x d)
  unfolding add_constant with_constant
  add_constant_has width x d hx = if_has (low_bits (bits width) (offset x + d) == 0) _ _ (base_has x hx) (h.two (binary.Word word.Add) (base x) _ (base_has x hx) (h.words _ _))

  add_has : (x y : Term) → Q x → Q y → Q (normal_add x y)
  unfolding normal_add
  add_has x y hx hy =
      if_has (is_constant x && is_constant y) _ _ (constant_has _)
      (if_has (is_constant x) _ _ (add_constant_has _ y _ hy) (if_has (is_constant y) _ _ (add_constant_has _ x _ hx) (h.two (binary.Word word.Add) x y hx hy)))

  subtract_has : (x y : Term) → Q x → Q y → Q (normal_subtract x y)
  unfolding normal_subtract
  subtract_has x y hx hy =
      if_has (is_constant x && is_constant y) _ _ (constant_has _)
      (if_has (same_term x y) _ _ (h.words _ _) (if_has (is_constant y) _ _ (add_constant_has _ x _ hx) (h.two (binary.Word word.Subtract) x y hx hy)))

  multiply_constant_has : (x c : Term) → Q x → Q c → Q (multiply_constant x c)
  unfolding multiply_constant
  multiply_constant_has x c hx hc = if_has (is_zero c) _ _ hc (if_has (is_one c) _ _ hx (h.two (binary.Word word.Multiply) x c hx hc))

  multiply_has : (x y : Term) → Q x → Q y → Q (normal_multiply x y)
  unfolding normal_multiply
  multiply_has x y hx hy =
      if_has (is_constant x && is_constant y) _ _ (constant_has _)
      (if_has (is_constant x) _ _ (multiply_constant_has y x hy hx)
      (if_has (is_constant y) _ _ (multiply_constant_has x y hx hy) (h.two (binary.Word word.Multiply) x y hx hy)))

  equal_has : (x y : Term) → Q x → Q y → Q (normal_equal x y)
  unfolding normal_equal
  equal_has x y hx hy =
      if_has (is_constant x && is_constant y) _ _ (constant_has _)
      (if_has (same_term x y) _ _ (h.truths true)
      (if_has (is_true x) _ _ hy (if_has (is_true y) _ _ hx (if_has (is_false x) _ _ (not_has y hy) (if_has (is_false y) _ _ (not_has x hx)
      (if_has (same_term (base x) (base y) && not (offset x == offset y)) _ _ (h.truths false) (h.two binary.Equal x y hx hy)))))))

  less_has : (x y : Term) → Q x → Q y → Q (normal_less x y)
  unfolding normal_less
  less_has x y hx hy =
      if_has (is_constant x && is_constant y) _ _ (constant_has _)
      (if_has (same_term x y) _ _ (h.truths false) (if_has (is_zero y) _ _ (h.truths false) (h.two binary.Less x y hx hy)))

  arm_has : (test x y otherwise : Term) → Q test → Q x → Q y → Q otherwise → Q (arm_or test x y otherwise)
  arm_has test x y otherwise ht hx hy ho =
      if_has (is_true test) _ _ hx (if_has (is_false test) _ _ hy (if_has (same_term x y) _ _ hx (if_has (is_true x && is_false y) _ _ ht ho)))

  choose_has : (test x y : Term) → Q test → Q x → Q y → Q (normal_choose test x y)
  unfolding normal_choose
  choose_has (Unary unary.Not c) x y ht hx hy =
      arm_has (not_term c) x y (normal_choose c y x) ht hx hy (choose_has c y x (h.of_one unary.Not c ht) hy hx)
  choose_has test x y ht hx hy = arm_has test x y (Ternary ternary.Choose test x y) ht hx hy (h.three ternary.Choose test x y ht hx hy)

  shift_has : (operator : WordOperator) (x y : Term) → Q x → Q y → Q (normal_shift operator x y)
  unfolding normal_shift
  shift_has operator x y hx hy =
      if_has (is_constant x && is_constant y) _ _ (constant_has _) (if_has (is_zero y) _ _ hx (h.two (binary.Word operator) x y hx hy))

  extend_has : (operator : UnaryOperator) (width : Width) (x : Term) → Q x → Q (normal_extend operator width x)
  unfolding normal_extend
  extend_has operator width x hx =
      if_has (is_constant x) _ _ (constant_has _) (if_has (same_width (width_of x) width) _ _ hx (h.one operator x hx))

  extended_has : (width : Width) (o : Option Term) → Given o → Given (extended width o)
  unfolding Given
  extended_has width (Some x) g = given_if (same_width (width_of x) width) (Some x) g
  extended_has width None g = tt

  low_has : (width : Width) (x : Term) → Q x → Q (normal_low width x)
  unfolding normal_low
  low_has width x hx =
      if_has (is_constant x) _ _ (constant_has _)
      (if_has (same_width (width_of x) width) _ _ hx
      (given_or (extended width (under_extension x)) (low width x) (extended_has width (under_extension x) (under_extension_has x hx)) (h.one (unary.Low width) x hx)))

  byte_has : (place : ℕ) (x : Term) → Q x → Q (normal_byte place x)
  unfolding normal_byte
  byte_has place x hx =
      if_has (is_constant x) _ _ (constant_has _) (given_or (part place x) (byte place x) (part_has place x hx) (h.one (unary.Byte place) x hx))

  join_has : (width : Width) (ts : List Term) (otherwise : Term) → All ts → Q otherwise → Q (normal_join width ts otherwise)
  unfolding normal_join
  join_has width ts otherwise a ho = if_has (are_constants ts) _ _ (constant_has _) (given_or (whole width ts) otherwise (whole_has width ts a) ho)

  -- ---- loads

  byte_or_has : (o : Option ℕ) (otherwise : Term) → Q otherwise → Q (byte_or o otherwise)
  byte_or_has (Some number) otherwise ho = h.words _ _
  byte_or_has None otherwise ho = ho

  module _ (runs : List Run) where
    variable_has : (m d : Term) → Q m → Q d → Q (load_of_variable runs m d)
    unfolding load_of_variable
    variable_has m d hm hd =
        let l : Q (load m d) = h.two binary.Load m d hm hd in
        if_has (is_source_memory m && is_constant d) _ _ (byte_or_has (fixed_byte runs (number_of d)) (load m d) l) l

    load_has : (m d : Term) → Q m → Q d → Q (normal_load runs m d)
    unfolding normal_load
    load_has (Ternary ternary.Store m a b) d hm hd =
        let p = h.of_three ternary.Store m a b hm in
        choose_has _ _ _ (equal_has d a hd p.1) p.2 (load_has m d p.0 hd)
    load_has (Quaternary quaternary.Over m z from to) d hm hd =
        let p = h.of_four quaternary.Over m z from to hm in
        choose_has _ _ _ (and_has _ _ (not_has _ (less_has d from hd p.2)) (less_has d to hd p.3)) (load_has z d p.1 hd) (load_has m d p.0 hd)
    load_has (Ternary ternary.Choose c m n) d hm hd =
        let p = h.of_three ternary.Choose c m n hm in
        choose_has c _ _ p.0 (load_has m d p.1 hd) (load_has n d p.2 hd)
    load_has m d hm hd = variable_has m d hm hd

    -- ---- the normal form

    unary_has : (operator : UnaryOperator) (x : Term) → Q x → Q (normal_unary operator x)
    unfolding normal_unary
    unary_has unary.Not x hx = not_has x hx
    unary_has unary.Complement x hx = complement_has x hx
    unary_has (unary.ZeroExtend width) x hx = extend_has (unary.ZeroExtend width) width x hx
    unary_has (unary.SignExtend width) x hx = extend_has (unary.SignExtend width) width x hx
    unary_has (unary.Low width) x hx = low_has width x hx
    unary_has (unary.Byte place) x hx = byte_has place x hx

    word_has : (operator : WordOperator) (x y : Term) → Q x → Q y → Q (normal_word operator x y)
    unfolding normal_word
    word_has word.Add x y hx hy = add_has x y hx hy
    word_has word.Subtract x y hx hy = subtract_has x y hx hy
    word_has word.Multiply x y hx hy = multiply_has x y hx hy
    word_has word.And x y hx hy = bit_and_has x y hx hy
    word_has word.Or x y hx hy = bit_or_has x y hx hy
    word_has word.Xor x y hx hy = bit_xor_has x y hx hy
    word_has word.ShiftLeft x y hx hy = shift_has word.ShiftLeft x y hx hy
    word_has word.ShiftRight x y hx hy = shift_has word.ShiftRight x y hx hy
    word_has word.ShiftRightSigned x y hx hy = shift_has word.ShiftRightSigned x y hx hy
    word_has word.Divide x y hx hy = if_has (is_constant x && is_constant y) _ _ (constant_has _) (h.two (binary.Word word.Divide) x y hx hy)
    word_has word.Remainder x y hx hy = if_has (is_constant x && is_constant y) _ _ (constant_has _) (h.two (binary.Word word.Remainder) x y hx hy)

    binary_has : (operator : BinaryOperator) (x y : Term) → Q x → Q y → Q (normal_binary runs operator x y)
    unfolding normal_binary All
    binary_has binary.And x y hx hy = and_has x y hx hy
    binary_has binary.Or x y hx hy = or_has x y hx hy
    binary_has binary.Equal x y hx hy = equal_has x y hx hy
    binary_has binary.Less x y hx hy = less_has x y hx hy
    binary_has (binary.Word operator) x y hx hy = word_has operator x y hx hy
    binary_has binary.Load x y hx hy = load_has x y hx hy
    binary_has binary.Join x y hx hy = join_has W16 (x ∷ y ∷ []) (Binary binary.Join x y) (hx, (hy, tt)) (h.two binary.Join x y hx hy)

    ternary_has : (operator : TernaryOperator) (x y z : Term) → Q x → Q y → Q z → Q (normal_ternary operator x y z)
    unfolding normal_ternary
    ternary_has ternary.Choose x y z hx hy hz = choose_has x y z hx hy hz
    ternary_has ternary.Store x y z hx hy hz = h.three ternary.Store x y z hx hy hz

    quaternary_has : (operator : QuaternaryOperator) (a b c d : Term) → Q a → Q b → Q c → Q d → Q (normal_quaternary operator a b c d)
    unfolding normal_quaternary All
    quaternary_has quaternary.Over a b c d ha hb hc hd = h.four quaternary.Over a b c d ha hb hc hd
    quaternary_has quaternary.Join a b c d ha hb hc hd =
        join_has W32 (a ∷ b ∷ c ∷ d ∷ []) (Quaternary quaternary.Join a b c d) (ha, (hb, (hc, (hd, tt)))) (h.four quaternary.Join a b c d ha hb hc hd)

    octonary_has : (a b c d e f g i : Term) → Q a → Q b → Q c → Q d → Q e → Q f → Q g → Q i → Q (normal_octonary a b c d e f g i)
    unfolding normal_octonary All
    octonary_has a b c d e f g i ha hb hc hd he hf hg hi =
        join_has W64 (a ∷ b ∷ c ∷ d ∷ e ∷ f ∷ g ∷ i ∷ []) (Octonary a b c d e f g i) (ha, (hb, (hc, (hd, (he, (hf, (hg, (hi, tt))))))))
        (h.eight a b c d e f g i ha hb hc hd he hf hg hi)

    pub normal_has : (t : Term) → Q t → Q (normal runs t)
    unfolding normal
    normal_has (Leaf leaf) ht = ht
    normal_has (Unary operator a) ht = unary_has operator (normal runs a) (normal_has a (h.of_one operator a ht))
    normal_has (Binary operator a b) ht =
        let p = h.of_two operator a b ht in
        binary_has operator (normal runs a) (normal runs b) (normal_has a p.0) (normal_has b p.1)
    normal_has (Ternary operator a b c) ht =
        let p = h.of_three operator a b c ht in
        ternary_has operator (normal runs a) (normal runs b) (normal runs c) (normal_has a p.0) (normal_has b p.1) (normal_has c p.2)
    normal_has (Quaternary operator a b c d) ht =
        let p = h.of_four operator a b c d ht in
        quaternary_has operator (normal runs a) (normal runs b) (normal runs c) (normal runs d) (normal_has a p.0) (normal_has b p.1) (normal_has c p.2) (normal_has d p.3)
    normal_has (Octonary a b c d e f g i) ht =
        let p = h.of_eight a b c d e f g i ht in
        octonary_has (normal runs a) (normal runs b) (normal runs c) (normal runs d) (normal runs e) (normal runs f) (normal runs g) (normal runs i)
        (normal_has a p.0) (normal_has b p.1) (normal_has c p.2) (normal_has d p.3) (normal_has e p.4) (normal_has f p.5) (normal_has g p.6) (normal_has i p.7)

-- ---- variables

variables-hereditary : (P : Variable → Type 0) → IsHereditary (Each P)
unfolding Each
variables-hereditary P = record {
  truths = λ b. tt;
  words = λ w n. tt;
  one = λ o a ha. ha;
  two = λ o a b ha hb. (ha, hb);
  three = λ o a b c ha hb hc. (ha, hb, hc);
  four = λ o a b c d ha hb hc hd. (ha, hb, hc, hd);
  eight = λ a b c d e f g i ha hb hc hd he hf hg hi. (ha, hb, hc, hd, he, hf, hg, hi);
  of_one = λ o a ht. ht;
  of_two = λ o a b ht. ht;
  of_three = λ o a b c ht. ht;
  of_four = λ o a b c d ht. ht;
  of_eight = λ a b c d e f g i ht. ht;
}

-- a variable of the normal form is one of the term
pub occurs-normal : (runs : List Run) (t : Term) (v : Variable) → Occurs v (normal runs t) → Occurs v t
occurs-normal runs t v o =
    let P : Variable → Type 0 = λ u. Occurs u t in
    occurs-each P (normal runs t) (normal_has (Each P) (variables-hereditary P) runs t (each-from_occurs P t (λ u here. here))) v o
