-- The operators of a certificate are those of terms.
use Rattle.std.proofs.Common.{◌≡◌, ◌∙◌, ℕ, ◌<◌, ◌==◌, Bool, true, false, if◌then◌else◌, Option, Some, None, refl, sym, ap, subst}
use Rattle.std.specs.Prelude.{nat_lt, option_map}
use Rattle.std.proofs.lemmas.Bool.{eqb-true, lt-ltb}
use Rattle.std.proofs.lemmas.Option.{same_Some, cond_some}
use Rattle.term_core_spec.specs.declared.Width.{Width}
use Rattle.term_core_spec.specs.declared.Width.TheVariants.{W8, W16, W32, W64}
use Rattle.term_core_spec.specs.declared.UnaryOperator.{UnaryOperator}
use Rattle.term_core_spec.specs.declared.UnaryOperator.TheVariants as unary
use Rattle.term_core_spec.specs.declared.WordOperator.{WordOperator}
use Rattle.term_core_spec.specs.declared.WordOperator.TheVariants as word
use Rattle.term_core_spec.specs.declared.BinaryOperator.{BinaryOperator}
use Rattle.term_core_spec.specs.declared.BinaryOperator.TheVariants as binary
use Rattle.term_core_spec.specs.Sort.{bits}
use Rattle.cert_text_spec.specs.declared.Operator.{Operator}
use Rattle.cert_text_spec.specs.declared.Operator.TheVariants as operator
use Rattle.cert_check_spec.specs.Terms as terms
use Rattle.cert_check_spec.specs.Terms.{IsUnary, IsBinary}
use Rattle.cert_check_terms.specs.Operators.{width_of, unary_of, binary_of, is_choose, is_join}

-- ---- widths

width_to : (w : Width) → width_of (bits w) ≡ Some w
width_to W8 = refl
width_to W16 = refl
width_to W32 = refl
width_to W64 = refl

width_from : (n : ℕ) (w : Width) → width_of n ≡ Some w → n ≡ bits w
width_from n w e = at8 (n == 8) refl e
  where
    at64 : (b : Bool) → (n == 64) ≡ b → (if b then Some W64 else None) ≡ Some w → n ≡ bits w
    at64 true is h = eqb-true n 64 is ∙ ap bits (same_Some W64 w h)
    at64 false is h = absurd (cc)

    at32 : (b : Bool) → (n == 32) ≡ b → (if b then Some W32 else (if n == 64 then Some W64 else None)) ≡ Some w → n ≡ bits w
    at32 true is h = eqb-true n 32 is ∙ ap bits (same_Some W32 w h)
    at32 false is h = at64 (n == 64) refl h

    at16 : (b : Bool) → (n == 16) ≡ b → (if b then Some W16 else (if n == 32 then Some W32 else (if n == 64 then Some W64 else None))) ≡ Some w → n ≡ bits w
    at16 true is h = eqb-true n 16 is ∙ ap bits (same_Some W16 w h)
    at16 false is h = at32 (n == 32) refl h

    at8 : (b : Bool) → (n == 8) ≡ b → (if b then Some W8 else (if n == 16 then Some W16 else (if n == 32 then Some W32 else (if n == 64 then Some W64 else None)))) ≡ Some w → n ≡ bits w
    at8 true is h = eqb-true n 8 is ∙ ap bits (same_Some W8 w h)
    at8 false is h = at16 (n == 16) refl h

-- ---- one argument

wide : (make : Width → UnaryOperator) (n : ℕ) (u : UnaryOperator) → option_map make (width_of n) ≡ Some u → (w : Width) × (n ≡ bits w) × (make w ≡ u)
wide make n u e = by (width_of n) refl e
  where
    by : (o : Option Width) → width_of n ≡ o → option_map make o ≡ Some u → (w : Width) × (n ≡ bits w) × (make w ≡ u)
    by (Some w) is h = (w, width_from n w is, same_Some (make w) u h)
    by None is h = absurd (cc)

pub unary_from : (o : Operator) (u : UnaryOperator) → unary_of o ≡ Some u → IsUnary o u
unary_from operator.Not u e = subst (IsUnary operator.Not) (same_Some unary.Not u e) terms.not
unary_from operator.Complement u e = subst (IsUnary operator.Complement) (same_Some unary.Complement u e) terms.complement
unary_from (operator.ZeroExtend n) u e =
    let is = wide unary.ZeroExtend n u e in
    subst (λ (m : ℕ). IsUnary (operator.ZeroExtend m) u) (sym is.1) (subst (IsUnary (operator.ZeroExtend (bits is.0))) is.2 (terms.zero_extend is.0))
unary_from (operator.SignExtend n) u e =
    let is = wide unary.SignExtend n u e in
    subst (λ (m : ℕ). IsUnary (operator.SignExtend m) u) (sym is.1) (subst (IsUnary (operator.SignExtend (bits is.0))) is.2 (terms.sign_extend is.0))
unary_from (operator.Low n) u e =
    let is = wide unary.Low n u e in
    subst (λ (m : ℕ). IsUnary (operator.Low m) u) (sym is.1) (subst (IsUnary (operator.Low (bits is.0))) is.2 (terms.low is.0))
unary_from (operator.Byte place) u e =
    subst (IsUnary (operator.Byte place)) (cond_some (nat_lt place 8) (unary.Byte place) u e).1 (terms.byte place)
unary_from o u e = absurd (cc)

-- a byte that a word has
abbrev pub IsSmall : UnaryOperator → Type 0
IsSmall u = (place : ℕ) → u ≡ unary.Byte place → place < 8

pub unary_to : (o : Operator) (u : UnaryOperator) → IsUnary o u → IsSmall u → unary_of o ≡ Some u
unary_to _ _ terms.not small = refl
unary_to _ _ terms.complement small = refl
unary_to _ _ (terms.zero_extend w) small = ap (option_map unary.ZeroExtend) (width_to w)
unary_to _ _ (terms.sign_extend w) small = ap (option_map unary.SignExtend) (width_to w)
unary_to _ _ (terms.low w) small = ap (option_map unary.Low) (width_to w)
unary_to _ _ (terms.byte place) small =
    ap (λ (b : Bool). if b then Some (unary.Byte place) else None) (lt-ltb place 8 (small place refl))

-- ---- two

worded : (o : Operator) (v : WordOperator) (u : BinaryOperator) → IsBinary o (binary.Word v) → Some (binary.Word v) ≡ Some u → IsBinary o u
worded o v u is e = subst (IsBinary o) (same_Some (binary.Word v) u e) is

pub binary_from : (o : Operator) (u : BinaryOperator) → binary_of o ≡ Some u → IsBinary o u
binary_from operator.Equal u e = subst (IsBinary operator.Equal) (same_Some binary.Equal u e) terms.equal
binary_from operator.Less u e = subst (IsBinary operator.Less) (same_Some binary.Less u e) terms.less
binary_from operator.And u e = subst (IsBinary operator.And) (same_Some binary.And u e) terms.and
binary_from operator.Or u e = subst (IsBinary operator.Or) (same_Some binary.Or u e) terms.or
binary_from operator.Load u e = subst (IsBinary operator.Load) (same_Some binary.Load u e) terms.load
binary_from operator.Join u e = subst (IsBinary operator.Join) (same_Some binary.Join u e) terms.join
binary_from operator.Add u e = worded operator.Add word.Add u terms.add e
binary_from operator.Subtract u e = worded operator.Subtract word.Subtract u terms.subtract e
binary_from operator.Multiply u e = worded operator.Multiply word.Multiply u terms.multiply e
binary_from operator.BitAnd u e = worded operator.BitAnd word.And u terms.bit_and e
binary_from operator.BitOr u e = worded operator.BitOr word.Or u terms.bit_or e
binary_from operator.BitXor u e = worded operator.BitXor word.Xor u terms.bit_xor e
binary_from operator.ShiftLeft u e = worded operator.ShiftLeft word.ShiftLeft u terms.shift_left e
binary_from operator.ShiftRight u e = worded operator.ShiftRight word.ShiftRight u terms.shift_right e
binary_from operator.ShiftRightSigned u e = worded operator.ShiftRightSigned word.ShiftRightSigned u terms.shift_right_signed e
binary_from operator.Divide u e = worded operator.Divide word.Divide u terms.divide e
binary_from operator.Remainder u e = worded operator.Remainder word.Remainder u terms.remainder e
binary_from o u e = absurd (cc)

pub binary_to : (o : Operator) (u : BinaryOperator) → IsBinary o u → binary_of o ≡ Some u
binary_to _ _ terms.equal = refl
binary_to _ _ terms.less = refl
binary_to _ _ terms.and = refl
binary_to _ _ terms.or = refl
binary_to _ _ terms.add = refl
binary_to _ _ terms.subtract = refl
binary_to _ _ terms.multiply = refl
binary_to _ _ terms.bit_and = refl
binary_to _ _ terms.bit_or = refl
binary_to _ _ terms.bit_xor = refl
binary_to _ _ terms.shift_left = refl
binary_to _ _ terms.shift_right = refl
binary_to _ _ terms.shift_right_signed = refl
binary_to _ _ terms.divide = refl
binary_to _ _ terms.remainder = refl
binary_to _ _ terms.load = refl
binary_to _ _ terms.join = refl

-- ---- more

pub choose_is : (o : Operator) → is_choose o ≡ true → o ≡ operator.Choose
choose_is operator.Choose e = refl
choose_is o e = absurd (cc)

pub join_is : (o : Operator) → is_join o ≡ true → o ≡ operator.Join
join_is operator.Join e = refl
join_is o e = absurd (cc)
