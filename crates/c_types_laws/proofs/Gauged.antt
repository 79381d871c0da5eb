-- Each rule of an operator gives an operand of small sizes from such ones.
use Rattle.std.proofs.Common.{◌≡◌, ℕ, pos, ◌+◌, ◌==◌, ◌≤◌, ◌<◌, ◌||◌, ◌&&◌, nat_lt, option_map, Bool, true, false, Option, Some, None, IfOk, IfSome, Result, Ok, IsTrue, bytes_eq, if◌then◌else◌, refl, sym, ap, ◌∙◌, ◌⊎◌, inl, inr, arith}
use Rattle.std.proofs.lemmas.Option.{same_Some}
use Rattle.c_syntax_spec.specs.declared.BinaryOperator.{BinaryOperator}
use Rattle.c_syntax_spec.specs.declared.BinaryOperator.TheVariants as binary
use Rattle.c_syntax_spec.specs.declared.UnaryOperator.{UnaryOperator}
use Rattle.c_syntax_spec.specs.declared.UnaryOperator.TheVariants as unary
use Rattle.c_syntax_spec.specs.Expression.{Name}
use Rattle.c_types_spec.specs.declared.Scalar.{Scalar}
use Rattle.c_types_spec.specs.declared.Arithmetic.{Arithmetic}
use Rattle.c_types_spec.specs.declared.Arithmetic.TheVariants.{Add, Subtract, Multiply, Divide, Remainder, ShiftLeft, ShiftRight, And, Or, Xor}
use Rattle.c_types_spec.specs.declared.Comparison.{Comparison}
use Rattle.c_types_spec.specs.declared.Comparison.TheVariants.{Equal, NotEqual, Less, Greater, LessOrEqual, GreaterOrEqual}
use Rattle.c_types_spec.specs.declared.Direction.{Direction}
use Rattle.c_types_spec.specs.declared.Direction.TheVariants.{Up, Down}
use Rattle.c_types_spec.specs.declared.Order.{Order}
use Rattle.c_types_spec.specs.declared.Order.TheVariants.{PointerFirst, IndexFirst}
use Rattle.c_types_spec.specs.declared.Position.{Position}
use Rattle.c_types_spec.specs.declared.Position.TheVariants as position
use Rattle.c_types_spec.specs.declared.Standing.{Standing}
use Rattle.c_types_spec.specs.declared.Standing.TheVariants.{Computed}
use Rattle.c_types_spec.specs.declared.TypeFaultKind.TheVariants.{Unknown, Mismatch, Incomplete}
use Rattle.c_types_spec.specs.declared.TheConstants.{SIZE_LIMIT, INT_WIDTH}
use Rattle.c_types_spec.specs.Types.{CType, Void, Integer, Pointer, Array, Struct, Structs, Layout, Member, struct_layout, padded, scalar_of, same_type, same_scalar, promoted, wider, scalar, common, size_of, member_named, int, word}
use Rattle.c_types_spec.specs.Core.{Core, Constant, Convert, Operate, Move, Aligned, type_of}
use Rattle.c_types_spec.specs.Names.{Fault, fail, bind}
use Rattle.c_types_spec.specs.Operands.{Category, Value, InLocal, InMemory, Operand, Valued, operand, valued, value_operand, constant_operand, kept, convert, displaced, loaded, read_local, pointers_meet, is_null, value_of, integer_type, assigned, scalar_value}
use Rattle.c_types_spec.specs.Operators.{on_integers, arithmetic, shift, moved, addend, sum_of, sum, difference_of, difference, comparison, relation_of, relation, equality_of, equality, zero_of, on_scalars, conjunction, disjunction, binary_rule, address_of, pointed, dereferenced, on_integer, ones_of, plus, minus, complement, negation, unary_rule, bound_in, within, element_at, subscript_of, subscript, member_at, layout_needed, dot_in, dot, arrow_in, arrow_to, arrow, cast_to, pointer_standing, cast, size_operand, Arms, pointer_arms, arms_of, chosen_operand, conditional}
use Rattle.c_graph_spec.specs.Sizes.{HasSizes}
use Rattle.c_types_laws.proofs.Results.{if_bind, if_test, if_true-some}
use Rattle.c_types_laws.proofs.Scopes.{find-each}
use Rattle.c_types_laws.proofs.Types.{is_integer}
use Rattle.c_types_laws.proofs.Sized.{IsSized, element-sized, HasElements, product-least, IsPart, IsLaidOut, HasLayout, padded-least, AreFine, struct_layout-fine, Agrees, size-kept, size-small}

-- an object is at an address, or it and the distance to it are below the limit
abbrev pub IsNear : Structs → ℕ → CType → Type 0
IsNear whole displacement type = (displacement ≡ 0) ⊎ ((size : ℕ) × (size_of whole type ≡ Some size) × (displacement + size < SIZE_LIMIT))

abbrev pub IsGaugedAt : Structs → Category → CType → Type 0
IsGaugedAt whole (Value core) type = HasSizes core
IsGaugedAt whole (InLocal local) type = Unit {0}
IsGaugedAt whole (InMemory address displacement) type = HasSizes address × IsNear whole displacement type

abbrev pub IsGauged : Structs → Operand → Type 0
IsGauged whole x = IsGaugedAt whole x.category x.type × IsSized whole x.type

abbrev pub IsGaugedValue : Structs → Valued → Type 0
IsGaugedValue whole v = HasSizes v.core × IsSized whole v.type

pub near-small : (whole : Structs) (displacement : ℕ) (type : CType) → IsNear whole displacement type → displacement < SIZE_LIMIT
near-small whole displacement type (inl e) = omega arith
near-small whole displacement type (inr h) = let below : displacement + h.0 < SIZE_LIMIT = h.2 in omega arith

pub convert-sizes : (type : Scalar) (core : Core) → HasSizes core → HasSizes (convert type core)
unfolding convert
convert-sizes type core h = by_test (same_scalar (type_of core) type)
  where
    by_test : (b : Bool) → HasSizes (if b then core else Convert type core)
    by_test true = h
    by_test false = h

module _ (whole : Structs) where
  abbrev Good : Operand → Type 0
  Good = IsGauged whole

  abbrev GoodValue : Valued → Type 0
  GoodValue = IsGaugedValue whole

  displaced-sizes : (address : Core) (displacement offset : ℕ) → HasSizes address → displacement < SIZE_LIMIT → HasSizes (displaced address displacement offset)
  unfolding displaced
  displaced-sizes address displacement offset h below = by_test (displacement == 0)
    where
      by_test : (b : Bool) → HasSizes (if b then address else Move Up PointerFirst displacement address (Constant int (pos 1)) offset)
      by_test true = h
      by_test false = (below, h, tt)

  loaded-gauged : (type : CType) (address : Core) (displacement offset : ℕ) → HasSizes address → displacement < SIZE_LIMIT → IsSized whole type → IfOk (loaded type address displacement offset) GoodValue
  unfolding loaded
  loaded-gauged Void address displacement offset h below n = tt
  loaded-gauged (Integer t) address displacement offset h below n = ((below, h), n)
  loaded-gauged (Pointer inner) address displacement offset h below n = ((below, h), n)
  loaded-gauged (Array length element) address displacement offset h below n = (displaced-sizes address displacement offset h below, element-sized whole length element n)
  loaded-gauged (Struct number) address displacement offset h below n = tt

  pub read_local-gauged : (type : CType) (local offset : ℕ) → IsSized whole type → IfOk (read_local type local offset) GoodValue
  unfolding read_local
  read_local-gauged (Integer t) local offset n = (tt, n)
  read_local-gauged (Pointer inner) local offset n = (tt, n)
  read_local-gauged type local offset n = tt

  value_of-by : (category : Category) (type : CType) (standing : Standing) (offset : ℕ) → IsGaugedAt whole category type → IsSized whole type → IfOk (value_of (operand category type standing offset)) GoodValue
  unfolding value_of
  value_of-by (Value core) type standing offset h n = (h, n)
  value_of-by (InLocal local) type standing offset h n = read_local-gauged type local offset n
  value_of-by (InMemory address displacement) type standing offset h n = loaded-gauged type address displacement offset h.0 (near-small whole displacement type h.1) n

  pub value_of-gauged : (x : Operand) → Good x → IfOk (value_of x) GoodValue
  value_of-gauged x h = value_of-by x.category x.type x.standing x.offset h.0 h.1

  assigned-by : (type : CType) (core : Core) (from : CType) (standing : Standing) (offset : ℕ) → HasSizes core → IfSome (assigned type (valued core from standing offset)) HasSizes
  unfolding assigned
  assigned-by (Integer t) core (Integer s) standing offset h = convert-sizes t core h
  assigned-by (Integer t) core from standing offset h = tt
  assigned-by (Pointer inner) core (Integer s) standing offset h = if_true-some HasSizes (is_null (valued core (Integer s) standing offset)) (convert word core) (convert-sizes word core h)
  assigned-by (Pointer inner) core (Pointer other) standing offset h = if_true-some HasSizes _ core h
  assigned-by (Pointer inner) core from standing offset h = tt
  assigned-by type core from standing offset h = tt

  pub assigned-sizes : (type : CType) (v : Valued) → HasSizes v.core → IfSome (assigned type v) HasSizes
  assigned-sizes type v h = assigned-by type v.core v.type v.standing v.offset h

  scalar_value-by : (core : Core) (type : CType) (standing : Standing) (offset : ℕ) → HasSizes core → IfOk (scalar_value (valued core type standing offset)) HasSizes
  unfolding scalar_value
  scalar_value-by core (Integer s) standing offset h = h
  scalar_value-by core (Pointer inner) standing offset h = h
  scalar_value-by core type standing offset h = tt

  pub scalar_value-sizes : (v : Valued) → HasSizes v.core → IfOk (scalar_value v) HasSizes
  scalar_value-sizes v h = scalar_value-by v.core v.type v.standing v.offset h

  -- ---- arithmetic

  promoted-is : (s : Scalar) → IsTrue (is_integer s) → IsTrue (is_integer (promoted s))
  promoted-is s h = by_test (nat_lt s.width INT_WIDTH)
    where
      by_test : (b : Bool) → IsTrue (is_integer (if b then int else s))
      by_test true = refl
      by_test false = h

  wider-is : (s t : Scalar) → IsTrue (is_integer s) → IsTrue (is_integer t) → IsTrue (is_integer (wider s t))
  wider-is s t h k = by_tests (nat_lt s.width t.width) (nat_lt t.width s.width)
    where
      by_tests : (b c : Bool) → IsTrue (is_integer (if b then t else if c then s else scalar (s.is_signed && t.is_signed) s.width))
      by_tests true c = k
      by_tests false true = h
      by_tests false false = h

  common-is : (s t : Scalar) → IsTrue (is_integer s) → IsTrue (is_integer t) → IsTrue (is_integer (common s t))
  common-is s t h k = wider-is (promoted s) (promoted t) (promoted-is s h) (promoted-is t k)

  on_integers-gauged : (rule : Scalar → Scalar → Result Operand Fault) (a b : Valued) (offset : ℕ) → GoodValue a → GoodValue b
      → ((s t : Scalar) → IsTrue (is_integer s) → IsTrue (is_integer t) → IfOk (rule s t) Good) → IfOk (on_integers rule a b offset) Good
  on_integers-gauged rule a b offset ha hb f = by_types a.type b.type ha.1 hb.1
    where
      by_types : (s t : CType) → IsSized whole s → IsSized whole t
          → IfOk (elim (integer_type s) [ Some i ↦ (elim (integer_type t) [ Some j ↦ rule i j | None ↦ fail Mismatch offset ]) | None ↦ fail Mismatch offset ]) Good
      by_types (Integer i) (Integer j) h k = f i j h k
      by_types (Integer i) t h k = tt
      by_types s t h k = tt

  arithmetic-gauged : (operator : Arithmetic) (a b : Valued) (offset : ℕ) → GoodValue a → GoodValue b → IfOk (arithmetic operator a b offset) Good
  unfolding arithmetic
  arithmetic-gauged operator a b offset ha hb =
      on_integers-gauged _ a b offset ha hb (λ s t m n. ((convert-sizes (common s t) a.core ha.0, convert-sizes (common s t) b.core hb.0), common-is s t m n))

  shift-gauged : (operator : Arithmetic) (a b : Valued) (offset : ℕ) → GoodValue a → GoodValue b → IfOk (shift operator a b offset) Good
  unfolding shift
  shift-gauged operator a b offset ha hb =
      on_integers-gauged _ a b offset ha hb (λ s t m n. ((convert-sizes (promoted s) a.core ha.0, convert-sizes (promoted t) b.core hb.0), promoted-is s m))

  -- ---- comparisons and logic

  relation-gauged : (operator : Comparison) (a b : Valued) (offset : ℕ) → GoodValue a → GoodValue b → IfOk (relation operator a b offset) Good
  unfolding relation
  relation-gauged operator a b offset ha hb = by_types a.type b.type
    where
      by_types : (s t : CType) → IfOk (relation_of operator a b offset s t) Good
      by_types (Integer s) (Integer t) = ((convert-sizes (common s t) a.core ha.0, convert-sizes (common s t) b.core hb.0), refl)
      by_types (Pointer p) (Pointer q) = if_test Good (same_type p q) _ _ (λ e. ((ha.0, hb.0), refl)) (λ e. tt)
      by_types s t = tt

  equality-gauged : (operator : Comparison) (a b : Valued) (offset : ℕ) → GoodValue a → GoodValue b → IfOk (equality operator a b offset) Good
  unfolding equality
  equality-gauged operator a b offset ha hb = by_types a.type b.type
    where
      by_types : (s t : CType) → IfOk (equality_of operator a b offset s t) Good
      by_types (Integer s) (Integer t) = ((convert-sizes (common s t) a.core ha.0, convert-sizes (common s t) b.core hb.0), refl)
      by_types (Pointer p) (Pointer q) = if_test Good (pointers_meet p q || is_null a || is_null b) _ _ (λ e. ((ha.0, hb.0), refl)) (λ e. tt)
      by_types (Pointer p) (Integer t) = if_test Good (is_null b) _ _ (λ e. ((ha.0, convert-sizes word b.core hb.0), refl)) (λ e. tt)
      by_types (Integer s) (Pointer q) = if_test Good (is_null a) _ _ (λ e. ((convert-sizes word a.core ha.0, hb.0), refl)) (λ e. tt)
      by_types s t = tt

  on_scalars-gauged : (a b : Valued) (offset : ℕ) (result : Operand) → Good result → IfOk (on_scalars a b offset result) Good
  on_scalars-gauged a b offset result h = by_types (scalar_of a.type) (scalar_of b.type)
    where
      by_types : (s t : Option Scalar) → IfOk (elim s [ Some i ↦ (elim t [ Some j ↦ Ok result | None ↦ fail Mismatch offset ]) | None ↦ fail Mismatch offset ]) Good
      by_types (Some i) (Some j) = h
      by_types (Some i) None = tt
      by_types None t = tt

  -- ---- pointers and indices

  module _ (structs : Structs) (agrees : Agrees structs whole) (fine : AreFine whole structs) where
    moved-gauged : (direction : Direction) (order : Order) (inner : CType) (pointer index : Core) (offset : ℕ) → IsSized whole inner → HasSizes pointer → HasSizes index
        → IfOk (moved structs direction order inner pointer index offset) Good
    unfolding moved
    moved-gauged direction order inner pointer index offset n h k = by_size (size_of structs inner) refl
      where
        by_size : (o : Option ℕ) → size_of structs inner ≡ o → IfOk (elim o [ Some size ↦ Ok (value_operand (Move direction order size pointer index offset) (Pointer inner) offset) | None ↦ fail Incomplete offset ]) Good
        by_size (Some size) e = (((size-small whole structs inner size agrees fine n e).1, h, k), n)
        by_size None e = tt

    sum-gauged : (a b : Valued) (offset : ℕ) → GoodValue a → GoodValue b → IfOk (sum structs a b offset) Good
    unfolding sum
    sum-gauged a b offset ha hb = by_types a.type b.type ha.1 hb.1
      where
        by_types : (s t : CType) → IsSized whole s → IsSized whole t → IfOk (sum_of structs a b offset (addend s) (addend t)) Good
        by_types (Integer i) (Integer j) h k = arithmetic-gauged Add a b offset ha hb
        by_types (Pointer p) (Integer j) h k = moved-gauged Up PointerFirst p a.core b.core offset h ha.0 hb.0
        by_types (Integer i) (Pointer q) h k = moved-gauged Up IndexFirst q b.core a.core offset k hb.0 ha.0
        by_types s t h k = tt

    difference-gauged : (a b : Valued) (offset : ℕ) → GoodValue a → GoodValue b → IfOk (difference structs a b offset) Good
    unfolding difference
    difference-gauged a b offset ha hb = by_types a.type b.type ha.1 hb.1
      where
        by_types : (s t : CType) → IsSized whole s → IsSized whole t → IfOk (difference_of structs a b offset (addend s) (addend t)) Good
        by_types (Integer i) (Integer j) h k = arithmetic-gauged Subtract a b offset ha hb
        by_types (Pointer p) (Integer j) h k = moved-gauged Down PointerFirst p a.core b.core offset h ha.0 hb.0
        by_types (Pointer p) (Pointer q) h k = if_test Good (same_type p q) _ _ (λ e. tt) (λ e. tt)
        by_types s t h k = tt

    pub binary_rule-gauged : (operator : BinaryOperator) (a b : Valued) (offset : ℕ) → GoodValue a → GoodValue b → IfOk (binary_rule operator structs a b offset) Good
    unfolding binary_rule conjunction disjunction
    binary_rule-gauged binary.LogicalOr a b offset ha hb = on_scalars-gauged a b offset _ ((ha.0, tt, (hb.0, tt)), refl)
    binary_rule-gauged binary.LogicalAnd a b offset ha hb = on_scalars-gauged a b offset _ ((ha.0, (hb.0, tt), tt), refl)
    binary_rule-gauged binary.BitOr a b offset ha hb = arithmetic-gauged Or a b offset ha hb
    binary_rule-gauged binary.BitXor a b offset ha hb = arithmetic-gauged Xor a b offset ha hb
    binary_rule-gauged binary.BitAnd a b offset ha hb = arithmetic-gauged And a b offset ha hb
    binary_rule-gauged binary.Equal a b offset ha hb = equality-gauged Equal a b offset ha hb
    binary_rule-gauged binary.NotEqual a b offset ha hb = equality-gauged NotEqual a b offset ha hb
    binary_rule-gauged binary.Less a b offset ha hb = relation-gauged Less a b offset ha hb
    binary_rule-gauged binary.Greater a b offset ha hb = relation-gauged Greater a b offset ha hb
    binary_rule-gauged binary.LessOrEqual a b offset ha hb = relation-gauged LessOrEqual a b offset ha hb
    binary_rule-gauged binary.GreaterOrEqual a b offset ha hb = relation-gauged GreaterOrEqual a b offset ha hb
    binary_rule-gauged binary.ShiftLeft a b offset ha hb = shift-gauged ShiftLeft a b offset ha hb
    binary_rule-gauged binary.ShiftRight a b offset ha hb = shift-gauged ShiftRight a b offset ha hb
    binary_rule-gauged binary.Add a b offset ha hb = sum-gauged a b offset ha hb
    binary_rule-gauged binary.Subtract a b offset ha hb = difference-gauged a b offset ha hb
    binary_rule-gauged binary.Multiply a b offset ha hb = arithmetic-gauged Multiply a b offset ha hb
    binary_rule-gauged binary.Divide a b offset ha hb = arithmetic-gauged Divide a b offset ha hb
    binary_rule-gauged binary.Remainder a b offset ha hb = arithmetic-gauged Remainder a b offset ha hb

  -- ---- unary operators

  address_of-by : (category : Category) (type : CType) (standing : Standing) (at offset : ℕ) → IsGaugedAt whole category type → IsSized whole type → IfOk (address_of (operand category type standing at) offset) Good
  unfolding address_of
  address_of-by (Value core) type standing at offset h n = tt
  address_of-by (InLocal local) type standing at offset h n = tt
  address_of-by (InMemory address displacement) type standing at offset h n = (displaced-sizes address displacement at h.0 (near-small whole displacement type h.1), n)

  pointed-gauged : (type : CType) (core : Core) (offset : ℕ) → HasSizes core → IsSized whole type → IfOk (pointed type core offset) Good
  pointed-gauged (Pointer inner) core offset h n = ((h, inl refl), n)
  pointed-gauged type core offset h n = tt

  dereferenced-gauged : (v : Valued) (offset : ℕ) → GoodValue v → IfOk (dereferenced v offset) Good
  unfolding dereferenced
  dereferenced-gauged v offset h = pointed-gauged v.type v.core offset h.0 h.1

  on_integer-gauged : (made : Scalar → Core → Core) (v : Valued) (offset : ℕ) → GoodValue v → ((s : Scalar) (core : Core) → HasSizes core → HasSizes (made s core)) → IfOk (on_integer made v offset) Good
  on_integer-gauged made v offset hv f = by_type v.type hv.1
    where
      by_type : (t : CType) → IsSized whole t
          → IfOk (elim (integer_type t) [ Some s ↦ Ok (operand (Value (made (promoted s) (convert (promoted s) v.core))) (Integer (promoted s)) (kept v.standing) offset) | None ↦ fail Mismatch offset ]) Good
      by_type (Integer s) n = (f (promoted s) (convert (promoted s) v.core) (convert-sizes (promoted s) v.core hv.0), promoted-is s n)
      by_type t n = tt

  negation-gauged : (v : Valued) (offset : ℕ) → GoodValue v → IfOk (negation v offset) Good
  unfolding negation
  negation-gauged v offset hv = by_type (scalar_of v.type)
    where
      by_type : (o : Option Scalar) → IfOk (elim o [ Some s ↦ Ok (comparison Equal (kept v.standing) offset v.core (zero_of (type_of v.core))) | None ↦ fail Mismatch offset ]) Good
      by_type (Some s) = ((hv.0, tt), refl)
      by_type None = tt

  of_value : (f : Valued → Result Operand Fault) (x : Operand) → Good x → ((v : Valued) → GoodValue v → IfOk (f v) Good) → IfOk (bind (value_of x) f) Good
  of_value f x h k = if_bind GoodValue Good (value_of x) f (value_of-gauged x h) k

  pub unary_rule-gauged : (operator : UnaryOperator) (x : Operand) (offset : ℕ) → Good x → IfOk (unary_rule operator x offset) Good
  unfolding unary_rule plus minus complement
  unary_rule-gauged unary.AddressOf x offset h = address_of-by x.category x.type x.standing x.offset offset h.0 h.1
  unary_rule-gauged unary.Dereference x offset h = of_value _ x h (λ v k. dereferenced-gauged v offset k)
  unary_rule-gauged unary.Plus x offset h = of_value _ x h (λ v k. on_integer-gauged (λ s core. core) v offset k (λ s core l. l))
  unary_rule-gauged unary.Minus x offset h = of_value _ x h (λ v k. on_integer-gauged (λ s core. Operate Subtract s (zero_of s) core offset) v offset k (λ s core l. (tt, l)))
  unary_rule-gauged unary.Complement x offset h = of_value _ x h (λ v k. on_integer-gauged (λ s core. Operate Xor s core (ones_of s) offset) v offset k (λ s core l. (l, tt)))
  unary_rule-gauged unary.Not x offset h = of_value _ x h (λ v k. negation-gauged v offset k)

  -- ---- objects in objects

  abbrev IsBound : ℕ → Type 0
  IsBound bound = bound ≤ SIZE_LIMIT

  length-bound : (n : ℕ) (element : CType) → HasElements whole n element → n < SIZE_LIMIT
  length-bound n element h = let least = (product-least n h.size h.has_some h.positive).0 in let below = h.below in omega arith

  pub bound-small : (place : Position) (type : CType) → IsSized whole type → IfSome (bound_in place type) IsBound
  bound-small position.Addressed (Array (Some n) element) h = let below = length-bound n element h.1 in omega arith
  bound-small place (Array (Some n) element) h = let below = length-bound n element h.1 in omega arith
  bound-small place (Array None element) h = tt
  bound-small place type h = tt

  within-sizes : (bound : Option ℕ) (index : Core) (offset : ℕ) → IfSome bound IsBound → HasSizes index → HasSizes (within bound index offset)
  within-sizes (Some bound) index offset b h = (b, h)
  within-sizes None index offset b h = h

  element_at-gauged : (x : Operand) → Good x → IfOk (element_at x) Good
  element_at-gauged x h = of_value (λ v. dereferenced v v.offset) x h (λ v k. dereferenced-gauged v v.offset k)

  -- a member of a struct that is near
  member-near : (displacement : ℕ) (number : ℕ) (layout : Layout) (m : Member) → size_of whole (Struct number) ≡ Some (padded layout) → IsLaidOut whole layout → IsNear whole displacement (Struct number) → IsPart whole layout.filled m
      → IsNear whole (displacement + m.distance) m.type
  member-near displacement number layout m e laid (inl zero_is) part =
      let inside = part.inside in let least = padded-least layout in let below = laid.below in
      inr (part.size, part.is_size, (let is : displacement ≡ 0 = zero_is in omega arith))
  member-near displacement number layout m e laid (inr h) part =
      let inside = part.inside in let least = padded-least layout in
      let same : padded layout ≡ h.0 = same_Some (padded layout) h.0 (sym e ∙ h.1) in
      let below : displacement + h.0 < SIZE_LIMIT = h.2 in
      inr (part.size, part.is_size, omega arith)

  module _ (structs : Structs) (agrees : Agrees structs whole) (fine : AreFine whole structs) where
    pub subscript-gauged : (bound_a bound_b : Option ℕ) (a b : Valued) (offset : ℕ) → IfSome bound_a IsBound → IfSome bound_b IsBound → GoodValue a → GoodValue b → IfOk (subscript structs bound_a bound_b a b offset) Good
    unfolding subscript
    subscript-gauged bound_a bound_b a b offset ba bb ha hb = by_types a.type b.type ha.1 hb.1
      where
        by_types : (s t : CType) → IsSized whole s → IsSized whole t → IfOk (subscript_of structs bound_a bound_b a b offset (addend s) (addend t)) Good
        by_types (Pointer p) (Integer j) h k = if_bind Good Good _ element_at (moved-gauged structs agrees fine Up PointerFirst p a.core (within bound_a b.core offset) offset h ha.0 (within-sizes bound_a b.core offset ba hb.0)) element_at-gauged
        by_types (Integer i) (Pointer q) h k = if_bind Good Good _ element_at (moved-gauged structs agrees fine Up IndexFirst q b.core (within bound_b a.core offset) offset k hb.0 (within-sizes bound_b a.core offset bb ha.0)) element_at-gauged
        by_types s t h k = tt

    member_at-gauged : (address : Core) (displacement : ℕ) (layout : Layout) (name : Name) (offset : ℕ) → HasSizes address → IsLaidOut whole layout → ((m : Member) → IsPart whole layout.filled m → IsNear whole (displacement + m.distance) m.type)
        → IfOk (member_at address displacement layout name offset) Good
    member_at-gauged address displacement layout name offset h laid near = by_member (member_named layout name.spelling) (find-each (IsPart whole layout.filled) (λ (m : Member). bytes_eq m.member name.spelling) layout.members laid.parts)
      where
        by_member : (o : Option Member) → IfSome o (IsPart whole layout.filled) → IfOk (elim o [ Some found ↦ Ok (operand (InMemory address (displacement + found.distance)) found.type Computed offset) | None ↦ fail Unknown name.offset ]) Good
        by_member (Some found) part = ((h, near found part), part.sized)
        by_member None part = tt

    -- the layout of a struct, which has that size
    abbrev IsLayoutOf : ℕ → Layout → Type 0
    IsLayoutOf number layout = IsLaidOut whole layout × (size_of whole (Struct number) ≡ Some (padded layout))

    layout_needed-fine : (number offset : ℕ) → IfOk (layout_needed structs number offset) (IsLayoutOf number)
    unfolding size_of
    layout_needed-fine number offset = by_layout (struct_layout structs number) refl (struct_layout-fine whole structs number fine)
      where
        by_layout : (o : Option Layout) → struct_layout structs number ≡ o → IfSome o (HasLayout whole) → IfOk (elim o [ Some layout ↦ Ok layout | None ↦ fail Incomplete offset ]) (IsLayoutOf number)
        by_layout (Some layout) e k = (k.0, size-kept structs whole (Struct number) (padded layout) agrees (ap (option_map padded) e))
        by_layout None e k = tt

    dot_in-gauged : (address : Core) (displacement : ℕ) (type : CType) (name : Name) (offset : ℕ) → HasSizes address → IsNear whole displacement type → IfOk (dot_in structs address displacement type name offset) Good
    dot_in-gauged address displacement (Struct number) name offset h near =
        if_bind (IsLayoutOf number) Good (layout_needed structs number offset) _ (layout_needed-fine number offset)
        (λ layout n. member_at-gauged address displacement layout name offset h n.0 (λ m part. member-near displacement number layout m n.1 n.0 near part))
    dot_in-gauged address displacement type name offset h near = tt

    dot-by : (category : Category) (type : CType) (standing : Standing) (at : ℕ) (name : Name) (offset : ℕ) → IsGaugedAt whole category type → IfOk (dot structs (operand category type standing at) name offset) Good
    unfolding dot
    dot-by (Value core) type standing at name offset h = tt
    dot-by (InLocal local) type standing at name offset h = tt
    dot-by (InMemory address displacement) type standing at name offset h = dot_in-gauged address displacement type name offset h.0 h.1

    pub dot-gauged : (x : Operand) (name : Name) (offset : ℕ) → Good x → IfOk (dot structs x name offset) Good
    dot-gauged x name offset h = dot-by x.category x.type x.standing x.offset name offset h.0

    arrow_in-gauged : (type : CType) (pointer : Core) (name : Name) (offset : ℕ) → HasSizes pointer → IfOk (arrow_in structs type pointer name offset) Good
    arrow_in-gauged (Struct number) pointer name offset h =
        if_bind (IsLayoutOf number) Good (layout_needed structs number offset) _ (layout_needed-fine number offset)
        (λ layout n. member_at-gauged (Aligned layout.alignment pointer offset) 0 layout name offset h n.0 (λ m part. member-near 0 number layout m n.1 n.0 (inl refl) part))
    arrow_in-gauged type pointer name offset h = tt

    arrow_to-gauged : (type : CType) (pointer : Core) (name : Name) (offset : ℕ) → HasSizes pointer → IfOk (arrow_to structs type pointer name offset) Good
    arrow_to-gauged (Pointer inner) pointer name offset h = arrow_in-gauged inner pointer name offset h
    arrow_to-gauged type pointer name offset h = tt

    pub arrow-gauged : (v : Valued) (name : Name) (offset : ℕ) → GoodValue v → IfOk (arrow structs v name offset) Good
    unfolding arrow
    arrow-gauged v name offset h = arrow_to-gauged v.type v.core name offset h.0

  -- ---- conversions by name

  cast_to-gauged : (type : CType) (scalar : Scalar) (standing : Standing) (v : Valued) (offset : ℕ) → GoodValue v → IsSized whole type → IfOk (cast_to type scalar standing v offset) Good
  cast_to-gauged type scalar standing v offset hv n = by_type (scalar_of v.type)
    where
      by_type : (o : Option Scalar) → IfOk (elim o [ Some source ↦ Ok (operand (Value (convert scalar v.core)) type standing offset) | None ↦ fail Mismatch offset ]) Good
      by_type (Some s) = (convert-sizes scalar v.core hv.0, n)
      by_type None = tt

  pub cast-gauged : (place : Position) (type : CType) (v : Valued) (offset : ℕ) → IsSized whole type → GoodValue v → IfOk (cast place type v offset) Good
  unfolding cast
  cast-gauged position.Statement Void v offset n h = (h.0, tt)
  cast-gauged place Void v offset n h = tt
  cast-gauged place (Integer t) v offset n h = cast_to-gauged (Integer t) t (kept v.standing) v offset h n
  cast-gauged place (Pointer inner) v offset n h = cast_to-gauged (Pointer inner) word (pointer_standing inner v) v offset h n
  cast-gauged place (Array length element) v offset n h = tt
  cast-gauged place (Struct number) v offset n h = tt

  pub size_operand-gauged : (structs : Structs) (type : CType) (offset : ℕ) → IfOk (size_operand structs type offset) Good
  unfolding size_operand
  size_operand-gauged structs type offset = by_size (size_of structs type)
    where
      by_size : (o : Option ℕ) → IfOk (elim o [ Some size ↦ Ok (constant_operand word (pos size) offset) | None ↦ fail Incomplete offset ]) Good
      by_size (Some size) = (tt, refl)
      by_size None = tt

  -- ---- the conditional operator

  abbrev GoodArms : Arms → Type 0
  GoodArms made = HasSizes made.first × HasSizes made.second × IsSized whole made.type

  pointer_arms-gauged : (a b : Valued) (offset : ℕ) (inner other : CType) → IsSized whole inner → IsSized whole other → HasSizes a.core → HasSizes b.core → IfOk (pointer_arms a b offset inner other) GoodArms
  pointer_arms-gauged a b offset inner other m n h k =
      if_test GoodArms (is_null a) _ _ (λ e. (h, k, n))
      (λ e. if_test GoodArms (is_null b || same_type inner other) _ _ (λ f. (h, k, m))
      (λ f. if_test GoodArms (pointers_meet inner other) _ _ (λ g. (h, k, tt)) (λ g. tt)))

  arms_of-gauged : (a b : Valued) (offset : ℕ) (s t : CType) → IsSized whole s → IsSized whole t → HasSizes a.core → HasSizes b.core → IfOk (arms_of a b offset s t) GoodArms
  arms_of-gauged a b offset (Integer s) (Integer t) m n h k = (convert-sizes (common s t) a.core h, convert-sizes (common s t) b.core k, common-is s t m n)
  arms_of-gauged a b offset (Pointer p) (Pointer q) m n h k = pointer_arms-gauged a b offset p q m n h k
  arms_of-gauged a b offset (Pointer p) (Integer t) m n h k = if_test GoodArms (is_null b) _ _ (λ e. (h, convert-sizes word b.core k, m)) (λ e. tt)
  arms_of-gauged a b offset (Integer s) (Pointer q) m n h k = if_test GoodArms (is_null a) _ _ (λ e. (convert-sizes word a.core h, k, n)) (λ e. tt)
  arms_of-gauged a b offset s t m n h k = tt

  pub conditional-gauged : (test a b : Valued) (offset : ℕ) → GoodValue test → GoodValue a → GoodValue b → IfOk (conditional test a b offset) Good
  unfolding conditional
  conditional-gauged test a b offset ht ha hb = by_type (scalar_of test.type)
    where
      by_type : (o : Option Scalar) → IfOk (elim o [ Some s ↦ bind (arms_of a b offset a.type b.type) (λ made. Ok (chosen_operand test a b offset made)) | None ↦ fail Mismatch offset ]) Good
      by_type (Some s) =
          if_bind GoodArms Good (arms_of a b offset a.type b.type) _ (arms_of-gauged a b offset a.type b.type ha.1 hb.1 ha.0 hb.0)
          (λ made k. ((ht.0, k.0, k.1), k.2))
      by_type None = tt
