-- Each rule of an operator gives a typed operand from typed ones.
use Rattle.std.proofs.Common.{IsTrue, IfSome, bytes_eq, sym, ◌≡◌, ℕ, pos, negsuc, ◌||◌, true, false, Option, Some, None, IfOk, Result, Ok, ◌+◌, refl, subst}
use Rattle.c_syntax_spec.specs.declared.BinaryOperator.{BinaryOperator}
use Rattle.c_syntax_spec.specs.declared.BinaryOperator.TheVariants as binary
use Rattle.c_syntax_spec.specs.declared.UnaryOperator.{UnaryOperator}
use Rattle.c_syntax_spec.specs.declared.UnaryOperator.TheVariants as unary
use Rattle.c_syntax_spec.specs.Expression.{Name}
use Rattle.c_types_spec.specs.declared.Scalar.{Scalar}
use Rattle.c_types_spec.specs.declared.Arithmetic.{Arithmetic}
use Rattle.c_types_spec.specs.declared.Arithmetic.TheVariants.{Add, Subtract, Multiply, Divide, Remainder, ShiftLeft, ShiftRight, And, Or, Xor}
use Rattle.c_types_spec.specs.declared.Comparison.{Comparison}
use Rattle.c_types_spec.specs.declared.Comparison.TheVariants.{Equal, NotEqual, Less, Greater, LessOrEqual, GreaterOrEqual}
use Rattle.c_types_spec.specs.declared.Direction.{Direction}
use Rattle.c_types_spec.specs.declared.Direction.TheVariants.{Up, Down}
use Rattle.c_types_spec.specs.declared.Order.{Order}
use Rattle.c_types_spec.specs.declared.Order.TheVariants.{PointerFirst, IndexFirst}
use Rattle.c_types_spec.specs.declared.Position.{Position}
use Rattle.c_types_spec.specs.declared.Position.TheVariants as position
use Rattle.c_types_spec.specs.declared.Standing.{Standing}
use Rattle.c_types_spec.specs.declared.Standing.TheVariants.{Computed}
use Rattle.c_types_spec.specs.declared.TypeFaultKind.TheVariants.{Unknown, Mismatch, Incomplete}
use Rattle.c_types_spec.specs.Types.{CType, Void, Integer, Pointer, Array, Struct, Structs, Layout, Member, struct_layout, scalar_of, same_type, promoted, common, size_of, member_named, int, word}
use Rattle.c_types_spec.specs.Values.{converted}
use Rattle.c_types_spec.specs.Core.{Core, Operate, Move, Aligned, type_of}
use Rattle.c_types_spec.specs.Names.{Fault, fail, bind}
use Rattle.c_types_spec.specs.Operands.{Category, Value, InLocal, InMemory, Operand, Valued, operand, value_operand, constant_operand, kept, convert, pointers_meet, is_null, value_of, integer_type}
use Rattle.c_types_spec.specs.Operators.{on_integers, arithmetic, shift, moved, addend, sum_of, sum, difference_of, difference, comparison, relation_of, relation, equality_of, equality, zero_of, one_int, truth, on_scalars, conjunction, disjunction, binary_rule, address_of, pointed, dereferenced, on_integer, ones_of, plus, minus, complement, negation, unary_rule, within, element_at, subscript_of, subscript, member_at, layout_needed, dot_in, dot, arrow_in, arrow_to, arrow, cast_to, pointer_standing, cast, size_operand, Arms, arms, pointer_arms, arms_of, chosen_operand, conditional}
use Rattle.c_types_spec.specs.HasType.{Scope, HasType, is_narrow, is_promoted, is_shift}
use Rattle.c_types_spec.specs.HasType as typing
use Rattle.c_types_laws.proofs.Results.{if_bind, if_test}
use Rattle.c_types_laws.proofs.Values.{is_of-converted}
use Rattle.c_types_laws.proofs.Scopes.{find-each}
use Rattle.c_types_laws.proofs.Types.{Small, narrow_promoted, narrow_common, promoted_is, common_is, IsSmallMember, IsSmallLayout, AreSmall, struct_layout-small}
use Rattle.c_types_laws.proofs.Operands.{type_of-is}
use Rattle.c_types_laws.proofs.Operands as operands

module _ (scope : Scope) (target : Option Scalar) where
  abbrev OfType : CType → Core → Type 0
  OfType = operands.OfType scope target

  abbrev Fits : CType → Core → Type 0
  Fits = operands.Fits scope target

  abbrev IsValued : Valued → Type 0
  IsValued = operands.IsValued scope target

  abbrev IsOperand : Operand → Type 0
  IsOperand = operands.IsOperand scope target

  abbrev Has : Core → Scalar → Type 0
  Has = HasType scope target

  convert-typed : (type s : Scalar) (core : Core) → IsTrue (is_narrow type) → Has core s → Has (convert type core) type
  convert-typed = operands.convert-typed scope target

  narrow-is : (core : Core) (s : Scalar) → Has core s → IsTrue (is_narrow s)
  narrow-is = operands.narrow-is scope target

  common-narrow : (s t : Scalar) (a b : Core) → Has a s → Has b t → IsTrue (is_narrow (common s t))
  common-narrow s t a b h k = narrow_common s t (narrow-is a s h) (narrow-is b t k)

  promoted-narrow : (s : Scalar) (a : Core) → Has a s → IsTrue (is_narrow (promoted s))
  promoted-narrow s a h = narrow_promoted s (narrow-is a s h)

  -- ---- arithmetic

  on_integers-typed : (rule : Scalar → Scalar → Result Operand Fault) (a b : Valued) (offset : ℕ) → IsValued a → IsValued b
      → ((s t : Scalar) → Has a.core s → Has b.core t → IfOk (rule s t) IsOperand) → IfOk (on_integers rule a b offset) IsOperand
  on_integers-typed rule a b offset ha hb f = by_types a.type b.type ha hb
    where
      by_types : (s t : CType) → Fits s a.core → Fits t b.core
          → IfOk (elim (integer_type s) [ Some i ↦ (elim (integer_type t) [ Some j ↦ rule i j | None ↦ fail Mismatch offset ]) | None ↦ fail Mismatch offset ]) IsOperand
      by_types (Integer i) (Integer j) h k = f i j h.0 k.0
      by_types (Integer i) t h k = tt
      by_types s t h k = tt

  arithmetic-typed : (operator : Arithmetic) (a b : Valued) (offset : ℕ) → is_shift operator ≡ false → IsValued a → IsValued b → IfOk (arithmetic operator a b offset) IsOperand
  unfolding arithmetic
  arithmetic-typed operator a b offset e ha hb =
      on_integers-typed _ a b offset ha hb
      (λ s t h k. let n = common-narrow s t a.core b.core h k in
      (typing.operate operator (common s t) _ _ offset e (common_is s t (narrow-is a.core s h) (narrow-is b.core t k)) (convert-typed (common s t) s a.core n h) (convert-typed (common s t) t b.core n k), n))

  shift-typed : (operator : Arithmetic) (a b : Valued) (offset : ℕ) → is_shift operator ≡ true → IsValued a → IsValued b → IfOk (shift operator a b offset) IsOperand
  unfolding shift
  shift-typed operator a b offset e ha hb =
      on_integers-typed _ a b offset ha hb
      (λ s t h k. let n = promoted-narrow s a.core h in
      (typing.shift operator (promoted s) (promoted t) _ _ offset e (promoted_is s (narrow-is a.core s h)) (convert-typed (promoted s) s a.core n h) (convert-typed (promoted t) t b.core (promoted-narrow t b.core k) k), n))

  moved-typed : (structs : Structs) (direction : Direction) (order : Order) (inner : CType) (pointer index : Core) (offset : ℕ) (s : Scalar) → Small inner → Has pointer word → Has index s
      → IfOk (moved structs direction order inner pointer index offset) IsOperand
  unfolding moved
  moved-typed structs direction order inner pointer index offset s n h k = by_size (size_of structs inner)
    where
      by_size : (o : Option ℕ) → IfOk (elim o [ Some size ↦ Ok (value_operand (Move direction order size pointer index offset) (Pointer inner) offset) | None ↦ fail Incomplete offset ]) IsOperand
      by_size (Some size) = (typing.move direction order size s pointer index offset h k, n)
      by_size None = tt

  sum-typed : (structs : Structs) (a b : Valued) (offset : ℕ) → IsValued a → IsValued b → IfOk (sum structs a b offset) IsOperand
  unfolding sum
  sum-typed structs a b offset ha hb = by_types a.type b.type ha hb
    where
      by_types : (s t : CType) → Fits s a.core → Fits t b.core → IfOk (sum_of structs a b offset (addend s) (addend t)) IsOperand
      by_types (Integer i) (Integer j) h k = arithmetic-typed Add a b offset refl ha hb
      by_types (Pointer p) (Integer j) h k = moved-typed structs Up PointerFirst p a.core b.core offset j h.1 h.0 k.0
      by_types (Integer i) (Pointer q) h k = moved-typed structs Up IndexFirst q b.core a.core offset i k.1 k.0 h.0
      by_types s t h k = tt

  difference-typed : (structs : Structs) (a b : Valued) (offset : ℕ) → IsValued a → IsValued b → IfOk (difference structs a b offset) IsOperand
  unfolding difference
  difference-typed structs a b offset ha hb = by_types a.type b.type ha hb
    where
      by_types : (s t : CType) → Fits s a.core → Fits t b.core → IfOk (difference_of structs a b offset (addend s) (addend t)) IsOperand
      by_types (Integer i) (Integer j) h k = arithmetic-typed Subtract a b offset refl ha hb
      by_types (Pointer p) (Integer j) h k = moved-typed structs Down PointerFirst p a.core b.core offset j h.1 h.0 k.0
      by_types (Pointer p) (Pointer q) h k = if_test IsOperand (same_type p q) _ _ (λ e. tt) (λ e. tt)
      by_types s t h k = tt

  -- ---- comparisons and logic

  relation-typed : (operator : Comparison) (a b : Valued) (offset : ℕ) → IsValued a → IsValued b → IfOk (relation operator a b offset) IsOperand
  unfolding relation
  relation-typed operator a b offset ha hb = by_types a.type b.type ha hb
    where
      by_types : (s t : CType) → Fits s a.core → Fits t b.core → IfOk (relation_of operator a b offset s t) IsOperand
      by_types (Integer s) (Integer t) h k =
          let n = common-narrow s t a.core b.core h.0 k.0 in
          (typing.compare operator (common s t) _ _ (convert-typed (common s t) s a.core n h.0) (convert-typed (common s t) t b.core n k.0), refl)
      by_types (Pointer p) (Pointer q) h k = if_test IsOperand (same_type p q) _ _ (λ e. (typing.compare operator word a.core b.core h.0 k.0, refl)) (λ e. tt)
      by_types s t h k = tt

  equality-typed : (operator : Comparison) (a b : Valued) (offset : ℕ) → IsValued a → IsValued b → IfOk (equality operator a b offset) IsOperand
  unfolding equality
  equality-typed operator a b offset ha hb = by_types a.type b.type ha hb
    where
      by_types : (s t : CType) → Fits s a.core → Fits t b.core → IfOk (equality_of operator a b offset s t) IsOperand
      by_types (Integer s) (Integer t) h k =
          let n = common-narrow s t a.core b.core h.0 k.0 in
          (typing.compare operator (common s t) _ _ (convert-typed (common s t) s a.core n h.0) (convert-typed (common s t) t b.core n k.0), refl)
      by_types (Pointer p) (Pointer q) h k = if_test IsOperand (pointers_meet p q || is_null a || is_null b) _ _ (λ e. (typing.compare operator word a.core b.core h.0 k.0, refl)) (λ e. tt)
      by_types (Pointer p) (Integer t) h k = if_test IsOperand (is_null b) _ _ (λ e. (typing.compare operator word a.core _ h.0 (convert-typed word t b.core refl k.0), refl)) (λ e. tt)
      by_types (Integer s) (Pointer q) h k = if_test IsOperand (is_null a) _ _ (λ e. (typing.compare operator word _ b.core (convert-typed word s a.core refl h.0) k.0, refl)) (λ e. tt)
      by_types s t h k = tt

  -- 0 of an expression's type
  zero-same : (core : Core) (s : Scalar) → Has core s → Has (zero_of (type_of core)) s
  zero-same core s h = subst (λ t. Has (zero_of t) s) (sym (type_of-is scope target core s h)) (operands.zero-typed scope target s (narrow-is core s h))

  truth-typed : (core : Core) (s : Scalar) → Has core s → Has (truth core) int
  truth-typed core s h = typing.compare NotEqual s core (zero_of (type_of core)) h (zero-same core s h)

  on_scalars-typed : (a b : Valued) (offset : ℕ) (result : Operand) → IsValued a → IsValued b → ((s t : Scalar) → Has a.core s → Has b.core t → IsOperand result) → IfOk (on_scalars a b offset result) IsOperand
  on_scalars-typed a b offset result ha hb f = by_types a.type b.type ha hb
    where
      by_types : (s t : CType) → Fits s a.core → Fits t b.core
          → IfOk (elim (scalar_of s) [ Some i ↦ (elim (scalar_of t) [ Some j ↦ Ok result | None ↦ fail Mismatch offset ]) | None ↦ fail Mismatch offset ]) IsOperand
      by_types (Integer i) (Integer j) h k = f i j h.0 k.0
      by_types (Integer i) (Pointer q) h k = f i word h.0 k.0
      by_types (Pointer p) (Integer j) h k = f word j h.0 k.0
      by_types (Pointer p) (Pointer q) h k = f word word h.0 k.0
      by_types s t h k = tt

  conjunction-typed : (a b : Valued) (offset : ℕ) → IsValued a → IsValued b → IfOk (conjunction a b offset) IsOperand
  unfolding conjunction
  conjunction-typed a b offset ha hb =
      on_scalars-typed a b offset _ ha hb (λ s t h k. (typing.choose int s a.core (truth b.core) (zero_of int) h (truth-typed b.core t k) (operands.zero-typed scope target int refl), refl))

  disjunction-typed : (a b : Valued) (offset : ℕ) → IsValued a → IsValued b → IfOk (disjunction a b offset) IsOperand
  unfolding disjunction
  disjunction-typed a b offset ha hb =
      on_scalars-typed a b offset _ ha hb (λ s t h k. (typing.choose int s a.core one_int (truth b.core) h (operands.one-typed scope target) (truth-typed b.core t k), refl))

  pub binary_rule-typed : (operator : BinaryOperator) (structs : Structs) (a b : Valued) (offset : ℕ) → IsValued a → IsValued b → IfOk (binary_rule operator structs a b offset) IsOperand
  unfolding binary_rule
  binary_rule-typed binary.LogicalOr structs a b offset ha hb = disjunction-typed a b offset ha hb
  binary_rule-typed binary.LogicalAnd structs a b offset ha hb = conjunction-typed a b offset ha hb
  binary_rule-typed binary.BitOr structs a b offset ha hb = arithmetic-typed Or a b offset refl ha hb
  binary_rule-typed binary.BitXor structs a b offset ha hb = arithmetic-typed Xor a b offset refl ha hb
  binary_rule-typed binary.BitAnd structs a b offset ha hb = arithmetic-typed And a b offset refl ha hb
  binary_rule-typed binary.Equal structs a b offset ha hb = equality-typed Equal a b offset ha hb
  binary_rule-typed binary.NotEqual structs a b offset ha hb = equality-typed NotEqual a b offset ha hb
  binary_rule-typed binary.Less structs a b offset ha hb = relation-typed Less a b offset ha hb
  binary_rule-typed binary.Greater structs a b offset ha hb = relation-typed Greater a b offset ha hb
  binary_rule-typed binary.LessOrEqual structs a b offset ha hb = relation-typed LessOrEqual a b offset ha hb
  binary_rule-typed binary.GreaterOrEqual structs a b offset ha hb = relation-typed GreaterOrEqual a b offset ha hb
  binary_rule-typed binary.ShiftLeft structs a b offset ha hb = shift-typed ShiftLeft a b offset refl ha hb
  binary_rule-typed binary.ShiftRight structs a b offset ha hb = shift-typed ShiftRight a b offset refl ha hb
  binary_rule-typed binary.Add structs a b offset ha hb = sum-typed structs a b offset ha hb
  binary_rule-typed binary.Subtract structs a b offset ha hb = difference-typed structs a b offset ha hb
  binary_rule-typed binary.Multiply structs a b offset ha hb = arithmetic-typed Multiply a b offset refl ha hb
  binary_rule-typed binary.Divide structs a b offset ha hb = arithmetic-typed Divide a b offset refl ha hb
  binary_rule-typed binary.Remainder structs a b offset ha hb = arithmetic-typed Remainder a b offset refl ha hb

  -- ---- unary operators

  address_of-by : (category : Category) (type : CType) (standing : Standing) (at offset : ℕ) → operands.IsPlaced scope target category type → Small type → IfOk (address_of (operand category type standing at) offset) IsOperand
  unfolding address_of
  address_of-by (Value core) type standing at offset h n = tt
  address_of-by (InLocal local) type standing at offset h n = tt
  address_of-by (InMemory address displacement) type standing at offset h n = (operands.displaced-typed scope target address displacement at h, n)

  dereferenced-by : (type : CType) (core : Core) (offset : ℕ) → Fits type core → IfOk (pointed type core offset) IsOperand
  dereferenced-by (Pointer inner) core offset h = h
  dereferenced-by type core offset h = tt

  dereferenced-typed : (v : Valued) (offset : ℕ) → IsValued v → IfOk (dereferenced v offset) IsOperand
  unfolding dereferenced
  dereferenced-typed v offset h = dereferenced-by v.type v.core offset h

  on_integer-typed : (made : Scalar → Core → Core) (v : Valued) (offset : ℕ) → IsValued v → ((s : Scalar) (core : Core) → IsTrue (is_narrow s) → IsTrue (is_promoted s) → Has core s → Has (made s core) s) → IfOk (on_integer made v offset) IsOperand
  on_integer-typed made v offset hv f = by_type v.type hv
    where
      by_type : (t : CType) → Fits t v.core
          → IfOk (elim (integer_type t) [ Some s ↦ Ok (operand (Value (made (promoted s) (convert (promoted s) v.core))) (Integer (promoted s)) (kept v.standing) offset) | None ↦ fail Mismatch offset ]) IsOperand
      by_type (Integer s) h = let n = promoted-narrow s v.core h.0 in (f (promoted s) (convert (promoted s) v.core) n (promoted_is s (narrow-is v.core s h.0)) (convert-typed (promoted s) s v.core n h.0), n)
      by_type t h = tt

  negation-typed : (v : Valued) (offset : ℕ) → IsValued v → IfOk (negation v offset) IsOperand
  unfolding negation
  negation-typed v offset hv = by_type v.type hv
    where
      by_type : (t : CType) → Fits t v.core → IfOk (elim (scalar_of t) [ Some s ↦ Ok (comparison Equal (kept v.standing) offset v.core (zero_of (type_of v.core))) | None ↦ fail Mismatch offset ]) IsOperand
      by_type (Integer s) h = (typing.compare Equal s v.core (zero_of (type_of v.core)) h.0 (zero-same v.core s h.0), refl)
      by_type (Pointer inner) h = (typing.compare Equal word v.core (zero_of (type_of v.core)) h.0 (zero-same v.core word h.0), refl)
      by_type t h = tt

  of_value : (f : Valued → Result Operand Fault) (x : Operand) → IsOperand x → ((v : Valued) → IsValued v → IfOk (f v) IsOperand) → IfOk (bind (value_of x) f) IsOperand
  of_value f x h k = if_bind IsValued IsOperand (value_of x) f (operands.value_of-typed scope target x h) k

  pub unary_rule-typed : (operator : UnaryOperator) (x : Operand) (offset : ℕ) → IsOperand x → IfOk (unary_rule operator x offset) IsOperand
  unfolding unary_rule plus minus complement
  unary_rule-typed unary.AddressOf x offset h = address_of-by x.category x.type x.standing x.offset offset h.0 h.1
  unary_rule-typed unary.Dereference x offset h = of_value _ x h (λ v k. dereferenced-typed v offset k)
  unary_rule-typed unary.Plus x offset h = of_value _ x h (λ v k. on_integer-typed (λ s core. core) v offset k (λ s core n p l. l))
  unary_rule-typed unary.Minus x offset h =
      of_value _ x h (λ v k. on_integer-typed (λ s core. Operate Subtract s (zero_of s) core offset) v offset k
      (λ s core n p l. typing.operate Subtract s (zero_of s) core offset refl p (operands.zero-typed scope target s n) l))
  unary_rule-typed unary.Complement x offset h =
      of_value _ x h (λ v k. on_integer-typed (λ s core. Operate Xor s core (ones_of s) offset) v offset k
      (λ s core n p l. typing.operate Xor s core (ones_of s) offset refl p l (typing.constant s (converted s (negsuc 0)) n (is_of-converted s (negsuc 0)))))
  unary_rule-typed unary.Not x offset h = of_value _ x h (λ v k. negation-typed v offset k)

  -- ---- objects in objects

  within-typed : (bound : Option ℕ) (index : Core) (offset : ℕ) (s : Scalar) → Has index s → Has (within bound index offset) s
  within-typed (Some bound) index offset s h = typing.within bound s index offset h
  within-typed None index offset s h = h

  element_at-typed : (x : Operand) → IsOperand x → IfOk (element_at x) IsOperand
  element_at-typed x h = of_value (λ v. dereferenced v v.offset) x h (λ v k. dereferenced-typed v v.offset k)

  pub subscript-typed : (structs : Structs) (bound_a bound_b : Option ℕ) (a b : Valued) (offset : ℕ) → IsValued a → IsValued b → IfOk (subscript structs bound_a bound_b a b offset) IsOperand
  unfolding subscript
  subscript-typed structs bound_a bound_b a b offset ha hb = by_types a.type b.type ha hb
    where
      by_types : (s t : CType) → Fits s a.core → Fits t b.core → IfOk (subscript_of structs bound_a bound_b a b offset (addend s) (addend t)) IsOperand
      by_types (Pointer p) (Integer j) h k = if_bind IsOperand IsOperand _ element_at (moved-typed structs Up PointerFirst p a.core (within bound_a b.core offset) offset j h.1 h.0 (within-typed bound_a b.core offset j k.0)) element_at-typed
      by_types (Integer i) (Pointer q) h k = if_bind IsOperand IsOperand _ element_at (moved-typed structs Up IndexFirst q b.core (within bound_b a.core offset) offset i k.1 k.0 (within-typed bound_b a.core offset i h.0)) element_at-typed
      by_types s t h k = tt

  member_at-typed : (address : Core) (displacement : ℕ) (layout : Layout) (name : Name) (offset : ℕ) → IsSmallLayout layout → Has address word → IfOk (member_at address displacement layout name offset) IsOperand
  member_at-typed address displacement layout name offset n h = by_member (member_named layout name.spelling) (find-each IsSmallMember (λ (m : Member). bytes_eq m.member name.spelling) layout.members n.0)
    where
      by_member : (o : Option Member) → IfSome o IsSmallMember → IfOk (elim o [ Some found ↦ Ok (operand (InMemory address (displacement + found.distance)) found.type Computed offset) | None ↦ fail Unknown name.offset ]) IsOperand
      by_member (Some found) small = (h, small)
      by_member None small = tt

  layout_needed-small : (structs : Structs) (number offset : ℕ) → AreSmall structs → IfOk (layout_needed structs number offset) IsSmallLayout
  layout_needed-small structs number offset h = by_layout (struct_layout structs number) (struct_layout-small structs number h)
    where
      by_layout : (o : Option Layout) → IfSome o IsSmallLayout → IfOk (elim o [ Some layout ↦ Ok layout | None ↦ fail Incomplete offset ]) IsSmallLayout
      by_layout (Some layout) k = k
      by_layout None k = tt

  dot_in-typed : (structs : Structs) → AreSmall structs → (address : Core) (displacement : ℕ) (type : CType) (name : Name) (offset : ℕ) → Has address word → IfOk (dot_in structs address displacement type name offset) IsOperand
  dot_in-typed structs sound address displacement (Struct number) name offset h =
      if_bind IsSmallLayout IsOperand (layout_needed structs number offset) _ (layout_needed-small structs number offset sound) (λ layout n. member_at-typed address displacement layout name offset n h)
  dot_in-typed structs sound address displacement type name offset h = tt

  dot-by : (structs : Structs) → AreSmall structs → (category : Category) (type : CType) (standing : Standing) (at : ℕ) (name : Name) (offset : ℕ) → operands.IsPlaced scope target category type
      → IfOk (dot structs (operand category type standing at) name offset) IsOperand
  unfolding dot
  dot-by structs sound (Value core) type standing at name offset h = tt
  dot-by structs sound (InLocal local) type standing at name offset h = tt
  dot-by structs sound (InMemory address displacement) type standing at name offset h = dot_in-typed structs sound address displacement type name offset h

  pub dot-typed : (structs : Structs) → AreSmall structs → (x : Operand) (name : Name) (offset : ℕ) → IsOperand x → IfOk (dot structs x name offset) IsOperand
  dot-typed structs sound x name offset h = dot-by structs sound x.category x.type x.standing x.offset name offset h.0

  arrow_in-typed : (structs : Structs) → AreSmall structs → (type : CType) (pointer : Core) (name : Name) (offset : ℕ) → Has pointer word → IfOk (arrow_in structs type pointer name offset) IsOperand
  arrow_in-typed structs sound (Struct number) pointer name offset h =
      if_bind IsSmallLayout IsOperand (layout_needed structs number offset) _ (layout_needed-small structs number offset sound)
      (λ layout n. member_at-typed (Aligned layout.alignment pointer offset) 0 layout name offset n (typing.aligned layout.alignment pointer offset n.1 h))
  arrow_in-typed structs sound type pointer name offset h = tt

  arrow_to-typed : (structs : Structs) → AreSmall structs → (type : CType) (pointer : Core) (name : Name) (offset : ℕ) → OfType type pointer → IfOk (arrow_to structs type pointer name offset) IsOperand
  arrow_to-typed structs sound (Pointer inner) pointer name offset h = arrow_in-typed structs sound inner pointer name offset h
  arrow_to-typed structs sound type pointer name offset h = tt

  pub arrow-typed : (structs : Structs) → AreSmall structs → (v : Valued) (name : Name) (offset : ℕ) → IsValued v → IfOk (arrow structs v name offset) IsOperand
  unfolding arrow
  arrow-typed structs sound v name offset h = arrow_to-typed structs sound v.type v.core name offset h.0

  -- ---- conversions by name

  cast_to-typed : (type : CType) (scalar : Scalar) (standing : Standing) (v : Valued) (offset : ℕ) → IsValued v → IsTrue (is_narrow scalar) → Small type → (Has (convert scalar v.core) scalar → OfType type (convert scalar v.core))
      → IfOk (cast_to type scalar standing v offset) IsOperand
  cast_to-typed type scalar standing v offset hv n small f = by_type v.type hv
    where
      by_type : (t : CType) → Fits t v.core → IfOk (elim (scalar_of t) [ Some source ↦ Ok (operand (Value (convert scalar v.core)) type standing offset) | None ↦ fail Mismatch offset ]) IsOperand
      by_type (Integer s) h = (f (convert-typed scalar s v.core n h.0), small)
      by_type (Pointer inner) h = (f (convert-typed scalar word v.core n h.0), small)
      by_type t h = tt

  pub cast-typed : (place : Position) (type : CType) (v : Valued) (offset : ℕ) → Small type → IsValued v → IfOk (cast place type v offset) IsOperand
  unfolding cast
  cast-typed position.Statement Void v offset n h = (operands.any_scalar scope target v.type v.core h.0, tt)
  cast-typed place Void v offset n h = tt
  cast-typed place (Integer t) v offset n h = cast_to-typed (Integer t) t (kept v.standing) v offset h n n (λ k. k)
  cast-typed place (Pointer inner) v offset n h = cast_to-typed (Pointer inner) word (pointer_standing inner v) v offset h refl n (λ k. k)
  cast-typed place (Array length element) v offset n h = tt
  cast-typed place (Struct number) v offset n h = tt

  pub size_operand-typed : (structs : Structs) (type : CType) (offset : ℕ) → IfOk (size_operand structs type offset) IsOperand
  unfolding size_operand
  size_operand-typed structs type offset = by_size (size_of structs type)
    where
      by_size : (o : Option ℕ) → IfOk (elim o [ Some size ↦ Ok (constant_operand word (pos size) offset) | None ↦ fail Incomplete offset ]) IsOperand
      by_size (Some size) = (typing.constant word (converted word (pos size)) refl (is_of-converted word (pos size)), refl)
      by_size None = tt

  -- ---- the conditional operator

  -- both arms have the scalar type, which is that of the whole
  pub record AreArms (made : Arms) : Type 0 where
    pub first_typed : Has made.first made.scalar
    pub second_typed : Has made.second made.scalar
    pub whole : (core : Core) → Has core made.scalar → OfType made.type core
    pub small : Small made.type

  pointers-typed : (inner : CType) (a b : Core) → Small inner → Has a word → Has b word → AreArms (arms (Pointer inner) word a b)
  pointers-typed inner a b n h k = record { first_typed = h; second_typed = k; whole = λ core l. l; small = n }

  pointer_arms-typed : (a b : Valued) (offset : ℕ) (inner other : CType) → Small inner → Small other → Has a.core word → Has b.core word → IfOk (pointer_arms a b offset inner other) AreArms
  pointer_arms-typed a b offset inner other m n h k =
      if_test AreArms (is_null a) _ _ (λ e. pointers-typed other a.core b.core n h k)
      (λ e. if_test AreArms (is_null b || same_type inner other) _ _ (λ f. pointers-typed inner a.core b.core m h k)
      (λ f. if_test AreArms (pointers_meet inner other) _ _ (λ g. pointers-typed Void a.core b.core tt h k) (λ g. tt)))

  arms_of-typed : (a b : Valued) (offset : ℕ) (s t : CType) → Fits s a.core → Fits t b.core → IfOk (arms_of a b offset s t) AreArms
  arms_of-typed a b offset (Integer s) (Integer t) h k =
      let n = common-narrow s t a.core b.core h.0 k.0 in
      record { first_typed = convert-typed (common s t) s a.core n h.0; second_typed = convert-typed (common s t) t b.core n k.0; whole = λ core l. l; small = n }
  arms_of-typed a b offset (Pointer p) (Pointer q) h k = pointer_arms-typed a b offset p q h.1 k.1 h.0 k.0
  arms_of-typed a b offset (Pointer p) (Integer t) h k = if_test AreArms (is_null b) _ _ (λ e. pointers-typed p a.core (convert word b.core) h.1 h.0 (convert-typed word t b.core refl k.0)) (λ e. tt)
  arms_of-typed a b offset (Integer s) (Pointer q) h k = if_test AreArms (is_null a) _ _ (λ e. pointers-typed q (convert word a.core) b.core k.1 (convert-typed word s a.core refl h.0) k.0) (λ e. tt)
  arms_of-typed a b offset s t h k = tt

  pub conditional-typed : (test a b : Valued) (offset : ℕ) → IsValued test → IsValued a → IsValued b → IfOk (conditional test a b offset) IsOperand
  unfolding conditional
  conditional-typed test a b offset ht ha hb = by_type test.type ht
    where
      chosen : (s : Scalar) → Has test.core s → IfOk (bind (arms_of a b offset a.type b.type) (λ made. Ok (chosen_operand test a b offset made))) IsOperand
      chosen s h =
          if_bind AreArms IsOperand (arms_of a b offset a.type b.type) _ (arms_of-typed a b offset a.type b.type ha hb)
          (λ made k. (k.whole _ (typing.choose made.scalar s test.core made.first made.second h k.first_typed k.second_typed), k.small))

      by_type : (t : CType) → Fits t test.core
          → IfOk (elim (scalar_of t) [ Some s ↦ bind (arms_of a b offset a.type b.type) (λ made. Ok (chosen_operand test a b offset made)) | None ↦ fail Mismatch offset ]) IsOperand
      by_type (Integer s) h = chosen s h.0
      by_type (Pointer inner) h = chosen word h.0
      by_type t h = tt
