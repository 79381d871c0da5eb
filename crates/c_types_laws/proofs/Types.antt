-- Types that the tests call the same are equal; and the widths of integers in types.
use Rattle.std.proofs.Common.{max, subst, ◌≤◌, ◌+◌, ◌-◌, ◌/◌, length, arith, unwrap_or, ◌&&◌, ◌||◌, nat_lt, IsTrue, IfSome, slice_get, option_and_then, if◌then◌else◌, ◌≡◌, ℕ, ◌==◌, Bool, true, false, List, [], ◌∷◌, Option, Some, None, refl, sym, ap, ap₂, eqb-true}
use Rattle.std.proofs.lemmas.Bool.{and_parts}
use Rattle.c_types_spec.specs.declared.Scalar.{Scalar}
use Rattle.c_types_spec.specs.Types.{CType, Void, Integer, Pointer, Array, Struct, scalar, same_bool, same_scalar, same_length, same_type, scalar_of, is_wide, int, integer_scalar, number_scalar, promoted, wider, common, Structs, Definition, Undefined, Unfinished, Defined, Layout, Member, layout_of_definition, has_members, struct_layout, alignment_of}
use Rattle.c_types_spec.specs.declared.TheConstants.{INT_WIDTH, POINTER_WIDTH, WIDE_WIDTH}
use Rattle.c_types_spec.specs.HasType.{is_narrow, is_promoted, is_alignment}
use Rattle.c_token_spec.specs.declared.token.NumberType.{NumberType}
use Rattle.c_token_spec.specs.declared.token.NumberType.TheVariants as number
use Rattle.c_syntax_spec.specs.declared.IntegerType.{IntegerType}
use Rattle.c_syntax_spec.specs.declared.IntegerType.TheVariants as integer
use Rattle.c_types_laws.proofs.Scopes.{Each, get-each}
use Rattle.c_types_spec.specs.Names.{Signature, Meaning, Object}
use Rattle.c_types_spec.specs.Declarations.{same_types, same_signature, words_of, composite, object_type}
use Rattle.std.specs.List.{cons_option}
use Rattle.std.specs.Option.{option_map_or}
use Rattle.c_types_spec.specs.Units.{signature_of, scalars_of}

same_bool-true : (a b : Bool) → same_bool a b ≡ true → a ≡ b
same_bool-true true b e = sym e
same_bool-true false true e = absurd (cc)
same_bool-true false false e = refl

pub same_scalar-true : (a b : Scalar) → same_scalar a b ≡ true → a ≡ b
same_scalar-true a b e =
    let parts = and_parts (a.width == b.width) (same_bool a.is_signed b.is_signed) e in
    ap₂ (λ w s. scalar s w) (eqb-true a.width b.width parts.0) (same_bool-true a.is_signed b.is_signed parts.1)

same_length-true : (a b : Option ℕ) → same_length a b ≡ true → a ≡ b
same_length-true None None e = refl
same_length-true (Some m) (Some n) e = ap Some (eqb-true m n e)
same_length-true a b e = absurd (cc)

pub same_type-true : (a b : CType) → same_type a b ≡ true → a ≡ b
unfolding same_type
same_type-true Void Void e = refl
same_type-true (Integer s) (Integer t) e = ap Integer (same_scalar-true s t e)
same_type-true (Pointer a) (Pointer b) e = ap Pointer (same_type-true a b e)
same_type-true (Array m a) (Array n b) e =
    let parts = and_parts (same_length m n) (same_type a b) e in
    ap₂ Array (same_length-true m n parts.0) (same_type-true a b parts.1)
same_type-true (Struct m) (Struct n) e = ap Struct (eqb-true m n e)
same_type-true a b e = absurd (cc)

same_types-true : (a b : List CType) → same_types a b ≡ true → a ≡ b
same_types-true [] [] e = refl
same_types-true (s ∷ a) (t ∷ b) e =
    let parts = and_parts (same_type s t) (same_types a b) e in
    ap₂ ◌∷◌ (same_type-true s t parts.0) (same_types-true a b parts.1)
same_types-true a b e = absurd (cc)

pub same_signature-true : (a b : Signature) → same_signature a b ≡ true → a ≡ b
same_signature-true a b e =
    let parts = and_parts (same_types a.parameters b.parameters) (same_type a.result b.result) e in
    ap₂ signature_of (same_types-true a.parameters b.parameters parts.0) (same_type-true a.result b.result parts.1)

-- ---- the widths of integers

-- it has one of the widths of integers
abbrev pub is_integer : Scalar → Bool
is_integer s = is_narrow s || (s.width == WIDE_WIDTH)

-- each integer in the type is one
abbrev pub IsCType : CType → Type 0
IsCType Void = Unit {0}
IsCType (Integer s) = IsTrue (is_integer s)
IsCType (Pointer inner) = IsCType inner
IsCType (Array length element) = IsCType element
IsCType (Struct number) = Unit {0}

-- and is narrow
abbrev pub Small : CType → Type 0
Small Void = Unit {0}
Small (Integer s) = IsTrue (is_narrow s)
Small (Pointer inner) = Small inner
Small (Array length element) = Small element
Small (Struct number) = Unit {0}

left_of : (a b : Bool) → (a || b) ≡ true → b ≡ false → a ≡ true
left_of true b e f = refl
left_of false b e f = absurd (cc)

-- what is not wide
pub small_if : (type : CType) → IsCType type → is_wide type ≡ false → Small type
unfolding is_wide
small_if Void h e = tt
small_if (Integer s) h e = left_of (is_narrow s) (s.width == WIDE_WIDTH) h e
small_if (Pointer inner) h e = small_if inner h e
small_if (Array length element) h e = small_if element h e
small_if (Struct number) h e = tt

pub integer_scalar-is : (type : IntegerType) → IsTrue (is_integer (integer_scalar type))
integer_scalar-is integer.Char = refl
integer_scalar-is integer.SignedChar = refl
integer_scalar-is integer.UnsignedChar = refl
integer_scalar-is integer.Short = refl
integer_scalar-is integer.UnsignedShort = refl
integer_scalar-is integer.Int = refl
integer_scalar-is integer.UnsignedInt = refl
integer_scalar-is integer.Long = refl
integer_scalar-is integer.UnsignedLong = refl
integer_scalar-is integer.LongLong = refl
integer_scalar-is integer.UnsignedLongLong = refl

pub number_scalar-is : (type : NumberType) → IsTrue (is_integer (number_scalar type))
number_scalar-is number.SignedInt = refl
number_scalar-is number.UnsignedInt = refl
number_scalar-is number.SignedLongLong = refl
number_scalar-is number.UnsignedLongLong = refl

pub narrow_promoted : (s : Scalar) → IsTrue (is_narrow s) → IsTrue (is_narrow (promoted s))
narrow_promoted s n = by_test (nat_lt s.width INT_WIDTH)
  where
    by_test : (b : Bool) → IsTrue (is_narrow (if b then int else s))
    by_test true = refl
    by_test false = n

narrow_wider : (s t : Scalar) → IsTrue (is_narrow s) → IsTrue (is_narrow t) → IsTrue (is_narrow (wider s t))
narrow_wider s t m n = by_tests (nat_lt s.width t.width) (nat_lt t.width s.width)
  where
    by_tests : (b c : Bool) → IsTrue (is_narrow (if b then t else if c then s else scalar (s.is_signed && t.is_signed) s.width))
    by_tests true c = n
    by_tests false true = m
    by_tests false false = m

-- what operators compute in is promoted
pub promoted_is : (s : Scalar) → IsTrue (is_narrow s) → IsTrue (is_promoted (promoted s))
promoted_is s n = by_width (s.width == 8) (s.width == 16) (s.width == 32) refl refl refl n
  where
    by_width : (a b c : Bool) → (s.width == 8) ≡ a → (s.width == 16) ≡ b → (s.width == 32) ≡ c → (a || b || c) ≡ true → IsTrue (is_promoted (promoted s))
    by_width true b c e f g h = subst (λ w. IsTrue (is_promoted (promoted (scalar s.is_signed w)))) (sym (eqb-true s.width 8 e)) refl
    by_width false true c e f g h = subst (λ w. IsTrue (is_promoted (promoted (scalar s.is_signed w)))) (sym (eqb-true s.width 16 f)) refl
    by_width false false true e f g h = subst (λ w. IsTrue (is_promoted (promoted (scalar s.is_signed w)))) (sym (eqb-true s.width 32 g)) refl
    by_width false false false e f g h = absurd (cc)

wider_is : (s t : Scalar) → IsTrue (is_promoted s) → IsTrue (is_promoted t) → IsTrue (is_promoted (wider s t))
wider_is s t m n = by_tests (nat_lt s.width t.width) (nat_lt t.width s.width)
  where
    by_tests : (b c : Bool) → IsTrue (is_promoted (if b then t else if c then s else scalar (s.is_signed && t.is_signed) s.width))
    by_tests true c = n
    by_tests false true = m
    by_tests false false = m

pub common_is : (s t : Scalar) → IsTrue (is_narrow s) → IsTrue (is_narrow t) → IsTrue (is_promoted (common s t))
common_is s t m n = wider_is (promoted s) (promoted t) (promoted_is s m) (promoted_is t n)

pub narrow_common : (s t : Scalar) → IsTrue (is_narrow s) → IsTrue (is_narrow t) → IsTrue (is_narrow (common s t))
narrow_common s t m n = narrow_wider (promoted s) (promoted t) (narrow_promoted s m) (narrow_promoted t n)

-- ---- the types of the members of structs

abbrev pub IsSmallMember : Member → Type 0
IsSmallMember m = Small m.type

abbrev pub IsSmallLayout : Layout → Type 0
IsSmallLayout layout = Each IsSmallMember layout.members × IsTrue (is_alignment layout.alignment)

abbrev pub IsSmallDefinition : Definition → Type 0
IsSmallDefinition Undefined = Unit {0}
IsSmallDefinition Unfinished = Unit {0}
IsSmallDefinition (Defined layout) = IsSmallLayout layout

abbrev pub AreSmall : Structs → Type 0
AreSmall structs = Each IsSmallDefinition structs

layout_of-small : (d : Definition) → IsSmallDefinition d → IfSome (layout_of_definition d) IsSmallLayout
layout_of-small Undefined h = tt
layout_of-small Unfinished h = tt
layout_of-small (Defined layout) h = by_test (has_members layout.members)
  where
    by_test : (b : Bool) → IfSome (if b then Some layout else None) IsSmallLayout
    by_test true = h
    by_test false = tt

pub struct_layout-small : (structs : Structs) (number : ℕ) → AreSmall structs → IfSome (struct_layout structs number) IsSmallLayout
struct_layout-small structs number h = by_definition (slice_get structs number) (get-each IsSmallDefinition structs number h)
  where
    by_definition : (o : Option Definition) → IfSome o IsSmallDefinition → IfSome (option_and_then layout_of_definition o) IsSmallLayout
    by_definition None k = tt
    by_definition (Some d) k = layout_of-small d k

-- the scalar of a narrow type is narrow
pub scalar_of-narrow : (type : CType) → Small type → IfSome (scalar_of type) (λ s. IsTrue (is_narrow s))
scalar_of-narrow Void h = tt
scalar_of-narrow (Integer s) h = h
scalar_of-narrow (Pointer inner) h = refl
scalar_of-narrow (Array length element) h = tt
scalar_of-narrow (Struct number) h = tt

cons-narrow : (o : Option Scalar) (list : List Scalar) → IfSome o (λ s. IsTrue (is_narrow s)) → Each (λ (s : Scalar). IsTrue (is_narrow s)) list → Each (λ (s : Scalar). IsTrue (is_narrow s)) (cons_option o list)
cons-narrow None list h k = k
cons-narrow (Some s) list h k = (h, k)

pub scalars_of-narrow : (types : List CType) → Each Small types → Each (λ (s : Scalar). IsTrue (is_narrow s)) (scalars_of types)
scalars_of-narrow [] h = tt
scalars_of-narrow (type ∷ types) h = cons-narrow (scalar_of type) (scalars_of types) (scalar_of-narrow type h.0) (scalars_of-narrow types h.1)

-- each is a word of arguments
narrow_word : (w : ℕ) (a b c : Bool) → (w == 8) ≡ a → (w == 16) ≡ b → (w == 32) ≡ c → (a || b || c) ≡ true → 1 ≤ (w + (POINTER_WIDTH - 1)) / POINTER_WIDTH
narrow_word w true b c e f g h = let is : w ≡ 8 = eqb-true w 8 e in omega arith
narrow_word w false true c e f g h = let is : w ≡ 16 = eqb-true w 16 f in omega arith
narrow_word w false false true e f g h = let is : w ≡ 32 = eqb-true w 32 g in omega arith
narrow_word w false false false e f g h = absurd (cc)

cons-few : (o : Option Scalar) (list : List Scalar) (n : ℕ) → IfSome o (λ s. IsTrue (is_narrow s)) → length list ≤ n → length (cons_option o list) ≤ option_map_or (λ (s : Scalar). (s.width + (POINTER_WIDTH - 1)) / POINTER_WIDTH) o 0 + n
cons-few None list n h k = omega arith
cons-few (Some s) list n h k = let one = narrow_word s.width (s.width == 8) (s.width == 16) (s.width == 32) refl refl refl h in omega arith

pub scalars_of-few : (types : List CType) → Each Small types → length (scalars_of types) ≤ words_of types
scalars_of-few [] h = omega arith
scalars_of-few (type ∷ types) h = cons-few (scalar_of type) (scalars_of types) (words_of types) (scalar_of-narrow type h.0) (scalars_of-few types h.1)

-- ---- declarations of one object

-- its type is one of them, but for the length of an array
if_same : (test : Bool) (type : CType) → Small type → IfSome (if test then Some type else None) Small
if_same true type h = h
if_same false type h = tt

or_else : (o : Option CType) (type : CType) → IfSome o Small → Small type → Small (unwrap_or o type)
or_else None type h k = k
or_else (Some x) type h k = h

composite-small : (old type : CType) → Small old → IfSome (composite old type) Small
composite-small (Array None element) (Array length other) h = if_same (same_type element other) (Array length element) h
composite-small (Array (Some length) element) (Array None other) h = if_same (same_type element other) (Array (Some length) element) h
composite-small old type h = if_same (same_type old type) old h

pub object_type-small : (o : Option Meaning) (type : CType) → ((old : CType) → o ≡ Some (Object old) → Small old) → Small type → Small (unwrap_or (object_type o type) type)
object_type-small None type f h = h
object_type-small (Some (Object old)) type f h = or_else (composite old type) type (composite-small old type (f old refl)) h
object_type-small (Some other) type f h = h

-- ---- alignments

max_by : (a b : ℕ) (p q r : Bool) → (a == 1) ≡ p → (a == 2) ≡ q → (a == 4) ≡ r → (p || q || r) ≡ true → (i j k : Bool) → (b == 1) ≡ i → (b == 2) ≡ j → (b == 4) ≡ k → (i || j || k) ≡ true → IsTrue (is_alignment (max a b))
max_by a b p q r e f g h i j k l m n o =
    one_of (λ x. IsTrue (is_alignment (max x b))) a p q r e f g h
    (one_of (λ y. IsTrue (is_alignment (max 1 y))) b i j k l m n o refl refl refl)
    (one_of (λ y. IsTrue (is_alignment (max 2 y))) b i j k l m n o refl refl refl)
    (one_of (λ y. IsTrue (is_alignment (max 4 y))) b i j k l m n o refl refl refl)
  where
    one_of : (Q : ℕ → Type 0) (c : ℕ) (x y z : Bool) → (c == 1) ≡ x → (c == 2) ≡ y → (c == 4) ≡ z → (x || y || z) ≡ true → Q 1 → Q 2 → Q 4 → Q c
    one_of Q c true y z u v w t one two four = subst Q (sym (eqb-true c 1 u)) one
    one_of Q c false true z u v w t one two four = subst Q (sym (eqb-true c 2 v)) two
    one_of Q c false false true u v w t one two four = subst Q (sym (eqb-true c 4 w)) four
    one_of Q c false false false u v w t one two four = absurd (cc)

pub max_alignment : (a b : ℕ) → IsTrue (is_alignment a) → IsTrue (is_alignment b) → IsTrue (is_alignment (max a b))
max_alignment a b h k = max_by a b (a == 1) (a == 2) (a == 4) refl refl refl h (b == 1) (b == 2) (b == 4) refl refl refl k

narrow_alignment : (w : ℕ) (a b c : Bool) → (w == 8) ≡ a → (w == 16) ≡ b → (w == 32) ≡ c → (a || b || c) ≡ true → IsTrue (is_alignment (w / 8))
narrow_alignment w true b c e f g h = subst (λ x. IsTrue (is_alignment (x / 8))) (sym (eqb-true w 8 e)) refl
narrow_alignment w false true c e f g h = subst (λ x. IsTrue (is_alignment (x / 8))) (sym (eqb-true w 16 f)) refl
narrow_alignment w false false true e f g h = subst (λ x. IsTrue (is_alignment (x / 8))) (sym (eqb-true w 32 g)) refl
narrow_alignment w false false false e f g h = absurd (cc)

struct_alignment : (o : Option Layout) → IfSome o IsSmallLayout → IsTrue (is_alignment (option_map_or (λ (layout : Layout). layout.alignment) o 1))
struct_alignment None h = refl
struct_alignment (Some layout) h = h.1

pub alignment_of-is : (structs : Structs) (type : CType) → AreSmall structs → Small type → IsTrue (is_alignment (alignment_of structs type))
unfolding alignment_of
alignment_of-is structs Void h n = refl
alignment_of-is structs (Integer s) h n = narrow_alignment s.width (s.width == 8) (s.width == 16) (s.width == 32) refl refl refl n
alignment_of-is structs (Pointer inner) h n = refl
alignment_of-is structs (Array length element) h n = alignment_of-is structs element h n
alignment_of-is structs (Struct number) h n = struct_alignment (struct_layout structs number) (struct_layout-small structs number h)
