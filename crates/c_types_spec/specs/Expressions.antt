-- Expressions and types (ISO C11, 6.5 to 6.7): the parts of a construct are read in source order, then the construct's
-- own rule is applied.
use Rattle.std.specs.Prelude.{ℕ, zero, suc, ℤ, pos, ◌+ℤ◌, ◌||◌, Bool, false, if◌then◌else◌, int_lt, nat_abs, List, [], ◌∷◌, ◌++◌, Some, None, Result, Ok}
use Rattle.c_syntax_spec.specs.declared.Access.{Access}
use Rattle.c_syntax_spec.specs.declared.Access.TheVariants.{Dot, Arrow}
use Rattle.c_syntax_spec.specs.declared.UnaryOperator.{UnaryOperator}
use Rattle.c_syntax_spec.specs.declared.UnaryOperator.TheVariants.{AddressOf}
use Rattle.c_syntax_spec.specs.Expression as tree
use Rattle.c_types_spec.specs.declared.Position.{Position}
use Rattle.c_types_spec.specs.declared.Position.TheVariants as position
use Rattle.c_types_spec.specs.declared.TypeFaultKind.TheVariants.{Mismatch}
use Rattle.c_types_spec.specs.Types.{CType, Void, Integer, Pointer, Array, Struct, Structs, Layout, Defined, empty_layout, integer_scalar, int}
use Rattle.c_types_spec.specs.Names.{Fault, Typing, give, bind, ◌>>=◌, ◌>>◌, by, rule, fail, define_struct}
use Rattle.c_types_spec.specs.Operands.{Operand, Valued, value_of, constant_operand, integer_constant}
use Rattle.c_types_spec.specs.Operators.{binary_rule, unary_rule, bound_of, subscript, dot, arrow, cast, size_operand, conditional}
use Rattle.c_types_spec.specs.Declarations.{named, number_operand, not_wide, typedef_named, struct_named, enum_named, struct_begun, new_tag, enum_finished, enumerator, member}

-- so many `*` after a type (6.7.6.1)
unfoldable pub pointers_to : ℕ → CType → CType
pointers_to zero type = type
pointers_to (suc count) type = pointers_to count (Pointer type)

-- 6.7.6.2: the first length is that of the outermost array
abbrev pub arrays_of : List ℕ → CType → CType
arrays_of [] type = type
arrays_of (length ∷ lengths) type = Array (Some length) (arrays_of lengths type)

abbrev pub array_of : (is_open : Bool) → List ℕ → CType → CType
array_of is_open lengths type = if is_open then Array None (arrays_of lengths type) else arrays_of lengths type

-- 6.7.6.2p1: the length of an array is above 0
abbrev pub length_of : ℤ → (offset : ℕ) → Result ℕ Fault
length_of value offset = if int_lt (pos 0) value then Ok (nat_abs value) else fail Mismatch offset

unfoldable pub array_length : Valued → Result ℕ Fault
array_length x = bind (integer_constant x) (λ value. length_of value x.offset)

-- a rule that needs the structs
abbrev pub with_structs : {A : Type 0} → (Structs → Result A Fault) → Typing A
with_structs made = by (λ st. made st.structs)

-- the operand of a unary operator stands directly under it
abbrev pub under : UnaryOperator → Position
under AddressOf = position.Addressed
under operator = position.Operand

-- 6.5.2.3: the two ways to name a member
abbrev pub member_of : Access → Operand → tree.Name → (offset : ℕ) → Typing Operand
member_of Dot x name offset = with_structs (λ structs. dot structs x name offset)
member_of Arrow x name offset = do
  v ← rule (value_of x)
  with_structs (λ structs. arrow structs v name offset)

abbrev pub specifiers_offset : tree.Specifiers → ℕ
specifiers_offset (tree.Specified storage base offset) = offset

abbrev pub declared_name : tree.Declarator → tree.Name
declared_name (tree.Declared count name is_open list) = name

-- a struct whose members are all declared
unfoldable pub struct_finished : (number : ℕ) → Layout → Typing CType
struct_finished number layout = do
  define_struct number (Defined layout)
  give (Struct number)

unfoldable mutual
  pub expression : tree.Expression → Position → Typing Operand
  expression (tree.Named name) place = named name
  expression (tree.Number value type offset) place = rule (number_operand value type offset)
  expression (tree.Character value offset) place = give (constant_operand int (pos value) offset)
  expression (tree.Bracketed inner offset) place = expression inner place
  expression (tree.Index base index offset) place = do
    x ← expression base position.Operand
    a ← rule (value_of x)
    y ← expression index position.Operand
    b ← rule (value_of y)
    with_structs (λ structs. subscript structs (bound_of place x) (bound_of place y) a b offset)
  expression (tree.Member base access name offset) place = do
    x ← expression base position.Operand
    member_of access x name offset
  expression (tree.Unary operator inner offset) place = do
    x ← expression inner (under operator)
    rule (unary_rule operator x offset)
  expression (tree.Sizeof inner offset) place = do
    x ← expression inner position.Operand
    with_structs (λ structs. size_operand structs x.type offset)
  expression (tree.SizeofType name offset) place = do
    type ← type_name name
    with_structs (λ structs. size_operand structs type offset)
  expression (tree.Cast name inner offset) place = do
    type ← type_name name
    x ← expression inner position.Operand
    v ← rule (value_of x)
    rule (cast place type v offset)
  expression (tree.Binary operator left right offset) place = do
    x ← expression left position.Operand
    a ← rule (value_of x)
    y ← expression right position.Operand
    b ← rule (value_of y)
    with_structs (λ structs. binary_rule operator structs a b offset)
  expression (tree.Conditional test first second offset) place = do
    x ← expression test position.Operand
    c ← rule (value_of x)
    y ← expression first position.Operand
    a ← rule (value_of y)
    z ← expression second position.Operand
    b ← rule (value_of z)
    rule (conditional c a b offset)

  -- 6.7.7; an integer of 64 bits is left out
  pub type_name : tree.TypeName → Typing CType
  type_name (tree.Pointers words count) = do
    type ← specifiers words
    rule (not_wide (pointers_to count type) (specifiers_offset words))

  -- 6.7
  pub specifiers : tree.Specifiers → Typing CType
  specifiers (tree.Specified storage base offset) = type_specifier base

  -- 6.7.2
  pub type_specifier : tree.TypeSpecifier → Typing CType
  type_specifier tree.Void = give Void
  type_specifier (tree.Integer type) = give (Integer (integer_scalar type))
  type_specifier (tree.TypedefName name) = typedef_named name
  type_specifier (tree.StructTag tag) = struct_named tag
  type_specifier (tree.Struct tag list) = do
    number ← struct_begun tag
    layout ← members list empty_layout
    struct_finished number layout
  type_specifier (tree.EnumTag tag) = enum_named tag
  type_specifier (tree.Enum tag list) = do
    new_tag tag
    is_negative ← enumerators list (pos 0) false
    enum_finished tag is_negative

  -- 6.7.2.1: the layout with more members
  pub members : tree.Members → Layout → Typing Layout
  members tree.no_members layout = give layout
  members (tree.members words list rest) layout = do
    type ← specifiers words
    more ← member_declarators list type layout
    members rest more

  pub member_declarators : tree.Declarators → CType → Layout → Typing Layout
  member_declarators tree.no_declarators type layout = give layout
  member_declarators (tree.declarators first rest) type layout = do
    made ← declarator first type
    more ← with_structs (λ structs. member structs layout (declared_name first) made)
    member_declarators rest type more

  -- 6.7.6: the type of a declared name, from that of its specifiers
  pub declarator : tree.Declarator → CType → Typing CType
  declarator (tree.Declared count name is_open list) type = do
    found ← lengths list []
    give (array_of is_open found (pointers_to count type))

  -- the lengths of an array, from the left, after those so far
  pub lengths : tree.Expressions → List ℕ → Typing (List ℕ)
  lengths tree.no_expressions done = give done
  lengths (tree.expressions first rest) done = do
    x ← expression first position.Operand
    v ← rule (value_of x)
    length ← rule (array_length v)
    lengths rest (done ++ length ∷ [])

  -- 6.7.2.2p3: each constant is one more than the one before, where it has no value of its own. Whether one is negative
  pub enumerators : tree.Constants → (next : ℤ) → (is_negative : Bool) → Typing Bool
  enumerators tree.no_constants next is_negative = give is_negative
  enumerators (tree.constants name rest) next is_negative = do
    enumerator name next
    enumerators rest (next +ℤ pos 1) (is_negative || int_lt next (pos 0))
  enumerators (tree.constants_with name value rest) next is_negative = do
    x ← expression value position.Operand
    v ← rule (value_of x)
    given ← rule (integer_constant v)
    enumerator name given
    enumerators rest (given +ℤ pos 1) (is_negative || int_lt given (pos 0))

-- the value of an expression
abbrev pub value : tree.Expression → Typing Valued
value x = do
  given ← expression x position.Operand
  rule (value_of given)
