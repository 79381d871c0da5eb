-- What an expression gives is typed in each scope that covers the state after it.
use Rattle.std.proofs.Common.{◌≡◌, ℕ, zero, suc, ℤ, pos, Bool, true, false, sym, refl, subst, List, [], ◌∷◌, ◌++◌, Option, Result}
use Rattle.c_syntax_spec.specs.declared.Access.{Access}
use Rattle.c_syntax_spec.specs.declared.Access.TheVariants.{Dot, Arrow}
use Rattle.c_syntax_spec.specs.declared.UnaryOperator.{UnaryOperator}
use Rattle.c_syntax_spec.specs.declared.BinaryOperator.{BinaryOperator}
use Rattle.c_syntax_spec.specs.Expression as tree
use Rattle.c_types_spec.specs.declared.Scalar.{Scalar}
use Rattle.c_types_spec.specs.declared.Position.{Position}
use Rattle.c_types_spec.specs.declared.Position.TheVariants as position
use Rattle.c_types_spec.specs.Types.{CType, Void, Integer, Pointer, Struct, Layout, integer_scalar, Defined, empty_layout, int}
use Rattle.c_types_spec.specs.Values.{converted}
use Rattle.c_types_spec.specs.Names.{Fault, Typing, ◌>>=◌, rule}
use Rattle.c_types_spec.specs.Operands.{Operand, Valued, value_of, integer_constant}
use Rattle.c_types_spec.specs.Operators.{binary_rule, unary_rule, bound_of, subscript, cast, size_operand, conditional}
use Rattle.c_types_spec.specs.Expressions.{pointers_to, arrays_of, array_of, specifiers_offset, declared_name, array_length, with_structs, under, member_of, struct_finished, expression, type_name, specifiers, type_specifier, members, member_declarators, declarator, lengths, enumerators, value}
use Rattle.c_types_spec.specs.Declarations.{not_wide, member}
use Rattle.c_types_spec.specs.HasType.{Scope}
use Rattle.c_types_spec.specs.HasType as typing
use Rattle.c_types_laws.proofs.Results.{if_any, if_more}
use Rattle.c_types_laws.proofs.Values.{is_of-converted}
use Rattle.c_types_laws.proofs.Operands.{IsOperand, IsValued, value_of-typed}
use Rattle.c_types_laws.proofs.Operators.{binary_rule-typed, unary_rule-typed, subscript-typed, dot-typed, arrow-typed, cast-typed, size_operand-typed, conditional-typed}
use Rattle.c_types_laws.proofs.Types.{IsCType, Small, integer_scalar-is, IsSmallLayout}
use Rattle.c_types_laws.proofs.Readings.{Reads, Always, reads_rule, reads_structs, reads_give, reads_then, reads_given, Makes, Any, makes_rule, makes_structs, makes_give, makes_then, makes_after, makes_reads, reads_makes, makes_define_struct}
use Rattle.c_types_laws.proofs.Names.{not_wide-small, named-reads, number_operand-typed, typedef_named-makes, struct_named-makes, enum_named-makes, struct_begun-makes, new_tag-makes, enum_finished-makes, member-small, enumerator-makes}

module _ (target : Option Scalar) where
  abbrev GivesOperand : Typing Operand → Type 0
  GivesOperand m = Reads Always (λ scope x. IsOperand scope target x) m

  -- its value
  value-rule : (H : Scope → Type 0) (x : Operand) → ((scope : Scope) → H scope → IsOperand scope target x) → Reads H (λ scope v. IsValued scope target v) (rule (value_of x))
  value-rule H x f = reads_rule H _ (value_of x) (λ scope h. value_of-typed scope target x (f scope h))

  -- ---- one lemma for each form

  index-reads : (m n : Typing Operand) (place : Position) (offset : ℕ) → GivesOperand m → GivesOperand n → GivesOperand (do
    x ← m
    a ← rule (value_of x)
    y ← n
    b ← rule (value_of y)
    with_structs (λ structs. subscript structs (bound_of place x) (bound_of place y) a b offset))
  index-reads m n place offset h k =
      reads_then h (λ x. reads_then (value-rule _ x (λ scope l. l.1)) (λ a. reads_then (reads_given _ _ n k) (λ y. reads_then (value-rule _ y (λ scope l. l.1))
      (λ b. reads_structs _ _ _ (λ structs sound scope l. subscript-typed scope target structs (bound_of place x) (bound_of place y) a b offset l.0.0.1 l.1)))))

  binary-reads : (operator : BinaryOperator) (m n : Typing Operand) (offset : ℕ) → GivesOperand m → GivesOperand n → GivesOperand (do
    x ← m
    a ← rule (value_of x)
    y ← n
    b ← rule (value_of y)
    with_structs (λ structs. binary_rule operator structs a b offset))
  binary-reads operator m n offset h k =
      reads_then h (λ x. reads_then (value-rule _ x (λ scope l. l.1)) (λ a. reads_then (reads_given _ _ n k) (λ y. reads_then (value-rule _ y (λ scope l. l.1))
      (λ b. reads_structs _ _ _ (λ structs sound scope l. binary_rule-typed scope target operator structs a b offset l.0.0.1 l.1)))))

  conditional-reads : (l m n : Typing Operand) (offset : ℕ) → GivesOperand l → GivesOperand m → GivesOperand n → GivesOperand (do
    x ← l
    c ← rule (value_of x)
    y ← m
    a ← rule (value_of y)
    z ← n
    b ← rule (value_of z)
    rule (conditional c a b offset))
  conditional-reads l m n offset g h k =
      reads_then g (λ x. reads_then (value-rule _ x (λ scope p. p.1)) (λ c. reads_then (reads_given _ _ m h) (λ y. reads_then (value-rule _ y (λ scope p. p.1))
      (λ a. reads_then (reads_given _ _ n k) (λ z. reads_then (value-rule _ z (λ scope p. p.1))
      (λ b. reads_rule _ _ _ (λ scope p. conditional-typed scope target c a b offset p.0.0.0.0.1 p.0.0.1 p.1)))))))

  member-reads : (m : Typing Operand) (access : Access) (name : tree.Name) (offset : ℕ) → GivesOperand m → GivesOperand (do
    x ← m
    member_of access x name offset)
  member-reads m Dot name offset h = reads_then h (λ x. reads_structs _ _ _ (λ structs sound scope l. dot-typed scope target structs sound x name offset l.1))
  member-reads m Arrow name offset h =
      reads_then h (λ x. reads_then (value-rule _ x (λ scope l. l.1)) (λ v. reads_structs _ _ _ (λ structs sound scope l. arrow-typed scope target structs sound v name offset l.1)))

  unary-reads : (operator : UnaryOperator) (m : Typing Operand) (offset : ℕ) → GivesOperand m → GivesOperand (do
    x ← m
    rule (unary_rule operator x offset))
  unary-reads operator m offset h = reads_then h (λ x. reads_rule _ _ _ (λ scope l. unary_rule-typed scope target operator x offset l.1))

  sizeof-reads : (m : Typing Operand) (offset : ℕ) → GivesOperand m → GivesOperand (do
    x ← m
    with_structs (λ structs. size_operand structs x.type offset))
  sizeof-reads m offset h = reads_then h (λ x. reads_structs _ _ _ (λ structs sound scope l. size_operand-typed scope target structs x.type offset))

  sizeof_type-reads : (m : Typing CType) (offset : ℕ) → Makes Small m → GivesOperand (do
    type ← m
    with_structs (λ structs. size_operand structs type offset))
  sizeof_type-reads m offset h = reads_then (makes_reads Small m h) (λ type. reads_structs _ _ _ (λ structs sound scope l. size_operand-typed scope target structs type offset))

  cast-reads : (m : Typing CType) (n : Typing Operand) (place : Position) (offset : ℕ) → Makes Small m → GivesOperand n → GivesOperand (do
    type ← m
    x ← n
    v ← rule (value_of x)
    rule (cast place type v offset))
  cast-reads m n place offset h k =
      reads_then (makes_reads Small m h) (λ type. reads_then (reads_given _ _ n k) (λ x. reads_then (value-rule _ x (λ scope l. l.1)) (λ v. reads_rule _ _ _ (λ scope l. cast-typed scope target place type v offset l.0.0.1 l.1))))

  -- the values of constants in types
  constant-makes : {A : Type 0} (R : A → Type 0) (m : Typing Operand) (f : Valued → Typing A) → GivesOperand m → ((v : Valued) → Makes R (f v)) → Makes R (do
    x ← m
    v ← rule (value_of x)
    f v)
  constant-makes R m f h k = makes_then (reads_makes _ m h) (λ x _. makes_then (makes_rule Any (value_of x) (if_any (value_of x))) (λ v _. k v))

  any-rule : {A : Type 0} (r : Result A Fault) → Makes Any (rule r)
  any-rule r = makes_rule Any r (if_any r)

  struct_finished-makes : (number : ℕ) (layout : Layout) → IsSmallLayout layout → Makes IsCType (struct_finished number layout)
  unfolding struct_finished
  struct_finished-makes number layout h = makes_after (makes_define_struct number (Defined layout) h) (makes_give IsCType (Struct number) tt)

  -- pointers to a type and arrays of it are types
  pub pointers_to-is : (count : ℕ) (type : CType) → IsCType type → IsCType (pointers_to count type)
  unfolding pointers_to
  pointers_to-is zero type h = h
  pointers_to-is (suc count) type h = pointers_to-is count (Pointer type) h

  arrays_of-is : (list : List ℕ) (type : CType) → IsCType type → IsCType (arrays_of list type)
  arrays_of-is [] type h = h
  arrays_of-is (length ∷ list) type h = arrays_of-is list type h

  pub array_of-is : (is_open : Bool) (list : List ℕ) (type : CType) → IsCType type → IsCType (array_of is_open list type)
  array_of-is true list type h = arrays_of-is list type h
  array_of-is false list type h = arrays_of-is list type h

  type_name-rule : (type : CType) (offset : ℕ) → IsCType type → Makes Small (rule (not_wide type offset))
  type_name-rule type offset h = makes_rule Small (not_wide type offset) (if_more (λ t. Small type × (t ≡ type)) Small (not_wide type offset) (not_wide-small type offset h) (λ t k. subst Small (sym k.1) k.0))

  -- ---- all forms

  mutual
    unfolding expression

    pub expression-reads : (x : tree.Expression) (place : Position) → GivesOperand (expression x place)
    expression-reads (tree.Named name) place = named-reads target name
    expression-reads (tree.Number n type offset) place = reads_rule Always _ _ (λ scope h. number_operand-typed target scope n type offset)
    expression-reads (tree.Character n offset) place = reads_give Always _ _ (λ scope h. (typing.constant int (converted int (pos n)) refl (is_of-converted int (pos n)), refl))
    expression-reads (tree.Bracketed inner offset) place = expression-reads inner place
    expression-reads (tree.Index base index offset) place = index-reads (expression base position.Operand) (expression index position.Operand) place offset (expression-reads base position.Operand) (expression-reads index position.Operand)
    expression-reads (tree.Member base access name offset) place = member-reads (expression base position.Operand) access name offset (expression-reads base position.Operand)
    expression-reads (tree.Unary operator inner offset) place = unary-reads operator (expression inner (under operator)) offset (expression-reads inner (under operator))
    expression-reads (tree.Sizeof inner offset) place = sizeof-reads (expression inner position.Operand) offset (expression-reads inner position.Operand)
    expression-reads (tree.SizeofType name offset) place = sizeof_type-reads (type_name name) offset (type_name-makes name)
    expression-reads (tree.Cast name inner offset) place = cast-reads (type_name name) (expression inner position.Operand) place offset (type_name-makes name) (expression-reads inner position.Operand)
    expression-reads (tree.Binary operator left right offset) place = binary-reads operator (expression left position.Operand) (expression right position.Operand) offset (expression-reads left position.Operand) (expression-reads right position.Operand)
    expression-reads (tree.Conditional test first second offset) place =
        conditional-reads (expression test position.Operand) (expression first position.Operand) (expression second position.Operand) offset (expression-reads test position.Operand) (expression-reads first position.Operand) (expression-reads second position.Operand)

    pub type_name-makes : (name : tree.TypeName) → Makes Small (type_name name)
    type_name-makes (tree.Pointers words count) = makes_then (specifiers-makes words) (λ type is. type_name-rule (pointers_to count type) (specifiers_offset words) (pointers_to-is count type is))

    pub specifiers-makes : (words : tree.Specifiers) → Makes IsCType (specifiers words)
    specifiers-makes (tree.Specified storage base offset) = type_specifier-makes base

    pub type_specifier-makes : (base : tree.TypeSpecifier) → Makes IsCType (type_specifier base)
    type_specifier-makes tree.Void = makes_give IsCType Void tt
    type_specifier-makes (tree.Integer type) = makes_give IsCType (Integer (integer_scalar type)) (integer_scalar-is type)
    type_specifier-makes (tree.TypedefName name) = typedef_named-makes name
    type_specifier-makes (tree.StructTag tag) = struct_named-makes tag
    type_specifier-makes (tree.Struct tag list) = makes_then (struct_begun-makes tag) (λ number _. makes_then (members-makes list empty_layout (tt, refl)) (λ layout small. struct_finished-makes number layout small))
    type_specifier-makes (tree.EnumTag tag) = enum_named-makes tag
    type_specifier-makes (tree.Enum tag list) = makes_after (new_tag-makes tag) (makes_then (enumerators-makes list (pos 0) false) (λ is_negative _. enum_finished-makes tag is_negative))

    pub members-makes : (list : tree.Members) (layout : Layout) → IsSmallLayout layout → Makes IsSmallLayout (members list layout)
    members-makes tree.no_members layout small = makes_give IsSmallLayout layout small
    members-makes (tree.members words list rest) layout small =
        makes_then (specifiers-makes words) (λ type is. makes_then (member_declarators-makes list type layout is small) (λ more smaller. members-makes rest more smaller))

    pub member_declarators-makes : (list : tree.Declarators) (type : CType) (layout : Layout) → IsCType type → IsSmallLayout layout → Makes IsSmallLayout (member_declarators list type layout)
    member_declarators-makes tree.no_declarators type layout is small = makes_give IsSmallLayout layout small
    member_declarators-makes (tree.declarators first rest) type layout is small =
        makes_then (declarator-makes first type is)
        (λ made made_is. makes_then (makes_structs IsSmallLayout (λ structs. member structs layout (declared_name first) made) (λ structs sound. member-small structs layout (declared_name first) made sound made_is small))
        (λ more smaller. member_declarators-makes rest type more is smaller))

    pub declarator-makes : (d : tree.Declarator) (type : CType) → IsCType type → Makes IsCType (declarator d type)
    declarator-makes (tree.Declared count name is_open list) type is =
        makes_then (lengths-makes list []) (λ found _. makes_give IsCType (array_of is_open found (pointers_to count type)) (array_of-is is_open found (pointers_to count type) (pointers_to-is count type is)))

    pub lengths-makes : (list : tree.Expressions) (done : List ℕ) → Makes Any (lengths list done)
    lengths-makes tree.no_expressions done = makes_give Any _ tt
    lengths-makes (tree.expressions first rest) done =
        constant-makes Any (expression first position.Operand) _ (expression-reads first position.Operand) (λ v. makes_then (any-rule (array_length v)) (λ length _. lengths-makes rest (done ++ length ∷ [])))

    pub enumerators-makes : (list : tree.Constants) (next : ℤ) (is_negative : Bool) → Makes Any (enumerators list next is_negative)
    enumerators-makes tree.no_constants next is_negative = makes_give Any _ tt
    enumerators-makes (tree.constants name rest) next is_negative = makes_after (enumerator-makes name next) (enumerators-makes rest _ _)
    enumerators-makes (tree.constants_with name x rest) next is_negative =
        constant-makes Any (expression x position.Operand) _ (expression-reads x position.Operand)
        (λ v. makes_then (any-rule (integer_constant v)) (λ given _. makes_after (enumerator-makes name given) (enumerators-makes rest _ _)))

  pub value-reads : (x : tree.Expression) → Reads Always (λ scope v. IsValued scope target v) (value x)
  value-reads x = reads_then (expression-reads x position.Operand) (λ y. value-rule _ y (λ scope l. l.1))
