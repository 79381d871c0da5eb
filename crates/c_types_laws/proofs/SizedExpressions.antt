-- Expressions are of small sizes, and types that are given by them are sized.
use Rattle.std.proofs.Common.{◌≡◌, ℕ, zero, suc, ℤ, pos, negsuc, ◌≤◌, ◌<◌, ltb-true, int_lt, nat_abs, Bool, true, false, List, [], ◌∷◌, ◌++◌, IfOk, refl, arith}
use Rattle.c_syntax_spec.specs.declared.Access.{Access}
use Rattle.c_syntax_spec.specs.declared.Access.TheVariants.{Dot, Arrow}
use Rattle.c_syntax_spec.specs.declared.UnaryOperator.{UnaryOperator}
use Rattle.c_syntax_spec.specs.declared.BinaryOperator.{BinaryOperator}
use Rattle.c_syntax_spec.specs.Expression as tree
use Rattle.c_types_spec.specs.declared.Position.{Position}
use Rattle.c_types_spec.specs.declared.Position.TheVariants as position
use Rattle.c_types_spec.specs.Types.{CType, Void, Integer, Pointer, Structs, Layout, integer_scalar, empty_layout}
use Rattle.c_types_spec.specs.Names.{Typing, ◌>>=◌, rule}
use Rattle.c_types_spec.specs.Operands.{Operand, Valued, value_of, integer_constant}
use Rattle.c_types_spec.specs.Operators.{binary_rule, unary_rule, bound_of, subscript, cast, size_operand, conditional}
use Rattle.c_types_spec.specs.Expressions.{pointers_to, arrays_of, array_of, specifiers_offset, declared_name, length_of, array_length, with_structs, under, member_of, expression, type_name, specifiers, type_specifier, members, member_declarators, declarator, lengths, enumerators, value}
use Rattle.c_types_spec.specs.Declarations.{member}
use Rattle.c_types_laws.proofs.Results.{if_any, if_bind, if_test}
use Rattle.c_types_laws.proofs.Types.{integer_scalar-is}
use Rattle.c_types_laws.proofs.Scopes.{Each, each_append}
use Rattle.c_types_laws.proofs.Readings.{Any}
use Rattle.c_types_laws.proofs.Sized.{IsSized, IsDeclared, sized_declared, IsLaidOut}
use Rattle.c_types_laws.proofs.Parts.{Gives, gives_rule, gives_structs, gives_give, gives_then, gives_after, gives_given, gives_from}
use Rattle.c_types_laws.proofs.Gauged.{IsGauged, IsGaugedValue, value_of-gauged, binary_rule-gauged, unary_rule-gauged, bound-small, subscript-gauged, dot-gauged, arrow-gauged, cast-gauged, size_operand-gauged, conditional-gauged}
use Rattle.c_types_laws.proofs.SizedNames.{not_wide-sized, named-gives, number_operand-gauged, typedef_named-gives, struct_named-gives, enum_named-gives, new_tag-gives, enum_finished-gives, enumerator-gives, member-laid, struct-gives}

-- each length is at least 1
abbrev pub AreSome : List ℕ → Type 0
AreSome list = Each (λ (n : ℕ). 1 ≤ n) list

above_zero : (value : ℤ) → int_lt (pos 0) value ≡ true → 1 ≤ nat_abs value
above_zero (pos n) e = let above : 0 < n = ltb-true 0 n e in omega arith
above_zero (negsuc n) e = absurd (cc)

length-some : (value : ℤ) (offset : ℕ) → IfOk (length_of value offset) (λ n. 1 ≤ n)
length-some value offset = if_test (λ n. 1 ≤ n) (int_lt (pos 0) value) _ _ (λ e. above_zero value e) (λ e. tt)

array_length-some : (v : Valued) → IfOk (array_length v) (λ n. 1 ≤ n)
unfolding array_length
array_length-some v = if_bind Any (λ n. 1 ≤ n) (integer_constant v) _ (if_any (integer_constant v)) (λ value k. length-some value v.offset)

module _ (whole : Structs) where
  abbrev pub GivesOperand : Typing Operand → Type 0
  GivesOperand m = Gives whole (Unit {0}) (IsGauged whole) m

  -- its value
  pub value-rule : (H : Type 0) (x : Operand) → (H → IsGauged whole x) → Gives whole H (IsGaugedValue whole) (rule (value_of x))
  value-rule H x f = gives_rule H (IsGaugedValue whole) (value_of x) (λ h. value_of-gauged whole x (f h))

  -- ---- one lemma for each form

  index-gives : (m n : Typing Operand) (place : Position) (offset : ℕ) → GivesOperand m → GivesOperand n → GivesOperand (do
    x ← m
    a ← rule (value_of x)
    y ← n
    b ← rule (value_of y)
    with_structs (λ structs. subscript structs (bound_of place x) (bound_of place y) a b offset))
  index-gives m n place offset h k =
      gives_then h (λ x. gives_then (value-rule _ x (λ l. l.1)) (λ a. gives_then (gives_given k) (λ y. gives_then (value-rule _ y (λ l. l.1))
      (λ b. gives_structs _ _ _ (λ structs agrees fine l. subscript-gauged whole structs agrees fine (bound_of place x) (bound_of place y) a b offset (bound-small whole place x.type l.0.0.0.1.1) (bound-small whole place y.type l.0.1.1) l.0.0.1 l.1)))))

  binary-gives : (operator : BinaryOperator) (m n : Typing Operand) (offset : ℕ) → GivesOperand m → GivesOperand n → GivesOperand (do
    x ← m
    a ← rule (value_of x)
    y ← n
    b ← rule (value_of y)
    with_structs (λ structs. binary_rule operator structs a b offset))
  binary-gives operator m n offset h k =
      gives_then h (λ x. gives_then (value-rule _ x (λ l. l.1)) (λ a. gives_then (gives_given k) (λ y. gives_then (value-rule _ y (λ l. l.1))
      (λ b. gives_structs _ _ _ (λ structs agrees fine l. binary_rule-gauged whole structs agrees fine operator a b offset l.0.0.1 l.1)))))

  conditional-gives : (l m n : Typing Operand) (offset : ℕ) → GivesOperand l → GivesOperand m → GivesOperand n → GivesOperand (do
    x ← l
    c ← rule (value_of x)
    y ← m
    a ← rule (value_of y)
    z ← n
    b ← rule (value_of z)
    rule (conditional c a b offset))
  conditional-gives l m n offset g h k =
      gives_then g (λ x. gives_then (value-rule _ x (λ p. p.1)) (λ c. gives_then (gives_given h) (λ y. gives_then (value-rule _ y (λ p. p.1))
      (λ a. gives_then (gives_given k) (λ z. gives_then (value-rule _ z (λ p. p.1))
      (λ b. gives_rule _ _ _ (λ p. conditional-gauged whole c a b offset p.0.0.0.0.1 p.0.0.1 p.1)))))))

  member-gives : (m : Typing Operand) (access : Access) (name : tree.Name) (offset : ℕ) → GivesOperand m → GivesOperand (do
    x ← m
    member_of access x name offset)
  member-gives m Dot name offset h = gives_then h (λ x. gives_structs _ _ _ (λ structs agrees fine l. dot-gauged whole structs agrees fine x name offset l.1))
  member-gives m Arrow name offset h =
      gives_then h (λ x. gives_then (value-rule _ x (λ l. l.1)) (λ v. gives_structs _ _ _ (λ structs agrees fine l. arrow-gauged whole structs agrees fine v name offset l.1)))

  unary-gives : (operator : UnaryOperator) (m : Typing Operand) (offset : ℕ) → GivesOperand m → GivesOperand (do
    x ← m
    rule (unary_rule operator x offset))
  unary-gives operator m offset h = gives_then h (λ x. gives_rule _ _ _ (λ l. unary_rule-gauged whole operator x offset l.1))

  sizeof-gives : (m : Typing Operand) (offset : ℕ) → GivesOperand m → GivesOperand (do
    x ← m
    with_structs (λ structs. size_operand structs x.type offset))
  sizeof-gives m offset h = gives_then h (λ x. gives_structs _ _ _ (λ structs agrees fine l. size_operand-gauged whole structs x.type offset))

  sizeof_type-gives : (m : Typing CType) (offset : ℕ) → Gives whole (Unit {0}) (IsSized whole) m → GivesOperand (do
    type ← m
    with_structs (λ structs. size_operand structs type offset))
  sizeof_type-gives m offset h = gives_then h (λ type. gives_structs _ _ _ (λ structs agrees fine l. size_operand-gauged whole structs type offset))

  cast-gives : (m : Typing CType) (n : Typing Operand) (place : Position) (offset : ℕ) → Gives whole (Unit {0}) (IsSized whole) m → GivesOperand n → GivesOperand (do
    type ← m
    x ← n
    v ← rule (value_of x)
    rule (cast place type v offset))
  cast-gives m n place offset h k =
      gives_then h (λ type. gives_then (gives_given k) (λ x. gives_then (value-rule _ x (λ l. l.1)) (λ v. gives_rule _ _ _ (λ l. cast-gauged whole place type v offset l.0.0.1 l.1))))

  -- the values of constants in types
  constant-gives : {A : Type 0} (H : Type 0) (R : A → Type 0) (m : Typing Operand) (f : Valued → Typing A) → GivesOperand m → ((v : Valued) → Gives whole H R (f v)) → Gives whole H R (do
    x ← m
    v ← rule (value_of x)
    f v)
  constant-gives H R m f h k = gives_then (gives_given h) (λ x. gives_then (gives_rule _ Any (value_of x) (λ l. if_any (value_of x))) (λ v. gives_from (λ l. l.0.0) (k v)))

  -- pointers to a type and arrays of it are declared
  pub pointers_to-sized : (count : ℕ) (type : CType) → IsSized whole type → IsSized whole (pointers_to count type)
  unfolding pointers_to
  pointers_to-sized zero type h = h
  pointers_to-sized (suc count) type h = pointers_to-sized count (Pointer type) h

  arrays_of-declared : (list : List ℕ) (type : CType) → AreSome list → IsDeclared whole type → IsDeclared whole (arrays_of list type)
  arrays_of-declared [] type h n = n
  arrays_of-declared (length ∷ list) type h n = (arrays_of-declared list type h.1 n, h.0)

  pub array_of-declared : (is_open : Bool) (list : List ℕ) (type : CType) → AreSome list → IsSized whole type → IsDeclared whole (array_of is_open list type)
  array_of-declared true list type h n = arrays_of-declared list type h (sized_declared whole type n)
  array_of-declared false list type h n = arrays_of-declared list type h (sized_declared whole type n)

  empty-laid : IsLaidOut whole empty_layout
  empty-laid = record { parts = tt; below = omega arith }

  -- ---- all forms

  mutual
    unfolding expression

    pub expression-gives : (x : tree.Expression) (place : Position) → GivesOperand (expression x place)
    expression-gives (tree.Named name) place = named-gives whole name
    expression-gives (tree.Number n type offset) place = gives_rule _ _ _ (λ h. number_operand-gauged whole n type offset)
    expression-gives (tree.Character n offset) place = gives_give _ _ _ (λ h. (tt, refl))
    expression-gives (tree.Bracketed inner offset) place = expression-gives inner place
    expression-gives (tree.Index base index offset) place = index-gives (expression base position.Operand) (expression index position.Operand) place offset (expression-gives base position.Operand) (expression-gives index position.Operand)
    expression-gives (tree.Member base access name offset) place = member-gives (expression base position.Operand) access name offset (expression-gives base position.Operand)
    expression-gives (tree.Unary operator inner offset) place = unary-gives operator (expression inner (under operator)) offset (expression-gives inner (under operator))
    expression-gives (tree.Sizeof inner offset) place = sizeof-gives (expression inner position.Operand) offset (expression-gives inner position.Operand)
    expression-gives (tree.SizeofType name offset) place = sizeof_type-gives (type_name name) offset (type_name-gives name)
    expression-gives (tree.Cast name inner offset) place = cast-gives (type_name name) (expression inner position.Operand) place offset (type_name-gives name) (expression-gives inner position.Operand)
    expression-gives (tree.Binary operator left right offset) place = binary-gives operator (expression left position.Operand) (expression right position.Operand) offset (expression-gives left position.Operand) (expression-gives right position.Operand)
    expression-gives (tree.Conditional test first second offset) place =
        conditional-gives (expression test position.Operand) (expression first position.Operand) (expression second position.Operand) offset (expression-gives test position.Operand) (expression-gives first position.Operand) (expression-gives second position.Operand)

    pub type_name-gives : (name : tree.TypeName) → Gives whole (Unit {0}) (IsSized whole) (type_name name)
    type_name-gives (tree.Pointers words count) = gives_then (specifiers-gives words) (λ type. gives_rule _ _ _ (λ l. not_wide-sized whole (pointers_to count type) (specifiers_offset words) (pointers_to-sized count type l.1)))

    pub specifiers-gives : (words : tree.Specifiers) → Gives whole (Unit {0}) (IsSized whole) (specifiers words)
    specifiers-gives (tree.Specified storage base offset) = type_specifier-gives base

    pub type_specifier-gives : (base : tree.TypeSpecifier) → Gives whole (Unit {0}) (IsSized whole) (type_specifier base)
    type_specifier-gives tree.Void = gives_give _ (IsSized whole) Void (λ h. tt)
    type_specifier-gives (tree.Integer type) = gives_give _ (IsSized whole) (Integer (integer_scalar type)) (λ h. integer_scalar-is type)
    type_specifier-gives (tree.TypedefName name) = typedef_named-gives whole name
    type_specifier-gives (tree.StructTag tag) = struct_named-gives whole tag
    type_specifier-gives (tree.Struct tag list) = struct-gives whole tag (members list empty_layout) (gives_from (λ h. empty-laid) (members-gives list empty_layout))
    type_specifier-gives (tree.EnumTag tag) = enum_named-gives whole tag
    type_specifier-gives (tree.Enum tag list) = gives_after (new_tag-gives whole tag) (gives_then (enumerators-gives list (pos 0) false) (λ is_negative. gives_given (enum_finished-gives whole tag is_negative)))

    pub members-gives : (list : tree.Members) (layout : Layout) → Gives whole (IsLaidOut whole layout) (IsLaidOut whole) (members list layout)
    members-gives tree.no_members layout = gives_give _ (IsLaidOut whole) layout (λ h. h)
    members-gives (tree.members words list rest) layout =
        gives_then (gives_given (specifiers-gives words)) (λ type. gives_then (gives_from (λ l. (l.1, l.0)) (member_declarators-gives list type layout)) (λ more. gives_from (λ l. l.1) (members-gives rest more)))

    pub member_declarators-gives : (list : tree.Declarators) (type : CType) (layout : Layout) → Gives whole (IsSized whole type × IsLaidOut whole layout) (IsLaidOut whole) (member_declarators list type layout)
    member_declarators-gives tree.no_declarators type layout = gives_give _ (IsLaidOut whole) layout (λ h. h.1)
    member_declarators-gives (tree.declarators first rest) type layout =
        gives_then (gives_from (λ l. l.0) (declarator-gives first type))
        (λ made. gives_then (gives_structs _ (IsLaidOut whole) (λ structs. member structs layout (declared_name first) made) (λ structs agrees fine l. member-laid whole structs layout (declared_name first) made agrees fine l.1 l.0.1))
        (λ more. gives_from (λ l. (l.0.0.0, l.1)) (member_declarators-gives rest type more)))

    pub declarator-gives : (d : tree.Declarator) (type : CType) → Gives whole (IsSized whole type) (IsDeclared whole) (declarator d type)
    declarator-gives (tree.Declared count name is_open list) type =
        gives_then (gives_from (λ l. tt) (lengths-gives list [])) (λ found. gives_give _ (IsDeclared whole) (array_of is_open found (pointers_to count type)) (λ l. array_of-declared is_open found (pointers_to count type) l.1 (pointers_to-sized count type l.0)))

    pub lengths-gives : (list : tree.Expressions) (done : List ℕ) → Gives whole (AreSome done) AreSome (lengths list done)
    lengths-gives tree.no_expressions done = gives_give _ AreSome done (λ h. h)
    lengths-gives (tree.expressions first rest) done =
        constant-gives (AreSome done) AreSome (expression first position.Operand) _ (expression-gives first position.Operand)
        (λ v. gives_then (gives_rule _ (λ n. 1 ≤ n) (array_length v) (λ l. array_length-some v)) (λ length. gives_from (λ l. each_append (λ (n : ℕ). 1 ≤ n) done (length ∷ []) l.0 (l.1, tt)) (lengths-gives rest (done ++ length ∷ []))))

    pub enumerators-gives : (list : tree.Constants) (next : ℤ) (is_negative : Bool) → Gives whole (Unit {0}) Any (enumerators list next is_negative)
    enumerators-gives tree.no_constants next is_negative = gives_give _ Any _ (λ h. tt)
    enumerators-gives (tree.constants name rest) next is_negative = gives_after (enumerator-gives whole name next) (enumerators-gives rest _ _)
    enumerators-gives (tree.constants_with name x rest) next is_negative =
        constant-gives (Unit {0}) Any (expression x position.Operand) _ (expression-gives x position.Operand)
        (λ v. gives_then (gives_rule _ Any (integer_constant v) (λ l. if_any (integer_constant v))) (λ given. gives_after (gives_given (enumerator-gives whole name given)) (gives_given (enumerators-gives rest _ _))))

  pub value-gives : (x : tree.Expression) → Gives whole (Unit {0}) (IsGaugedValue whole) (value x)
  value-gives x = gives_then (expression-gives x position.Operand) (λ y. value-rule _ y (λ l. l.1))
