-- The tree of each part of the program, by the trees of its parts.
use Rattle.std.proofs.Common.{◌≡◌, ℕ, Bool, List, [], ◌∷◌, map, ap, sym, refl, ◌∙◌, Option, Some, None}
use Rattle.std.specs.Prelude.{option_map, Vec}
use Rattle.std.specs.declared.alloc.Global.{Global}
use Rattle.std.specs.declared.boxed.Box.{Box}
use Rattle.c_token_spec.specs.declared.token.NumberType.{NumberType}
use Rattle.c_syntax_spec.specs.declared.Access.{Access}
use Rattle.c_syntax_spec.specs.declared.UnaryOperator.{UnaryOperator}
use Rattle.c_syntax_spec.specs.declared.BinaryOperator.{BinaryOperator}
use Rattle.c_syntax_spec.specs.declared.IntegerType.{IntegerType}
use Rattle.c_syntax_spec.specs.Expression as tree
use Rattle.c_syntax.specs.declared.expression.Expression.TheOpen as layer
use Rattle.c_syntax.specs.declared.expression.TypeSpecifier.{TypeSpecifier, fold-roll-TypeSpecifier}
use Rattle.c_syntax.specs.declared.expression.TypeSpecifier.TheVariants as type_specifier_made
use Rattle.c_syntax.specs.declared.expression.Name.{Name}
use Rattle.c_syntax.specs.declared.expression.Storage.{Storage}
use Rattle.c_syntax.specs.declared.expression.Expression.{Expression, fold-roll-Expression}
use Rattle.c_syntax.specs.declared.expression.Expression.TheVariants as made
use Rattle.c_syntax.specs.declared.expression.Specifiers.{Specifiers, roll-Specifiers, fold-roll-Specifiers}
use Rattle.c_syntax.specs.declared.expression.TypeName.{TypeName, roll-TypeName, fold-roll-TypeName}
use Rattle.c_syntax.specs.declared.expression.Declarator.{Declarator, roll-Declarator, fold-roll-Declarator}
use Rattle.c_syntax.specs.declared.expression.Dimensions.{Dimensions, roll-Dimensions, fold-roll-Dimensions}
use Rattle.c_syntax.specs.declared.expression.Member.{Member, roll-Member, fold-roll-Member}
use Rattle.c_syntax.specs.declared.expression.Constant.{Constant, roll-Constant, fold-roll-Constant}
use Rattle.c_syntax.specs.Names.{name_of, storage_of}
use Rattle.c_syntax.specs.Expressions.{expression_of, type_name_of, specifiers_of, type_specifier_of, member_of, constant_of, declarator_of, dimensions_of, expressions_of, declarators_of, members_of, constants_of, unboxed, expressions_in, declarators_in, members_in, constants_in, value_in, type_specifier_step, expression_step, constant_step, declarator_step, dimensions_step, member_step, specifiers_step, type_name_step}

-- what boxes hold, where each is mapped
pub unboxed-mapped : {X Y : Type 0} (g : Box X Global → Box Y Global) (f : X → Y) → ((b : Box X Global) → (g b).value ≡ f b.value) → (items : List (Box X Global)) → map (λ b. b.value) (map g items) ≡ map f (map (λ b. b.value) items)
unboxed-mapped g f same [] = refl
unboxed-mapped g f same (b ∷ items) = ap (λ x. x ∷ map (λ c. c.value) (map g items)) (same b) ∙ ap (λ xs. f b.value ∷ xs) (unboxed-mapped g f same items)

pub Bracketed-view : (inner : Box Expression Global) (offset : ℕ) → expression_of (made.Bracketed inner offset) ≡ tree.Bracketed (expression_of inner.value) offset
unfolding expression_of type_name_of specifiers_of type_specifier_of member_of constant_of declarator_of dimensions_of
Bracketed-view inner offset = ap expression_of (sym (made.rolls-Bracketed inner offset)) ∙ fold-roll-Expression _ _ _ _ _ _ _ _ expression_step type_specifier_step constant_step declarator_step dimensions_step member_step specifiers_step type_name_step (layer.Bracketed inner offset)

pub Index-view : (base : Box Expression Global) (index : Box Expression Global) (offset : ℕ) → expression_of (made.Index base index offset) ≡ tree.Index (expression_of base.value) (expression_of index.value) offset
unfolding expression_of type_name_of specifiers_of type_specifier_of member_of constant_of declarator_of dimensions_of
Index-view base index offset = ap expression_of (sym (made.rolls-Index base index offset)) ∙ fold-roll-Expression _ _ _ _ _ _ _ _ expression_step type_specifier_step constant_step declarator_step dimensions_step member_step specifiers_step type_name_step (layer.Index base index offset)

pub Member-view : (base : Box Expression Global) (access : Access) (member : Name) (offset : ℕ) → expression_of (made.Member base access member offset) ≡ tree.Member (expression_of base.value) access (name_of member) offset
unfolding expression_of type_name_of specifiers_of type_specifier_of member_of constant_of declarator_of dimensions_of
Member-view base access member offset = ap expression_of (sym (made.rolls-Member base access member offset)) ∙ fold-roll-Expression _ _ _ _ _ _ _ _ expression_step type_specifier_step constant_step declarator_step dimensions_step member_step specifiers_step type_name_step (layer.Member base access member offset)

pub Unary-view : (operator : UnaryOperator) (operand : Box Expression Global) (offset : ℕ) → expression_of (made.Unary operator operand offset) ≡ tree.Unary operator (expression_of operand.value) offset
unfolding expression_of type_name_of specifiers_of type_specifier_of member_of constant_of declarator_of dimensions_of
Unary-view operator operand offset = ap expression_of (sym (made.rolls-Unary operator operand offset)) ∙ fold-roll-Expression _ _ _ _ _ _ _ _ expression_step type_specifier_step constant_step declarator_step dimensions_step member_step specifiers_step type_name_step (layer.Unary operator operand offset)

pub Sizeof-view : (operand : Box Expression Global) (offset : ℕ) → expression_of (made.Sizeof operand offset) ≡ tree.Sizeof (expression_of operand.value) offset
unfolding expression_of type_name_of specifiers_of type_specifier_of member_of constant_of declarator_of dimensions_of
Sizeof-view operand offset = ap expression_of (sym (made.rolls-Sizeof operand offset)) ∙ fold-roll-Expression _ _ _ _ _ _ _ _ expression_step type_specifier_step constant_step declarator_step dimensions_step member_step specifiers_step type_name_step (layer.Sizeof operand offset)

pub SizeofType-view : (type : Box TypeName Global) (offset : ℕ) → expression_of (made.SizeofType type offset) ≡ tree.SizeofType (type_name_of type.value) offset
unfolding expression_of type_name_of specifiers_of type_specifier_of member_of constant_of declarator_of dimensions_of
SizeofType-view type offset = ap expression_of (sym (made.rolls-SizeofType type offset)) ∙ fold-roll-Expression _ _ _ _ _ _ _ _ expression_step type_specifier_step constant_step declarator_step dimensions_step member_step specifiers_step type_name_step (layer.SizeofType type offset)

pub Cast-view : (type : Box TypeName Global) (operand : Box Expression Global) (offset : ℕ) → expression_of (made.Cast type operand offset) ≡ tree.Cast (type_name_of type.value) (expression_of operand.value) offset
unfolding expression_of type_name_of specifiers_of type_specifier_of member_of constant_of declarator_of dimensions_of
Cast-view type operand offset = ap expression_of (sym (made.rolls-Cast type operand offset)) ∙ fold-roll-Expression _ _ _ _ _ _ _ _ expression_step type_specifier_step constant_step declarator_step dimensions_step member_step specifiers_step type_name_step (layer.Cast type operand offset)

pub Binary-view : (operator : BinaryOperator) (left : Box Expression Global) (right : Box Expression Global) (offset : ℕ) → expression_of (made.Binary operator left right offset) ≡ tree.Binary operator (expression_of left.value) (expression_of right.value) offset
unfolding expression_of type_name_of specifiers_of type_specifier_of member_of constant_of declarator_of dimensions_of
Binary-view operator left right offset = ap expression_of (sym (made.rolls-Binary operator left right offset)) ∙ fold-roll-Expression _ _ _ _ _ _ _ _ expression_step type_specifier_step constant_step declarator_step dimensions_step member_step specifiers_step type_name_step (layer.Binary operator left right offset)

pub Conditional-view : (test : Box Expression Global) (first : Box Expression Global) (second : Box Expression Global) (offset : ℕ) → expression_of (made.Conditional test first second offset) ≡ tree.Conditional (expression_of test.value) (expression_of first.value) (expression_of second.value) offset
unfolding expression_of type_name_of specifiers_of type_specifier_of member_of constant_of declarator_of dimensions_of
Conditional-view test first second offset = ap expression_of (sym (made.rolls-Conditional test first second offset)) ∙ fold-roll-Expression _ _ _ _ _ _ _ _ expression_step type_specifier_step constant_step declarator_step dimensions_step member_step specifiers_step type_name_step (layer.Conditional test first second offset)

pub Named-view : (name : Name) → expression_of (made.Named name) ≡ tree.Named (name_of name)
unfolding expression_of type_name_of specifiers_of type_specifier_of member_of constant_of declarator_of dimensions_of
Named-view name = ap expression_of (sym (made.rolls-Named name)) ∙ fold-roll-Expression _ _ _ _ _ _ _ _ expression_step type_specifier_step constant_step declarator_step dimensions_step member_step specifiers_step type_name_step (layer.Named name)

pub Number-view : (value : ℕ) (type : NumberType) (offset : ℕ) → expression_of (made.Number value type offset) ≡ tree.Number value type offset
unfolding expression_of type_name_of specifiers_of type_specifier_of member_of constant_of declarator_of dimensions_of
Number-view value type offset = ap expression_of (sym (made.rolls-Number value type offset)) ∙ fold-roll-Expression _ _ _ _ _ _ _ _ expression_step type_specifier_step constant_step declarator_step dimensions_step member_step specifiers_step type_name_step (layer.Number value type offset)

pub Character-view : (value : ℕ) (offset : ℕ) → expression_of (made.Character value offset) ≡ tree.Character value offset
unfolding expression_of type_name_of specifiers_of type_specifier_of member_of constant_of declarator_of dimensions_of
Character-view value offset = ap expression_of (sym (made.rolls-Character value offset)) ∙ fold-roll-Expression _ _ _ _ _ _ _ _ expression_step type_specifier_step constant_step declarator_step dimensions_step member_step specifiers_step type_name_step (layer.Character value offset)

pub Void-view : type_specifier_of type_specifier_made.Void ≡ tree.Void
unfolding expression_of type_name_of specifiers_of type_specifier_of member_of constant_of declarator_of dimensions_of
Void-view = ap type_specifier_of (sym type_specifier_made.rolls-Void) ∙ fold-roll-TypeSpecifier _ _ _ _ _ _ _ _ expression_step type_specifier_step constant_step declarator_step dimensions_step member_step specifiers_step type_name_step layer.Void

pub Integer-view : (type : IntegerType) → type_specifier_of (type_specifier_made.Integer type) ≡ tree.Integer type
unfolding expression_of type_name_of specifiers_of type_specifier_of member_of constant_of declarator_of dimensions_of
Integer-view type = ap type_specifier_of (sym (type_specifier_made.rolls-Integer type)) ∙ fold-roll-TypeSpecifier _ _ _ _ _ _ _ _ expression_step type_specifier_step constant_step declarator_step dimensions_step member_step specifiers_step type_name_step (layer.Integer type)

pub TypedefName-view : (name : Name) → type_specifier_of (type_specifier_made.TypedefName name) ≡ tree.TypedefName (name_of name)
unfolding expression_of type_name_of specifiers_of type_specifier_of member_of constant_of declarator_of dimensions_of
TypedefName-view name = ap type_specifier_of (sym (type_specifier_made.rolls-TypedefName name)) ∙ fold-roll-TypeSpecifier _ _ _ _ _ _ _ _ expression_step type_specifier_step constant_step declarator_step dimensions_step member_step specifiers_step type_name_step (layer.TypedefName name)

pub StructTag-view : (tag : Name) → type_specifier_of (type_specifier_made.StructTag tag) ≡ tree.StructTag (name_of tag)
unfolding expression_of type_name_of specifiers_of type_specifier_of member_of constant_of declarator_of dimensions_of
StructTag-view tag = ap type_specifier_of (sym (type_specifier_made.rolls-StructTag tag)) ∙ fold-roll-TypeSpecifier _ _ _ _ _ _ _ _ expression_step type_specifier_step constant_step declarator_step dimensions_step member_step specifiers_step type_name_step (layer.StructTag tag)

pub Struct-view : (tag : Option Name) (members : Vec (Box Member Global) Global) → type_specifier_of (type_specifier_made.Struct tag members) ≡ tree.Struct (option_map name_of tag) (members_in members)
unfolding expression_of type_name_of specifiers_of type_specifier_of member_of constant_of declarator_of dimensions_of
Struct-view tag members = ap type_specifier_of (sym (type_specifier_made.rolls-Struct tag members)) ∙ fold-roll-TypeSpecifier _ _ _ _ _ _ _ _ expression_step type_specifier_step constant_step declarator_step dimensions_step member_step specifiers_step type_name_step (layer.Struct tag members) ∙ ap (λ l. tree.Struct (option_map name_of tag) (members_of l)) (unboxed-mapped _ member_of (λ b. refl) members.items)

pub EnumTag-view : (tag : Name) → type_specifier_of (type_specifier_made.EnumTag tag) ≡ tree.EnumTag (name_of tag)
unfolding expression_of type_name_of specifiers_of type_specifier_of member_of constant_of declarator_of dimensions_of
EnumTag-view tag = ap type_specifier_of (sym (type_specifier_made.rolls-EnumTag tag)) ∙ fold-roll-TypeSpecifier _ _ _ _ _ _ _ _ expression_step type_specifier_step constant_step declarator_step dimensions_step member_step specifiers_step type_name_step (layer.EnumTag tag)

pub Enum-view : (tag : Option Name) (constants : Vec (Box Constant Global) Global) → type_specifier_of (type_specifier_made.Enum tag constants) ≡ tree.Enum (option_map name_of tag) (constants_in constants)
unfolding expression_of type_name_of specifiers_of type_specifier_of member_of constant_of declarator_of dimensions_of
Enum-view tag constants = ap type_specifier_of (sym (type_specifier_made.rolls-Enum tag constants)) ∙ fold-roll-TypeSpecifier _ _ _ _ _ _ _ _ expression_step type_specifier_step constant_step declarator_step dimensions_step member_step specifiers_step type_name_step (layer.Enum tag constants) ∙ ap (λ l. tree.Enum (option_map name_of tag) (constants_of l)) (unboxed-mapped _ constant_of (λ b. refl) constants.items)

pub Member-struct-view : (specifiers : Box Specifiers Global) (declarators : Vec (Box Declarator Global) Global) → member_of (roll-Member (record { specifiers = specifiers; declarators = declarators })) ≡ (specifiers_of specifiers.value, declarators_in declarators)
unfolding expression_of type_name_of specifiers_of type_specifier_of member_of constant_of declarator_of dimensions_of
Member-struct-view specifiers declarators = fold-roll-Member _ _ _ _ _ _ _ _ expression_step type_specifier_step constant_step declarator_step dimensions_step member_step specifiers_step type_name_step (record { specifiers = specifiers; declarators = declarators }) ∙ ap (λ l. (specifiers_of specifiers.value, declarators_of l)) (unboxed-mapped _ declarator_of (λ b. refl) declarators.items)

pub Declarator-struct-view : (pointers : ℕ) (name : Name) (dimensions : Box Dimensions Global) → declarator_of (roll-Declarator (record { pointers = pointers; name = name; dimensions = dimensions })) ≡ tree.Declared pointers (name_of name) (dimensions_of dimensions.value).0 (dimensions_of dimensions.value).1
unfolding expression_of type_name_of specifiers_of type_specifier_of member_of constant_of declarator_of dimensions_of
Declarator-struct-view pointers name dimensions = fold-roll-Declarator _ _ _ _ _ _ _ _ expression_step type_specifier_step constant_step declarator_step dimensions_step member_step specifiers_step type_name_step (record { pointers = pointers; name = name; dimensions = dimensions })

pub Dimensions-struct-view : (is_open : Bool) (lengths : Vec (Box Expression Global) Global) → dimensions_of (roll-Dimensions (record { is_open = is_open; lengths = lengths })) ≡ (is_open, expressions_in lengths)
unfolding expression_of type_name_of specifiers_of type_specifier_of member_of constant_of declarator_of dimensions_of
Dimensions-struct-view is_open lengths = fold-roll-Dimensions _ _ _ _ _ _ _ _ expression_step type_specifier_step constant_step declarator_step dimensions_step member_step specifiers_step type_name_step (record { is_open = is_open; lengths = lengths }) ∙ ap (λ l. (is_open, expressions_of l)) (unboxed-mapped _ expression_of (λ b. refl) lengths.items)

pub Specifiers-struct-view : (storage : Storage) (base : Box TypeSpecifier Global) (offset : ℕ) → specifiers_of (roll-Specifiers (record { storage = storage; base = base; offset = offset })) ≡ tree.Specified (storage_of storage) (type_specifier_of base.value) offset
unfolding expression_of type_name_of specifiers_of type_specifier_of member_of constant_of declarator_of dimensions_of
Specifiers-struct-view storage base offset = fold-roll-Specifiers _ _ _ _ _ _ _ _ expression_step type_specifier_step constant_step declarator_step dimensions_step member_step specifiers_step type_name_step (record { storage = storage; base = base; offset = offset })

pub TypeName-struct-view : (specifiers : Box Specifiers Global) (pointers : ℕ) → type_name_of (roll-TypeName (record { specifiers = specifiers; pointers = pointers })) ≡ tree.Pointers (specifiers_of specifiers.value) pointers
unfolding expression_of type_name_of specifiers_of type_specifier_of member_of constant_of declarator_of dimensions_of
TypeName-struct-view specifiers pointers = fold-roll-TypeName _ _ _ _ _ _ _ _ expression_step type_specifier_step constant_step declarator_step dimensions_step member_step specifiers_step type_name_step (record { specifiers = specifiers; pointers = pointers })

pub Constant-struct-view : (name : Name) (value : Option (Box Expression Global)) → constant_of (roll-Constant (record { name = name; value = value })) ≡ (name_of name, value_in value)
unfolding expression_of type_name_of specifiers_of type_specifier_of member_of constant_of declarator_of dimensions_of
Constant-struct-view name None = fold-roll-Constant _ _ _ _ _ _ _ _ expression_step type_specifier_step constant_step declarator_step dimensions_step member_step specifiers_step type_name_step (record { name = name; value = None })
Constant-struct-view name (Some x) = fold-roll-Constant _ _ _ _ _ _ _ _ expression_step type_specifier_step constant_step declarator_step dimensions_step member_step specifiers_step type_name_step (record { name = name; value = Some x })

pub ruleset views = (Bracketed-view, Index-view, Member-view, Unary-view, Sizeof-view, SizeofType-view, Cast-view, Binary-view, Conditional-view, Named-view, Number-view, Character-view, Void-view, Integer-view, TypedefName-view, StructTag-view, Struct-view, EnumTag-view, Enum-view, Member-struct-view, Declarator-struct-view, Dimensions-struct-view, Specifiers-struct-view, TypeName-struct-view, Constant-struct-view)
