-- The tree of an expression, a type and their parts without the program's pointers.
use Rattle.std.specs.Prelude.{List, [], ◌∷◌, Bool, Option, Some, None, option_map, map, Vec}
use Rattle.std.specs.declared.alloc.Global.{Global}
use Rattle.std.specs.declared.boxed.Box.{Box}
use Rattle.c_syntax_spec.specs.Expression as tree
use Rattle.c_syntax.specs.declared.expression.TypeSpecifier.{TypeSpecifier, TypeSpecifier-F, fold-TypeSpecifier}
use Rattle.c_syntax.specs.declared.expression.Expression.TheOpen as open_tree
use Rattle.c_syntax.specs.declared.expression.Expression.{Expression, Expression-F, fold-Expression}
use Rattle.c_syntax.specs.declared.expression.Constant.{Constant, Constant-F, fold-Constant}
use Rattle.c_syntax.specs.declared.expression.Declarator.{Declarator, Declarator-F, fold-Declarator}
use Rattle.c_syntax.specs.declared.expression.Dimensions.{Dimensions, Dimensions-F, fold-Dimensions}
use Rattle.c_syntax.specs.declared.expression.Member.{Member, Member-F, fold-Member}
use Rattle.c_syntax.specs.declared.expression.Specifiers.{Specifiers, Specifiers-F, fold-Specifiers}
use Rattle.c_syntax.specs.declared.expression.TypeName.{TypeName, TypeName-F, fold-TypeName}
use Rattle.c_syntax.specs.Names.{name_of, storage_of}

-- lists of the program, and of the tree
abbrev pub expressions_of : List tree.Expression → tree.Expressions
expressions_of [] = tree.no_expressions
expressions_of (x ∷ xs) = tree.expressions x (expressions_of xs)

abbrev pub declarators_of : List tree.Declarator → tree.Declarators
declarators_of [] = tree.no_declarators
declarators_of (x ∷ xs) = tree.declarators x (declarators_of xs)

abbrev pub members_of : List (tree.Specifiers × tree.Declarators) → tree.Members
members_of [] = tree.no_members
members_of (x ∷ xs) = tree.members x.0 x.1 (members_of xs)

abbrev pub constant_before : tree.Name × Option tree.Expression → tree.Constants → tree.Constants
constant_before (name, None) rest = tree.constants name rest
constant_before (name, Some value) rest = tree.constants_with name value rest

abbrev pub constants_of : List (tree.Name × Option tree.Expression) → tree.Constants
constants_of [] = tree.no_constants
constants_of (x ∷ xs) = constant_before x (constants_of xs)

-- what boxes hold
abbrev pub unboxed : {X : Type 0} → Vec (Box X Global) Global → List X
unboxed boxes = map (λ b. b.value) boxes.items

-- one level, whose parts are seen as trees already
abbrev pub type_specifier_step : TypeSpecifier-F tree.Expression tree.TypeSpecifier (tree.Name × Option tree.Expression) tree.Declarator (Bool × tree.Expressions) (tree.Specifiers × tree.Declarators) tree.Specifiers tree.TypeName → tree.TypeSpecifier
type_specifier_step open_tree.Void = tree.Void
type_specifier_step (open_tree.Integer type) = tree.Integer type
type_specifier_step (open_tree.TypedefName name) = tree.TypedefName (name_of name)
type_specifier_step (open_tree.StructTag tag) = tree.StructTag (name_of tag)
type_specifier_step (open_tree.Struct tag members) = tree.Struct (option_map name_of tag) (members_of (unboxed members))
type_specifier_step (open_tree.EnumTag tag) = tree.EnumTag (name_of tag)
type_specifier_step (open_tree.Enum tag constants) = tree.Enum (option_map name_of tag) (constants_of (unboxed constants))

abbrev pub expression_step : Expression-F tree.Expression tree.TypeSpecifier (tree.Name × Option tree.Expression) tree.Declarator (Bool × tree.Expressions) (tree.Specifiers × tree.Declarators) tree.Specifiers tree.TypeName → tree.Expression
expression_step (open_tree.Named name) = tree.Named (name_of name)
expression_step (open_tree.Number value type offset) = tree.Number value type offset
expression_step (open_tree.Character value offset) = tree.Character value offset
expression_step (open_tree.Bracketed inner offset) = tree.Bracketed inner.value offset
expression_step (open_tree.Index base index offset) = tree.Index base.value index.value offset
expression_step (open_tree.Member base access member offset) = tree.Member base.value access (name_of member) offset
expression_step (open_tree.Unary operator operand offset) = tree.Unary operator operand.value offset
expression_step (open_tree.Sizeof operand offset) = tree.Sizeof operand.value offset
expression_step (open_tree.SizeofType type offset) = tree.SizeofType type.value offset
expression_step (open_tree.Cast type operand offset) = tree.Cast type.value operand.value offset
expression_step (open_tree.Binary operator left right offset) = tree.Binary operator left.value right.value offset
expression_step (open_tree.Conditional test first second offset) = tree.Conditional test.value first.value second.value offset

abbrev pub constant_step : Constant-F tree.Expression tree.TypeSpecifier (tree.Name × Option tree.Expression) tree.Declarator (Bool × tree.Expressions) (tree.Specifiers × tree.Declarators) tree.Specifiers tree.TypeName → tree.Name × Option tree.Expression
constant_step constant = (name_of constant.name, option_map (λ b. b.value) constant.value)

abbrev pub declarator_step : Declarator-F tree.Expression tree.TypeSpecifier (tree.Name × Option tree.Expression) tree.Declarator (Bool × tree.Expressions) (tree.Specifiers × tree.Declarators) tree.Specifiers tree.TypeName → tree.Declarator
declarator_step declarator = tree.Declared declarator.pointers (name_of declarator.name) declarator.dimensions.value.0 declarator.dimensions.value.1

abbrev pub dimensions_step : Dimensions-F tree.Expression tree.TypeSpecifier (tree.Name × Option tree.Expression) tree.Declarator (Bool × tree.Expressions) (tree.Specifiers × tree.Declarators) tree.Specifiers tree.TypeName → Bool × tree.Expressions
dimensions_step dimensions = (dimensions.is_open, expressions_of (unboxed dimensions.lengths))

abbrev pub member_step : Member-F tree.Expression tree.TypeSpecifier (tree.Name × Option tree.Expression) tree.Declarator (Bool × tree.Expressions) (tree.Specifiers × tree.Declarators) tree.Specifiers tree.TypeName → tree.Specifiers × tree.Declarators
member_step member = (member.specifiers.value, declarators_of (unboxed member.declarators))

abbrev pub specifiers_step : Specifiers-F tree.Expression tree.TypeSpecifier (tree.Name × Option tree.Expression) tree.Declarator (Bool × tree.Expressions) (tree.Specifiers × tree.Declarators) tree.Specifiers tree.TypeName → tree.Specifiers
specifiers_step specifiers = tree.Specified (storage_of specifiers.storage) specifiers.base.value specifiers.offset

abbrev pub type_name_step : TypeName-F tree.Expression tree.TypeSpecifier (tree.Name × Option tree.Expression) tree.Declarator (Bool × tree.Expressions) (tree.Specifiers × tree.Declarators) tree.Specifiers tree.TypeName → tree.TypeName
type_name_step type = tree.Pointers type.specifiers.value type.pointers

unfoldable pub type_specifier_of : TypeSpecifier → tree.TypeSpecifier
type_specifier_of = fold-TypeSpecifier tree.Expression tree.TypeSpecifier (tree.Name × Option tree.Expression) tree.Declarator (Bool × tree.Expressions) (tree.Specifiers × tree.Declarators) tree.Specifiers tree.TypeName expression_step type_specifier_step constant_step declarator_step dimensions_step member_step specifiers_step type_name_step

unfoldable pub expression_of : Expression → tree.Expression
expression_of = fold-Expression tree.Expression tree.TypeSpecifier (tree.Name × Option tree.Expression) tree.Declarator (Bool × tree.Expressions) (tree.Specifiers × tree.Declarators) tree.Specifiers tree.TypeName expression_step type_specifier_step constant_step declarator_step dimensions_step member_step specifiers_step type_name_step

unfoldable pub constant_of : Constant → tree.Name × Option tree.Expression
constant_of = fold-Constant tree.Expression tree.TypeSpecifier (tree.Name × Option tree.Expression) tree.Declarator (Bool × tree.Expressions) (tree.Specifiers × tree.Declarators) tree.Specifiers tree.TypeName expression_step type_specifier_step constant_step declarator_step dimensions_step member_step specifiers_step type_name_step

unfoldable pub declarator_of : Declarator → tree.Declarator
declarator_of = fold-Declarator tree.Expression tree.TypeSpecifier (tree.Name × Option tree.Expression) tree.Declarator (Bool × tree.Expressions) (tree.Specifiers × tree.Declarators) tree.Specifiers tree.TypeName expression_step type_specifier_step constant_step declarator_step dimensions_step member_step specifiers_step type_name_step

unfoldable pub dimensions_of : Dimensions → Bool × tree.Expressions
dimensions_of = fold-Dimensions tree.Expression tree.TypeSpecifier (tree.Name × Option tree.Expression) tree.Declarator (Bool × tree.Expressions) (tree.Specifiers × tree.Declarators) tree.Specifiers tree.TypeName expression_step type_specifier_step constant_step declarator_step dimensions_step member_step specifiers_step type_name_step

unfoldable pub member_of : Member → tree.Specifiers × tree.Declarators
member_of = fold-Member tree.Expression tree.TypeSpecifier (tree.Name × Option tree.Expression) tree.Declarator (Bool × tree.Expressions) (tree.Specifiers × tree.Declarators) tree.Specifiers tree.TypeName expression_step type_specifier_step constant_step declarator_step dimensions_step member_step specifiers_step type_name_step

unfoldable pub specifiers_of : Specifiers → tree.Specifiers
specifiers_of = fold-Specifiers tree.Expression tree.TypeSpecifier (tree.Name × Option tree.Expression) tree.Declarator (Bool × tree.Expressions) (tree.Specifiers × tree.Declarators) tree.Specifiers tree.TypeName expression_step type_specifier_step constant_step declarator_step dimensions_step member_step specifiers_step type_name_step

unfoldable pub type_name_of : TypeName → tree.TypeName
type_name_of = fold-TypeName tree.Expression tree.TypeSpecifier (tree.Name × Option tree.Expression) tree.Declarator (Bool × tree.Expressions) (tree.Specifiers × tree.Declarators) tree.Specifiers tree.TypeName expression_step type_specifier_step constant_step declarator_step dimensions_step member_step specifiers_step type_name_step

-- the values in boxes
abbrev pub expressions_in : Vec (Box Expression Global) Global → tree.Expressions
expressions_in boxes = expressions_of (map expression_of (unboxed boxes))

abbrev pub declarators_in : Vec (Box Declarator Global) Global → tree.Declarators
declarators_in boxes = declarators_of (map declarator_of (unboxed boxes))

abbrev pub members_in : Vec (Box Member Global) Global → tree.Members
members_in boxes = members_of (map member_of (unboxed boxes))

abbrev pub constants_in : Vec (Box Constant Global) Global → tree.Constants
constants_in boxes = constants_of (map constant_of (unboxed boxes))

abbrev pub value_in : Option (Box Expression Global) → Option tree.Expression
value_in value = option_map (λ b. expression_of b.value) value
