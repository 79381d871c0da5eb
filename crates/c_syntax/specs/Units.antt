-- The tree of a unit without the program's pointers.
use Rattle.std.specs.Prelude.{map}
use Rattle.std.specs.Option.{option_map}
use Rattle.c_syntax_spec.specs.Unit as tree
use Rattle.c_syntax.specs.Names.{name_of}
use Rattle.c_syntax.specs.Expressions.{specifiers_of, declarator_of, dimensions_of, unboxed}
use Rattle.c_syntax.specs.declared.unit.Parameter.{Parameter}
use Rattle.c_syntax.specs.declared.unit.FunctionDeclarator.{FunctionDeclarator}
use Rattle.c_syntax.specs.declared.unit.Global.{Global}
use Rattle.c_syntax.specs.declared.unit.Global.TheVariants.{Object, Function}
use Rattle.c_syntax.specs.declared.unit.ExternalDeclaration.{ExternalDeclaration}
use Rattle.c_syntax.specs.declared.unit.ExternalDeclaration.TheVariants.{Empty, Declaration, Definition}
use Rattle.c_syntax.specs.declared.unit.TranslationUnit.{TranslationUnit}
use Rattle.c_syntax.specs.Statements.{parts_in}

abbrev pub parameter_of : Parameter → tree.Parameter
parameter_of parameter = record {
  specifiers = specifiers_of parameter.specifiers.value;
  pointers = parameter.pointers;
  name = option_map name_of parameter.name;
  is_open = (dimensions_of parameter.dimensions.value).0;
  lengths = (dimensions_of parameter.dimensions.value).1;
}

abbrev pub function_of : FunctionDeclarator → tree.FunctionDeclarator
function_of declarator = record { pointers = declarator.pointers; name = name_of declarator.name; parameters = map parameter_of (unboxed declarator.parameters) }

abbrev pub global_of : Global → tree.Global
global_of (Object declarator) = tree.Object (declarator_of declarator.value)
global_of (Function declarator) = tree.Function (function_of declarator.value)

abbrev pub external_declaration_of : ExternalDeclaration → tree.ExternalDeclaration
external_declaration_of Empty = tree.EmptyDeclaration
external_declaration_of (Declaration specifiers globals) = tree.Declaration (specifiers_of specifiers.value) (map global_of (unboxed globals))
external_declaration_of (Definition specifiers declarator body close) = tree.Definition (specifiers_of specifiers.value) (function_of declarator.value) (parts_in body) close

abbrev pub unit_of : TranslationUnit → tree.TranslationUnit
unit_of unit = map external_declaration_of (unboxed unit.items)
