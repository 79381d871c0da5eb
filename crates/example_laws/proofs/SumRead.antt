-- The text of the first source is C: its tokens, its tree and its typed core.
use Rattle.std.proofs.Common.{◌≡◌, List, None, Ok, refl}
use Rattle.c_token_spec.specs.Words.{keyword_of}
use Rattle.c_token_spec.specs.Numbers.{number_of}
use Rattle.c_token_spec.specs.Punctuators.{punctuator_of}
use Rattle.c_token_spec.specs.Lexical.{first_piece, AreTokens}
use Rattle.c_parse_spec.specs.Expressions.{integer_type_of}
use Rattle.c_parse_spec.specs.Faults.{IsUnit}
use Rattle.c_parse_laws.specs.Fuel.{parsers}
use Rattle.c_parse_laws.specs.Statements.{read_statement}
use Rattle.c_parse_laws.specs.Initializers.{read_initial}
use Rattle.c_parse_laws.specs.Units.{read_unit}
use Rattle.c_parse_laws.specs.UnitExactness.{UnitExact}
use Rattle.c_parse_laws.proofs.UnitAll.{unit-is_exact}
use Rattle.c_types_spec.specs.Types.{size_of, same_type, alignment_of, is_wide}
use Rattle.c_types_spec.specs.Values.{converted, arithmetic_value, comparison_value}
use Rattle.c_types_spec.specs.Core.{constant_value}
use Rattle.c_types_spec.specs.Operands.{convert, displaced, loaded, read_local, value_of, is_null, converts, assigned, scalar_value, integer_constant}
use Rattle.c_types_spec.specs.Operators.{arithmetic, shift, moved, sum, difference, relation, equality, conjunction, disjunction, binary_rule, address_of, dereferenced, plus, minus, complement, negation, unary_rule, subscript, dot, arrow, cast, size_operand, conditional}
use Rattle.c_types_spec.specs.Declarations.{named, number_operand, typedef_named, struct_named, enum_named, struct_begun, new_tag, enum_finished, enumerator, member, local, parameter, typedef, object, function}
use Rattle.c_types_spec.specs.Expressions.{pointers_to, array_length, struct_finished, expression}
use Rattle.c_types_spec.specs.Statements.{stored, assignment, current, compound, arguments, passed, call, call_assignment, assigned_from, evaluated, simple, initial, declared_local, declared_locals, declaration, returned_from, condition, for_start, for_test, for_step, label, labels, exits, switch_test, statement, locals_in}
use Rattle.c_types_spec.specs.Units.{declared_parameter, parameters, declared_function, defined_function, declared_object, global, globals, external_declaration, external_declarations, typed}
use Rattle.c_parse_spec.specs.Initials.{definition_in}
use Rattle.validity_spec.specs.Source.{IsC}
use Rattle.example_laws.specs.Sum.{sum_text, sum_tokens, sum_tree, sum_unit}
use Rattle.example_laws.proofs.Lexed.{lexed, tokens_are}

lexes : AreTokens sum_text sum_tokens
unfolding lexed first_piece keyword_of number_of punctuator_of
lexes = tokens_are 24 sum_text sum_tokens refl

reads : read_unit sum_tokens ≡ Ok sum_tree
unfolding parsers integer_type_of read_statement read_initial
reads = refl

parses : UnitExact → IsUnit sum_tokens sum_tree
parses exact = exact.found sum_tokens sum_tree reads

defines_nothing : definition_in sum_tokens ≡ None
unfolding definition_in
defines_nothing = refl

has_types : typed sum_tree ≡ Ok sum_unit
unfolding size_of same_type alignment_of is_wide converted arithmetic_value comparison_value constant_value convert displaced loaded read_local value_of is_null converts assigned scalar_value integer_constant arithmetic shift moved sum difference relation equality conjunction disjunction binary_rule address_of dereferenced plus minus complement negation unary_rule subscript dot arrow cast size_operand conditional named number_operand typedef_named struct_named enum_named struct_begun new_tag enum_finished enumerator member local parameter typedef object function pointers_to array_length struct_finished expression stored assignment current compound arguments passed call call_assignment assigned_from evaluated simple initial declared_local declared_locals declaration returned_from condition for_start for_test for_step label labels exits switch_test statement locals_in declared_parameter parameters declared_function defined_function declared_object global globals external_declaration external_declarations typed
has_types = refl

pub is_source : IsC sum_text sum_unit
is_source = record {
  tree = sum_tree;
  derives = record { tokens = sum_tokens; lexes = lexes; parses = parses unit-is_exact };
  defines_nothing = record { tokens = sum_tokens; lexes = lexes; nowhere = defines_nothing };
  has_types = has_types;
}
