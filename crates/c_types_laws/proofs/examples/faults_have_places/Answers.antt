use Rattle.std.proofs.Common.{refl}
use Rattle.c_types_spec.specs.Types.{size_of, same_type, alignment_of, is_wide}
use Rattle.c_types_spec.specs.Values.{converted, arithmetic_value, comparison_value}
use Rattle.c_types_spec.specs.Core.{constant_value}
use Rattle.c_types_spec.specs.Operands.{convert, displaced, loaded, read_local, value_of, is_null, converts, assigned, scalar_value, integer_constant}
use Rattle.c_types_spec.specs.Operators.{arithmetic, shift, moved, sum, difference, relation, equality, conjunction, disjunction, binary_rule, address_of, dereferenced, plus, minus, complement, negation, unary_rule, subscript, dot, arrow, cast, size_operand, conditional}
use Rattle.c_types_spec.specs.Declarations.{named, number_operand, typedef_named, struct_named, enum_named, struct_begun, new_tag, enum_finished, enumerator, member, local, parameter, typedef, object, function}
use Rattle.c_types_spec.specs.Expressions.{pointers_to, array_length, struct_finished, expression}
use Rattle.c_types_spec.specs.Statements.{stored, assignment, current, compound, arguments, passed, call, call_assignment, assigned_from, evaluated, simple, initial, declared_local, declared_locals, declaration, returned_from, condition, for_start, for_test, for_step, label, labels, exits, switch_test, statement, locals_in}
use Rattle.c_types_spec.specs.Units.{declared_parameter, parameters, declared_function, defined_function, declared_object, global, globals, external_declaration, external_declarations, typed}
use Rattle.c_types_laws.proofs.examples.faults_have_places.Goals as goal

pub returns : goal.returns
unfolding size_of same_type alignment_of is_wide converted arithmetic_value comparison_value constant_value convert displaced loaded read_local value_of is_null converts assigned scalar_value integer_constant arithmetic shift moved sum difference relation equality conjunction disjunction binary_rule address_of dereferenced plus minus complement negation unary_rule subscript dot arrow cast size_operand conditional named number_operand typedef_named struct_named enum_named struct_begun new_tag enum_finished enumerator member local parameter typedef object function pointers_to array_length struct_finished expression stored assignment current compound arguments passed call call_assignment assigned_from evaluated simple initial declared_local declared_locals declaration returned_from condition for_start for_test for_step label labels exits switch_test statement locals_in declared_parameter parameters declared_function defined_function declared_object global globals external_declaration external_declarations typed
returns c = (refl, refl, refl, refl, refl, refl)
