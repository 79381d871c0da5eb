use Rattle.std.proofs.Common.{refl}
use Rattle.c_types_spec.specs.Types.{size_of, same_type, alignment_of, is_wide}
use Rattle.c_types_spec.specs.Values.{converted, arithmetic_value, comparison_value}
use Rattle.c_types_spec.specs.Core.{constant_value}
use Rattle.c_types_spec.specs.Operands.{convert, displaced, loaded, read_local, value_of, is_null, converts, assigned, scalar_value, integer_constant}
use Rattle.c_types_spec.specs.Operators.{arithmetic, shift, moved, sum, difference, relation, equality, conjunction, disjunction, binary_rule, address_of, dereferenced, plus, minus, complement, negation, unary_rule, subscript, dot, arrow, cast, size_operand, conditional}
use Rattle.c_types_spec.specs.Declarations.{named, number_operand, typedef_named, struct_named, enum_named, struct_begun, new_tag, enum_finished, enumerator, member}
use Rattle.c_types_spec.specs.Expressions.{pointers_to, array_length, struct_finished, expression}
use Rattle.c_types_laws.proofs.examples.operators_have_types.Goals as goal

pub returns : goal.returns
unfolding size_of same_type alignment_of is_wide converted arithmetic_value comparison_value constant_value convert displaced loaded read_local value_of is_null converts assigned scalar_value integer_constant arithmetic shift moved sum difference relation equality conjunction disjunction binary_rule address_of dereferenced plus minus complement negation unary_rule subscript dot arrow cast size_operand conditional named number_operand typedef_named struct_named enum_named struct_begun new_tag enum_finished enumerator member pointers_to array_length struct_finished expression
returns c = (refl, refl, refl, refl)
