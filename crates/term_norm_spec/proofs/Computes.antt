-- What a proof unfolds to compute a normal form that is written out.
use Rattle.std.specs.Prelude.{⊤}
use Rattle.term_core_spec.specs.Value.{unary_value, binary_value, quaternary_value, operation}
use Rattle.term_core_spec.specs.Same.{same_term}
use Rattle.memory_spec.specs.Runs.{fixed_byte}
use Rattle.term_norm_spec.specs.Patterns.{width_of, is_constant, is_true, is_false, is_zero, is_one, is_full, known, number_of, constant_of, under_not, under_complement, under_extension, base, offset, part, under_first_byte, are_bytes_of, is_source_memory}
use Rattle.term_norm_spec.specs.Normal.{normal_not, normal_complement, normal_and, normal_or, normal_bit_and, normal_bit_or, normal_bit_xor, with_constant, add_constant, normal_add, normal_subtract, multiply_constant, normal_multiply, normal_equal, normal_less, normal_choose, normal_shift, normal_extend, normal_low, normal_byte, normal_join, load_of_variable, normal_load, normal_unary, normal_word, normal_binary, normal_ternary, normal_quaternary, normal}

unfoldable pub forms_compute : ⊤
unfolding unary_value binary_value quaternary_value operation same_term fixed_byte width_of is_constant is_true is_false is_zero is_one is_full known number_of constant_of under_not under_complement under_extension base offset part under_first_byte are_bytes_of is_source_memory normal_not normal_complement normal_and normal_or normal_bit_and normal_bit_or normal_bit_xor with_constant add_constant normal_add normal_subtract multiply_constant normal_multiply normal_equal normal_less normal_choose normal_shift normal_extend normal_low normal_byte normal_join load_of_variable normal_load normal_unary normal_word normal_binary normal_ternary normal_quaternary normal
forms_compute = tt
