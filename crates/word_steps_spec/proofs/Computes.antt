-- What a proof unfolds to compute a block that is written out.
use Rattle.std.specs.Prelude.{⊤}
use Rattle.term_core_spec.specs.Sort.{sort_of, sort_of_atom, sort_of_unary, sort_of_binary, sort_of_ternary, sort_of_quaternary}
use Rattle.term_core_spec.specs.Subterms.{with_subterms}
use Rattle.term_norm_spec.proofs.Computes.{forms_compute}
use Rattle.word_steps_spec.specs.Numbers.{operands, at_places, made, operation_of, number_at, is_number, place_in, known_truth, merged_with, with_now, renew, renew_up_to, is_fact, are_facts}
use Rattle.word_steps_spec.specs.Polynomial.{without, same_atoms, with_atoms, plus_summand, plus, scaled, times_summand, times, lowered, has_small_monomials}
use Rattle.word_steps_spec.specs.Ring.{condition, polynomial_of_operation, polynomial_of_unary, polynomial, one_polynomial, decided_by_polynomials}
use Rattle.word_steps_spec.specs.Sides.{sides_of}
use Rattle.word_steps_spec.specs.Commuting.{is_commutative, arguments_under, same_up_to_order}
use Rattle.word_steps_spec.specs.Bitwise.{all_below, joined_bits, bits_of_operation, bits_of_unary, bits_of, is_among, are_among, unequal_pairs, same_by_bits, has_opposite, decided_by_bits}
use Rattle.word_steps_spec.specs.Order.{least_of_bits, greatest_of_bits, bounds_of_operation, bounds_of, order_of, decided_by_bounds, under_flip, same_by_spelling}
use Rattle.word_steps_spec.specs.LowBits.{form_of, constant_of, known_bits, zeros, mask_length, masked_of, known_forms, from_facts, low_of_summands, decided_by_low}
use Rattle.word_steps_spec.specs.Ranges.{range_of, decided_by_range}
use Rattle.word_steps_spec.specs.Zones.{order_where, either_where, is_inside_by, says_zone, decided_within}
use Rattle.word_steps_spec.specs.Quotients.{greatest_of, under_half, under_byte, wide_product, floor_of, some_below, reach_of, signed_product, upper_signed, signed_floor_of, under_sign, under_signs, rounded_floor, divided_by, under_less, truncated_of, is_nested_division, is_written, under_shift, under_turn, is_inverse_product, under_remainder, divided_of, inverse_sum, under_magnitude, same_by_quotient}
use Rattle.word_steps_spec.specs.Choices.{choice_in, are_choices, is_join, is_lifted_equality, same_by_lifting}
use Rattle.word_steps_spec.specs.Spans.{monomial_interval, polynomial_interval, operator_span, cut_by_facts, span_within, kept_low, kept_high, kept_of, same_by_fit, decided_by_fit}
use Rattle.word_steps_spec.specs.Lines.{merges_by, decided_by, with_places, applied, after_lines, and_all, left}

unfoldable pub blocks_compute : ⊤
unfolding sort_of sort_of_atom sort_of_unary sort_of_binary sort_of_ternary sort_of_quaternary with_subterms forms_compute operands at_places made operation_of number_at is_number place_in known_truth merged_with with_now renew renew_up_to is_fact are_facts without same_atoms with_atoms plus_summand plus scaled times_summand times lowered has_small_monomials condition polynomial_of_operation polynomial_of_unary polynomial sides_of one_polynomial decided_by_polynomials is_commutative arguments_under same_up_to_order all_below joined_bits bits_of_operation bits_of_unary bits_of is_among are_among unequal_pairs same_by_bits has_opposite decided_by_bits least_of_bits greatest_of_bits bounds_of_operation bounds_of order_of decided_by_bounds under_flip same_by_spelling form_of constant_of known_bits zeros mask_length masked_of known_forms from_facts low_of_summands decided_by_low range_of decided_by_range order_where either_where is_inside_by says_zone decided_within greatest_of under_half under_byte wide_product floor_of some_below reach_of signed_product upper_signed signed_floor_of under_sign under_signs rounded_floor divided_by under_less truncated_of is_nested_division is_written under_shift under_turn is_inverse_product under_remainder divided_of inverse_sum under_magnitude same_by_quotient choice_in are_choices is_join is_lifted_equality same_by_lifting monomial_interval polynomial_interval operator_span cut_by_facts span_within kept_low kept_high kept_of same_by_fit decided_by_fit merges_by decided_by with_places applied after_lines and_all left
blocks_compute = tt
