-- What a proof unfolds to compute the clauses of a goal that is written out.
use Rattle.std.specs.Prelude.{⊤}
use Rattle.term_core_spec.specs.Same.{same_term}
use Rattle.bit_blast_spec.specs.Circuits.{each, each_two, fold_gates, and_all, or_all, equal_bits, sum_bits, carry_bit, shift_stages, new_bits}
use Rattle.bit_blast_spec.specs.Goal.{cnf_of, goal_gates, visit, atom_bits, unary_bits, word_bits, binary_bits, ternary_bits, tie, tie_all, tie_memories}

unfoldable pub clauses_compute : ⊤
unfolding cnf_of goal_gates visit atom_bits unary_bits word_bits binary_bits ternary_bits each each_two fold_gates and_all or_all equal_bits sum_bits carry_bit shift_stages new_bits tie tie_all tie_memories same_term
clauses_compute = tt
