-- What a proof unfolds to compute the nodes of a word.
use Rattle.std.specs.Prelude.{⊤}
use Rattle.rv_instr.specs.Instr.{instr, instr_of, instr_of_immediate}
use Rattle.decompile_spec.specs.InstructionTerms.{computed, taken, loaded, stored, effects, branch_test}
use Rattle.decompile_spec.specs.Blocks.{toward, chain, table_tests, tests_of, ending_of, nodes_at, landing_of}

unfoldable pub nodes_compute : ⊤
unfolding instr instr_of instr_of_immediate computed taken loaded stored effects branch_test toward chain table_tests tests_of ending_of nodes_at landing_of
nodes_compute = tt
