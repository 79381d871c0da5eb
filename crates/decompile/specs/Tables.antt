-- The nodes of a jump by a table, one after the other.
use Rattle.std.specs.Prelude.{ℕ, ◌+◌, ◌*◌, ◌==◌, if◌then◌else◌}
use Rattle.elf_read_spec.specs.Image.{Image}
use Rattle.code_reach_tables.specs.declared.tables.TableJump.{TableJump}
use Rattle.code_reach_tables.specs.Tables.{target_at}
use Rattle.term_core_spec.specs.Term.{open_term, equal}
use Rattle.graph_core_spec.specs.declared.Next.{Next}
use Rattle.graph_core_spec.specs.declared.Next.TheVariants as next
use Rattle.graph_core_spec.specs.Graph.{Node, Cond}
use Rattle.decompile_spec.specs.State.{table_index}
use Rattle.decompile_spec.specs.InstructionTerms.{number}
use Rattle.decompile_spec.specs.Blocks.{Of, Setting, toward}

-- on to the test after that of an index; after the last one, an error
abbrev pub after_index : Setting → (address : ℕ) → TableJump → (n : ℕ) → Next
after_index f address jump n = if n + 1 == jump.count then next.Err else next.At (f.at (Of address (n + 1)))

-- the test of an index, which goes to the word of the table at that index
abbrev pub index_node : Setting → Image → (address : ℕ) → TableJump → (n : ℕ) → Node
index_node f image address jump n =
    Cond (equal (open_term table_index) (number n)) (toward f (target_at image (jump.first + 4 * n))) (after_index f address jump n)
