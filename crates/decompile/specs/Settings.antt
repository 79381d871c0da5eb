-- A function as the program has it, and the runs of fixed bytes by their addresses.
use Rattle.std.specs.Prelude.{◌≡◌, ℕ, ◌+◌, ◌^◌, ◌<◌, ◌≤◌, List, [], ◌∷◌, map, All}
use Rattle.elf_read_spec.specs.Image.{Image}
use Rattle.memory_spec.specs.Runs.{Run}
use Rattle.elf_read_spec.specs.Runs.{AreRuns}
use Rattle.elf_read.specs.declared.parts.Extent.{Extent}
use Rattle.term_core_spec.specs.Term.{Term}
use Rattle.graph_core_spec.specs.declared.Next.TheVariants as next
use Rattle.graph_core_spec.specs.Graph.{Node, Cond}
use Rattle.decompile_spec.specs.Blocks.{Setting, Of}
use Rattle.decompile_accesses.specs.Runs.{blanked, run_of}
use Rattle.decompile.specs.Answer.{setting}
use Rattle.decompile.specs.declared.function.Function.{Function}

-- these are the addresses of the runs of fixed bytes
pub record HaveExtents (image : Image) (extents : List Extent) : Type 0 where
  pub runs : List Run
  pub are_runs : AreRuns image runs
  pub ordered : All (λ e. e.first ≤ e.last) extents
  pub below : All (λ e. e.last < 2 ^ 32) extents
  pub same : map run_of extents ≡ map blanked runs

abbrev pub setting_of : Function → Setting
setting_of f = setting f.entry f.size (map run_of f.runs.now) f.entries.now f.firsts.now.entries

-- the nodes of tests, each of which continues at the node after it
unfoldable pub asks : Setting → (address index : ℕ) → List Term → List Node
asks f address index [] = []
asks f address index (test ∷ tests) = Cond test (next.At (f.at (Of address (index + 1)))) next.Err ∷ asks f address (index + 1) tests
