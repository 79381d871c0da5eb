use Rattle.std.proofs.Common.{◌≡◌, ℕ, refl, Option, Some, None}
use Rattle.std.specs.Prelude.{IsSome}
use Rattle.elf_read_spec.specs.Image.{size_at}
use Rattle.decompile_laws.proofs.Running.{return_together}
use Rattle.decompile_laws.proofs.runs.machine_and_graphs_return_together.Goals as goal

-- the size that a function has
some_size : (o : Option ℕ) → IsSome o → (size : ℕ) × (o ≡ Some size)
some_size (Some size) is = (size, refl)
some_size None is = absurd (cc)

pub returns : goal.returns
returns c = λ image entry n graphs m values start even outside.
    let size = some_size (size_at image entry) start.is_function in
    return_together image entry size.0 n graphs m values size.1 start.no_fault start.whole start.alike even outside
