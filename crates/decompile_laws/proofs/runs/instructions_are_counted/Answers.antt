use Rattle.std.proofs.Common.{◌≡◌, ℕ, refl, Option, Some, None}
use Rattle.std.specs.Prelude.{IsSome}
use Rattle.elf_read_spec.specs.Image.{size_at}
use Rattle.decompile_laws.proofs.Counting.{count_instructions}
use Rattle.decompile_laws.proofs.runs.instructions_are_counted.Goals as goal

-- the size that a function has
some_size : (o : Option ℕ) → IsSome o → (size : ℕ) × (o ≡ Some size)
some_size (Some size) is = (size, refl)
some_size None is = absurd (cc)

pub returns : goal.returns
returns c = λ image entry n graphs marked m values start firsts even outside.
    let size = some_size (size_at image entry) start.is_function in
    count_instructions image entry size.0 n graphs marked m values size.1 start.no_fault start.whole start.alike firsts even outside
