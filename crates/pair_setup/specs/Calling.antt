-- The instructions of functions: which functions they call, and by how much they lower the stack pointer.
use Rattle.std.specs.Prelude.{◌≡◌, ◌+◌, ◌≤◌, ◌^◌, ℕ, List, map}
use Rattle.rv_instr.specs.Instr.{instr}
use Rattle.elf_read_spec.specs.Image.{Image}
use Rattle.code_reach_spec.specs.Code.{opening_of}
use Rattle.code_reach.specs.Flows.{callee_at}
use Rattle.code_reach.specs.Found.{IsCode}
use Rattle.pair_setup.specs.declared.calling.Step.{Step}

-- by how much a word lowers the stack pointer
abbrev pub opening_of_word : ℕ → ℕ
opening_of_word bits = opening_of (instr bits)

-- what the second number of the pair does, a word of a function, at the first one, its address
abbrev pub step_of : Image → (entry size : ℕ) → ℕ × ℕ → Step
step_of image entry size w = record { opening = opening_of_word w.1; callee = callee_at image entry size w.0 }

-- the word doesn't lie before the entry, and ends below 2^32
pub record IsWhole (entry : ℕ) (w : ℕ × ℕ) : Type 0 where
  pub from : entry ≤ w.0
  pub whole : w.0 + 4 ≤ 2 ^ 32

-- the function at an entry has no fault, and its words do this
pub record AreSteps (image : Image) (entry : ℕ) (steps : List Step) : Type 0 where
  pub words : List (ℕ × ℕ)
  pub code : IsCode image entry words
  pub steps_are : steps ≡ map (step_of image entry code.size) words
