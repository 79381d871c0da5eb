-- The stacks of functions, from those of what they call.
use Rattle.std.specs.Prelude.{◌≡◌, ◌⊎◌, ◌+◌, ◌≤◌, ℕ, List, max, sum_by, Contains, Option, Some, None}
use Rattle.elf_read_spec.specs.Image.{Image}
use Rattle.code_reach_spec.specs.Code.{IsStack}
use Rattle.pair_setup.specs.declared.calling.Step.{Step}
use Rattle.pair_setup.specs.declared.stacks.Tally.{Tally}

-- the stacks that are known, by entry
abbrev pub Known : Type 0
Known = ℕ → Option ℕ

-- each of them is one
abbrev pub AreStacks : Image → Known → Type 0
AreStacks image known = (entry stack : ℕ) → known entry ≡ Some stack → IsStack image entry stack

-- by how much these instructions lower the stack pointer, and the greatest stack of what they call, which is all known
pub record IsTally (known : Known) (steps : List Step) (tally : Tally) : Type 0 where
  pub own_is : tally.own ≡ sum_by (λ (s : Step). s.opening) steps
  pub above : (s : Step) (target : ℕ) → Contains steps s → s.callee ≡ Some target → (stack : ℕ) × (known target ≡ Some stack) × (stack ≤ tally.deepest)
  pub reached : (tally.deepest ≡ 0) ⊎ ((s : Step) × (target : ℕ) × Contains steps s × (s.callee ≡ Some target) × (known target ≡ Some tally.deepest))

-- the greater of a stack and that of what is called, if something is, which is known
abbrev pub IsRaised : Known → (old : ℕ) → Option ℕ → (new : ℕ) → Type 0
IsRaised known old None new = new ≡ old
IsRaised known old (Some target) new = (stack : ℕ) × (known target ≡ Some stack) × (new ≡ max old stack)

-- one instruction more
pub record IsMore (known : Known) (old : Tally) (step : Step) (new : Tally) : Type 0 where
  pub own_is : new.own ≡ old.own + step.opening
  pub deepest_is : IsRaised known old.deepest step.callee new.deepest

-- the stack of a function with these instructions
abbrev pub IsTotal : Known → (steps : List Step) → (stack : ℕ) → Type 0
IsTotal known steps stack = (tally : Tally) × IsTally known steps tally × (stack ≡ tally.own + tally.deepest)
