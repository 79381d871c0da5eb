-- What it means that the term of an instruction evaluates to what the machine computes.
use Rattle.std.specs.List.{list_all}
use Rattle.std.specs.Prelude.{◌≡◌, ℕ, ◌^◌, ◌<◌, Bool, true, List, Some}
use Rattle.rv_instr.specs.declared.ArithmeticOperation.{ArithmeticOperation}
use Rattle.rv_instr.specs.declared.BranchTest.{BranchTest}
use Rattle.rv_instr.specs.declared.LoadKind.{LoadKind}
use Rattle.rv_instr.specs.declared.StoreKind.{StoreKind}
use Rattle.rv_machine_spec.specs.Arithmetic.{arithmetic, holds}
use Rattle.memory_spec.specs.Memory.{Memory, byte_at}
use Rattle.rv_machine_spec.specs.Step as step
use Rattle.term_core_spec.specs.declared.Width.TheVariants.{W32}
use Rattle.term_core_spec.specs.Term.{Term, open_term}
use Rattle.term_core_spec.specs.Value.{Truth, Number, Assignment, value}
use Rattle.graph_core_spec.specs.Run.{is_truth}
use Rattle.decompile_spec.specs.State.{memory, memory_value}
use Rattle.decompile_spec.specs.InstructionTerms.{computed, taken, loaded, stored, load_tests, aligned_for}

-- the term evaluates to this word
abbrev pub EvaluatesTo : Assignment → Term → ℕ → Type 0
EvaluatesTo s t a = value s t ≡ Number W32 a

-- all of the tests hold
abbrev pub all_hold : Assignment → List Term → Bool
all_hold values tests = list_all (λ t. is_truth (value values t)) tests

-- each operation
abbrev pub OperationsCompute : Type 0
OperationsCompute = (s : Assignment) (operation : ArithmeticOperation) (x y : Term) (a b : ℕ) → a < 2 ^ 32 → b < 2 ^ 32 → EvaluatesTo s x a → EvaluatesTo s y b
    → EvaluatesTo s (computed operation x y) (arithmetic operation a b)

-- each branch
abbrev pub BranchesTest : Type 0
BranchesTest = (s : Assignment) (test : BranchTest) (x y : Term) (a b : ℕ) → a < 2 ^ 32 → b < 2 ^ 32 → EvaluatesTo s x a → EvaluatesTo s y b
    → value s (taken test x y) ≡ Truth (holds test a b)

-- each load whose tests hold: it doesn't trap
abbrev pub LoadsGive : Type 0
LoadsGive = (s : Assignment) (bytes : Memory) → ((q : ℕ) → byte_at bytes q < 2 ^ 8) → value s (open_term memory) ≡ memory_value bytes
    → (kind : LoadKind) (a : Term) (n : ℕ) → n < 2 ^ 32 → EvaluatesTo s a n → all_hold s (load_tests kind a) ≡ true
    → (v : ℕ) × (step.load kind bytes n ≡ Some v) × EvaluatesTo s (loaded kind a) v

-- each store whose alignment test holds: it doesn't trap
abbrev pub StoresLeave : Type 0
StoresLeave = (s : Assignment) (bytes : Memory) → value s (open_term memory) ≡ memory_value bytes
    → (kind : StoreKind) (a x : Term) (n v : ℕ) → n < 2 ^ 32 → EvaluatesTo s a n → EvaluatesTo s x v → all_hold s (aligned_for kind a) ≡ true
    → (after : Memory) × (step.store kind bytes n v ≡ Some after) × (value s (stored kind a x) ≡ memory_value after)
