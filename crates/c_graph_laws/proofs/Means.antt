-- What it is that terms evaluate to what an expression does.
use Rattle.std.specs.Prelude.{◌≡◌, ℕ, ◌^◌, ◌<◌, ℤ, pos, true, false, not, List, Ok, Err}
use Rattle.term_core_spec.specs.Term.{Term}
use Rattle.term_core_spec.specs.Value.{Truth, Number, Assignment, value}
use Rattle.c_types_spec.specs.declared.Scalar.{Scalar}
use Rattle.c_types_spec.specs.Values.{of_bits, same_value}
use Rattle.c_run_spec.specs.Setting.{Broken}
use Rattle.c_run_spec.specs.Evaluation.{Evaluated}
use Rattle.c_graph_spec.specs.State.{width_of}
use Rattle.c_graph_laws.proofs.Steps.{all_hold}

-- where all tests hold, an expression has the value of its term; else it breaks a guard
pub data Means (s : Assignment) (tests : List Term) (x truth : Term) (type : Scalar) : Evaluated → Type 0 where
  breaks : (broken : Broken) → all_hold s tests ≡ false → Means s tests x truth type (Err broken)
  means : (v : ℤ) (n : ℕ) → n < 2 ^ type.width → v ≡ of_bits type n → all_hold s tests ≡ true → value s x ≡ Number (width_of type) n
      → value s truth ≡ Truth (not (same_value v (pos 0))) → Means s tests x truth type (Ok v)
