-- Builds that stop where they have more variables than a maximum.
use Rattle.std.specs.Prelude.{◌<◌, ◌≤◌, ℕ}
use Rattle.clause_check_spec.specs.Clause.{Cnf}
use Rattle.bit_blast_spec.specs.Gates.{Build, last_of}
use Rattle.bit_blast_circuits.specs.Built.{IsBuilt}
use Rattle.attempt.specs.declared.refusal.Refusal.{Refusal}
use Rattle.attempt.specs.declared.refusal.Refusal.TheVariants.{Fault, NoMemory}
use Rattle.bit_blast.specs.declared.error.BlastFault.{BlastFault}
use Rattle.bit_blast.specs.declared.error.BlastFault.TheVariants.{Large}

-- done, or left at more variables than the maximum
pub record BuiltWithin {A : Type 0} (maximum : ℕ) (build : Build A) (old : Cnf) (out : A) (new : Cnf) : Type 0 where
  pub done : new.variables ≤ maximum → IsBuilt build old out new
  -- where it is left there are no more variables than the whole has
  pub count : new.variables ≤ last_of old.variables (build old.variables).gates

-- a count of variables is above the maximum, and the clauses have at least so many
abbrev pub IfLarge : (maximum : ℕ) → Cnf → Refusal BlastFault → Type 0
IfLarge maximum cnf (Fault (Large count)) = (maximum < count) × (count ≤ cnf.variables)
IfLarge maximum cnf NoMemory = Unit {0}
