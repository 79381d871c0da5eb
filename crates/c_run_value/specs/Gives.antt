-- What it means that a function gives what a definition does.
use Rattle.std.specs.Prelude.{◌≡◌, ◌<◌, ◌≤◌, ℕ, ℤ, Result, Ok, Err}
use Rattle.memory_spec.specs.Memory as stored
use Rattle.c_types_spec.specs.declared.Scalar.{Scalar}
use Rattle.c_run_spec.specs.Setting.{Broken}
use Rattle.c_run_spec.specs.Accesses.{size_of}
use Rattle.attempt.specs.declared.refusal.Refusal.{Refusal}
use Rattle.attempt.specs.declared.refusal.Refusal.TheVariants.{Fault, NoMemory}
use Rattle.c_run_value.specs.declared.setting.Stop.{Stop}
use Rattle.c_run_value.specs.declared.setting.Stop.TheVariants.{Broke}

-- the result, or the guard that is broken and its offset; out of memory is free
abbrev pub Gives : {A B : Type 0} → (A → B) → Result A (Refusal Stop) → Result B Broken → Type 0
Gives view (Ok x) given = given ≡ Ok (view x)
Gives view (Err (Fault (Broke guard offset))) given = given ≡ Err (guard, offset)
Gives view (Err NoMemory) given = Unit {0}

abbrev pub GivesValue : Result ℤ (Refusal Stop) → Result ℤ Broken → Type 0
GivesValue result given = Gives (λ v. v) result given

-- where a guard is broken nothing is written
abbrev pub IsKept : (old new : stored.Memory) → Result (Unit {0}) (Refusal Stop) → Type 0
IsKept old new (Err (Fault (Broke guard offset))) = new ≡ old
IsKept old new other = Unit {0}

-- so many bytes are those of an object of the type, which is one that the program computes with
pub record IsSize (type : Scalar) (size : ℕ) : Type 0 where
  pub is : size ≡ size_of type
  pub some : 0 < size
  pub low : 8 ≤ type.width
  pub high : type.width ≤ 64
