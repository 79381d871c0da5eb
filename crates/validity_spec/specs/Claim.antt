-- The claim: what it means that a function's code does what its C source says.
use Rattle.std.specs.Prelude.{◌≡◌, ◌≢◌, ◌↔◌, ℕ, ℤ, List, [], ◌∷◌, IsTrue, ⊤, Option, Some, None, is_some}
use Rattle.memory_spec.specs.Memory.{Memory}
use Rattle.memory_spec.specs.Zones.{Zone}
use Rattle.rv_machine_spec.specs.Machine.{Machine, read_register}
use Rattle.rv_machine_spec.specs.Step.{after}
use Rattle.elf_read_spec.specs.Image.{Image, function_named, object_named, fixed_byte}
use Rattle.elf_read_spec.specs.declared.SymbolValues.{SymbolValues}
use Rattle.elf_read_spec.specs.declared.SymbolValues.TheVariants.{Absent, One, Two}
use Rattle.code_reach_spec.specs.Code.{IsStack, HoldsFixed}
use Rattle.c_types_spec.specs.declared.Scalar.{Scalar}
use Rattle.c_types_spec.specs.Values.{is_of}
use Rattle.c_types_spec.specs.Core.{FunctionType, Body, Typed}
use Rattle.c_run_spec.specs.declared.Guard.{Guard}
use Rattle.c_run_spec.specs.Setting.{Setting}
use Rattle.c_run_spec.specs.Calls.{Outcome, Broke, Back, body_named, c_run}
use Rattle.validity_spec.specs.Convention.{argument_words, result_words, dead_stack, Meets, Gives}

-- ---- values

-- one value for each type, and of it
abbrev pub HaveTypes : List Scalar → List ℤ → Type 0
HaveTypes [] [] = ⊤
HaveTypes (type ∷ types) (v ∷ values) = IsTrue (is_of type v) × HaveTypes types values
HaveTypes types values = ⊥

-- ---- the C run of a call

-- the one value of the symbols of a name; several values name nothing
abbrev pub value_named : SymbolValues → Option ℕ
value_named Absent = None
value_named (One value) = Some value
value_named (Two value other) = None

-- the addresses of the globals: the values of their symbols
abbrev pub globals_of : Image → List ℕ → Option ℕ
globals_of image name = value_named (object_named image name)

-- where a C run takes place: globals at their symbols' values, the zone barred, and the fixed bytes barred for writing
abbrev pub setting_of : Image → Typed → Zone → Setting
setting_of image unit zone = record {
  bodies = unit.bodies;
  globals = globals_of image;
  barred = zone;
  is_fixed = λ address. is_some (fixed_byte image address);
}

-- the C run of the call with n turns: from the machine's memory
abbrev pub run_from : Image → Typed → (name : List ℕ) → Zone → Machine → List ℤ → ℕ → Outcome
run_from image unit name zone m values n = c_run (setting_of image unit zone) name values m.memory n

-- the C run breaks no guard; endless runs are included
abbrev pub BreaksNoGuard : (ℕ → Outcome) → Type 0
BreaksNoGuard run = (n : ℕ) (guard : Guard) (offset : ℕ) → run n ≢ Broke guard offset

-- the C run returns
abbrev pub RunsBack : (ℕ → Outcome) → Type 0
RunsBack run = (n : ℕ) × (value : Option ℤ) × (memory : Memory) × (run n ≡ Back value memory)

-- ---- agreement

-- the machine reaches the return address
abbrev pub ComesBack : Machine → Type 0
ComesBack m = (k : ℕ) × (final : Machine) × (after m (read_register m 1) k ≡ Some final) × (final.pc ≡ read_register m 1)

-- from a machine at the entry, the code does what the C run of a function with this result does; the zone is the dead
-- stack
pub record AgreesFrom (image : Image) (result : Option Scalar) (zone : Zone) (m : Machine) (run : ℕ → Outcome) : Type 0 where
  -- it never traps and keeps the fixed bytes, after any number of steps
  pub safe : (k : ℕ) → (now : Machine) × (after m (read_register m 1) k ≡ Some now) × HoldsFixed image now.memory
  -- it returns exactly if the C run returns
  pub returns : ComesBack m ↔ RunsBack run
  -- and then it gives what the C run gives
  pub gives : (k n : ℕ) (final : Machine) (value : Option ℤ) (memory : Memory) → after m (read_register m 1) k ≡ Some final
      → final.pc ≡ read_register m 1 → run n ≡ Back value memory → Gives m final zone (result_words result value) memory

-- the code at an entry, which takes this much stack, does what the source of this name and type says, whenever it is
-- called by the convention and the C run breaks no guard
abbrev pub AgreesWith : Image → Typed → (name : List ℕ) → FunctionType → (entry stack : ℕ) → Type 0
AgreesWith image unit name type entry stack =
    (m : Machine) (values : List ℤ) → HaveTypes type.parameters values
    → Meets image entry stack m (argument_words values) → BreaksNoGuard (run_from image unit name (dead_stack m stack) m values)
    → AgreesFrom image type.result (dead_stack m stack) m (run_from image unit name (dead_stack m stack) m values)

-- the code at an entry does what the source of this name and type says
abbrev pub Agrees : Image → Typed → (name : List ℕ) → FunctionType → (entry : ℕ) → Type 0
Agrees image unit name type entry = (stack : ℕ) → IsStack image entry stack → AgreesWith image unit name type entry stack

-- the function of this name is valid, and takes this much stack: it has a body in the source and one entry in the file,
-- and the code at this entry agrees with the source
pub record IsValid (image : Image) (unit : Typed) (name : List ℕ) (stack : ℕ) : Type 0 where
  pub body : Body
  pub body_is : body_named unit.bodies name ≡ Some body
  pub entry : ℕ
  pub entry_is : function_named image name ≡ One entry
  pub stack_is : IsStack image entry stack
  pub agrees : Agrees image unit name body.signature entry
