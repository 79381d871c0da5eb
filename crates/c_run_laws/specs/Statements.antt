-- What laws say about runs.
use Rattle.std.specs.Prelude.{◌≡◌, ℕ, ◌||◌, Bool, true, false}
use Rattle.memory_spec.specs.Memory.{Memory, byte_at}
use Rattle.memory_spec.specs.Zones.{Zone}
use Rattle.c_run_spec.specs.declared.Guard.{Guard}
use Rattle.c_run_spec.specs.Setting.{Setting}
use Rattle.c_run_spec.specs.Accesses.{in_zone}
use Rattle.c_run_spec.specs.Calls.{Outcome, More, Broke, Back}

-- no write meets the byte: it is in the barred zone, or fixed
abbrev pub is_barred : Setting → (address : ℕ) → Bool
is_barred setting address = in_zone setting.barred address || setting.is_fixed address

-- both have the same bytes outside the barred zone
abbrev pub AreAlike : Setting → Memory → Memory → Type 0
AreAlike setting memory other = (address : ℕ) → in_zone setting.barred address ≡ false → byte_at memory address ≡ byte_at other address

-- the outcome is the same, and so is the memory outside the barred zone
abbrev pub IsSameOutcome : Setting → Outcome → Outcome → Type 0
IsSameOutcome setting More other = other ≡ More
IsSameOutcome setting (Broke guard offset) other = other ≡ Broke guard offset
IsSameOutcome setting (Back v memory) other = (after : Memory) × (other ≡ Back v after) × AreAlike setting memory after

-- further bytes are fixed
abbrev pub fixing : Setting → (ℕ → Bool) → Setting
fixing setting kept = record setting { is_fixed = λ address. setting.is_fixed address || kept address }

-- another zone is barred
abbrev pub barring : Setting → Zone → Setting
barring setting zone = record setting { barred = zone }

-- each address of the first zone is one of the second
abbrev pub IsInside : Zone → Zone → Type 0
IsInside zone other = (address : ℕ) → in_zone zone address ≡ true → in_zone other address ≡ true

-- it breaks this guard
abbrev pub Breaks : Guard → Outcome → Type 0
Breaks guard outcome = (offset : ℕ) × (outcome ≡ Broke guard offset)
