-- What a run takes place in, and what it breaks.
use Rattle.std.specs.Prelude.{ℕ, Bool, List, Option}
use Rattle.memory_spec.specs.Zones.{Zone}
use Rattle.c_types_spec.specs.Core.{Body}
use Rattle.c_run_spec.specs.declared.Guard.{Guard}

-- what stays as it is for a whole run, its calls included
pub record Setting : Type 0 where
  -- the functions with a body
  pub bodies : List Body
  -- the addresses of the globals, by name
  pub globals : List ℕ → Option ℕ
  -- no access meets it
  pub barred : Zone
  -- no write meets a byte that is fixed
  pub is_fixed : ℕ → Bool

-- a guard that is broken, and the offset at which it is reported
abbrev pub Broken : Type 0
Broken = Guard × ℕ
