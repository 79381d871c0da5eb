-- What the program keeps of a setting, as the definitions see it.
use Rattle.std.specs.Prelude.{ℕ, List, find, bytes_eq, Option, option_map, is_some}
use Rattle.memory_spec.specs.Zones as zones
use Rattle.memory_spec.specs.Runs.{fixed_byte}
use Rattle.memory_spec.specs.Viewed.{runs_of}
use Rattle.c_run_spec.specs.Setting as spec
use Rattle.c_types.specs.Typed.{bodies_of}
use Rattle.c_types.specs.declared.typed.Typed.{Typed}
use Rattle.c_run_value.specs.declared.setting.Global.{Global}
use Rattle.c_run_value.specs.declared.setting.Place.{Place}
use Rattle.c_run_value.specs.declared.setting.Zone.{Zone}
use Rattle.c_run_value.specs.declared.setting.Setting.{Setting}

abbrev pub zone_of : Zone → zones.Zone
zone_of zone = record { low = zone.low; high = zone.high }

-- the address of the first global of a name
abbrev pub address_in : List Global → List ℕ → Option ℕ
address_in globals name = option_map (λ (g : Global). g.address) (find (λ (g : Global). bytes_eq g.name.now name) globals)

-- the setting of the runs of a unit
unfoldable pub setting_in : Typed → Place → Zone → spec.Setting
setting_in unit place barred = record {
  bodies = bodies_of unit.bodies.entries;
  globals = address_in place.globals.now;
  barred = zone_of barred;
  is_fixed = λ address. is_some (fixed_byte (runs_of place.fixed.now) address);
}

abbrev pub setting_of : Setting → spec.Setting
setting_of setting = setting_in setting.unit.now setting.place setting.barred
