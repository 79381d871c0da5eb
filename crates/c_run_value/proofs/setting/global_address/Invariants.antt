use Rattle.std.proofs.Common.{◌≡◌, drop}
use Rattle.c_run_value.specs.Settings.{address_in}
use Rattle.c_run_value.proofs.setting.global_address.Given as goal

abbrev pub invariant-loop-global : goal.invariant-loop-global
invariant-loop-global l = address_in (drop l.global-index l.globals) l.name ≡ address_in l.globals l.name
