use Rattle.std.proofs.Common.{◌≡◌}
use Rattle.c_run_value.specs.Settings.{setting_of}
use Rattle.c_run.specs.Machines.{comes_to, weight}
use Rattle.c_run.proofs.machine.drive.Given as goal

-- `l.fn` has the machine and the memory at entry
abbrev pub invariant-turns : goal.invariant-turns
invariant-turns l = comes_to (setting_of l.setting) l.fn.machine l.fn.memory ≡ comes_to (setting_of l.setting) l.machine l.memory

abbrev pub decreases-turns : goal.decreases-turns
decreases-turns l = weight l.machine
