use Rattle.c_run_value.specs.Settings.{setting_of}
use Rattle.c_run.specs.Weights.{weight_of_tasks}
use Rattle.c_run.proofs.Taking.{Reaches, begun}
use Rattle.c_run.proofs.running.go.Given as goal

-- `l.fn` has the values at entry
abbrev pub invariant-tasks : goal.invariant-tasks
invariant-tasks l = Reaches (setting_of l.setting) l.frame l.memory l.ending (begun (setting_of l.setting) l.fn.frame l.fn.memory)

abbrev pub decreases-tasks : goal.decreases-tasks
decreases-tasks l = weight_of_tasks l.frame.tasks.items
