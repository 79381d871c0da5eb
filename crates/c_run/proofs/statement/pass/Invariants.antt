use Rattle.c_run_value.specs.Settings.{setting_of}
use Rattle.c_run.proofs.Passing.{Passed}
use Rattle.c_run.proofs.statement.pass.Given as goal

-- `l.fn` has the frame at entry
abbrev pub invariant-loop-argument : goal.invariant-loop-argument
invariant-loop-argument l = Passed (setting_of l.setting) l.fn.frame l.memory l.arguments l.argument-index l.frame
