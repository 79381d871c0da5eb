-- The outcome of a run, as the definition has it.
use Rattle.c_run_spec.specs.Calls as spec
use Rattle.c_run_value.specs.declared.setting.Stop.{Stop}
use Rattle.c_run_value.specs.declared.setting.Stop.TheVariants.{Broke}
use Rattle.c_run.specs.declared.calls.Outcome.{Outcome}
use Rattle.c_run.specs.declared.calls.Outcome.TheVariants as outcome

abbrev pub outcome_in : Outcome → spec.Outcome
outcome_in outcome.More = spec.More
outcome_in (outcome.Guard guard offset) = spec.Broke guard offset
outcome_in (outcome.Back v memory) = spec.Back v memory

-- that of a run that stops short
abbrev pub outcome_at : Stop → spec.Outcome
outcome_at (Broke guard offset) = spec.Broke guard offset
