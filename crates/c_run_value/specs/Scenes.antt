-- The value of an expression in a scene.
use Rattle.std.specs.Prelude.{ℤ, pos, if◌then◌else◌, Result}
use Rattle.c_types_spec.specs.Core.{Core}
use Rattle.c_types_spec.specs.Values.{same_value}
use Rattle.c_run_spec.specs.Evaluation.{Evaluated, on_result, value}
use Rattle.c_run_value.specs.declared.evaluation.Scene.{Scene}
use Rattle.c_run_value.specs.declared.setting.Setting.{Setting}
use Rattle.attempt.specs.declared.refusal.Refusal.{Refusal}
use Rattle.c_run_value.specs.declared.setting.Stop.{Stop}
use Rattle.c_run_value.specs.Settings.{setting_of}
use Rattle.c_run_value.specs.Gives.{GivesValue}

abbrev pub value_in : Setting → Scene → Core → Evaluated
value_in setting scene core = value (setting_of setting) scene.locals.now scene.memory.now scene.target core

-- of the second expression where the test is 0, else of the first
abbrev pub chosen_in : Setting → Scene → (test first second : Core) → Evaluated
chosen_in setting scene test first second =
    on_result (value_in setting scene test) (λ t. if same_value t (pos 0) then value_in setting scene second else value_in setting scene first)

-- the result is the value of the expression, or the guard that it breaks
abbrev pub Evaluates : Setting → Scene → Result ℤ (Refusal Stop) → Core → Type 0
Evaluates setting scene result core = GivesValue result (value_in setting scene core)
