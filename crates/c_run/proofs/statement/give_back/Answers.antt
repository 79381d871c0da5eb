use mir.Syntax.{w128}
use Rattle.std.proofs.Common.{rules, ◌≡◌, Some, sym, ap, subst, ◌∙◌, to_z, of_z}
use Rattle.std.specs.Prelude.{Ok}
use Rattle.c_types_spec.specs.Core.{Return}
use Rattle.c_run_value.specs.Settings.{setting_of}
use Rattle.c_run.specs.declared.frame.Next.TheVariants as next
use Rattle.c_run.specs.declared.frame.Pause.TheVariants as pause
use Rattle.c_run.specs.Tasks.{Acts}
use Rattle.c_run.proofs.Acting.{gives, gives_not, gives_nothing}
use Rattle.c_types_core.specs.Expressions.{core_of}
use Rattle.c_types_core.specs.Actions.{core_in}
use Rattle.c_run.proofs.statement.give_back.Goals as goal

pub returns-in-Some-clause-acts : goal.returns-in-Some-clause-acts
returns-in-Some-clause-acts c = gives_not _ c.args.frame.now c.args.memory.now c.args.frame.now c.args.memory.now (core_of c.deref.result.now) (core_in c.args.value.now) c.in-Err-attempt.field-0 (ap core_in c.in-Some.is ∙ ap (λ x. Some (core_of x)) (sym c.deref.ensures)) c.in-Err-attempt.ensures

pub returns-in-Ok-attempt-clause-acts : goal.returns-in-Ok-attempt-clause-acts
returns-in-Ok-attempt-clause-acts c =
    let same : to_z w128 (of_z w128 c.in-Ok-attempt.field-0) ≡ c.in-Ok-attempt.field-0 = search rules in
    subst (λ v. Acts (setting_of c.args.setting.now) (Return (core_in c.args.value.now)) c.args.frame.now c.args.memory.now (record c.args.frame.now { given = Some v }) c.args.memory.now (Ok (next.Pauses pause.Ended))) (sym same)
    (gives (setting_of c.args.setting.now) c.args.frame.now c.args.memory.now (core_of c.deref.result.now) c.in-Ok-attempt.field-0 (core_in c.args.value.now) (ap core_in c.in-Some.is ∙ ap (λ x. Some (core_of x)) (sym c.deref.ensures)) c.in-Ok-attempt.ensures)

pub returns-in-None-clause-acts : goal.returns-in-None-clause-acts
returns-in-None-clause-acts c = gives_nothing _ c.args.frame.now c.args.memory.now (core_in c.args.value.now) (ap core_in c.in-None.is)
