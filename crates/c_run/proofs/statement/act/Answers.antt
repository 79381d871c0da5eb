use Rattle.std.proofs.Common.{sym, ap, subst, ◌∙◌}
use Rattle.std.specs.Prelude.{Ok, Err}
use Rattle.c_types_spec.specs.Core.{Loop}
use Rattle.c_types_core.specs.Expressions.{core_of}
use Rattle.c_types_core.specs.Actions.{action_of}
use Rattle.c_types_core.proofs.ActionViews.{Leave-view, Loop-view, MissingReturn-view}
use Rattle.c_run_spec.specs.declared.Guard.TheVariants as guards
use Rattle.attempt.specs.declared.refusal.Refusal.TheVariants.{Fault}
use Rattle.c_run_value.specs.declared.setting.Stop.TheVariants as stop
use Rattle.c_run_value.specs.Settings.{setting_of}
use Rattle.c_run.specs.declared.frame.Next.TheVariants as next
use Rattle.c_run.specs.Tasks.{Acts}
use Rattle.c_run.proofs.Acting.{leaves, lacks_return, loops}
use Rattle.c_run.proofs.Weighing.{below_any, below_same, weighs, below_block, below_if, below_list}
use Rattle.std.proofs.Common.{refl}
use Rattle.c_run.proofs.statement.act.Goals as goal

pub returns-in-Leave-clause-acts : goal.returns-in-Leave-clause-acts
returns-in-Leave-clause-acts c =
    subst (λ a. Acts (setting_of c.args.setting.now) a c.args.frame.now c.args.memory.now c.args.frame.now c.args.memory.now (Ok (next.Goes c.ending_of.result))) (sym (ap action_of c.in-Leave.is ∙ Leave-view c.in-Leave.jump)) (leaves (setting_of c.args.setting.now) c.args.frame.now c.args.memory.now c.in-Leave.jump c.ending_of.result c.ending_of.ensures)

pub returns-in-Loop-clause-acts : goal.returns-in-Loop-clause-acts
returns-in-Loop-clause-acts c = loops _ c.args.frame.now c.repeat.new.frame c.args.memory.now c.repeat.new.memory c.repeat.result c.in-Loop.field-0 c.in-Loop.place c.args.action c.deref-in-Loop.result c.deref-in-Loop-2.result c.deref-in-Loop-3.result
    (ap action_of c.in-Loop.is ∙ Loop-view c.in-Loop.field-0 c.in-Loop.place c.in-Loop.test c.in-Loop.step c.in-Loop.body
    ∙ ap (λ x. Loop c.in-Loop.field-0 c.in-Loop.place (core_of x) (action_of c.in-Loop.step.value) (action_of c.in-Loop.body.value)) (sym c.deref-in-Loop.ensures)
    ∙ ap (λ x. Loop c.in-Loop.field-0 c.in-Loop.place (core_of c.deref-in-Loop.result.now) (action_of x) (action_of c.in-Loop.body.value)) (sym c.deref-in-Loop-2.ensures)
    ∙ ap (λ x. Loop c.in-Loop.field-0 c.in-Loop.place (core_of c.deref-in-Loop.result.now) (action_of c.deref-in-Loop-2.result.now) (action_of x)) (sym c.deref-in-Loop-3.ensures)) c.repeat.ensures.repeats

pub returns-in-MissingReturn-clause-acts : goal.returns-in-MissingReturn-clause-acts
returns-in-MissingReturn-clause-acts c =
    subst (λ a. Acts (setting_of c.args.setting.now) a c.args.frame.now c.args.memory.now c.args.frame.now c.args.memory.now (Err (Fault (stop.Broke guards.MissingReturn c.in-MissingReturn.offset)))) (sym (ap action_of c.in-MissingReturn.is ∙ MissingReturn-view c.in-MissingReturn.offset)) (lacks_return (setting_of c.args.setting.now) c.args.frame.now c.args.memory.now c.in-MissingReturn.offset)

pub returns-in-Evaluate-clause-below : goal.returns-in-Evaluate-clause-below
returns-in-Evaluate-clause-below c = below_any c.args.action.now c.args.frame.now c.evaluate.new.frame c.evaluate.result c.evaluate.ensures.below

pub returns-in-Set-clause-below : goal.returns-in-Set-clause-below
returns-in-Set-clause-below c = below_any c.args.action.now c.args.frame.now c.set.new.frame c.set.result c.set.ensures.below

pub returns-in-Unset-clause-below : goal.returns-in-Unset-clause-below
returns-in-Unset-clause-below c = below_any c.args.action.now c.args.frame.now c.unset.new.frame c.unset.result c.unset.ensures.below

pub returns-in-Store-clause-below : goal.returns-in-Store-clause-below
returns-in-Store-clause-below c = below_any c.args.action.now c.args.frame.now c.store.new.frame c.store.result c.store.ensures.below

pub returns-in-Call-clause-below : goal.returns-in-Call-clause-below
returns-in-Call-clause-below c = below_any c.args.action.now c.args.frame.now c.call.new.frame c.call.result c.call.ensures.below

pub returns-in-Loop-clause-below : goal.returns-in-Loop-clause-below
returns-in-Loop-clause-below c = below_any c.args.action.now c.args.frame.now c.repeat.new.frame c.repeat.result c.repeat.ensures.below

pub returns-in-Return-clause-below : goal.returns-in-Return-clause-below
returns-in-Return-clause-below c = below_any c.args.action.now c.args.frame.now c.give_back.new.frame c.give_back.result c.give_back.ensures.below

pub returns-in-Leave-clause-below : goal.returns-in-Leave-clause-below
returns-in-Leave-clause-below c = below_same _ c.args.frame.now c.args.frame.now c.ending_of.result refl (weighs c.args.action.now)

pub returns-in-Block-clause-below : goal.returns-in-Block-clause-below
returns-in-Block-clause-below c = below_block c.args.frame.now c.block.new.frame c.block.result c.args.action.now c.in-Block.actions c.deref.result c.in-Block.is c.deref.ensures.value c.block.ensures.below

pub returns-in-If-clause-below : goal.returns-in-If-clause-below
returns-in-If-clause-below c = below_if c.args.frame.now c.choose.new.frame c.choose.result c.args.action.now c.in-If.test c.in-If.first c.in-If.second c.deref-in-If-2.result c.deref-in-If-3.result c.in-If.is c.deref-in-If-2.ensures c.deref-in-If-3.ensures c.choose.ensures.below

pub returns-in-Switch-clause-below : goal.returns-in-Switch-clause-below
returns-in-Switch-clause-below c = below_list c.args.frame.now c.switch.new.frame c.switch.result c.args.action.now c.in-Switch.test c.in-Switch.groups c.deref-in-Switch-2.result c.in-Switch.is c.deref-in-Switch-2.ensures.value c.switch.ensures.below
