use Rattle.std.proofs.Common.{rules, ◌≡◌, Bor, sym, ap, ◌∙◌}
use Rattle.std.specs.Prelude.{Option, map, option_map}
use Rattle.c_types_core.specs.declared.action.Action.{Action}
use Rattle.c_run.specs.Groups.{chosen_action}
use Rattle.c_run.proofs.Choosing.{switches, switches_not, passes_by}
use Rattle.c_types_core.specs.Expressions.{core_of}
use Rattle.c_types_core.specs.Actions.{action_of, group_of}
use Rattle.c_types_spec.specs.Statements.{groups_in}
use Rattle.c_run.proofs.Weighing.{below_switch}
use Rattle.c_run.specs.declared.frame.Ending.TheVariants as ending
use Rattle.c_run.proofs.statement.switch.Goals as goal

pub returns-clause-acts : goal.returns-clause-acts
returns-clause-acts c = switches_not _ c.args.frame.now c.args.memory.now c.args.frame.now c.args.memory.now (core_of c.args.test.now) (groups_in (map group_of c.args.groups.now)) c.in-Err-attempt.field-0 c.in-Err-attempt.ensures

pub returns-in_default-clause-acts : goal.returns-in_default-clause-acts
returns-in_default-clause-acts c = let found : option_map (λ (a : Bor Action). action_of a.now) c.chosen.result ≡ chosen_action c.in-Ok-attempt.field-0 (groups_in (map group_of c.args.groups.now)) = search rules in
    passes_by _ c.args.frame.now c.args.memory.now (core_of c.args.test.now) (groups_in (map group_of c.args.groups.now)) c.in-Ok-attempt.field-0 c.in-Ok-attempt.ensures (sym found ∙ ap (λ (r : Option (Bor Action)). option_map (λ (a : Bor Action). action_of a.now) r) c.in_default.is)

pub returns-4-clause-acts : goal.returns-4-clause-acts
returns-4-clause-acts c = let found : option_map (λ (a : Bor Action). action_of a.now) c.chosen.result ≡ chosen_action c.in-Ok-attempt.field-0 (groups_in (map group_of c.args.groups.now)) = search rules in
    switches _ c.args.frame.now c.args.memory.now c.push.new.self c.push_do.new.self (core_of c.args.test.now) (groups_in (map group_of c.args.groups.now)) c.in-Ok-attempt.field-0 c.in-Some.action c.in-Ok-attempt.ensures (sym found ∙ ap (λ (r : Option (Bor Action)). option_map (λ (a : Bor Action). action_of a.now) r) c.in-Some.is) c.in-Ok-attempt-2.ensures c.in-Ok-attempt-3.ensures

pub returns-4-clause-below : goal.returns-4-clause-below
returns-4-clause-below c = below_switch c.args.frame.now c.push.new.self c.push_do.new.self ending.Went c.args.groups.now c.in-Some.action c.in-Ok-attempt-2.ensures c.in-Ok-attempt-3.ensures c.in-Some.ensures.below
