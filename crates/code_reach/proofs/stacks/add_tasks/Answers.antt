use Rattle.std.proofs.Common.{[], ◌∷◌, ◌++◌, map, take, ap, ◌∙◌, arith}
use Rattle.std.proofs.lemmas.List.{take_all}
use Rattle.code_reach.specs.declared.stacks.Task.TheVariants.{Enter, Leave}
use Rattle.code_reach.proofs.stacks.add_tasks.Goals as goal

pub returns : goal.returns
returns c =
    c.loop-target.invariant ∙ (ap (λ l. l ++ map Enter (take c.loop-target.target-index c.args.calls.now)) c.in_ok-push.ensures.items
    ∙ ap (λ l. (c.args.tasks.now.items ++ Leave c.args.entry ∷ []) ++ map Enter l) (take_all c.loop-target.target-index c.args.calls.now (omega arith)))
