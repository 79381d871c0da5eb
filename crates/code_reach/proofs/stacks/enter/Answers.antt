use Rattle.std.proofs.Common.{[], ◌∷◌, ◌++◌, map, length, ap, ◌∙◌, arith}
use Rattle.code_reach.specs.declared.stacks.Task.TheVariants.{Enter, Leave}
use Rattle.code_reach.proofs.stacks.enter.Goals as goal

pub returns : goal.returns
returns c = record {
  calls = c.in_ok-calls.calls.keys;
  calls_are = c.in_ok-calls.ensures;
  few = omega (arith, ap length c.as_slice.ensures.keys);
  tasks_are = c.in_ok-add_tasks.ensures ∙ ap (λ l. (c.args.tasks.now.items ++ Leave c.args.entry ∷ []) ++ map Enter l) c.as_slice.ensures.keys;
}
