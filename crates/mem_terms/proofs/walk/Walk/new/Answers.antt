use Rattle.mem_terms.proofs.Steps.{start}
use Rattle.mem_terms.proofs.walk.Walk.new.Goals as goal

pub returns : goal.returns
returns c = λ distinct.
    start c.args.bank.now c.args.goal c.in_ok-done.done.items c.new.result.items c.in_ok-tasks.tasks.items c.requires distinct
    c.in_ok-done.ensures c.new.ensures.items c.in_ok-tasks.ensures.items
