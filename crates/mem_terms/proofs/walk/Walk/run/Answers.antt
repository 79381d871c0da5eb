use Rattle.mem_terms.proofs.Turns.{turned}
use Rattle.mem_terms.proofs.walk.Walk.run.Goals as goal

pub loop-task-preserved : goal.loop-task-preserved
loop-task-preserved c =
    turned c.args.bank.now c.args.self.now.done.items c.args.self.now.loads.items c.args.self.now.tasks.items
    c.loop-task.bank c.loop-task.self.done.items c.loop-task.self.loads.items c.loop-task.self.tasks.items c.pop.new.self.items c.in-Some.task c.loop-task.invariant c.in-Some.ensures.items
    c.turn.new.bank c.turn.new.self.done.items c.turn.new.self.loads.items c.turn.new.self.tasks.items c.in_ok-turn.ensures.walked c.turn.ensures.extends
