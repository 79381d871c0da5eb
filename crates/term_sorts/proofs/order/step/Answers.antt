use Rattle.std.proofs.Common.{◌≡◌, length, vec_len, rules}
use Rattle.term_sorts.proofs.Walks.{step_down, step_up}
use Rattle.term_sorts.proofs.order.step.Goals as goal

pub returns-in_ok-push-in-Some-clause-step : goal.returns-in_ok-push-in-Some-clause-step
returns-in_ok-push-in-Some-clause-step c =
    step_down c.args.bank.now c.are_distinct.ensures c.args.found.now.keys c.args.waiting.now.items c.push.new.self.items c.args.at c.in-Some.argument c.node.result
    c.node.ensures.children c.node.ensures.tree c.in-Some.ensures c.in_ok-push-in-Some.ensures.items

pub returns-in_ok-insert-in-None-clause-step : goal.returns-in_ok-insert-in-None-clause-step
returns-in_ok-insert-in-None-clause-step c =
    let count : length c.args.waiting.now.items ≡ vec_len c.args.waiting.now = search rules in
    step_up c.args.bank.now c.are_distinct.ensures c.args.found.now.keys c.insert.new.self.keys c.args.waiting.now.items c.pop.new.self.items c.args.at c.node.result
    c.node.ensures.children c.node.ensures.tree c.in-None.ensures c.in_ok-insert-in-None.ensures.keys c.pop.result c.pop.ensures.items (vec_len c.args.waiting.now) (vec_len c.pop.new.self) count c.pop.ensures.cases
