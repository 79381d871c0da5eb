use Rattle.std.proofs.Common.{◌≡◌, ◌++◌, List, map, reverse, sym, subst}
use Rattle.graph_core_spec.specs.declared.Next.{Next}
use Rattle.graph_core_spec.specs.declared.Next.TheVariants as next
use Rattle.graph_core.specs.Shared.{shared_node_of}
use Rattle.graph_core.specs.declared.shared.SharedNode.{SharedNode}
use Rattle.loop_find_spec.specs.Loops.{node_in, nodes_after}
use Rattle.loop_find.specs.declared.tasks.Task.TheVariants.{Take}
use Rattle.loop_find.specs.declared.tasks.Task.{Task}
use Rattle.loop_find.proofs.tasks.add_following.Goals as goal

one_reversed : (next : Next) (old new : List Task) → new ≡ old ++ map Take (node_in next) → new ≡ old ++ map Take (reverse (node_in next))
one_reversed (next.At n) old new e = e
one_reversed next.Ret old new e = e
one_reversed next.Err old new e = e

pub returns-in_ok-add_next-in-Basic : goal.returns-in_ok-add_next-in-Basic
returns-in_ok-add_next-in-Basic c = λ trees.
    subst (λ (node : SharedNode). c.add_next.new.tasks.items ≡ c.args.tasks.now.items ++ map Take (reverse (nodes_after (shared_node_of trees node)))) (sym c.in-Basic.is)
    (one_reversed c.in-Basic.next c.args.tasks.now.items c.add_next.new.tasks.items c.in_ok-add_next-in-Basic.ensures)

pub returns-in_ok-add_both-in-Cond : goal.returns-in_ok-add_both-in-Cond
returns-in_ok-add_both-in-Cond c = λ trees.
    subst (λ (node : SharedNode). c.add_both.new.tasks.items ≡ c.args.tasks.now.items ++ map Take (reverse (nodes_after (shared_node_of trees node)))) (sym c.in-Cond.is)
    c.in_ok-add_both-in-Cond.ensures

pub returns-in_ok-push-in-Call : goal.returns-in_ok-push-in-Call
returns-in_ok-push-in-Call c = λ trees.
    subst (λ (node : SharedNode). c.push.new.self.items ≡ c.args.tasks.now.items ++ map Take (reverse (nodes_after (shared_node_of trees node)))) (sym c.in-Call.is)
    c.in_ok-push-in-Call.ensures.items
