use Rattle.std.proofs.Common.{◌≡◌, ◌<◌, [], ◌∷◌, ◌++◌, true, rules, sym, ◌∙◌, ap, subst, append_assoc}
use Rattle.std.specs.Prelude.{is_some, get_or, None}
use Rattle.mem_terms.specs.declared.walk.Task.TheVariants.{Visit, Finish}
use Rattle.mem_terms.specs.Walk.{visits, total_weight, IsWalk}
use Rattle.mem_terms.proofs.Tasks.{lighter_open, lighter_done}
use Rattle.mem_terms.proofs.Nodes.{done_some}
use Rattle.mem_terms.proofs.Steps.{last_below, last_within, skip, open_term_node}
use Rattle.mem_terms.proofs.walk.Walk.visit.Goals as goal

pub is_done-requires : goal.is_done-requires
is_done-requires c = last_below c.requires.0 c.args.bank.now c.requires.1 c.args.self.now.done.items c.args.self.now.loads.items c.args.self.now.tasks.items (Visit c.args.id) c.requires.2

pub node-node-requires : goal.node-node-requires
node-node-requires c = last_within c.requires.0 c.args.bank.now c.requires.1 c.args.self.now.done.items c.args.self.now.loads.items c.args.self.now.tasks.items (Visit c.args.id) c.requires.2

-- the tasks with the term and its arguments
tasks_are : (c : goal.In_ok-push_arguments) → c.push_arguments.new.tasks.items ≡ c.args.self.now.tasks.items ++ Finish c.args.id c.node-node.result ∷ visits c.node-node.result
tasks_are c =
    c.in_ok-push_arguments.ensures ∙ ap (λ l. l ++ visits c.node-node.result) c.in_ok-push.ensures.items
    ∙ append_assoc c.args.self.now.tasks.items (Finish c.args.id c.node-node.result ∷ []) (visits c.node-node.result)

pub returns-in_ok-push_arguments-clause-walked : goal.returns-in_ok-push_arguments-clause-walked
returns-in_ok-push_arguments-clause-walked c base goal w =
    subst (λ ts. IsWalk base c.args.bank.now goal c.args.self.now.done.items c.args.self.now.loads.items ts) (sym (tasks_are c))
    (open_term_node base c.args.bank.now goal c.args.self.now.done.items c.args.self.now.loads.items c.args.self.now.tasks.items c.args.id c.node-node.result w c.node-node.ensures.children c.node-node.ensures.tree)

pub returns-in_ok-push_arguments-clause-lighter : goal.returns-in_ok-push_arguments-clause-lighter
returns-in_ok-push_arguments-clause-lighter c =
    subst (λ ts. total_weight ts < total_weight (c.args.self.now.tasks.items ++ Visit c.args.id ∷ [])) (sym (tasks_are c))
    (lighter_open c.args.self.now.tasks.items c.args.id c.node-node.result c.node-node.ensures.children)

pub returns-else-not-is_done-clause-walked : goal.returns-else-not-is_done-clause-walked
returns-else-not-is_done-clause-walked c base goal w =
    let e : is_some (get_or c.args.self.now.done.items c.args.id None) ≡ true = search rules in
    skip base c.args.bank.now goal c.args.self.now.done.items c.args.self.now.loads.items c.args.self.now.tasks.items (Visit c.args.id) w
    (done_some c.args.self.now.done.items c.args.id (last_below base c.args.bank.now goal c.args.self.now.done.items c.args.self.now.loads.items c.args.self.now.tasks.items (Visit c.args.id) w) e)

pub returns-else-not-is_done-clause-lighter : goal.returns-else-not-is_done-clause-lighter
returns-else-not-is_done-clause-lighter c = lighter_done c.args.self.now.tasks.items (Visit c.args.id)
