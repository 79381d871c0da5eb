use Rattle.std.proofs.Common.{◌≡◌, ◌<◌, [], ◌∷◌, ◌++◌, true, false, rules, sym, ◌∙◌, ap, subst}
use Rattle.std.specs.Prelude.{is_some, get_or, None}
use Rattle.std.proofs.lemmas.Result.{on_ok_weaker}
use Rattle.mem_terms.specs.declared.walk.Task.TheVariants.{Finish}
use Rattle.mem_terms.specs.Walk.{total_weight, IsWalk}
use Rattle.mem_terms.proofs.Tasks.{lighter_done}
use Rattle.mem_terms.proofs.Nodes.{done_some, done_none}
use Rattle.mem_terms.proofs.Steps.{last_below, skip, node_now, node_done, replaced_within, address_below}
use Rattle.mem_terms.proofs.Turns.{finish_entered, finish_replaced}
use Rattle.mem_terms.proofs.walk.Walk.finish.Goals as goal

pub is_done-requires : goal.is_done-requires
is_done-requires c = last_below c.requires.0 c.args.bank.now c.requires.1 c.args.self.now.done.items c.args.self.now.loads.items c.args.self.now.tasks.items (Finish c.args.id c.args.node) c.requires.2

pub returns-then-is_done-clause-walked : goal.returns-then-is_done-clause-walked
returns-then-is_done-clause-walked c base goal w =
    let e : is_some (get_or c.args.self.now.done.items c.args.id None) ≡ true = search rules in
    skip base c.args.bank.now goal c.args.self.now.done.items c.args.self.now.loads.items c.args.self.now.tasks.items (Finish c.args.id c.args.node) w
    (done_some c.args.self.now.done.items c.args.id (last_below base c.args.bank.now goal c.args.self.now.done.items c.args.self.now.loads.items c.args.self.now.tasks.items (Finish c.args.id c.args.node) w) e)

pub returns-then-is_done-clause-lighter : goal.returns-then-is_done-clause-lighter
returns-then-is_done-clause-lighter c = lighter_done c.args.self.now.tasks.items (Finish c.args.id c.args.node)

pub load_in-requires : goal.load_in-requires
load_in-requires c = node_now c.requires.0 c.args.bank.now c.requires.1 c.args.self.now.done.items c.args.self.now.loads.items c.args.self.now.tasks.items c.args.id c.args.node c.requires.2

pub finish_load-requires-clause-id_within : goal.finish_load-requires-clause-id_within
finish_load-requires-clause-id_within c = last_below c.requires.0 c.args.bank.now c.requires.1 c.args.self.now.done.items c.args.self.now.loads.items c.args.self.now.tasks.items (Finish c.args.id c.args.node) c.requires.2

pub finish_load-requires-clause-address_within : goal.finish_load-requires-clause-address_within
finish_load-requires-clause-address_within c =
    address_below c.requires.0 c.args.bank.now c.requires.1 c.args.self.now.done.items c.args.self.now.loads.items c.args.self.now.tasks.items c.args.id c.args.node c.requires.2 c.in-Some.load (sym c.in-Some.ensures)

pub finish_node-requires-clause-id_within : goal.finish_node-requires-clause-id_within
finish_node-requires-clause-id_within c = last_below c.requires.0 c.args.bank.now c.requires.1 c.args.self.now.done.items c.args.self.now.loads.items c.args.self.now.tasks.items (Finish c.args.id c.args.node) c.requires.2

pub finish_node-requires-clause-node_within : goal.finish_node-requires-clause-node_within
finish_node-requires-clause-node_within c = node_done c.requires.0 c.args.bank.now c.requires.1 c.args.self.now.done.items c.args.self.now.loads.items c.args.self.now.tasks.items c.args.id c.args.node c.requires.2

pub finish_node-requires-clause-replaced_within : goal.finish_node-requires-clause-replaced_within
finish_node-requires-clause-replaced_within c = replaced_within c.requires.0 c.args.bank.now c.requires.1 c.args.self.now.done.items c.args.self.now.loads.items c.args.self.now.tasks.items c.args.id c.args.node c.requires.2

pub returns-in-Some-clause-walked : goal.returns-in-Some-clause-walked
returns-in-Some-clause-walked c base goal w =
    let e : is_some (get_or c.args.self.now.done.items c.args.id None) ≡ false = search rules in
    on_ok_weaker c.finish_load.result (λ h.
    finish_entered base c.args.bank.now c.finish_load.new.bank goal c.args.self.now.done.items c.finish_load.new.self.done.items c.args.self.now.loads.items c.finish_load.new.self.loads.items
    c.args.self.now.tasks.items c.finish_load.new.self.tasks.items c.args.id c.args.node w c.finish_load.ensures.extends c.finish_load.ensures.tasks c.in-Some.load (sym c.in-Some.ensures)
    (done_none c.args.self.now.done.items c.args.id (last_below base c.args.bank.now goal c.args.self.now.done.items c.args.self.now.loads.items c.args.self.now.tasks.items (Finish c.args.id c.args.node) w) e) h) c.finish_load.ensures.done

pub returns-in-Some-clause-lighter : goal.returns-in-Some-clause-lighter
returns-in-Some-clause-lighter c =
    on_ok_weaker c.finish_load.result (λ h.
    subst (λ ts. total_weight ts < total_weight (c.args.self.now.tasks.items ++ Finish c.args.id c.args.node ∷ [])) (sym c.finish_load.ensures.tasks)
    (lighter_done c.args.self.now.tasks.items (Finish c.args.id c.args.node))) c.finish_load.ensures.done

pub returns-in-None-clause-walked : goal.returns-in-None-clause-walked
returns-in-None-clause-walked c base goal w =
    on_ok_weaker c.finish_node.result (λ h.
    finish_replaced base c.args.bank.now c.finish_node.new.bank goal c.args.self.now.done.items c.finish_node.new.self.done.items c.args.self.now.loads.items c.finish_node.new.self.loads.items
    c.args.self.now.tasks.items c.finish_node.new.self.tasks.items c.args.id c.args.node w c.finish_node.ensures.extends c.finish_node.ensures.tasks (sym c.in-None.ensures) h c.finish_node.ensures.loads)
    c.finish_node.ensures.done

pub returns-in-None-clause-lighter : goal.returns-in-None-clause-lighter
returns-in-None-clause-lighter c =
    on_ok_weaker c.finish_node.result (λ h.
    subst (λ ts. total_weight ts < total_weight (c.args.self.now.tasks.items ++ Finish c.args.id c.args.node ∷ [])) (sym c.finish_node.ensures.tasks)
    (lighter_done c.args.self.now.tasks.items (Finish c.args.id c.args.node))) c.finish_node.ensures.done
