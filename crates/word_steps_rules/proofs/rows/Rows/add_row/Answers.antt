use Rattle.std.proofs.Common.{length, sym, ap, ◌∙◌, subst, refl, arith}
use Rattle.term_bank.specs.Nodes.{tree_at}
use Rattle.term_core_spec.specs.Sort.{sort_of}
use Rattle.word_steps_rules.specs.declared.plan.Plan.{Plan}
use Rattle.word_steps_rules.specs.Bits.{rows_of}
use Rattle.word_steps_rules.specs.Plans.{node_plan}
use Rattle.word_steps_rules.specs.Tables.{AreKnown, IsPlannedRow, bit_count}
use Rattle.word_steps_rules.proofs.Placed.{order_within}
use Rattle.word_steps_rules.proofs.Filled.{node_within, table_more}
use Rattle.word_steps_rules.proofs.rows.Rows.add_row.Goals as goal

pub node_at-node-requires : goal.node_at-node-requires
node_at-node-requires c =
    order_within c.args.bank.now c.args.self.now.ids.keys (length c.args.self.now.rows.items) c.args.id c.requires.table.order c.requires.id

pub node_plan-plan-requires : goal.node_plan-plan-requires
node_plan-plan-requires c =
    node_within c.args.id (length c.args.bank.now) c.node_at-node.result c.node_at-node.ensures.children
    (order_within c.args.bank.now c.args.self.now.ids.keys (length c.args.self.now.rows.items) c.args.id c.requires.table.order c.requires.id)

pub sort_of-requires-clause-within : goal.sort_of-requires-clause-within
sort_of-requires-clause-within c =
    let less = order_within c.args.bank.now c.args.self.now.ids.keys (length c.args.self.now.rows.items) c.args.id c.requires.table.order c.requires.id in
    omega (arith, less, c.requires.all)

pub new_row-requires-clause-id : goal.new_row-requires-clause-id
new_row-requires-clause-id c =
    order_within c.args.bank.now c.args.self.now.ids.keys (length c.args.self.now.rows.items) c.args.id c.requires.table.order c.requires.id

pub new_row-requires-clause-rows : goal.new_row-requires-clause-rows
new_row-requires-clause-rows c =
    subst (λ l. AreKnown c.args.bank.now (rows_of l)) (sym c.as_slice-2.ensures.value) c.requires.table.rows.known

pub returns-2-clause-more : goal.returns-2-clause-more
returns-2-clause-more c =
    let trees = c.args.bank.now in
    let old = c.args.self.now in
    let rows = rows_of old.rows.items in
    let plan = c.node_plan-plan.ensures ∙ ap (λ l. node_plan trees old.ids.keys (rows_of l) c.node_at-node.result) c.as_slice.ensures.value in
    let filled = subst (λ (p : Plan). IsPlannedRow trees rows (tree_at trees c.args.id) p (bit_count (sort_of (tree_at trees c.args.id))) c.in-Ok-attempt.field-0.items) plan
    (subst (λ n. IsPlannedRow trees rows (tree_at trees c.args.id) c.node_plan-plan.result n c.in-Ok-attempt.field-0.items) (c.bit_count-count.ensures.value ∙ ap bit_count c.sort_of.ensures)
    (subst (λ l. IsPlannedRow trees (rows_of l) (tree_at trees c.args.id) c.node_plan-plan.result c.bit_count-count.result c.in-Ok-attempt.field-0.items) c.as_slice-2.ensures.value c.in-Ok-attempt.ensures)) in
    (table_more trees c.are_distinct.ensures old _ c.args.id c.node_at-node.result c.in-Ok-attempt.field-0 c.requires.table c.requires.id c.node_at-node.ensures.children c.node_at-node.ensures.tree
    (order_within trees old.ids.keys (length old.rows.items) c.args.id c.requires.table.order c.requires.id) filled refl c.in_ok-push.ensures.items).1

pub returns-2-clause-table : goal.returns-2-clause-table
returns-2-clause-table c =
    let trees = c.args.bank.now in
    let old = c.args.self.now in
    let rows = rows_of old.rows.items in
    let plan = c.node_plan-plan.ensures ∙ ap (λ l. node_plan trees old.ids.keys (rows_of l) c.node_at-node.result) c.as_slice.ensures.value in
    let filled = subst (λ (p : Plan). IsPlannedRow trees rows (tree_at trees c.args.id) p (bit_count (sort_of (tree_at trees c.args.id))) c.in-Ok-attempt.field-0.items) plan
    (subst (λ n. IsPlannedRow trees rows (tree_at trees c.args.id) c.node_plan-plan.result n c.in-Ok-attempt.field-0.items) (c.bit_count-count.ensures.value ∙ ap bit_count c.sort_of.ensures)
    (subst (λ l. IsPlannedRow trees (rows_of l) (tree_at trees c.args.id) c.node_plan-plan.result c.bit_count-count.result c.in-Ok-attempt.field-0.items) c.as_slice-2.ensures.value c.in-Ok-attempt.ensures)) in
    (table_more trees c.are_distinct.ensures old _ c.args.id c.node_at-node.result c.in-Ok-attempt.field-0 c.requires.table c.requires.id c.node_at-node.ensures.children c.node_at-node.ensures.tree
    (order_within trees old.ids.keys (length old.rows.items) c.args.id c.requires.table.order c.requires.id) filled refl c.in_ok-push.ensures.items).0
