use Rattle.std.proofs.Common.{◌≡◌, ◌∙◌, ℕ, ◌+◌, ◌-◌, ◌<◌, ◌≤◌, List, [], ◌∷◌, ◌++◌, length, drop, get_or, sym, ap, arith}
use Rattle.std.proofs.lemmas.Result.{on_ok_weaker}
use Rattle.graph_core_spec.specs.declared.Next.{Next}
use Rattle.graph_core_spec.specs.declared.Next.TheVariants.{Ret}
use Rattle.graph_core_spec.specs.Graph.{with_nodes}
use Rattle.graph_core.specs.Graphs.{graph_of}
use Rattle.c_types_core.specs.Expressions.{core_of}
use Rattle.c_types_core.specs.Actions.{action_of}
use Rattle.c_types_core.specs.declared.action.Action.{Action}
use Rattle.c_types_core.specs.declared.action.Group.{out-Group}
use Rattle.c_graph_spec.specs.Layout.{Exits, exits, entry, nodes, groups_nodes, size}
use Rattle.c_graph_layout.specs.Counts.{size_of}
use Rattle.c_graph_layout.specs.Exits.{exits_of}
use Rattle.c_types_spec.specs.Core as core
use Rattle.c_types_spec.specs.declared.TestPlace.TheVariants.{Before, After}
use Rattle.c_types_core.proofs.ActionViews.{Call-view, Leave-view, Loop-view, Return-view}
use Rattle.c_graph_layout.specs.Lists.{block_of, cores_of, groups_of}
use Rattle.c_graph_layout.proofs.Blocks.{block_at}
use Rattle.c_graph.specs.Frames.{setting_in}
use Rattle.c_graph.specs.Laid.{block_end, next_at}
use Rattle.c_graph.proofs.Casing.{group_nodes_at, group_nodes_past}
use Rattle.c_graph.proofs.Following.{block_more, block_past}
use Rattle.c_graph.proofs.WithNodes.{added_all, added_as, added_of, added_then, none_added}
use Rattle.c_graph.proofs.Ids.{index_is}
use Rattle.c_graph.proofs.Parts.{do_nodes, leave_nodes, if_nodes, switch_nodes, while_nodes}
use Rattle.c_graph.proofs.statement.+statements.Goals as goal

pub branch-returns-4 : goal.branch-returns-4
branch-returns-4 t c =
    let f = setting_in c.args.frame.now in
    let g0 = graph_of c.args.graph.now in
    let g1 = graph_of c.test.new.graph in
    let g2 = graph_of c.nodes.new.graph in
    let g3 = graph_of c.nodes-2.new.graph in
    let e : Exits = exits_of c.args.exits in
    let p = c.in-Ok-attempt.field-0 in
    on_ok_weaker c.nodes-2.result
    (λ h.
    added_as g0 g3 _ _ (if_nodes f (core_of c.args.x.now) (action_of c.args.a.now) (action_of c.args.b.now) c.args.at c.args.to e p (c.in-Ok-attempt.ensures f))
    (added_then g0 g1 g3 _ _ c.in-Ok-attempt-2.ensures (added_then g1 g2 g3 _ _ c.in-Ok-attempt-3.ensures h)))
    c.nodes-2.ensures

pub test_first-returns-4 : goal.test_first-returns-4
test_first-returns-4 t c = λ number.
    let f = setting_in c.args.frame.now in
    let g0 = graph_of c.args.graph.now in
    let g1 = graph_of c.loop_test.new.graph in
    let g2 = graph_of c.nodes.new.graph in
    let g3 = graph_of c.nodes-2.new.graph in
    let e : Exits = exits_of c.args.exits in
    let p = c.in-Ok-attempt.field-0 in
    on_ok_weaker c.nodes-2.result
    (λ h.
    added_as g0 g3 _ _ (while_nodes f number (core_of c.args.x.now) (action_of c.args.step.now) (action_of c.args.body.now) c.args.at c.args.to e p (c.in-Ok-attempt.ensures f))
    (added_then g0 g1 g3 _ _ c.in-Ok-attempt-2.ensures (added_then g1 g2 g3 _ _ c.in-Ok-attempt-3.ensures h)))
    c.nodes-2.ensures

pub test_first-loop_test-requires : goal.test_first-loop_test-requires
test_first-loop_test-requires t c = omega (arith, (c.in-Ok-attempt.ensures (setting_in c.args.frame.now)).starts_are.begins)

pub body_first-returns-5 : goal.body_first-returns-5
body_first-returns-5 t c = λ number step e.
    let f = setting_in c.args.frame.now in
    let g0 = graph_of c.args.graph.now in
    let g1 = graph_of c.empty.new.graph in
    let g2 = graph_of c.nodes.new.graph in
    let g3 = graph_of c.empty-2.new.graph in
    let g4 = graph_of c.test.new.graph in
    let p = c.in-Ok-attempt.field-0 in
    on_ok_weaker c.test.result
    (λ h.
    added_as g0 g4 _ _ (do_nodes f number (core_of c.args.x.now) step (action_of c.args.body.now) c.args.at c.args.to e p (c.in-Ok-attempt.ensures f))
    (added_then g0 g1 g4 _ _ c.in-Ok-attempt-2.ensures (added_then g1 g2 g4 _ _ c.in-Ok-attempt-3.ensures (added_then g2 g3 g4 _ _ c.in-Ok-attempt-4.ensures h))))
    c.test.ensures

pub switch-returns-3 : goal.switch-returns-3
switch-returns-3 t c =
    let f = setting_in c.args.frame.now in
    let g0 = graph_of c.args.graph.now in
    let g1 = graph_of c.select_cases.new.graph in
    let g2 = graph_of c.groups.new.graph in
    let e : Exits = exits_of c.args.exits in
    let p = c.in-Ok-attempt.field-0 in
    on_ok_weaker c.groups.result
    (λ h.
    added_as g0 g2 _ _ (switch_nodes f (core_of c.args.x.now) (groups_of c.args.list.now) c.args.at c.args.to e p (c.in-Ok-attempt.ensures f))
    (added_then g0 g1 g2 _ _ c.in-Ok-attempt-2.ensures h))
    c.groups.ensures

pub groups-loop-group-preserved : goal.groups-loop-group-preserved
groups-loop-group-preserved t c =
    let f = setting_in c.args.frame.now in
    let list = c.args.list.now in
    let i = c.loop-group.group-index in
    let g = c.group-item.result in
    let body = action_of (out-Group g).body.value in
    let e : Exits = exits_of c.args.exits in
    let to = c.args.to in
    let at = c.loop-group.begin in
    let more = c.in-Ok-attempt-begin.field-0 in
    let many : c.in-Ok-attempt-many.field-0 ≡ size f body = c.in-Ok-attempt-many.ensures.size f ∙ ap (λ a. size f (action_of a)) c.deref-in-loop-group.ensures in
    let there : more ≡ at + size f body = c.in-Ok-attempt-begin.ensures ∙ ap (λ n. at + n) many in
    let added = c.in-Ok-attempt.ensures ∙ ap (λ a. with_nodes (graph_of c.loop-group.graph) (nodes f (action_of a) at to (exits to e.continues))) c.deref.ensures in
    added_of (graph_of c.loop-group.graph) (graph_of c.nodes.new.graph) (with_nodes (graph_of c.args.graph.now) (groups_nodes f (groups_of list) c.args.at to e)) (nodes f body at to (exits to e.continues))
    (groups_nodes f (groups_of (drop (i + 1) list)) more to e) added
    (ap (with_nodes (graph_of c.loop-group.graph)) (sym (group_nodes_at f list i at more g to e c.loop-group-test.true c.group-item.is there)) ∙ c.loop-group.invariant)

pub groups-returns : goal.groups-returns
groups-returns t c =
    let f = setting_in c.args.frame.now in
    let list = c.args.list.now in
    let e : Exits = exits_of c.args.exits in
    let i = c.loop-group.group-index in
    added_all (graph_of c.loop-group.graph) (with_nodes (graph_of c.args.graph.now) (groups_nodes f (groups_of list) c.args.at c.args.to e)) (groups_nodes f (groups_of (drop i list)) c.loop-group.begin c.args.to e)
    (group_nodes_past f list i c.loop-group.begin c.args.to e c.loop-group-test.false) c.loop-group.invariant

pub block-returns-2 : goal.block-returns-2
block-returns-2 t c =
    let f = setting_in c.args.frame.now in
    let xs = c.args.actions.now in
    let e : Exits = exits_of c.args.exits in
    let i = c.loop-i.i in
    let past : length xs ≤ i = omega arith in
    added_all (graph_of c.loop-i.graph) (with_nodes (graph_of c.args.graph.now) (nodes f (block_of xs) c.args.at c.args.to e)) (nodes f (block_of (drop i xs)) c.loop-i.begin c.args.to e)
    (block_past f xs i c.loop-i.begin c.args.to e past) c.loop-i.invariant.whole

pub block-loop-i-preserved : goal.block-loop-i-preserved
block-loop-i-preserved t c =
    let f = setting_in c.args.frame.now in
    let xs = c.args.actions.now in
    let e : Exits = exits_of c.args.exits in
    let to = c.args.to in
    let i = c.loop-i.i in
    let x : Action = c.index-actions-i.result in
    let begin = c.loop-i.begin in
    let more = c.in-Ok-attempt-begin.field-0 in
    let finish = block_end xs c.args.at in
    let after : Next = c.index-after.result.now in
    let followed = c.in-Ok-attempt.ensures f in
    let within : i < length xs = omega arith in
    let place : length xs - (i + 1) < length c.in-Ok-attempt.field-0.items = omega (arith, followed.many) in
    let next : after ≡ next_at f xs finish to e (i + 1) =
    index_is c.in-Ok-attempt.field-0.items _ (length xs - (i + 1)) after Ret c.index-after.ensures (omega arith) place ∙ followed.each (i + 1) (omega arith) (omega arith) in
    let here = block_at xs i x within c.index-actions-i.is in
    let counted : c.in-Ok-attempt-many.field-0 ≡ size_of (action_of x) = c.in-Ok-attempt-many.ensures.counted in
    let sized : c.in-Ok-attempt-many.field-0 ≡ size f (action_of x) = c.in-Ok-attempt-many.ensures.size f in
    let sum : more ≡ begin + c.in-Ok-attempt-many.field-0 = c.in-Ok-attempt-begin.ensures in
    let before : begin + size_of (block_of (drop i xs)) ≡ finish = c.loop-i.invariant.begins in
    let parts = block_more f xs i begin more finish x to after e within c.index-actions-i.is (omega arith) next (omega arith) in
    record {
      begins = omega arith;
      whole = added_of (graph_of c.loop-i.graph) (graph_of c.nodes.new.graph) (with_nodes (graph_of c.args.graph.now) (nodes f (block_of xs) c.args.at to e)) (nodes f (action_of x) begin after e)
          (nodes f (block_of (drop (i + 1) xs)) more to e) c.in-Ok-attempt-2.ensures (ap (with_nodes (graph_of c.loop-i.graph)) (sym parts) ∙ c.loop-i.invariant.whole);
    }

pub block-index-after-requires : goal.block-index-after-requires
block-index-after-requires t c = let many = (c.in-Ok-attempt.ensures (setting_in c.args.frame.now)).many in omega arith

pub nodes-returns-in-Call : goal.nodes-returns-in-Call
nodes-returns-in-Call t c =
    let f = setting_in c.args.frame.now in
    let g0 = graph_of c.args.graph.now in
    let e : Exits = exits_of c.args.exits in
    on_ok_weaker c.call.result
    (λ h.
    h ∙ ap (λ l. with_nodes g0 (nodes f (core.Call c.in-Call.field-0 c.in-Call.function.now (cores_of l) c.in-Call.into) c.args.at c.args.to e)) c.as_slice-in-Call.ensures.value
    ∙ ap (λ a. with_nodes g0 (nodes f a c.args.at c.args.to e)) (sym (ap action_of c.in-Call.is ∙ Call-view _ _ _ _)))
    (c.call.ensures c.in-Call.field-0 e)

pub nodes-returns-in-Leave : goal.nodes-returns-in-Leave
nodes-returns-in-Leave t c =
    let f = setting_in c.args.frame.now in
    let g0 = graph_of c.args.graph.now in
    let e : Exits = exits_of c.args.exits in
    added_as g0 g0 _ _ (leave_nodes f _ c.args.at c.args.to e ∙ ap (λ a. nodes f a c.args.at c.args.to e) (sym (ap action_of c.in-Leave.is ∙ Leave-view _))) (none_added g0)

pub nodes-returns-in-Return : goal.nodes-returns-in-Return
nodes-returns-in-Return t c =
    let f = setting_in c.args.frame.now in
    let g0 = graph_of c.args.graph.now in
    let e : Exits = exits_of c.args.exits in
    on_ok_weaker c.give_back.result
    (λ h. h ∙ ap (λ a. with_nodes g0 (nodes f a c.args.at c.args.to e)) (sym (ap action_of c.in-Return.is ∙ Return-view _)))
    (c.give_back.ensures c.args.to e)

pub nodes-returns-in-Before : goal.nodes-returns-in-Before
nodes-returns-in-Before t c =
    let f = setting_in c.args.frame.now in
    let g0 = graph_of c.args.graph.now in
    let e : Exits = exits_of c.args.exits in
    let n = c.in-Loop.field-0 in
    let s = c.deref-in-Before.result.now in
    let b = c.deref-in-Before-2.result.now in
    let whole = λ (a : core.Action). with_nodes g0 (nodes f a c.args.at c.args.to e) in
    on_ok_weaker c.test_first.result
    (λ h.
    h ∙ ap (λ x. whole (core.Loop n Before (core_of x) (action_of s) (action_of b))) c.deref-in-Before-3.ensures
    ∙ ap (λ x. whole (core.Loop n Before (core_of c.in-Loop.test.value) (action_of x) (action_of b))) c.deref-in-Before.ensures
    ∙ ap (λ x. whole (core.Loop n Before (core_of c.in-Loop.test.value) (action_of c.in-Loop.step.value) (action_of x))) c.deref-in-Before-2.ensures
    ∙ ap (λ p. whole (core.Loop n p (core_of c.in-Loop.test.value) (action_of c.in-Loop.step.value) (action_of c.in-Loop.body.value))) (sym c.in-Before.is)
    ∙ ap whole (sym (ap action_of c.in-Loop.is ∙ Loop-view _ _ _ _ _)))
    (c.test_first.ensures n)

pub nodes-returns-in-After : goal.nodes-returns-in-After
nodes-returns-in-After t c =
    let f = setting_in c.args.frame.now in
    let g0 = graph_of c.args.graph.now in
    let e : Exits = exits_of c.args.exits in
    let n = c.in-Loop.field-0 in
    let s = action_of c.in-Loop.step.value in
    let b = c.deref-in-After.result.now in
    let whole = λ (a : core.Action). with_nodes g0 (nodes f a c.args.at c.args.to e) in
    on_ok_weaker c.body_first.result
    (λ h.
    h ∙ ap (λ x. whole (core.Loop n After (core_of x) s (action_of b))) c.deref-in-After-2.ensures
    ∙ ap (λ x. whole (core.Loop n After (core_of c.in-Loop.test.value) s (action_of x))) c.deref-in-After.ensures
    ∙ ap (λ p. whole (core.Loop n p (core_of c.in-Loop.test.value) s (action_of c.in-Loop.body.value))) (sym c.in-After.is)
    ∙ ap whole (sym (ap action_of c.in-Loop.is ∙ Loop-view _ _ _ _ _)))
    (c.body_first.ensures n s e)
