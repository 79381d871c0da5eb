use Rattle.std.proofs.Common.{◌≡◌, ◌∙◌, ℕ, ◌+◌, ◌<◌, List, ◌++◌, length, drop, refl, sym, ap, arith}
use Rattle.std.proofs.lemmas.Result.{on_ok_weaker}
use Rattle.c_types_spec.specs.declared.TestPlace.TheVariants.{Before, After}
use Rattle.c_types_spec.specs.Core as core
use Rattle.c_types_core.specs.Expressions.{core_of}
use Rattle.c_types_core.specs.Actions.{action_of}
use Rattle.c_types_core.specs.declared.action.Group.{out-Group}
use Rattle.c_graph_spec.specs.Layout.{size}
use Rattle.c_graph_spec.specs.SourceGraph.{points, groups_points}
use Rattle.c_types_core.proofs.ActionViews.{Evaluate-view, Set-view, Unset-view, Store-view, Leave-view, Return-view, MissingReturn-view, Call-view, Loop-view}
use Rattle.c_graph_layout.specs.Lists.{block_of, cores_of, groups_of}
use Rattle.c_graph.specs.Seen.{points_in}
use Rattle.c_graph.proofs.Casing.{all_of, one_more}
use Rattle.c_graph.proofs.Pointed.{no_more, Evaluate-points, Set-points, Unset-points, Store-points, Leave-points, Return-points, MissingReturn-points, block_points_at, block_points_past, do_points, group_points_at, group_points_past, if_points, joined, some_setting, switch_points, while_points}
use Rattle.c_graph.proofs.points.+points.Goals as goal

pub block_points-loop-action-preserved : goal.block_points-loop-action-preserved
block_points-loop-action-preserved t c = λ f.
    let xs = c.args.actions.now in
    let i = c.loop-action.action-index in
    let x = c.action-item.result in
    let at = c.loop-action.begin in
    let more = c.in-Ok-attempt-begin.field-0 in
    let many : c.in-Ok-attempt-many.field-0 ≡ size f (action_of x) = c.in-Ok-attempt-many.ensures.size f in
    let there : more ≡ at + size f (action_of x) = c.in-Ok-attempt-begin.ensures ∙ ap (λ n. at + n) many in
    one_more (points_in c.loop-action.points.items) (points_in c.add_points.new.points.items) (points f (action_of x) at) (points f (block_of (drop (i + 1) xs)) more)
    (points_in c.args.points.now.items ++ points f (block_of xs) c.args.at) (c.in-Ok-attempt.ensures f)
    (ap (λ l. points_in c.loop-action.points.items ++ l) (sym (block_points_at f xs i at more x c.loop-action-test.true c.action-item.is there)) ∙ c.loop-action.invariant f)

pub block_points-returns : goal.block_points-returns
block_points-returns t c = λ f.
    let xs = c.args.actions.now in
    let i = c.loop-action.action-index in
    all_of (points_in c.loop-action.points.items) (points f (block_of (drop i xs)) c.loop-action.begin) (points_in c.args.points.now.items ++ points f (block_of xs) c.args.at)
    (block_points_past f xs i c.loop-action.begin c.loop-action-test.false) (c.loop-action.invariant f)

pub group_points-loop-group-preserved : goal.group_points-loop-group-preserved
group_points-loop-group-preserved t c = λ f.
    let list = c.args.list.now in
    let i = c.loop-group.group-index in
    let g = c.group-item.result in
    let body = action_of (out-Group g).body.value in
    let at = c.loop-group.begin in
    let more = c.in-Ok-attempt-begin.field-0 in
    let many : c.in-Ok-attempt-many.field-0 ≡ size f body = c.in-Ok-attempt-many.ensures.size f ∙ ap (λ a. size f (action_of a)) c.deref-in-loop-group.ensures in
    let there : more ≡ at + size f body = c.in-Ok-attempt-begin.ensures ∙ ap (λ n. at + n) many in
    let added = c.in-Ok-attempt.ensures f ∙ ap (λ a. points_in c.loop-group.points.items ++ points f (action_of a) at) c.deref.ensures in
    one_more (points_in c.loop-group.points.items) (points_in c.add_points.new.points.items) (points f body at) (groups_points f (groups_of (drop (i + 1) list)) more)
    (points_in c.args.points.now.items ++ groups_points f (groups_of list) c.args.at) added
    (ap (λ l. points_in c.loop-group.points.items ++ l) (sym (group_points_at f list i at more g c.loop-group-test.true c.group-item.is there)) ∙ c.loop-group.invariant f)

pub group_points-returns : goal.group_points-returns
group_points-returns t c = λ f.
    let list = c.args.list.now in
    let i = c.loop-group.group-index in
    all_of (points_in c.loop-group.points.items) (groups_points f (groups_of (drop i list)) c.loop-group.begin) (points_in c.args.points.now.items ++ groups_points f (groups_of list) c.args.at)
    (group_points_past f list i c.loop-group.begin c.loop-group-test.false) (c.loop-group.invariant f)

pub branch_points-returns-3 : goal.branch_points-returns-3
branch_points-returns-3 t c = λ f.
    let old = points_in c.args.points.now.items in
    on_ok_weaker c.add_points-2.result
    (λ h. joined old (points_in c.add_points.new.points.items) (points_in c.add_points-2.new.points.items) _ _ _ (c.in-Ok-attempt-2.ensures f) h
    (if_points f (core_of c.args.test.now) (action_of c.args.a.now) (action_of c.args.b.now) c.args.at c.in-Ok-attempt.field-0 (c.in-Ok-attempt.ensures f)))
    (c.add_points-2.ensures f)

pub while_points-returns-4 : goal.while_points-returns-4
while_points-returns-4 t c = λ f.
    let old = points_in c.args.points.now.items in
    let first = points_in c.add_loop.new.points.items in
    let second = points_in c.add_points.new.points.items in
    let last = points_in c.add_points-2.new.points.items in
    on_ok_weaker c.add_points-2.result
    (λ h. joined old first last _ _ _ c.in-Ok-attempt-2.ensures (joined first second last _ _ _ (c.in-Ok-attempt-3.ensures f) h refl)
    (while_points f c.args.number (core_of c.args.test.now) (action_of c.args.step.now) (action_of c.args.body.now) c.args.at c.in-Ok-attempt.field-0 (c.in-Ok-attempt.ensures f)))
    (c.add_points-2.ensures f)

pub do_points-returns-5 : goal.do_points-returns-5
do_points-returns-5 t c = λ f test step.
    let old = points_in c.args.points.now.items in
    let begin = c.in-Ok-attempt.ensures in
    let many = c.in-Ok-attempt-many.ensures.size f in
    let second = c.in-Ok-attempt-test.ensures in
    on_ok_weaker c.add_points.result
    (λ h. joined old (points_in c.add_loop.new.points.items) (points_in c.add_points.new.points.items) _ _ _ c.in-Ok-attempt-2.ensures h
    (do_points f c.args.number test step (action_of c.args.body.now) c.args.at c.in-Ok-attempt.field-0 c.in-Ok-attempt-test.field-0 (omega arith) (omega arith)))
    (c.add_points.ensures f)

pub switch_points-returns-4 : goal.switch_points-returns-4
switch_points-returns-4 t c = λ f.
    let tests = c.in-Ok-attempt.ensures f in
    let many = c.in-Ok-attempt-many.ensures in
    let first = c.in-Ok-attempt-first.ensures in
    on_ok_weaker c.group_points.result
    (λ h. h ∙ ap (λ l. points_in c.args.points.now.items ++ l) (switch_points f (core_of c.args.test.now) (groups_of c.args.list.now) c.args.at c.in-Ok-attempt-first.field-0 (omega arith)))
    (c.group_points.ensures f)

pub while_points-overflow_sub-places : goal.while_points-overflow_sub-places
while_points-overflow_sub-places t c = omega (arith, (c.in-Ok-attempt.ensures some_setting).begins)

pub add_points-returns-in-Evaluate : goal.add_points-returns-in-Evaluate
add_points-returns-in-Evaluate t c = λ f.
    no_more (points_in c.args.points.now.items) (points f (action_of c.args.action.now) c.args.at)
    (ap (λ a. points f (action_of a) c.args.at) c.in-Evaluate.is ∙ ap (λ a. points f a c.args.at) (Evaluate-view _) ∙ Evaluate-points f _ c.args.at)

pub add_points-returns-in-Set : goal.add_points-returns-in-Set
add_points-returns-in-Set t c = λ f.
    no_more (points_in c.args.points.now.items) (points f (action_of c.args.action.now) c.args.at)
    (ap (λ a. points f (action_of a) c.args.at) c.in-Set.is ∙ ap (λ a. points f a c.args.at) (Set-view _ _) ∙ Set-points f _ _ c.args.at)

pub add_points-returns-in-Unset : goal.add_points-returns-in-Unset
add_points-returns-in-Unset t c = λ f.
    no_more (points_in c.args.points.now.items) (points f (action_of c.args.action.now) c.args.at)
    (ap (λ a. points f (action_of a) c.args.at) c.in-Unset.is ∙ ap (λ a. points f a c.args.at) (Unset-view _) ∙ Unset-points f _ c.args.at)

pub add_points-returns-in-Store : goal.add_points-returns-in-Store
add_points-returns-in-Store t c = λ f.
    no_more (points_in c.args.points.now.items) (points f (action_of c.args.action.now) c.args.at)
    (ap (λ a. points f (action_of a) c.args.at) c.in-Store.is ∙ ap (λ a. points f a c.args.at) (Store-view _ _ _ _ _) ∙ Store-points f _ _ _ _ _ c.args.at)

pub add_points-returns-in-Leave : goal.add_points-returns-in-Leave
add_points-returns-in-Leave t c = λ f.
    no_more (points_in c.args.points.now.items) (points f (action_of c.args.action.now) c.args.at)
    (ap (λ a. points f (action_of a) c.args.at) c.in-Leave.is ∙ ap (λ a. points f a c.args.at) (Leave-view _) ∙ Leave-points f _ c.args.at)

pub add_points-returns-in-Return : goal.add_points-returns-in-Return
add_points-returns-in-Return t c = λ f.
    no_more (points_in c.args.points.now.items) (points f (action_of c.args.action.now) c.args.at)
    (ap (λ a. points f (action_of a) c.args.at) c.in-Return.is ∙ ap (λ a. points f a c.args.at) (Return-view _) ∙ Return-points f _ c.args.at)

pub add_points-returns-in-MissingReturn : goal.add_points-returns-in-MissingReturn
add_points-returns-in-MissingReturn t c = λ f.
    no_more (points_in c.args.points.now.items) (points f (action_of c.args.action.now) c.args.at)
    (ap (λ a. points f (action_of a) c.args.at) c.in-MissingReturn.is ∙ ap (λ a. points f a c.args.at) (MissingReturn-view _) ∙ MissingReturn-points f _ c.args.at)

pub add_points-returns-in-Call : goal.add_points-returns-in-Call
add_points-returns-in-Call t c = λ f.
    let old = points_in c.args.points.now.items in
    on_ok_weaker c.add_call.result
    (λ h.
    h ∙ ap (λ l. old ++ points f (core.Call c.in-Call.number c.in-Call.field-1.now (cores_of l) c.in-Call.field-3) c.args.at) c.as_slice-in-Call.ensures.value
    ∙ ap (λ a. old ++ points f a c.args.at) (sym (ap action_of c.in-Call.is ∙ Call-view _ _ _ _)))
    (c.add_call.ensures f c.in-Call.field-1.now c.in-Call.field-3)

pub add_points-returns-in-After : goal.add_points-returns-in-After
add_points-returns-in-After t c = λ f.
    let old = points_in c.args.points.now.items in
    let n = c.in-Loop.number in
    let x = core_of c.in-Loop.test.value in
    let s = action_of c.in-Loop.step.value in
    on_ok_weaker c.do_points.result
    (λ h.
    h ∙ ap (λ b. old ++ points f (core.Loop n After x s (action_of b)) c.args.at) c.deref-in-After.ensures
    ∙ ap (λ p. old ++ points f (core.Loop n p x s (action_of c.in-Loop.body.value)) c.args.at) (sym c.in-After.is)
    ∙ ap (λ a. old ++ points f a c.args.at) (sym (ap action_of c.in-Loop.is ∙ Loop-view _ _ _ _ _)))
    (c.do_points.ensures f x s)
