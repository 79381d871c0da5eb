use Rattle.std.proofs.Common.{◌≡◌, ◌∙◌, ◌+◌, drop, ap, arith}
use Rattle.c_types_core.specs.Actions.{action_of}
use Rattle.c_graph_layout.specs.Counts.{size_of}
use Rattle.c_graph_layout.specs.Lists.{block_of}
use Rattle.c_graph_layout.proofs.Blocks.{block_at, block_past}
use Rattle.c_graph.proofs.block.end_of.Goals as goal

pub loop-action-preserved : goal.loop-action-preserved
loop-action-preserved c =
    let xs = c.args.actions.now in
    let i = c.loop-action.action-index in
    let here = block_at xs i c.action-item.result c.loop-action-test.true c.action-item.is in
    let count : c.in-Ok-attempt.field-0 ≡ size_of (action_of c.action-item.result) = c.in-Ok-attempt.ensures.counted in
    let sum : c.in-Ok-attempt-end.field-0 ≡ c.loop-action.end + c.in-Ok-attempt.field-0 = c.in-Ok-attempt-end.ensures in
    let before : c.loop-action.end + size_of (block_of (drop i xs)) ≡ c.args.at + size_of (block_of xs) = c.loop-action.invariant in
    let next : c.in-Ok-attempt-end.field-0 + size_of (block_of (drop (i + 1) xs)) ≡ c.args.at + size_of (block_of xs) = omega arith in
    next

pub returns : goal.returns
returns c =
    let xs = c.args.actions.now in
    let past = block_past xs c.loop-action.action-index c.loop-action-test.false in
    let before : c.loop-action.end + size_of (block_of (drop c.loop-action.action-index xs)) ≡ c.args.at + size_of (block_of xs) = c.loop-action.invariant in
    omega arith
