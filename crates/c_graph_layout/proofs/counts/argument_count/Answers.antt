use Rattle.std.proofs.Common.{◌≡◌, ◌∙◌, ◌+◌, ◌^◌, ◌≤◌, drop, ap, subst, arith}
use Rattle.c_types_core.specs.Expressions.{core_of}
use Rattle.c_graph_layout.specs.Counts.{test_count, argument_count}
use Rattle.c_graph_layout.specs.Lists.{cores_of}
use Rattle.c_graph_layout.proofs.Blocks.{argument_at, argument_past}
use Rattle.c_graph_layout.proofs.counts.argument_count.Goals as goal

pub loop-argument-preserved : goal.loop-argument-preserved
loop-argument-preserved c =
    let xs = c.args.arguments.now in
    let i = c.loop-argument.argument-index in
    let n = c.loop-argument.n in
    let m = c.in-Ok-attempt.field-0 in
    let here = argument_at xs i c.argument-item.result c.loop-argument-test.true c.argument-item.is in
    let count : m ≡ n + test_count (core_of c.argument-item.result.value) = c.in-Ok-attempt.ensures ∙ ap (λ x. n + test_count (core_of x)) c.deref.ensures in
    let before : n + argument_count (cores_of (drop i xs)) ≡ argument_count (cores_of xs) = c.loop-argument.invariant in
    let next : m + argument_count (cores_of (drop (i + 1) xs)) ≡ argument_count (cores_of xs) = omega arith in
    next

pub returns : goal.returns
returns c =
    let xs = c.args.arguments.now in
    let i = c.loop-argument.argument-index in
    let past = argument_past xs i c.loop-argument-test.false in
    let before : c.loop-argument.n + argument_count (cores_of (drop i xs)) ≡ argument_count (cores_of xs) = c.loop-argument.invariant in
    omega arith

pub returns-in-loop-argument : goal.returns-in-loop-argument
returns-in-loop-argument c =
    let xs = c.args.arguments.now in
    let i = c.loop-argument.argument-index in
    let n = c.loop-argument.n in
    let here = argument_at xs i c.argument-item.result c.loop-argument-test.true c.argument-item.is in
    let full : 2 ^ 64 ≤ n + test_count (core_of c.argument-item.result.value) = subst (λ x. 2 ^ 64 ≤ n + test_count (core_of x)) c.deref.ensures c.in-Err-attempt.ensures in
    let before : n + argument_count (cores_of (drop i xs)) ≡ argument_count (cores_of xs) = c.loop-argument.invariant in
    omega arith
