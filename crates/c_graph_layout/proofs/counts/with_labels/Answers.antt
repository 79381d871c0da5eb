use Rattle.std.proofs.Common.{◌≡◌, ◌+◌, ◌^◌, ◌≤◌, length, drop, arith}
use Rattle.graph_core_spec.specs.declared.Next.TheVariants.{Ret}
use Rattle.c_graph_spec.specs.Layout.{cases_to}
use Rattle.c_graph_layout.proofs.Blocks.{label_in, label_past}
use Rattle.c_graph_layout.proofs.counts.with_labels.Goals as goal

pub loop-label-preserved : goal.loop-label-preserved
loop-label-preserved c =
    let xs = c.args.labels.now in
    let i = c.loop-label.label-index in
    let n = c.loop-label.m in
    let m = c.in-Ok-attempt.field-0 in
    let here = label_in xs i c.loop-label-test.true in
    let count : m ≡ n + c.label_count.result = c.in-Ok-attempt.ensures in
    let one = c.label_count.ensures in
    let before : n + length (cases_to (drop i xs) Ret) ≡ c.args.n + length (cases_to xs Ret) = c.loop-label.invariant in
    let next : m + length (cases_to (drop (i + 1) xs) Ret) ≡ c.args.n + length (cases_to xs Ret) = omega arith in
    next

pub returns : goal.returns
returns c =
    let xs = c.args.labels.now in
    let i = c.loop-label.label-index in
    let past = label_past xs i c.loop-label-test.false in
    let before : c.loop-label.m + length (cases_to (drop i xs) Ret) ≡ c.args.n + length (cases_to xs Ret) = c.loop-label.invariant in
    omega arith

pub returns-in-loop-label : goal.returns-in-loop-label
returns-in-loop-label c =
    let xs = c.args.labels.now in
    let i = c.loop-label.label-index in
    let here = label_in xs i c.loop-label-test.true in
    let full : 2 ^ 64 ≤ c.loop-label.m + c.label_count.result = c.in-Err-attempt.ensures in
    let one = c.label_count.ensures in
    let before : c.loop-label.m + length (cases_to (drop i xs) Ret) ≡ c.args.n + length (cases_to xs Ret) = c.loop-label.invariant in
    omega arith
