use Rattle.std.proofs.Common.{◌≡◌, ◌∙◌, ◌+◌, ◌^◌, ◌≤◌, length, drop, ap, subst, arith}
use Rattle.graph_core_spec.specs.declared.Next.TheVariants.{Ret}
use Rattle.c_graph_spec.specs.Layout.{cases_to, case_count}
use Rattle.c_types_core.specs.declared.action.Group.{out-Group}
use Rattle.c_graph_layout.specs.Lists.{groups_of}
use Rattle.c_graph_layout.proofs.Blocks.{cases_at, cases_past}
use Rattle.c_graph_layout.proofs.counts.with_cases.Goals as goal

pub loop-group-preserved : goal.loop-group-preserved
loop-group-preserved c =
    let xs = c.args.groups.now in
    let i = c.loop-group.group-index in
    let n = c.loop-group.m in
    let m = c.in-Ok-attempt.field-0 in
    let here = cases_at xs i c.group-item.result c.loop-group-test.true c.group-item.is in
    let count : m ≡ n + length (cases_to (out-Group c.group-item.result).labels.items Ret) = c.in-Ok-attempt.ensures ∙ ap (λ l. n + length (cases_to l Ret)) c.as_slice.ensures.value in
    let before : n + case_count (groups_of (drop i xs)) ≡ c.args.n + case_count (groups_of xs) = c.loop-group.invariant in
    let next : m + case_count (groups_of (drop (i + 1) xs)) ≡ c.args.n + case_count (groups_of xs) = omega arith in
    next

pub returns : goal.returns
returns c =
    let xs = c.args.groups.now in
    let i = c.loop-group.group-index in
    let past = cases_past xs i c.loop-group-test.false in
    let before : c.loop-group.m + case_count (groups_of (drop i xs)) ≡ c.args.n + case_count (groups_of xs) = c.loop-group.invariant in
    omega arith

pub returns-in-loop-group : goal.returns-in-loop-group
returns-in-loop-group c =
    let xs = c.args.groups.now in
    let i = c.loop-group.group-index in
    let n = c.loop-group.m in
    let here = cases_at xs i c.group-item.result c.loop-group-test.true c.group-item.is in
    let full : 2 ^ 64 ≤ n + length (cases_to (out-Group c.group-item.result).labels.items Ret) = subst (λ l. 2 ^ 64 ≤ n + length (cases_to l Ret)) c.as_slice.ensures.value c.in-Err-attempt.ensures in
    let before : n + case_count (groups_of (drop i xs)) ≡ c.args.n + case_count (groups_of xs) = c.loop-group.invariant in
    omega arith
