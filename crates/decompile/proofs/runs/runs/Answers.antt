use Rattle.std.proofs.Common.{◌≡◌, ◌<◌, ◌^◌, length, Some, None, sym, ap, subst, arith}
use Rattle.std.proofs.lemmas.List.{length_push}
use Rattle.elf_read.specs.Values.{IsExtentAt}
use Rattle.decompile.proofs.Extents.{AreFirst, none_first, one_more, all_first, few_before}
use Rattle.decompile.proofs.runs.runs.Goals as goal

pub loop-run-init : goal.loop-run-init
loop-run-init c = subst (AreFirst c.args.image.now) (sym c.new-runs.ensures.items) (none_first c.args.image.now)

pub loop-run-preserved : goal.loop-run-preserved
loop-run-preserved c =
    let count : c.len.result ≡ length c.loop-run.runs.items = omega arith in
    let small : c.in-Some.run'.last < 2 ^ 32 = omega arith in
    subst (AreFirst c.args.image.now) (sym c.in_ok-push.ensures.items)
    (one_more c.args.image.now c.loop-run.runs.items c.in-Some.run' c.loop-run.invariant
    (subst (λ n. IsExtentAt c.args.image.now n (Some c.in-Some.run')) count c.in-Some.ensures) small)

pub loop-run-smaller : goal.loop-run-smaller
loop-run-smaller c =
    let small : c.in-Some.run'.first < 2 ^ 32 = omega arith in
    omega (arith, few_before c.args.image.now c.len.result c.in-Some.run' c.in-Some.ensures, ap length c.in_ok-push.ensures.items, length_push c.loop-run.runs.items c.in-Some.run')

pub returns : goal.returns
returns c =
    let count : c.len.result ≡ length c.loop-run.runs.items = omega arith in
    all_first c.args.image.now c.loop-run.runs.items c.loop-run.invariant (subst (λ n. IsExtentAt c.args.image.now n None) count c.in_default.ensures)
