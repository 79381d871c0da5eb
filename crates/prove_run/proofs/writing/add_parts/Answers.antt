use Rattle.std.proofs.Common.{◌≡◌, ◌<◌, List, length, take, sym, subst, arith}
use Rattle.cert_text_spec.specs.Lines.{Line}
use Rattle.prove_run.specs.Written.{AddsLines, part_of, parts_of}
use Rattle.prove_run.proofs.Adding.{nothing_more, more_then}
use Rattle.prove_run.proofs.Listing.{no_parts, parts_more, all_parts}
use Rattle.prove_run.proofs.writing.add_parts.Goals as goal

pub loop-index-init : goal.loop-index-init
loop-index-init c = subst (AddsLines c.args.cert.now c.args.cert.now) (sym (no_parts c.args.listed.now c.args.found.now)) (nothing_more c.args.cert.now)

pub loop-index-preserved : goal.loop-index-preserved
loop-index-preserved c =
    let more : c.loop-index.index < length c.args.found.now = omega (arith, c.loop-index-test.true, c.requires) in
    subst (AddsLines c.args.cert.now c.add_part_if.new.cert)
    (sym (parts_more c.args.listed.now c.args.found.now c.loop-index.index c.index-listed-index.result _ c.index-found-index.result _ c.loop-index-test.true more c.index-listed-index.is
    c.index-found-index.is))
    (more_then c.args.cert.now c.loop-index.cert c.add_part_if.new.cert (parts_of (take c.loop-index.index c.args.listed.now) (take c.loop-index.index c.args.found.now))
    (part_of c.index-listed-index.result c.index-found-index.result) c.loop-index.invariant c.in-Ok-attempt.ensures)

pub returns : goal.returns
returns c =
    subst (λ (lines : List Line). AddsLines c.args.cert.now c.loop-index.cert lines)
    (all_parts c.args.listed.now c.args.found.now c.loop-index.index c.requires c.loop-index-test.false) c.loop-index.invariant
