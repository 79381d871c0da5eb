use Rattle.std.proofs.Common.{refl, sym, ap, subst, arith}
use Rattle.elf_read_spec.specs.Image as spec
use Rattle.elf_read.proofs.RunsOf.{AreExtentsOf, extents_of_image, run_pushed, all_runs, runs_of_bytes}
use Rattle.elf_read.proofs.loaded.Image.runs.Goals as goal

pub loop-extent-preserved : goal.loop-extent-preserved
loop-extent-preserved c =
    rw c.in_ok-push.ensures.items
    (run_pushed c.args.self.now c.as_slice-extents.result.now c.loop-extent.runs.items _ c.loop-extent.extent-index _ c.loop-extent.invariant
    c.loop-extent-test.true refl c.in_ok-bytes.ensures.bytes c.in_ok-bytes.ensures.small)

pub returns-clause-runs : goal.returns-clause-runs
returns-clause-runs c =
    all_runs c.args.self.now c.as_slice-extents.result.now c.loop-extent.runs.items c.loop-extent.extent-index
    (subst (AreExtentsOf c.args.self.now) (sym c.as_slice-extents.ensures.value)
    (extents_of_image c.args.self.now c.self.inside.segments.items c.self.inside.fixed.items c.self.inside.extents.items
    (sym (ap (λ (image : spec.Image). image.segments) c.self.view_is)) c.self.invariant.fixed c.self.invariant.extents))
    c.loop-extent.invariant (omega arith)

pub returns-clause-bytes : goal.returns-clause-bytes
returns-clause-bytes c =
    runs_of_bytes c.args.self.now c.as_slice-extents.result.now c.loop-extent.runs.items c.loop-extent.extent-index c.loop-extent.invariant
