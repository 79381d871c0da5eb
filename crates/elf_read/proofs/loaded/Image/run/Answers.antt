use Rattle.std.proofs.Common.{refl}
use Rattle.elf_read.proofs.RunsOf.{extent_is_at}
use Rattle.elf_read.proofs.loaded.Image.run.Goals as goal

pub returns : goal.returns
returns c =
    rw (← c.self.view_is, c.extent_at.ensures, c.as_slice.ensures.value)
    (extent_is_at _ c.self.inside.segments.items c.self.inside.fixed.items c.self.inside.extents.items c.args.i refl c.self.invariant.fixed
    c.self.invariant.extents)
