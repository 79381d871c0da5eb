use Rattle.std.proofs.Common.{◌∙◌}
use Rattle.elf_read_spec.specs.Image.{size_at}
use Rattle.elf_read.proofs.loaded.Image.size_at.Goals as goal

pub returns : goal.returns
unfolding size_at
returns c = rw (← c.self.view_is) (c.copied.ensures ∙ c.get.ensures.value ∙ c.self.invariant.sizes c.args.entry)
