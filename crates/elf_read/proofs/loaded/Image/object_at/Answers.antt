use Rattle.std.proofs.Common.{◌∙◌}
use Rattle.elf_read_spec.specs.Image.{object_named}
use Rattle.elf_read.proofs.NamedSteps.{known_at}
use Rattle.elf_read.proofs.loaded.Image.object_at.Goals as goal

pub returns : goal.returns
unfolding object_named
returns c = rw (← c.self.view_is) (c.object_at.ensures ∙ known_at c.self.inside.named c.self.inside.symbols.items c.args.i c.self.invariant.named)
