use Rattle.std.proofs.Common.{◌∙◌, filter, map}
use Rattle.elf_read_spec.specs.Image.{has_name}
use Rattle.elf_read.specs.Values.{symbol_of}
use Rattle.elf_read.proofs.NamedSteps.{size_known}
use Rattle.elf_read.proofs.loaded.Image.object_size.Goals as goal

pub returns : goal.returns
returns c =
    rw (← c.self.view_is)
    (c.object_size.ensures ∙ c.self.invariant.named.sizes c.args.name.now
    ∙ size_known (filter (has_name 1 c.args.name.now) (map symbol_of c.self.inside.symbols.items)))
