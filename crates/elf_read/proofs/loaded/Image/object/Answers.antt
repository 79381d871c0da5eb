use Rattle.std.proofs.Common.{◌∙◌, ap, filter, map, unwrap_or}
use Rattle.elf_read_spec.specs.declared.SymbolValues.TheVariants.{Absent}
use Rattle.elf_read_spec.specs.Image.{object_named, has_name}
use Rattle.elf_read.specs.Values.{symbol_of}
use Rattle.elf_read.proofs.NamedSteps.{named_known}
use Rattle.elf_read.proofs.loaded.Image.object.Goals as goal

pub returns : goal.returns
unfolding object_named
returns c =
    rw (← c.self.view_is)
    (c.object.ensures ∙ ap (λ o. unwrap_or o Absent) (c.self.invariant.named.objects c.args.name.now)
    ∙ named_known (filter (has_name 1 c.args.name.now) (map symbol_of c.self.inside.symbols.items)))
