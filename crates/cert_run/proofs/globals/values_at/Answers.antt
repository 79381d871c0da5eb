use Rattle.std.proofs.Common.{◌∙◌, ap, unwrap_or}
use Rattle.std.specs.Prelude.{option_map}
use Rattle.elf_read_spec.specs.declared.SymbolValues.TheVariants.{Absent}
use Rattle.elf_read_spec.specs.Image.{Symbol, object_named}
use Rattle.cert_run.proofs.globals.values_at.Goals as goal

pub returns : goal.returns
returns c =
    c.unwrap_or.ensures
    ∙ ap (λ o. unwrap_or o Absent)
    (c.object_at.ensures ∙ ap (λ o. option_map (λ (s : Symbol). object_named c.args.image.now s.name) o) c.requires)
