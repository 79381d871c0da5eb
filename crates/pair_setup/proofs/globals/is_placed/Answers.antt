use Rattle.std.specs.Prelude.{◌↔◌, IsTrue}
use Rattle.pair_setup_spec.specs.Faults.{HasSize, IsPlaced}
use Rattle.c_types_spec.specs.Core.{GlobalSize}
use Rattle.c_types_spec.specs.Units.{global_size}
use Rattle.c_types_layout.specs.Structs.{structs_of}
use Rattle.c_types_layout.specs.Types.{type_of}
use Rattle.c_types.specs.Typed.{global_of}
use Rattle.elf_read_spec.specs.declared.SymbolValues.TheVariants.{Absent, Two}
use Rattle.pair_setup.proofs.Added.{if-ok}
use Rattle.pair_setup.proofs.Symbols.{placed-one, placed-other}
use Rattle.pair_setup.proofs.globals.is_placed.Goals as goal

pub returns-in-One : goal.returns-in-One
returns-in-One c =
    let size : GlobalSize = global_size (structs_of c.args.unit.now.structs.items) (type_of c.args.of.now) in
    if-ok c.fits.result (λ sized. IsTrue sized ↔ HasSize c.args.image.now c.args.name.now size) (λ placed. IsTrue placed ↔ IsPlaced c.args.image.now (global_of c.args.name.now size))
    (λ sized h. placed-one c.args.image.now c.args.name.now c.in-One.field-0 sized size c.in-One.ensures h) c.fits.ensures

pub returns-in-Absent : goal.returns-in-Absent
returns-in-Absent c = placed-other c.args.image.now c.args.name.now Absent c.in-Absent.ensures (λ address bad. cc) _

pub returns-in-Two : goal.returns-in-Two
returns-in-Two c = placed-other c.args.image.now c.args.name.now (Two c.in-Two.field-0 c.in-Two.field-1) c.in-Two.ensures (λ address bad. cc) _
