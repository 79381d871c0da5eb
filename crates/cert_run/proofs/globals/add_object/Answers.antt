use Rattle.std.proofs.Common.{◌+◌, List, refl, sym, subst}
use Rattle.elf_read_spec.specs.declared.SymbolValues.TheVariants.{Absent, Two}
use Rattle.elf_read.specs.Values.{symbol_of}
use Rattle.c_run_value.specs.declared.setting.Global.{Global}
use Rattle.cert_run.specs.Placed.{ArePlaced}
use Rattle.cert_run.proofs.Placing.{nothing_added, one_placed, other_value}
use Rattle.cert_run.proofs.globals.add_object.Goals as goal

pub returns-in-Absent : goal.returns-in-Absent
returns-in-Absent c = λ are.
    nothing_added c.args.image.now c.args.index c.args.globals.now.items (symbol_of c.args.symbol.now) c.requires.place
    (other_value c.args.image.now (symbol_of c.args.symbol.now) Absent (sym c.in-Absent.ensures) refl) are

pub returns-in-Two : goal.returns-in-Two
returns-in-Two c = λ are.
    nothing_added c.args.image.now c.args.index c.args.globals.now.items (symbol_of c.args.symbol.now) c.requires.place
    (other_value c.args.image.now (symbol_of c.args.symbol.now) (Two c.in-Two.field-0 c.in-Two.field-1) (sym c.in-Two.ensures) refl) are

pub returns-in-Ok-attempt : goal.returns-in-Ok-attempt
returns-in-Ok-attempt c = λ are.
    subst (λ (l : List Global). ArePlaced c.args.image.now (c.args.index + 1) l) (sym c.in-Ok-attempt.ensures.items)
    (one_placed c.args.image.now c.args.index c.args.globals.now.items (record { name = c.args.symbol.now.name; address = c.in-One.address }) (symbol_of c.args.symbol.now)
    c.requires.place c.requires.kind refl (sym c.in-One.ensures) are)
