use Rattle.std.proofs.Common.{◌∙◌, sym}
use Rattle.elf_read.specs.Values.{symbol_of}
use Rattle.cert_run.proofs.Placing.{is_of_kind, nothing_added, other_kind}
use Rattle.cert_run.proofs.globals.add_global.Goals as goal

pub add_object-requires-clause-kind : goal.add_object-requires-clause-kind
add_object-requires-clause-kind c = is_of_kind (symbol_of c.args.symbol.now) (sym c.is_object.ensures ∙ c.if-is_object.true)

pub returns-else-is_object : goal.returns-else-is_object
returns-else-is_object c = λ are.
    nothing_added c.args.image.now c.args.index c.args.globals.now.items (symbol_of c.args.symbol.now) c.requires
    (other_kind c.args.image.now (symbol_of c.args.symbol.now) (sym c.is_object.ensures ∙ c.if-is_object.false)) are
