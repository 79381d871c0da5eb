use Rattle.std.proofs.Common.{rules}
use Rattle.tv_core.proofs.Shown.{no_code_fault, counts_there, shows}
use Rattle.tv_core.proofs.functions.show_function.Goals as goal

pub unreachable-requires : goal.unreachable-requires
unreachable-requires c =
    no_code_fault c.args.image.now c.args.function.now.entry c.code.result c.in-Err-Fault.field-0 c.in-Err-Fault.field-0-0 c.code.ensures.fault
    c.in-Err-Fault.is c.in-Err-Fault.field-0-is c.requires.code.sound

pub unwrap-counts-requires : goal.unwrap-counts-requires
unwrap-counts-requires c = counts_there c.args.unit.now c.args.name.now c.counts.result c.counts.ensures c.requires.body

pub returns-2 : goal.returns-2
returns-2 c =
    shows c.args.image.now c.args.unit.now c.args.name.now c.in-Ok-attempt.field-0 c.args.function.now c.in-Ok.words.items c.counts.result
    c.unwrap-counts.result c.requires c.in-Ok.ensures.found c.counts.ensures (search rules) (search rules)
