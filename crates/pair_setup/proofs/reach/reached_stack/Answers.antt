use Rattle.pair_setup.proofs.Unfaulted.{no_fault}
use Rattle.pair_setup.proofs.reach.reached_stack.Goals as goal

pub unreachable-requires : goal.unreachable-requires
unreachable-requires c =
    no_fault c.args.image.now c.args.entry c.in-Err-Fault.field-0 c.in-Err-Fault.field-0-0 c.requires.sound c.in-Err-Fault.ensures.fault c.in-Err-Fault.field-0-is
