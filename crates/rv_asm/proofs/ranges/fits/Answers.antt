use Rattle.rv_asm.proofs.Encodings.{every_instruction_fits}
use Rattle.rv_asm.proofs.ranges.fits.Goals as goal

pub returns : goal.returns
returns c = record {
  ranges = c.is_in_range.ensures;
  needed = λ word encoded. c.is_in_range.ensures.1 (every_instruction_fits word c.args.instruction.now encoded);
}
