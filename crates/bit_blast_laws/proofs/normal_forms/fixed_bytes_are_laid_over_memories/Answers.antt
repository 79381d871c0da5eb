use Rattle.bit_blast_laws.proofs.Fixed.{laid_over}
use Rattle.bit_blast_laws.proofs.normal_forms.fixed_bytes_are_laid_over_memories.Goals as goal

pub returns : goal.returns
returns c = laid_over
