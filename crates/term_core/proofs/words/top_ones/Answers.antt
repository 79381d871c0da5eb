use Rattle.term_core_spec.specs.Sort.{bits}
use Rattle.term_core.proofs.Bits.{ones_from_top}
use Rattle.term_core.proofs.words.top_ones.Goals as goal

pub returns : goal.returns
returns c = ones_from_top (bits c.args.width) c.args.places c.all_ones-ones.result c.all_ones-ones.ensures c.requires
