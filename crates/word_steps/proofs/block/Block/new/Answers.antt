use Rattle.std.proofs.Common.{refl}
use Rattle.word_steps.proofs.Numbering.{no_subterms}
use Rattle.word_steps.proofs.block.Block.new.Goals as goal

pub returns : goal.returns
returns c =
    λ trees ids. no_subterms trees ids _ c.new.ensures.items c.new-2.ensures.items refl refl
