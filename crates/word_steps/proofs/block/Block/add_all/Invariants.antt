use Rattle.word_steps.specs.Outcomes.{AreSubterms}
use Rattle.word_steps.proofs.block.Block.add_all.Given as goal

-- the subterms before this one have numbers
abbrev pub invariant-loop-i : goal.invariant-loop-i
invariant-loop-i l = AreSubterms l.bank l.ids.keys l.i l.self
