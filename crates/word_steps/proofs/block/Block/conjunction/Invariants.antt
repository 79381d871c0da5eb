use Rattle.std.proofs.Common.{map, take}
use Rattle.memory_spec.specs.Viewed.{runs_of}
use Rattle.term_bank.specs.Nodes.{Extends}
use Rattle.word_steps_spec.specs.Numbers.{reading}
use Rattle.word_steps.specs.Views.{numbers_of, reading_of}
use Rattle.word_steps.specs.Outcomes.{IsConjunction}
use Rattle.word_steps.proofs.block.Block.conjunction.Given as goal

-- the facts before this one are joined
abbrev pub invariant-loop-i : goal.invariant-loop-i
invariant-loop-i l = record {
  joined : IsConjunction l.bank (map (reading (runs_of l.runs) (numbers_of l.fn.bank l.self.numbers.items)) (map reading_of (take l.i l.kept))) l.all;
  grown : Extends l.fn.bank l.bank;
}
