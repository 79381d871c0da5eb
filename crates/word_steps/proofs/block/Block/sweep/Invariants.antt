use Rattle.std.proofs.Common.{◌≡◌}
use Rattle.memory_spec.specs.Viewed.{runs_of}
use Rattle.term_bank.specs.Nodes.{Extends}
use Rattle.word_steps.specs.Views.{count_of, renewed_up_to}
use Rattle.word_steps.specs.Outcomes.{Becomes}
use Rattle.word_steps.proofs.block.Block.sweep.Given as goal

-- the numbers before this one are renewed
abbrev pub invariant-loop-i : goal.invariant-loop-i
invariant-loop-i l = record {
  becomes : Becomes l.fn.bank l.bank l.fn.self l.self (renewed_up_to (runs_of l.runs) l.i);
  grown : Extends l.fn.bank l.bank;
  count : count_of l.self ≡ count_of l.fn.self;
}
