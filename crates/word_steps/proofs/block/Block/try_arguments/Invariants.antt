use Rattle.std.proofs.Common.{◌≡◌}
use Rattle.memory_spec.specs.Viewed.{runs_of}
use Rattle.term_bank.specs.Nodes.{Extends}
use Rattle.word_steps_spec.specs.Lines.{with_places}
use Rattle.word_steps.specs.Views.{count_of, fact_at}
use Rattle.word_steps.specs.Shows.{IsBlock}
use Rattle.word_steps.specs.Outcomes.{Tries}
use Rattle.word_steps.proofs.block.Block.try_arguments.Given as goal

-- what the places before this one gave
abbrev pub invariant-loop-i : goal.invariant-loop-i
invariant-loop-i l = record {
  tries : Tries l.fn.bank l.bank l.fn.self l.self (with_places (runs_of l.runs) (fact_at l.index l.holds) l.i) l.found;
  block : IsBlock l.bank l.self;
  grown : Extends l.fn.bank l.bank;
  count : count_of l.self ≡ count_of l.fn.self;
}
