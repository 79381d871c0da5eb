use Rattle.word_steps.specs.Shows.{IsBlock}
use Rattle.term_rows.proofs.steps.take_all.Given as goal

-- the block is in order
abbrev pub invariant-loop-line : goal.invariant-loop-line
invariant-loop-line l =
    (goal.iterator-loop-line).can_next l.line-iterator × (goal.iterator-loop-line).is_finite l.line-iterator
    × IsBlock l.bank l.block
