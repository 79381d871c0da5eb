use Rattle.term_bank.specs.Nodes.{tree_at}
use Rattle.word_steps_rules.specs.Bits.{rows_of}
use Rattle.word_steps_rules.specs.Tables.{IsPlannedRow}
use Rattle.word_steps_rules.proofs.rows.add_bits.Given as goal

-- the bits before this one are there
abbrev pub invariant-loop-place : goal.invariant-loop-place
invariant-loop-place l = IsPlannedRow l.bank (rows_of l.rows) (tree_at l.bank l.id) l.plan l.place l.row.items
