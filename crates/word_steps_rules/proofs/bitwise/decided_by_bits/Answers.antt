use Rattle.std.proofs.Common.{◌∙◌, Some, None}
use Rattle.term_bank.specs.Nodes.{tree_at}
use Rattle.word_steps_rules.specs.Views.{sides_in}
use Rattle.word_steps_rules.proofs.Covered.{have_bits, by_sides}
use Rattle.word_steps_rules.proofs.bitwise.decided_by_bits.Goals as goal

pub decided-requires-clause-bits : goal.decided-requires-clause-bits
decided-requires-clause-bits c =
    have_bits c.args.bank.now c.cover_both.new.self c.in-Some.ids c.cover_both.ensures.table c.in-Ok-attempt.ensures.both

pub returns-in-None-clause-decided : goal.returns-in-None-clause-decided
returns-in-None-clause-decided c = by_sides (tree_at c.args.bank.now c.args.id) None c.in-None.ensures

pub returns-in-Ok-attempt-clause-decided : goal.returns-in-Ok-attempt-clause-decided
returns-in-Ok-attempt-clause-decided c =
    c.decided.ensures ∙ by_sides (tree_at c.args.bank.now c.args.id) (Some (sides_in c.args.bank.now c.in-Some.ids)) c.in-Some.ensures.is
