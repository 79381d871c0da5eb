use Rattle.term_rows.proofs.rules.are_same.Goals as goal

pub same_by_bits-requires-clause-table : goal.same_by_bits-requires-clause-table
same_by_bits-requires-clause-table c = c.new-rows.ensures c.args.bank.now
