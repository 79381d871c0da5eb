use Rattle.term_rows.proofs.rules.put_decided.Goals as goal

pub decided_by_bits-requires-clause-table : goal.decided_by_bits-requires-clause-table
decided_by_bits-requires-clause-table c = c.new-rows.ensures c.args.bank.now
