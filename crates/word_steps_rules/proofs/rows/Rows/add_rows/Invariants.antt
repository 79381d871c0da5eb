use Rattle.std.proofs.Common.{◌≡◌, length}
use Rattle.word_steps_rules.specs.Tables.{IsTable}
use Rattle.word_steps_rules.proofs.rows.Rows.add_rows.Given as goal

-- the ids before this one have rows
abbrev pub invariant-loop-k : goal.invariant-loop-k
invariant-loop-k l = record {
  table : IsTable l.bank l.self;
  ids : l.self.ids.keys ≡ l.fn.self.ids.keys;
  count : length l.self.rows.items ≡ l.k;
}
