use Rattle.std.proofs.Common.{◌≡◌, drop}
use Rattle.search_rows.specs.Tables.{first_refuted}
use Rattle.search_rows.proofs.tables.first.Given as goal

abbrev pub invariant-loop-row : goal.invariant-loop-row
invariant-loop-row l = first_refuted (drop l.row-index l.rows) l.lines ≡ first_refuted l.rows l.lines
