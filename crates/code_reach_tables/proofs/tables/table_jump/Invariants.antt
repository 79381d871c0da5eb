use Rattle.std.proofs.Common.{◌≡◌, ◌-◌, ◌≤◌, None}
use Rattle.code_reach_spec.specs.Code.{table_jump}
use Rattle.code_reach_tables.proofs.tables.table_jump.Given as goal

abbrev pub invariant-loop-before : goal.invariant-loop-before
invariant-loop-before l =
    record {
      within : l.before ≤ l.most;
      none : table_jump l.image l.r l.address l.before ≡ None;
    }

abbrev pub decreases-loop-before : goal.decreases-loop-before
decreases-loop-before l = l.most - l.before
