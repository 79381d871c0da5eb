use Rattle.std.proofs.Common.{◌≤◌, length, map, ◌+◌, ◌*◌}
use Rattle.c_parse_laws.specs.Statements.{read_part, read_groups}
use Rattle.c_syntax.specs.Expressions.{unboxed}
use Rattle.c_syntax.specs.Statements.{group_of}
use Rattle.c_parse_token.specs.Lists.{list_of, names_of}
use Rattle.c_parse_expression.specs.Whole.{expressions}
use Rattle.c_parse.specs.Pieces.{within, starts_part, taken_parts}
use Rattle.c_parse.specs.Runs.{Run}
use Rattle.c_parse.proofs.Loops.{Groups}
use Rattle.c_parse.proofs.statement.+statements.Given as goal

abbrev pub decreases-statement : goal.decreases-statement
decreases-statement l = 16 * l.fuel

abbrev pub decreases-block : goal.decreases-block
decreases-block l = 16 * l.fuel + 8

abbrev pub decreases-all_parts : goal.decreases-all_parts
decreases-all_parts l = 16 * l.fuel + 7

abbrev pub decreases-part : goal.decreases-part
decreases-part l = 16 * l.fuel + 6

abbrev pub decreases-switch_statement : goal.decreases-switch_statement
decreases-switch_statement l = 16 * l.fuel + 11

abbrev pub decreases-groups : goal.decreases-groups
decreases-groups l = 16 * l.fuel + 10

abbrev pub decreases-if_statement : goal.decreases-if_statement
decreases-if_statement l = 16 * l.fuel + 14

abbrev pub decreases-else_part : goal.decreases-else_part
decreases-else_part l = 16 * l.fuel + 13

abbrev pub decreases-while_statement : goal.decreases-while_statement
decreases-while_statement l = 16 * l.fuel + 1

abbrev pub decreases-do_statement : goal.decreases-do_statement
decreases-do_statement l = 16 * l.fuel + 1

abbrev pub decreases-for_statement : goal.decreases-for_statement
decreases-for_statement l = 16 * l.fuel + 1

abbrev pub invariant-all_parts-items : goal.invariant-all_parts-items
invariant-all_parts-items l = record {
  run : Run starts_part (read_part (names_of l.scope.names.now) (expressions l.scope.names.now) (within l.scope.names.now l.fuel) l.scope.depth) (list_of l.initial.tokens.rest.now) (taken_parts l.all) (list_of l.tokens.rest.now);
  fewer : length l.tokens.rest.now ≤ length l.initial.tokens.rest.now;
}

abbrev pub decreases-all_parts-items : goal.decreases-all_parts-items
decreases-all_parts-items l = length l.tokens.rest.now

abbrev pub invariant-groups-items : goal.invariant-groups-items
invariant-groups-items l = record {
  going : Groups (names_of l.scope.names.now) (expressions l.scope.names.now) (within l.scope.names.now l.fuel) l.scope.depth (read_groups (names_of l.scope.names.now) (expressions l.scope.names.now) (within l.scope.names.now l.fuel) l.scope.depth (list_of l.initial.tokens.rest.now)) (map group_of (unboxed l.all)) (list_of l.tokens.rest.now);
  fewer : length l.tokens.rest.now ≤ length l.initial.tokens.rest.now;
}

abbrev pub decreases-groups-items : goal.decreases-groups-items
decreases-groups-items l = length l.tokens.rest.now
