use Rattle.std.proofs.Common.{◌≤◌, length, map}
use Rattle.c_parse_spec.specs.Limits.{operator_limit}
use Rattle.c_syntax.specs.Expressions.{expression_of, unboxed}
use Rattle.c_parse_token.specs.Lists.{list_of}
use Rattle.c_parse_expression.specs.Whole.{expressions}
use Rattle.c_parse_declaration.specs.Parts.{read_arguments_from}
use Rattle.c_parse_declaration.proofs.Listed.{Listing, argued}
use Rattle.c_parse_declaration.proofs.statement.more_arguments.Given as goal

abbrev pub invariant-items : goal.invariant-items
invariant-items l = record {
  going : Listing (argued (expressions l.scope.names.now) l.scope.depth) (read_arguments_from (expressions l.scope.names.now) l.scope.depth l.initial.tokens.count (expression_of l.fn.first.value) (list_of l.initial.tokens.rest.now)) (map expression_of (unboxed l.arguments)) l.tokens.count (list_of l.tokens.rest.now);
  within : l.tokens.count ≤ operator_limit;
  fewer : length l.tokens.rest.now ≤ length l.initial.tokens.rest.now;
}

abbrev pub decreases-items : goal.decreases-items
decreases-items l = length l.tokens.rest.now
