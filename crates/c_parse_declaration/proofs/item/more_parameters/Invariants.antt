use Rattle.std.proofs.Common.{◌≤◌, length, map}
use Rattle.c_token_spec.specs.declared.token.Punctuator.TheVariants.{RightParenthesis}
use Rattle.exact_read.specs.Grammar.{read_nothing}
use Rattle.c_parse_laws.specs.Declarations.{read_list_from}
use Rattle.c_parse_laws.specs.Parameters.{end_of_parameter, read_parameter}
use Rattle.c_syntax.specs.Expressions.{unboxed}
use Rattle.c_syntax.specs.Units.{parameter_of}
use Rattle.c_parse_token.specs.Lists.{list_of, names_of}
use Rattle.c_parse_expression.specs.Whole.{expressions}
use Rattle.c_parse_declaration.proofs.Listed.{Listing, listed}
use Rattle.c_parse_declaration.proofs.item.more_parameters.Given as goal

abbrev pub invariant-items : goal.invariant-items
invariant-items l = record {
  going : Listing (listed end_of_parameter RightParenthesis (read_parameter (names_of l.scope.names.now) (expressions l.scope.names.now) l.scope.depth)) (read_list_from end_of_parameter RightParenthesis (read_nothing (parameter_of l.fn.first.value)) (read_parameter (names_of l.scope.names.now) (expressions l.scope.names.now) l.scope.depth) (list_of l.initial.tokens.rest.now)) (map parameter_of (unboxed l.list)) l.end (list_of l.tokens.rest.now);
  fewer : length l.tokens.rest.now ≤ length l.initial.tokens.rest.now;
}

abbrev pub decreases-items : goal.decreases-items
decreases-items l = length l.tokens.rest.now
