use Rattle.std.proofs.Common.{◌<◌, length}
use Rattle.c_parse_laws.specs.Initializers.{read_designators}
use Rattle.c_parse_token.specs.Lists.{list_of}
use Rattle.c_parse_expression.specs.Whole.{expressions}
use Rattle.c_parse.proofs.Initials.{Designating}
use Rattle.c_parse.proofs.initial.designators.Given as goal

abbrev pub invariant-items : goal.invariant-items
invariant-items l = record {
  going : Designating (expressions l.scope.names.now) l.scope.depth (read_designators (expressions l.scope.names.now) l.scope.depth (list_of l.fn.tokens.rest.now)) (list_of l.tokens.rest.now);
  fewer : length l.tokens.rest.now < length l.fn.tokens.rest.now;
}

abbrev pub decreases-items : goal.decreases-items
decreases-items l = length l.tokens.rest.now
