use Rattle.std.proofs.Common.{◌+◌, ◌*◌, ◌<◌, length}
use Rattle.c_parse_laws.specs.Initializers.{read_initial, read_initials}
use Rattle.c_parse_token.specs.Lists.{list_of, names_of}
use Rattle.c_parse_expression.specs.Whole.{expressions}
use Rattle.c_parse.proofs.Initials.{Awaiting}
use Rattle.c_parse.proofs.initial.+initials.Given as goal

abbrev pub decreases-initial : goal.decreases-initial
decreases-initial l = 3 * l.fuel

abbrev pub decreases-designated : goal.decreases-designated
decreases-designated l = 3 * l.fuel + 1

abbrev pub decreases-initials : goal.decreases-initials
decreases-initials l = 3 * l.fuel + 2

abbrev pub invariant-initials-items : goal.invariant-initials-items
invariant-initials-items l = record {
  going : Awaiting (names_of l.scope.names.now) (expressions l.scope.names.now) l.scope.depth (read_initial (names_of l.scope.names.now) (expressions l.scope.names.now) l.fuel l.scope.depth) (read_initials (names_of l.scope.names.now) (expressions l.scope.names.now) l.scope.depth (read_initial (names_of l.scope.names.now) (expressions l.scope.names.now) l.fuel l.scope.depth) (list_of l.fn.tokens.rest.now)) l.end (list_of l.tokens.rest.now);
  fewer : length l.tokens.rest.now < length l.fn.tokens.rest.now;
}

abbrev pub decreases-initials-items : goal.decreases-initials-items
decreases-initials-items l = length l.tokens.rest.now
