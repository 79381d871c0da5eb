use Rattle.std.proofs.Common.{length}
use Rattle.c_parse_laws.specs.Statements.{begins_label, read_label}
use Rattle.c_parse_token.specs.Lists.{list_of}
use Rattle.c_parse_expression.specs.Whole.{expressions}
use Rattle.c_parse.specs.Pieces.{taken_labels}
use Rattle.c_parse.specs.Runs.{Run}
use Rattle.c_parse.proofs.pieces.labels.Given as goal

abbrev pub invariant-items : goal.invariant-items
invariant-items l = Run begins_label (read_label (expressions l.scope.names.now) l.scope.depth) (list_of l.initial.tokens.rest.now) (taken_labels l.all) (list_of l.tokens.rest.now)

abbrev pub decreases-items : goal.decreases-items
decreases-items l = length l.tokens.rest.now
