use Rattle.std.proofs.Common.{◌≤◌, length, map}
use Rattle.c_syntax.specs.Expressions.{specifiers_of, unboxed}
use Rattle.c_syntax.specs.Units.{global_of}
use Rattle.c_parse_token.specs.Lists.{list_of, names_of}
use Rattle.c_parse.specs.Following.{read_globals_after}
use Rattle.c_parse.proofs.Listed.{Globals}
use Rattle.c_parse.proofs.globals.more_globals.Given as goal

abbrev pub invariant-items : goal.invariant-items
invariant-items l = record {
  going : Globals (specifiers_of l.specifiers) (read_globals_after (specifiers_of l.specifiers) (map global_of (unboxed l.initial.all)) (names_of l.initial.names, l.fn.end) (list_of l.initial.tokens.rest.now)) (map global_of (unboxed l.all)) (names_of l.names, l.end) (list_of l.tokens.rest.now);
  fewer : length l.tokens.rest.now ≤ length l.initial.tokens.rest.now;
}

abbrev pub decreases-items : goal.decreases-items
decreases-items l = length l.tokens.rest.now
