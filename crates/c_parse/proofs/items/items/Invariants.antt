use Rattle.std.proofs.Common.{length, map}
use Rattle.c_parse_laws.specs.Units.{read_external_declarations}
use Rattle.c_syntax.specs.Expressions.{unboxed}
use Rattle.c_syntax.specs.Units.{external_declaration_of}
use Rattle.c_parse_token.specs.Lists.{list_of, names_of}
use Rattle.c_parse.proofs.AllItems.{Items}
use Rattle.c_parse.proofs.items.items.Given as goal

abbrev pub invariant-items : goal.invariant-items
invariant-items l = record {
  going : Items (read_external_declarations (list_of l.initial.tokens.rest.now)) (map external_declaration_of (unboxed l.all)) (names_of l.names) (list_of l.tokens.rest.now);
}

abbrev pub decreases-items : goal.decreases-items
decreases-items l = length l.tokens.rest.now
