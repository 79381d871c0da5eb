use Rattle.std.proofs.Common.{◌≤◌, length}
use Rattle.c_syntax.specs.Names.{storage_of}
use Rattle.c_parse_token.specs.Lists.{list_of}
use Rattle.c_parse_declaration.specs.Words.{read_words}
use Rattle.c_parse_declaration.proofs.Words.{Words}
use Rattle.c_parse_declaration.proofs.declaration.words.Given as goal

abbrev pub invariant-items : goal.invariant-items
invariant-items l = record {
  going : Words l.of_item (read_words l.of_item (list_of l.initial.tokens.rest.now)) (storage_of l.storage) l.first (list_of l.tokens.rest.now);
  fewer : length l.tokens.rest.now ≤ length l.initial.tokens.rest.now;
}

abbrev pub decreases-items : goal.decreases-items
decreases-items l = length l.tokens.rest.now
