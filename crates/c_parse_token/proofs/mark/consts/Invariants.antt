use Rattle.std.proofs.Common.{◌≡◌, ◌≤◌, length}
use Rattle.exact_read.specs.Grammar.{read_map}
use Rattle.c_parse_laws.specs.Types.{read_consts}
use Rattle.c_parse_token.specs.Lists.{list_of}
use Rattle.c_parse_token.specs.Words.{first_of}
use Rattle.c_parse_token.proofs.Steps.{Consts}
use Rattle.c_parse_token.proofs.mark.consts.Given as goal

abbrev pub invariant-loop-offset : goal.invariant-loop-offset
invariant-loop-offset l = record {
  going : Consts (read_map first_of read_consts (list_of l.initial.tokens.rest.now)) l.first (list_of l.tokens.rest.now);
  fewer : length l.tokens.rest.now ≤ length l.initial.tokens.rest.now;
  counted : l.tokens.count ≡ l.initial.tokens.count;
}

abbrev pub decreases-loop-offset : goal.decreases-loop-offset
decreases-loop-offset l = length l.tokens.rest.now
