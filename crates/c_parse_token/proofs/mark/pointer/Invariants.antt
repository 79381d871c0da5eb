use Rattle.std.proofs.Common.{◌≡◌, ◌+◌, ◌≤◌, length}
use Rattle.c_parse_laws.specs.Types.{read_pointer}
use Rattle.c_parse_token.specs.Lists.{list_of}
use Rattle.c_parse_token.proofs.Steps.{Stars}
use Rattle.c_parse_token.proofs.mark.pointer.Given as goal

abbrev pub invariant-loop-offset : goal.invariant-loop-offset
invariant-loop-offset l = record {
  going : Stars (read_pointer (list_of l.initial.tokens.rest.now)) l.stars (list_of l.tokens.rest.now);
  fewer : l.stars + length l.tokens.rest.now ≤ length l.initial.tokens.rest.now;
  counted : l.tokens.count ≡ l.initial.tokens.count;
}

abbrev pub decreases-loop-offset : goal.decreases-loop-offset
decreases-loop-offset l = length l.tokens.rest.now
