use Rattle.std.proofs.Common.{◌≡◌, ◌≤◌, drop}
use Rattle.c_parse_spec.specs.Initials.{definition_from, definition_in}
use Rattle.c_parse_token.specs.Lists.{list_of}
use Rattle.c_parse.specs.Places.{place_of}
use Rattle.c_parse.proofs.initial_scan.definition_in.Given as goal

abbrev pub invariant-loop-token : goal.invariant-loop-token
invariant-loop-token l = record {
  shallow : l.place.depth ≤ l.token-index;
  rest : definition_in (list_of l.tokens) ≡ definition_from (place_of l.place) (list_of (drop l.token-index l.tokens));
}
