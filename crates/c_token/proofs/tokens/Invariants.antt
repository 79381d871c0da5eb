use Rattle.std.proofs.Common.{◌≡◌, ◌+◌, length}
use Rattle.std.specs.Prelude.{map}
use Rattle.c_token.specs.Pieces.{placed_of}
use Rattle.c_token.proofs.Steps.{GoesOn}
use Rattle.c_token.proofs.tokens.Given as goal

abbrev pub invariant-pieces : goal.invariant-pieces
invariant-pieces l = record {
  goes_on : GoesOn l.text (map placed_of l.tokens.items) l.fresh l.offset l.rest;
  parts : l.offset + length l.rest ≡ length l.text;
}

abbrev pub decreases-pieces : goal.decreases-pieces
decreases-pieces l = length l.rest
