use Rattle.std.proofs.Common.{◌≡◌, [], replicate}
use Rattle.visit_walk.specs.Listings.{incoming_lists}
use Rattle.visit_walk.proofs.listing.add_empty.Given as goal

abbrev pub invariant-loop : goal.invariant-loop
invariant-loop l = incoming_lists l.incoming.items ≡ replicate l.counter []
