use Rattle.std.proofs.Common.{◌≡◌, drop, length}
use Rattle.visit_walk.specs.Listings.{incoming_lists, with_all_edges}
use Rattle.visit_walk.proofs.listing.add_all_edges.Given as goal

abbrev pub invariant-loop-source : goal.invariant-loop-source
invariant-loop-source l = record {
  lists : with_all_edges (incoming_lists l.incoming.items) l.source (drop l.source l.order) l.targets ≡ with_all_edges (incoming_lists l.fn.incoming.items) 0 l.order l.targets;
  long : length l.incoming.items ≡ length l.fn.incoming.items;
}
