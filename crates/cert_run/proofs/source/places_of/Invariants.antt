use Rattle.std.proofs.Common.{◌≡◌, take}
use Rattle.c_graph.specs.Seen.{points_in}
use Rattle.cert_check_frames.specs.Listed.{places_in}
use Rattle.cert_run.proofs.source.places_of.Given as goal

-- the points so far
abbrev pub invariant-loop-index : goal.invariant-loop-index
invariant-loop-index l = places_in l.made.items ≡ points_in (take l.index l.points)
