use Rattle.std.proofs.Common.{◌≡◌, drop}
use Rattle.std.specs.Map.{lookup}
use Rattle.cert_check_lines_spec.specs.Members.{same_place}
use Rattle.cert_check_frames.specs.Listed.{places_in}
use Rattle.cert_check_jobs.proofs.points.place_node.Given as goal

-- no place so far is the one that is sought
abbrev pub invariant-loop-index : goal.invariant-loop-index
invariant-loop-index l = lookup (same_place l.place) (places_in l.places) ≡ lookup (same_place l.place) (places_in (drop l.index l.places))
