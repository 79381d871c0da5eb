use Rattle.std.proofs.Common.{◌≡◌, ◌++◌, map, drop}
use Rattle.templates_spec.specs.Templates.{distance}
use Rattle.templates.proofs.slots.add_distances.Given as goal

abbrev pub invariant-loop-offset : goal.invariant-loop-offset
invariant-loop-offset l = l.distances.items ++ map (distance l.depth) (drop l.offset-index l.offsets) ≡ l.fn.distances.items ++ map (distance l.depth) l.offsets
