use Rattle.std.proofs.Common.{◌≡◌, ◌++◌, map, drop}
use Rattle.std.specs.Prelude.{flat_map}
use Rattle.templates_spec.specs.Templates.{distance}
use Rattle.templates.proofs.slots.all_distances.Given as goal

abbrev pub invariant-loop-depth : goal.invariant-loop-depth
invariant-loop-depth l =
    l.distances.items ++ flat_map (λ depth. map (distance depth) l.offsets) (drop l.depth-index l.depths) ≡ flat_map (λ depth. map (distance depth) l.offsets) l.depths
