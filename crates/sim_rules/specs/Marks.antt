-- The marks of a side's walk, of the code as the definitions have them.
use Rattle.std.specs.Prelude.{List, [], ◌∷◌, ◌++◌}
use Rattle.graph_core_spec.specs.declared.Mark.{Mark}
use Rattle.proof_tree.specs.declared.frame.Goal.{Goal}
use Rattle.proof_tree.specs.Frames.{stop_of}
use Rattle.sim_rules_spec.specs.Rules.{hold_mark}
use Rattle.sim_rules_spec.specs.declared.Side.{Side}
use Rattle.sim_rules_spec.specs.declared.Side.TheVariants.{Binary, Source}
use Rattle.sim_rules.specs.declared.change.Change.{Change}
use Rattle.sim_rules.specs.declared.change.Change.TheVariants.{Plain, Holding, Restricting}

-- where a goal stops a side
abbrev pub stop_mark : Side → Goal → Mark
stop_mark Binary g = stop_of g.binary
stop_mark Source g = stop_of g.source

-- the stops, as a rule changes them
abbrev pub stops_with : Change → List Mark → List Mark
stops_with Plain stops = stops
stops_with (Holding node) stops = hold_mark node ∷ stops
stops_with (Restricting bound) stops = stops

-- the bounds
abbrev pub bounds_with : Change → List Mark → List Mark
bounds_with Plain bounds = bounds
bounds_with (Holding node) bounds = bounds
bounds_with (Restricting bound) bounds = bounds ++ bound ∷ []
