-- Where `break` and `continue` go on, as the definitions see it.
use Rattle.c_graph_spec.specs.Layout as spec
use Rattle.c_graph_layout.specs.declared.entries.Exits.{Exits}

abbrev pub exits_of : Exits → spec.Exits
exits_of exits = spec.exits exits.breaks exits.continues
