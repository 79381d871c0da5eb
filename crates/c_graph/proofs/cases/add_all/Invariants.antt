use Rattle.std.proofs.Common.{◌≡◌, ◌++◌, drop}
use Rattle.c_graph_spec.specs.Layout as spec
use Rattle.c_graph_spec.specs.Layout.{Setting}
use Rattle.c_graph_layout.specs.Exits.{exits_of}
use Rattle.c_graph_layout.specs.Lists.{groups_of}
use Rattle.c_graph.specs.Seen.{cases_in}
use Rattle.c_graph.proofs.cases.add_all.Given as goal

abbrev pub invariant-loop-group : goal.invariant-loop-group
invariant-loop-group l =
    (f : Setting) → cases_in l.found.items ++ spec.cases_of f (groups_of (drop l.group-index l.list)) l.begin l.to (exits_of l.fn.exits)
    ≡ cases_in l.fn.found.items ++ spec.cases_of f (groups_of l.list) l.at l.to (exits_of l.fn.exits)
