use Rattle.std.proofs.Common.{◌≡◌, ◌+◌, ◌≤◌, length, drop}
use Rattle.c_graph_spec.specs.Layout as spec
use Rattle.c_graph_spec.specs.Layout.{Setting}
use Rattle.c_graph_layout.specs.Counts.{size_of}
use Rattle.c_graph_layout.specs.Exits.{exits_of}
use Rattle.c_graph_layout.specs.Lists.{block_of}
use Rattle.c_graph.specs.Laid.{AreFollowed}
use Rattle.c_graph.proofs.block.add_followers.Given as goal

abbrev pub invariant-loop-i : goal.invariant-loop-i
invariant-loop-i l = record {
  within : l.i ≤ length l.actions;
  begins : l.begin + size_of (block_of (drop l.i l.actions)) ≡ l.end;
  is : (f : Setting) → l.next ≡ spec.entry f (block_of (drop l.i l.actions)) l.begin l.fn.to (exits_of l.exits);
  followed : (f : Setting) → AreFollowed f l.actions l.end l.fn.to (exits_of l.exits) l.i l.found.items;
}

abbrev pub decreases-loop-i : goal.decreases-loop-i
decreases-loop-i l = l.i
