use Rattle.std.proofs.Common.{◌≡◌, ◌+◌, ◌≤◌, length, drop}
use Rattle.c_graph_spec.specs.Layout as spec
use Rattle.c_graph_spec.specs.Layout.{Setting}
use Rattle.c_graph_layout.specs.Counts.{size_of}
use Rattle.c_graph_layout.specs.Exits.{exits_of}
use Rattle.c_graph_layout.specs.Lists.{block_of, groups_of}
use Rattle.c_graph_layout.proofs.entries.+entries.Given as goal

abbrev pub invariant-block_entry-loop-i : goal.invariant-block_entry-loop-i
invariant-block_entry-loop-i l = record {
  within : l.i ≤ length l.actions;
  begins : l.begin + size_of (block_of (drop l.i l.actions)) ≡ l.fn.at + size_of (block_of l.actions);
  is : (f : Setting) → l.next ≡ spec.entry f (block_of (drop l.i l.actions)) l.begin l.fn.to (exits_of l.fn.exits);
}

abbrev pub decreases-block_entry-loop-i : goal.decreases-block_entry-loop-i
decreases-block_entry-loop-i l = l.i

abbrev pub invariant-otherwise-loop-group : goal.invariant-otherwise-loop-group
invariant-otherwise-loop-group l =
    (f : Setting) → spec.otherwise f (groups_of (drop l.group-index l.groups)) l.begin l.fn.to (exits_of l.fn.exits) ≡ spec.otherwise f (groups_of l.groups) l.fn.at l.fn.to (exits_of l.fn.exits)
