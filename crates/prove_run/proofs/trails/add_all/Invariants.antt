use Rattle.std.proofs.Common.{◌≡◌, ◌+◌, ◌++◌, drop, length}
use Rattle.std.specs.Vec.Iter.{into_iter_items, into_iter_len}
use Rattle.prove_run.specs.Trails.{failures_in, failures_of}
use Rattle.prove_run.proofs.trails.add_all.Given as goal

-- what is left to add completes the whole
abbrev pub invariant-loop-one : goal.invariant-loop-one
invariant-loop-one l = record {
  long : into_iter_len l.one-iterator ≡ length (into_iter_items l.one-iterator);
  left : l.index + length (into_iter_items l.one-iterator) ≡ length l.listed;
  so_far : failures_of l.unproved.items ++ failures_in (drop l.index l.listed) (into_iter_items l.one-iterator)
      ≡ failures_of l.fn.unproved.items ++ failures_in l.listed l.fn.found.items;
}
