use Rattle.graph_core_spec.proofs.Sorts.{run_sorted}
use Rattle.graph_core.specs.Graphs.{graphs_of}
use Rattle.graph_core.proofs.run.valid_run_keeps_sorts.Goals as goal

pub returns : goal.returns
returns c = λ s k holds. record {
  valid = holds.valid;
  sorted = run_sorted (graphs_of c.args.run.now.graphs.now) c.args.run.now.outermost holds.valid k s holds.sorted;
}
