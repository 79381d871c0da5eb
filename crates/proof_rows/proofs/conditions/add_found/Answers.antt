use Rattle.std.specs.HashMap.{get}
use Rattle.term_core_spec.specs.Same.{same_variable}
use Rattle.term_substitution.specs.States.{state_of}
use Rattle.graph_core.specs.Graphs.{graph_of}
use Rattle.proof_rows.proofs.conditions.add_found.Goals as goal

pub add_some-requires : goal.add_some-requires
add_some-requires c = (
  state_of c.new-bank.result (get same_variable c.new-start.result),
  graph_of c.args.graph.now,
  c.requires.0,
  c.in-Ok-attempt.ensures.conditions c.requires.0 c.requires.1 c.requires.2,
)
