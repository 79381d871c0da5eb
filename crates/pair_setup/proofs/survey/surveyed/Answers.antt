use Rattle.std.proofs.Common.{subst}
use Rattle.pair_setup_calls.specs.Graph.{graph_of}
use Rattle.pair_setup.specs.Surveys.{AreAcyclic}
use Rattle.pair_setup.proofs.survey.surveyed.Goals as goal

pub misplaced_globals-requires : goal.misplaced_globals-requires
misplaced_globals-requires c = c.in-Ok-attempt.ensures.apart

pub returns-4 : goal.returns-4
returns-4 c = record {
  apart = c.in-Ok-attempt.ensures.apart;
  graph_is = c.in-Ok-attempt.ensures.graph;
  acyclic = subst (λ l. AreAcyclic (graph_of l) c.in-Ok-attempt-depths.field-0.items) c.as_slice.ensures.value c.in-Ok-attempt-depths.ensures.acyclic;
  marks_are = c.in-Ok-attempt-misplaced.ensures;
}
