use Rattle.std.proofs.Common.{◌∙◌, List, ◌++◌, map, ap}
use Rattle.term_core_spec.specs.declared.Sort.{Sort}
use Rattle.c_graph_spec.specs.State.{sort_of_scalar}
use Rattle.cert_check_frames.proofs.scope.sorts.Goals as goal

pub returns-2 : goal.returns-2
returns-2 c = c.in-Ok-attempt.ensures ∙ ap (λ (l : List Sort). l ++ map sort_of_scalar c.args.types.now) c.new-sorts.ensures.items
