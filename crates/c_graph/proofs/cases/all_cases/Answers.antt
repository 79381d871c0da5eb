use Rattle.std.proofs.Common.{◌∙◌, ◌++◌, ap}
use Rattle.c_graph_spec.specs.Layout.{cases_of}
use Rattle.c_graph_layout.specs.Exits.{exits_of}
use Rattle.c_graph_layout.specs.Lists.{groups_of}
use Rattle.c_graph.specs.Seen.{cases_in}
use Rattle.c_graph.proofs.cases.all_cases.Goals as goal

pub returns-2 : goal.returns-2
returns-2 c = λ f. c.in-Ok-attempt.ensures f ∙ ap (λ l. cases_in l ++ cases_of f (groups_of c.args.list.now) c.args.at c.args.to (exits_of c.args.exits)) c.new-found.ensures.items
