use Rattle.std.proofs.Common.{◌∙◌, ◌++◌, ap}
use Rattle.std.proofs.lemmas.Result.{on_ok_weaker}
use Rattle.graph_core.specs.Graphs.{graph_of}
use Rattle.c_types_spec.specs.Core.{type_of}
use Rattle.c_types_core.specs.Expressions.{core_of}
use Rattle.c_graph_spec.specs.Layout.{chain, selection, tests_in, value_in}
use Rattle.c_graph.specs.Frames.{setting_in}
use Rattle.c_graph.specs.Seen.{cases_in}
use Rattle.c_graph.proofs.WithNodes.{added_as}
use Rattle.c_graph.proofs.selection.select_cases.Goals as goal

pub returns-2 : goal.returns-2
returns-2 c =
    let f = setting_in c.args.frame.now in
    let x = core_of c.args.x.now in
    on_ok_weaker c.select.result
    (added_as (graph_of c.args.graph.now) (graph_of c.select.new.graph) _ _
    (ap (λ l. chain (tests_in f x) c.args.at c.args.places.selection ++ selection (type_of x) (value_in f x) l c.args.places.tests c.args.places.otherwise)
    (ap cases_in c.as_slice.ensures.value ∙ c.in-Ok-attempt.ensures f)))
    c.select.ensures
