use Rattle.std.proofs.Common.{◌≡◌, ◌∙◌, ◌∷◌, [], sym, ap}
use Rattle.std.proofs.lemmas.Result.{on_ok_weaker}
use Rattle.graph_core.specs.Graphs.{graph_of}
use Rattle.c_types_spec.specs.Core as tree
use Rattle.c_types_core.specs.Expressions.{core_of}
use Rattle.c_types_core.specs.Actions.{core_in}
use Rattle.graph_core_spec.specs.declared.Next.TheVariants.{Ret}
use Rattle.graph_core_spec.specs.Graph.{Basic}
use Rattle.c_graph_spec.specs.State.{result}
use Rattle.c_graph_spec.specs.Layout.{binding, guarded, nodes, tests_in, value_in}
use Rattle.c_graph.specs.Frames.{setting_in}
use Rattle.c_graph.proofs.WithNodes.{added_as, none_added}
use Rattle.c_graph.proofs.Parts.{no_value_nodes, value_nodes}
use Rattle.c_graph.proofs.simple.give_back.Goals as goal

pub returns-in-Some : goal.returns-in-Some
returns-in-Some c = λ to e.
    on_ok_weaker c.returned.result
    (added_as (graph_of c.args.graph.now) (graph_of c.returned.new.graph) _ _
    (ap (λ x. guarded (tests_in (setting_in c.args.frame.now) (core_of x)) c.args.at (Basic (binding (result (tree.type_of (core_of x))) (value_in (setting_in c.args.frame.now) (core_of x)) ∷ []) Ret)) c.deref.ensures
    ∙ value_nodes (setting_in c.args.frame.now) (core_of c.in-Some.x.value) c.args.at to e ∙ ap (λ v. nodes (setting_in c.args.frame.now) (tree.Return (core_in v)) c.args.at to e) (sym c.in-Some.is)))
    c.returned.ensures

pub returns-in-None : goal.returns-in-None
returns-in-None c = λ to e.
    added_as (graph_of c.args.graph.now) (graph_of c.args.graph.now) _ _
    (no_value_nodes (setting_in c.args.frame.now) c.args.at to e ∙ ap (λ v. nodes (setting_in c.args.frame.now) (tree.Return (core_in v)) c.args.at to e) (sym c.in-None.is)) (none_added (graph_of c.args.graph.now))
