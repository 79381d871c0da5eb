use Rattle.std.proofs.Common.{◌≡◌, List, length, Some, refl, subst}
use Rattle.std.specs.Prelude.{slice_get}
use Rattle.std.proofs.lemmas.Option.{slice_get_read}
use Rattle.graph_core.specs.declared.shared.SharedNode.{SharedNode}
use Rattle.sim_calls.proofs.Found.{found_is}
use Rattle.sim_calls.proofs.sites.call_at.Goals as goal

pub returns-in-Some-get : goal.returns-in-Some-get
returns-in-Some-get c =
    let graphs = c.args.run.now.graphs.now in
    let g = c.in-Some.graph.now in
    let n = c.in-Some-get.found.now in
    let there : slice_get graphs c.args.run.now.outermost ≡ Some g =
    slice_get_read graphs (length graphs) c.args.run.now.outermost g refl c.in-Some.ensures.lookup.3.0 c.in-Some.ensures.lookup.1 in
    let here : slice_get g.nodes c.args.node ≡ Some n =
    subst (λ (xs : List SharedNode). slice_get xs c.args.node ≡ Some n) c.nodes.ensures.nodes
    (slice_get_read c.nodes.result.now (length c.nodes.result.now) c.args.node n refl c.in-Some-get.ensures.lookup.3.0 c.in-Some-get.ensures.lookup.1) in
    found_is graphs c.args.run.now.outermost c.args.node g there n here c.call_in.result c.call_in.ensures
