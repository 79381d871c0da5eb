use Rattle.std.proofs.Common.{◌≡◌, ◌∙◌, List, length, Some, None, refl, sym, subst}
use Rattle.std.specs.Prelude.{slice_get}
use Rattle.std.proofs.lemmas.Bool.{false≢true}
use Rattle.std.proofs.lemmas.Option.{slice_get_past, slice_get_read}
use Rattle.graph_core.specs.declared.shared.SharedNode.{SharedNode}
use Rattle.cert_check_jobs.proofs.Sought.{call_there, is_there, no_graph, no_node}
use Rattle.cert_check_jobs.proofs.points.is_call.Goals as goal

pub returns-in-Some-get : goal.returns-in-Some-get
returns-in-Some-get c =
    let graphs = c.args.run.now.graphs.now in
    let g = c.in-Some.graph.now in
    let n = c.in-Some-get.found.now in
    let there : slice_get graphs c.args.run.now.outermost ≡ Some g =
    slice_get_read graphs (length graphs) c.args.run.now.outermost g refl c.in-Some.ensures.lookup.3.0 c.in-Some.ensures.lookup.1 in
    let here : slice_get g.nodes c.args.node ≡ Some n =
    subst (λ (xs : List SharedNode). slice_get xs c.args.node ≡ Some n) c.nodes.ensures.nodes
    (slice_get_read c.nodes.result.now (length c.nodes.result.now) c.args.node n refl c.in-Some-get.ensures.lookup.3.0 c.in-Some-get.ensures.lookup.1) in (
      λ yes. call_there graphs c.args.run.now.outermost c.args.node g there n here (sym c.is_call_node.ensures ∙ yes),
      λ call. c.is_call_node.ensures ∙ is_there graphs c.args.run.now.outermost c.args.node g there n here call,
    )

pub returns-in-None : goal.returns-in-None
returns-in-None c =
    let graphs = c.args.run.now.graphs.now in (
      λ no. absurd (false≢true no),
      λ call. absurd (no_graph graphs c.args.run.now.outermost c.args.node (slice_get_past graphs c.args.run.now.outermost c.in-None.ensures.lookup.3) call),
    )

pub returns-in-None-get : goal.returns-in-None-get
returns-in-None-get c =
    let graphs = c.args.run.now.graphs.now in
    let g = c.in-Some.graph.now in
    let there : slice_get graphs c.args.run.now.outermost ≡ Some g =
    slice_get_read graphs (length graphs) c.args.run.now.outermost g refl c.in-Some.ensures.lookup.3.0 c.in-Some.ensures.lookup.1 in
    let none : slice_get g.nodes c.args.node ≡ None =
    subst (λ (xs : List SharedNode). slice_get xs c.args.node ≡ None) c.nodes.ensures.nodes (slice_get_past c.nodes.result.now c.args.node c.in-None-get.ensures.lookup.3) in (
      λ no. absurd (false≢true no),
      λ call. absurd (no_node graphs c.args.run.now.outermost c.args.node g there none call),
    )
