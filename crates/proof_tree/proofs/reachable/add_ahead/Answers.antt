use Rattle.std.proofs.Common.{◌≡◌, ◌∙◌, length, ap, subst, sym, refl}
use Rattle.std.specs.Prelude.{Some, None, ℕ, List, slice_get, option_map}
use Rattle.std.proofs.lemmas.Option.{slice_get-map, slice_get_past, slice_get_read}
use Rattle.graph_core.specs.Graphs.{graph_of, graphs_of}
use Rattle.proof_tree.specs.Ahead.{AreAhead}
use Rattle.proof_tree.proofs.Ahead.{ahead_in, nothing_ahead}
use Rattle.proof_tree.proofs.reachable.add_ahead.Goals as goal

pub returns-in-None : goal.returns-in-None
returns-in-None c =
    let none : slice_get c.args.run.now.graphs.now c.args.run.now.outermost ≡ None = slice_get_past c.args.run.now.graphs.now c.args.run.now.outermost c.in-None.ensures.lookup.3 in
    subst (λ (nodes : List ℕ). AreAhead (graphs_of c.args.run.now.graphs.now) c.args.run.now.outermost c.args.from nodes) (sym c.requires)
    (nothing_ahead (graphs_of c.args.run.now.graphs.now) c.args.run.now.outermost
    (slice_get-map graph_of c.args.run.now.graphs.now c.args.run.now.outermost ∙ ap (option_map graph_of) none) c.args.from)

pub returns-in_ok-search-in-Some : goal.returns-in_ok-search-in-Some
returns-in_ok-search-in-Some c =
    let here : slice_get c.args.run.now.graphs.now c.args.run.now.outermost ≡ Some c.in-Some.graph.now =
    slice_get_read c.args.run.now.graphs.now (length c.args.run.now.graphs.now) c.args.run.now.outermost c.in-Some.graph.now refl c.in-Some.ensures.lookup.3.0 c.in-Some.ensures.lookup.1 in
    ahead_in (graphs_of c.args.run.now.graphs.now) c.args.run.now.outermost (graph_of c.in-Some.graph.now)
    (slice_get-map graph_of c.args.run.now.graphs.now c.args.run.now.outermost ∙ ap (option_map graph_of) here) c.args.from c.search.new.found.keys
    c.in_ok-search-in-Some.ensures
