use Rattle.std.proofs.Common.{◌≡◌, ◌∙◌, ℕ, List, [], ◌∷◌, ◌++◌, length, map, sym, ap, arith, append_assoc, append-nil}
use Rattle.std.specs.Vec.Iter.{into_iter_items}
use Rattle.std.proofs.lemmas.List.{map-append}
use Rattle.graph_core_spec.specs.Graph.{Graph}
use Rattle.graph_core.specs.declared.graph.Graph as code
use Rattle.graph_core.specs.Graphs.{graph_of, graphs_of}
use Rattle.proof_tree_spec.specs.declared.Place.{Place}
use Rattle.c_graph.specs.Seen.{points_in}
use Rattle.c_graph.specs.declared.source_graph.SourceGraph.{SourceGraph}
use Rattle.cert_check_frames.specs.Entries.{listed_places}
use Rattle.pair_setup.proofs.Seams.{nothing_left}
use Rattle.cert_run.proofs.source.add_graphs.Goals as goal

abbrev plain : SourceGraph → Graph
plain g = graph_of g.graph

abbrev points : SourceGraph → List (Place × ℕ)
points g = points_in g.points.items

pub loop-one-preserved : goal.loop-one-preserved
loop-one-preserved c =
    let old : List code.Graph = c.loop-one.graphs.items in
    let before = map listed_places c.loop-one.places.items in
    let one : SourceGraph = c.in-Some.one in
    let rest : List SourceGraph = into_iter_items c.next.new.self in
    let steps : into_iter_items c.loop-one.one-iterator ≡ one ∷ rest = c.in-Some.ensures.steps.0 in
    record {
      long =
          (let was = c.loop-one.invariant.long in
          let gone = c.in-Some.ensures.steps.1 in
          let short = ap (λ (l : List SourceGraph). length l) steps in
          omega arith);
      so_far =
          ap (λ (l : List code.Graph). graphs_of l ++ map plain rest) c.in-Ok-attempt.ensures.graphs
          ∙ ap (λ (l : List Graph). l ++ map plain rest) (map-append graph_of old (one.graph ∷ []))
          ∙ append_assoc (graphs_of old) (plain one ∷ []) (map plain rest)
          ∙ ap (λ (l : List SourceGraph). graphs_of old ++ map plain l) (sym steps)
          ∙ c.loop-one.invariant.so_far;
      places =
          ap (λ (l : List (List (Place × ℕ))). l ++ map points rest) c.in-Ok-attempt.ensures.places
          ∙ append_assoc before (points one ∷ []) (map points rest)
          ∙ ap (λ (l : List SourceGraph). before ++ map points l) (sym steps)
          ∙ c.loop-one.invariant.places;
    }

pub returns-clause-graphs : goal.returns-clause-graphs
returns-clause-graphs c =
    let old : List code.Graph = c.loop-one.graphs.items in
    let empty : into_iter_items c.loop-one.one-iterator ≡ [] =
    nothing_left (into_iter_items c.loop-one.one-iterator) (sym c.loop-one.invariant.long ∙ c.in-None.ensures.steps.0) in
    sym (append-nil (graphs_of old)) ∙ ap (λ (l : List SourceGraph). graphs_of old ++ map plain l) (sym empty) ∙ c.loop-one.invariant.so_far

pub returns-clause-places : goal.returns-clause-places
returns-clause-places c =
    let before = map listed_places c.loop-one.places.items in
    let empty : into_iter_items c.loop-one.one-iterator ≡ [] =
    nothing_left (into_iter_items c.loop-one.one-iterator) (sym c.loop-one.invariant.long ∙ c.in-None.ensures.steps.0) in
    sym (append-nil before) ∙ ap (λ (l : List SourceGraph). before ++ map points l) (sym empty) ∙ c.loop-one.invariant.places
