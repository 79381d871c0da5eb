use Rattle.std.proofs.Common.{◌≡◌, ℕ, List, length, Option, refl, subst, arith}
use Rattle.std.specs.Prelude.{slice_index, MatchOption}
use Rattle.std.proofs.lemmas.List.Elements.{All-get_or}
use Rattle.std.proofs.lemmas.Option.{slice_get-get_or}
use Rattle.decompile.specs.declared.graphs.CodeGraph.{CodeGraph}
use Rattle.graph_core.specs.Graphs.{graph_of, graphs_of}
use Rattle.pair_setup_spec.specs.Nodes.{IsLargeCode}
use Rattle.pair_setup_calls.proofs.Cycles.{none-more}
use Rattle.pair_setup.specs.Graphs.{AreKeptOf, IsSmallCode, IsSound, firsts_of}
use Rattle.pair_setup.proofs.Coded.{none_kept, one_kept}
use Rattle.pair_setup.proofs.Large.{any-code, no-code}
use Rattle.pair_setup.proofs.nodes.add_code.Goals as goal

pub code_graph-requires : goal.code_graph-requires
code_graph-requires c = record {
  sound = All-get_or (IsSound c.args.image.now c.args.entries.now) c.args.entries.now c.loop-index.index 0 c.loop-index-test.true c.requires.sound;
  rising = c.requires.rising;
}

pub loop-index-init : goal.loop-index-init
loop-index-init c = record {
  coded = none_kept c.args.image.now c.args.entries.now c.args.graphs.now.items c.args.firsts.now.items c.requires.none c.requires.no_firsts;
  none = λ k below large. absurd (omega (arith, below));
}

pub loop-index-preserved : goal.loop-index-preserved
loop-index-preserved c =
    let image = c.args.image.now in
    let entries : List ℕ = c.args.entries.now in
    let n : ℕ = c.loop-index.index in
    let made : CodeGraph = c.in-Some.made in
    let entry : ℕ = slice_index entries n in
    let is : IsSmallCode image entries entry (graph_of made.graph) made.firsts.entries =
    subst (λ (o : Option CodeGraph). MatchOption o (IsLargeCode image entry) (λ (g : CodeGraph). IsSmallCode image entries entry (graph_of g.graph) g.firsts.entries)) c.in-Some.is
    c.in-Ok-attempt.ensures in
    record {
      coded =
          one_kept image entries n c.loop-index.graphs.items c.keep.new.graphs.items c.loop-index.firsts.items c.keep.new.firsts.items entry made.graph made.firsts
          c.loop-index.invariant.coded (slice_get-get_or entries n 0 c.loop-index-test.true) is c.in-Ok-attempt-2.ensures.graphs c.in-Ok-attempt-2.ensures.firsts;
      none = none-more (IsLargeCode image) entries n entry refl c.loop-index.invariant.none is.small;
    }

pub returns-in-None : goal.returns-in-None
returns-in-None c =
    let image = c.args.image.now in
    let entries : List ℕ = c.args.entries.now in
    let entry : ℕ = slice_index entries c.loop-index.index in
    let large : IsLargeCode image entry =
    subst (λ (o : Option CodeGraph). MatchOption o (IsLargeCode image entry) (λ (g : CodeGraph). IsSmallCode image entries entry (graph_of g.graph) g.firsts.entries)) c.in-None.is
    c.in-Ok-attempt.ensures in
    any-code image entries c.loop-index.index c.loop-index-test.true large

pub returns : goal.returns
returns c =
    let end : c.loop-index.index ≡ length c.args.entries.now = omega (arith, c.loop-index-test.false, c.loop-index.auto.index-end) in (
      subst (λ (n : ℕ). AreKeptOf c.args.image.now c.args.entries.now n (graphs_of c.loop-index.graphs.items) (firsts_of c.loop-index.firsts.items)) end
          c.loop-index.invariant.coded,
      no-code c.args.image.now c.args.entries.now c.loop-index.index end c.loop-index.invariant.none,
    )
