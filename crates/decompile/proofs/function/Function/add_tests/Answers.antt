use Rattle.std.proofs.Common.{◌≡◌, ◌+◌, ◌∙◌, List, length, map, refl, sym, ap, arith}
use Rattle.std.proofs.lemmas.List.{length_push, length-map, map_push}
use Rattle.term_core_spec.specs.Term.{Term}
use Rattle.graph_core_spec.specs.Graph.{with_nodes}
use Rattle.graph_core.specs.Graphs.{graph_of, boxed_term}
use Rattle.decompile.specs.Settings.{setting_of, asks}
use Rattle.decompile.proofs.Asked.{nothing_asked, test_added}
use Rattle.decompile.proofs.function.Function.add_tests.Goals as goal

pub loop-test-init : goal.loop-test-init
loop-test-init c = (refl, nothing_asked (setting_of c.args.self.now) c.args.address (graph_of c.args.graph.now))

pub loop-test-preserved : goal.loop-test-preserved
loop-test-preserved c =
    let count : c.in_ok-index.index ≡ length c.loop-test.yielded + 1 = omega (arith, c.loop-test.invariant.0, c.in_ok-index.ensures) in
    let terms : c.in_ok-index.index ≡ length (map boxed_term c.loop-test.yielded) + 1 = omega (arith, count, length-map c.loop-test.yielded boxed_term) in (
      count ∙ sym (length_push c.loop-test.yielded c.in-Some.test),
      test_added (setting_of c.args.self.now) c.args.address c.in_ok-index.index c.in_ok-next.next (graph_of c.args.graph.now) (graph_of c.loop-test.graph) (graph_of c.add.new.self)
          (map boxed_term c.loop-test.yielded) (boxed_term c.in-Some.test) c.loop-test.invariant.1 terms c.in_ok-next.ensures c.in_ok-add.ensures.added
          ∙ ap (λ (ts : List Term). with_nodes (graph_of c.args.graph.now) (asks (setting_of c.args.self.now) c.args.address 0 ts)) (sym (map_push boxed_term c.loop-test.yielded c.in-Some.test)),
    )
