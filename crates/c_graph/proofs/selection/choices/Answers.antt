use Rattle.std.proofs.Common.{◌≡◌, ◌∙◌, ℕ, ◌+◌, ◌-◌, ◌<◌, ◌≤◌, List, ◌∷◌, ◌++◌, [], length, map, drop, get_or, refl, sym, ap, subst, arith}
use Rattle.term_core_spec.specs.Term.{Term, equal}
use Rattle.term_bank.specs.Nodes.{tree_at}
use Rattle.graph_core_spec.specs.Graph.{Cond, Node, with_nodes}
use Rattle.graph_core.specs.Graphs.{graph_of}
use Rattle.c_graph_spec.specs.State.{value_constant}
use Rattle.c_graph_spec.specs.Layout.{selection, first}
use Rattle.c_graph_terms.proofs.Growing.{within_at}
use Rattle.c_graph.specs.Seen.{cases_in}
use Rattle.c_graph.specs.declared.cases.Case.{Case}
use Rattle.c_graph.proofs.Casing.{no_case}
use Rattle.c_graph.proofs.Chains.{case_test_at, choice_as, first_as, selection_at, selection_past}
use Rattle.c_graph.proofs.Ids.{any_default}
use Rattle.c_graph.proofs.WithNodes.{added_all, added_of}
use Rattle.c_graph.proofs.selection.choices.Goals as goal

pub returns-2 : goal.returns-2
returns-2 c = λ type x e.
    let past : length c.args.cases.now ≤ c.loop-i.i = omega arith in
    added_all (graph_of c.loop-i.graph) (with_nodes (graph_of c.args.graph.now) (selection type x (cases_in c.args.cases.now) c.args.at c.args.otherwise))
    (selection type x (cases_in (drop c.loop-i.i c.args.cases.now)) (c.args.at + c.loop-i.i) c.args.otherwise) (selection_past type x c.args.cases.now c.loop-i.i (c.args.at + c.loop-i.i) c.args.otherwise past) (c.loop-i.invariant.whole type x e)

pub loop-i-preserved : goal.loop-i-preserved
loop-i-preserved c =
    let trees = c.args.graph.now.trees in
    let tests = c.args.tests.now in
    let cases = c.args.cases.now in
    let i = c.loop-i.i in
    let at = c.args.at in
    let other = c.args.otherwise in
    let id = get_or tests i 0 in
    let one : Case = get_or cases i no_case in
    let many = c.requires.many in
    let below : i < length cases = omega arith in
    let inside : i < length tests = omega arith in
    let one_is : one ≡ get_or cases i one = any_default cases i no_case one below in
    let left : ℕ = length cases - i - 1 in
    let begin : ℕ = at + (i + 1) in
    let end = c.in-Ok-attempt.ensures in
    let same : c.loop-i.graph.trees ≡ trees = c.loop-i.invariant.trees in
    let next : c.first.result ≡ first left begin other = first_as _ left _ begin other c.first.result c.first.ensures (omega arith) (omega arith) in
    record {
      trees = c.add_node.ensures.trees ∙ same;
      whole = λ type x e.
          let node : Node = Cond (equal x (value_constant type one.value)) one.next (first left begin other) in
          let here = selection_at type x cases i left (at + i) begin one other below one_is (omega arith) (omega arith) in
          let test = case_test_at trees tests type x cases i id one e inside below (any_default tests i 0 id inside) one_is in
          let added : graph_of c.add_node.new.graph ≡ with_nodes (graph_of c.loop-i.graph) (node ∷ []) =
          c.in-Ok-attempt-2.ensures.nodes ∙ ap (λ (n : Node). with_nodes (graph_of c.loop-i.graph) (n ∷ [])) (choice_as c.loop-i.graph.trees trees id one.next c.first.result (first left begin other) (equal x (value_constant type one.value)) same test next) in
          added_of (graph_of c.loop-i.graph) (graph_of c.add_node.new.graph) (with_nodes (graph_of c.args.graph.now) (selection type x (cases_in cases) at other)) (node ∷ [])
          (selection type x (cases_in (drop (i + 1) cases)) begin other) added (ap (with_nodes (graph_of c.loop-i.graph)) (sym here) ∙ c.loop-i.invariant.whole type x e);
    }

pub add_node-requires : goal.add_node-requires
add_node-requires c =
    let many = c.requires.many in
    let inside = within_at (length c.args.graph.now.trees) c.args.tests.now c.loop-i.i c.requires.within (omega arith) in
    subst (λ l. get_or c.args.tests.now c.loop-i.i 0 < length l) (sym c.loop-i.invariant.trees) inside
